-- The acts of a client beside a bank, and the world's steps that they are.
use Rattle.std.proofs.Common.{◌≡◌, inl, ℕ, slice_get, List, [], ◌∷◌, Option, Some, Result, Ok, Err, refl, sym, ap, subst, ◌∙◌}
use Rattle.ofx_types.specs.FileForm.{OneReply}
use Rattle.ofx_types.specs.declared.number.UserId.{UserId}
use Rattle.sync_laws.specs.Histories.{IsInOrder, IsLater}
use Rattle.bank_model.specs.SetupForm.{IsWithinLimits}
use Rattle.bank_model.specs.declared.event.State.{State}
use Rattle.bank_model.specs.declared.setup.Setup.{Setup}
use Rattle.client_core.specs.Accepting.{Accepted, accepted}
use Rattle.client_core.specs.ClientForm.{discarded}
use Rattle.client_core.specs.declared.fault.ClientFault.{ClientFault}
use Rattle.client_laws.specs.Answers.{bank_reply}
use Rattle.client_saved.specs.Bounds.{IsSoundState}
use Rattle.client_saved.specs.declared.state.ClientState.{ClientState}
use Rattle.ofx_world.specs.Customer.{CustomerView, Goes, IsSavedAs}
use Rattle.ofx_world.specs.World.{MakeStep, RestartStep, DeliverReplyStep, with_customer, with_request}
use Rattle.world_laws.specs.ClientActs.{Act, making, taking, discarding, IsAct, ActsAreSteps, IsBeside, AreBeside, ActsKeepStores}
use Rattle.client_laws.specs.ClientStores.{AreRight, AsksRightly, MadeFilesAskRightly, AcceptedRepliesKeepStores, DiscardedFilesKeepStores, StoresStayRight}

-- ---- steps

pub acts_are : ActsAreSteps
acts_are = record {
  makes = λ world index customer new wish file there made.
      subst (λ (found : Option CustomerView). MakeStep world index wish found (with_request (with_customer world index new) file)) (sym there)
      (inl (new, file, made, refl));
  takes = λ world index number customer new bytes there here accepts.
      subst (λ (found : Option CustomerView). DeliverReplyStep world index found (slice_get world.replies number) (with_customer world index new)) (sym there)
      (subst (λ (file : Option (List ℕ)). DeliverReplyStep world index (Some customer) file (with_customer world index new)) (sym here) (new, accepts, refl));
  starts = λ world index customer new there restarts.
      subst (λ (found : Option CustomerView). RestartStep world index found (with_customer world index new)) (sym there) (new, restarts, refl);
}

-- ---- stores

-- what holds of a client in a state of the bank
record Holds (setup : Setup) (user : UserId) (S : State) (client : ClientState) : Type 0 where
  pub sound : IsSoundState client
  pub asks : AsksRightly client
  pub right : AreRight setup user S client

module _ (make : MadeFilesAskRightly) (accept : AcceptedRepliesKeepStores) (discard : DiscardedFilesKeepStores) (stay : StoresStayRight) (one_reply : OneReply) (setup : Setup) (user : UserId) (within : IsWithinLimits setup) where
  -- what was saved, with stores that are right, and as they stay
  saved_holds : (R : State) (client : ClientState) (after : CustomerView) → IsSavedAs client after → AsksRightly client × AreRight setup user R client
      → Holds setup user R after.client
  saved_holds R client after saves both =
      subst (Holds setup user R) (sym saves.0) (record { sound = saves.1.sound; asks = both.0; right = both.1 })

  later_both : (S R : State) (client : ClientState) → IsInOrder setup S → IsInOrder setup R → IsLater S R → AsksRightly client × AreRight setup user S client
      → AsksRightly client × AreRight setup user R client
  later_both S R client order order_now later both = (both.0, stay setup S R user client order order_now later both.1)

  act_holds : (S R : State) (before between : CustomerView) (act : Act) → IsInOrder setup S → IsInOrder setup R → IsLater S R → IsAct setup before act between
      → IsBeside setup user S before act R → Holds setup user S before.client → Holds setup user R between.client
  act_holds S R before between (making wish at) order order_now later (file, made) beside holds =
      saved_holds R made.client between made.saves
      (later_both S R made.client order order_now later (make setup S user before.client made.client wish at order made.makes made.saves.1.sound holds.right))
  act_holds S R before between (taking bytes) order order_now later (reply, spelled, went) of_bank holds = go (accepted before.client reply) refl went
    where
      go : (found : Result Accepted ClientFault) → accepted before.client reply ≡ found → Goes before found between → Holds setup user R between.client
      go (Err fault) is same = subst (λ (c : CustomerView). Holds setup user R c.client) (sym same)
          (record { sound = holds.sound; asks = holds.asks; right = stay setup S R user before.client order order_now later holds.right })
      go (Ok taken) is saves =
          let same : bank_reply setup of_bank.before user of_bank.at of_bank.kept.file ≡ reply =
          one_reply bytes (bank_reply setup of_bank.before user of_bank.at of_bank.kept.file) reply of_bank.spells spelled in
          saved_holds R taken.after between saves
          (accept setup of_bank.before R user of_bank.at before.client of_bank.kept taken within of_bank.order order_now of_bank.goes_on of_bank.outstanding
          holds.sound holds.asks (stay setup S of_bank.before user before.client order of_bank.order of_bank.later holds.right)
          (ap (accepted before.client) same ∙ is))
  act_holds S R before between discarding order order_now later saves beside holds =
      saved_holds R (discarded before.client) between saves
      (later_both S R (discarded before.client) order order_now later (discard setup S user before.client holds.right))

  acts_hold : (S T : State) (before after : CustomerView) (acts : List Act) → IsInOrder setup S → Holds setup user S before.client
      → AreBeside setup user S before acts T after → Holds setup user T after.client
  acts_hold S T before after [] order holds done =
      subst (λ (state : State). Holds setup user state after.client) (sym done.0) (subst (λ (c : CustomerView). Holds setup user S c.client) (sym done.1) holds)
  acts_hold S T before after (act ∷ more) order holds (R, between, order_now, later, is, beside, rest) =
      acts_hold R T between after more order_now (act_holds S R before between act order order_now later is beside holds) rest

pub acts_keep : MadeFilesAskRightly → AcceptedRepliesKeepStores → DiscardedFilesKeepStores → StoresStayRight → OneReply → ActsKeepStores
acts_keep make accept discard stay one_reply setup user S T before after acts within order sound asks right beside =
    let holds = acts_hold make accept discard stay one_reply setup user within S T before after acts order (record { sound = sound; asks = asks; right = right }) beside in
    (holds.asks, holds.right)
