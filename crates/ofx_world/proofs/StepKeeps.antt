-- Every step leaves a sound world sound.
use Rattle.std.proofs.Common.{◌≡◌, inl, inr, ℕ, List, set, slice_get, Option, None, Some, Result, Ok, Err, OnOk, OnErr, refl, sym, ap, subst, ◌∙◌}
use Rattle.ofx_types.specs.declared.number.UserId.{UserId}
use Rattle.ofx_types.specs.declared.reply.ReplyFile.{ReplyFile}
use Rattle.client_core.specs.Accepting.{Accepted, accepted}
use Rattle.client_core.specs.declared.fault.ClientFault.{ClientFault}
use Rattle.client_core.specs.declared.wish.Wish.{Wish}
use Rattle.client_saved.specs.declared.state.Outstanding.{Outstanding}
use Rattle.ofx_types.specs.FileForm.{SpellsReply}
use Rattle.ofx_world.specs.Customer.{CustomerView, Goes}
use Rattle.ofx_world.specs.Kept.{HasLawfulClock, IsRecorded}
use Rattle.ofx_world.specs.Laws.{Laws}
use Rattle.ofx_world.specs.Server.{ServerView}
use Rattle.ofx_world.specs.Sound.{IsSoundWorld}
use Rattle.ofx_world.specs.World.{WorldView, DeliverReplyStep, DeliverStep, IsCut, IsStep, LetterStep, MakeStep, RestartStep, again, sent_again, with_customer, with_server}
use Rattle.ofx_world.specs.declared.step.Step.{Step}
use Rattle.ofx_world.specs.declared.step.Step.TheVariants as steps
use Rattle.ofx_world.proofs.Changed.{restarted_keeps}
use Rattle.ofx_world.proofs.Keeping.{clock_keeps, fault_keeps}
use Rattle.ofx_world.proofs.Lists.{set_same}
use Rattle.ofx_world.proofs.Made.{made_keeps}
use Rattle.ofx_world.proofs.Replied.{accepted_keeps}
use Rattle.ofx_world.proofs.Sent.{sent_again_keeps}
use Rattle.ofx_world.proofs.ServerSteps.{settled_keeps, delivered_keeps, due_keeps, letter_keeps, server_restarts}

module _ (laws : Laws) (before : WorldView) (sound : IsSoundWorld before) where
  -- what is as before is sound
  stays : (after : WorldView) → after ≡ before → IsSoundWorld after
  stays after same = subst IsSoundWorld (sym same) sound

  becomes : (after between : WorldView) → after ≡ between → IsSoundWorld between → IsSoundWorld after
  becomes after between is sound_so = subst IsSoundWorld (sym is) sound_so

  -- ---- clients

  make_step : (number : ℕ) (wish : Wish) (found : Option CustomerView) (after : WorldView) → slice_get before.customers number ≡ found
      → MakeStep before number wish found after → IsSoundWorld after
  make_step number wish None after there step = stays after step
  make_step number wish (Some customer) after there (inl (new, file, makes, is)) =
      becomes after _ is (made_keeps laws before number customer new wish before.clock file there makes sound)
  make_step number wish (Some customer) after there (inr (none, same)) = stays after same

  again_step : (number : ℕ) (customer : CustomerView) (found : Option Outstanding) → slice_get before.customers number ≡ Some customer
      → customer.client.outstanding ≡ found → IsSoundWorld (again before found)
  again_step number customer None there is = sound
  again_step number customer (Some kept) there is = sent_again_keeps laws before number customer kept there is sound

  send_step : (number : ℕ) (found : Option CustomerView) → slice_get before.customers number ≡ found → IsSoundWorld (sent_again before found)
  send_step number None there = sound
  send_step number (Some customer) there = again_step number customer customer.client.outstanding there refl

  restart_step : (number : ℕ) (found : Option CustomerView) (after : WorldView) → slice_get before.customers number ≡ found
      → RestartStep before number found after → IsSoundWorld after
  restart_step number None after there step = stays after step
  restart_step number (Some customer) after there (new, restarts, is) =
      becomes after _ is (restarted_keeps laws before number customer new there restarts sound)

  -- a client that stays as it was
  same_customer : (number : ℕ) (customer new : CustomerView) → slice_get before.customers number ≡ Some customer → new ≡ customer
      → IsSoundWorld (with_customer before number new)
  same_customer number customer new there same =
      let all : before.customers ≡ set before.customers number new = sym (ap (set before.customers number) same ∙ set_same before.customers number customer there) in
      subst (λ (customers : List CustomerView). IsSoundWorld (record {
        server = before.server;
        customers = customers;
        requests = before.requests;
        replies = before.replies;
        clock = before.clock;
      })) all sound

  goes : (number index : ℕ) (customer new : CustomerView) (bytes : List ℕ) (reply : ReplyFile) (found : Result Accepted ClientFault)
      → slice_get before.customers number ≡ Some customer → slice_get before.replies index ≡ Some bytes → SpellsReply bytes reply
      → accepted customer.client reply ≡ found → Goes customer found new → IsSoundWorld (with_customer before number new)
  goes number index customer new bytes reply (Ok taken) there here spelled is saves =
      accepted_keeps laws before number index customer new bytes reply taken there here spelled is saves sound
  goes number index customer new bytes reply (Err fault) there here spelled is same = same_customer number customer new there same

  reply_step : (number index : ℕ) (found : Option CustomerView) (file : Option (List ℕ)) (after : WorldView) → slice_get before.customers number ≡ found
      → slice_get before.replies index ≡ file → DeliverReplyStep before number found file after → IsSoundWorld after
  reply_step number index None file after there here step = stays after step
  reply_step number index (Some customer) None after there here step = stays after step
  reply_step number index (Some customer) (Some bytes) after there here (new, (reply, spelled, went), is) =
      becomes after _ is (goes number index customer new bytes reply (accepted customer.client reply) there here spelled refl went)

  -- ---- the bank

  deliver_step : (number : ℕ) (found : Option (List ℕ)) (after : WorldView) → slice_get before.requests number ≡ found
      → DeliverStep before found after → IsSoundWorld after
  deliver_step number None after there step = stays after step
  deliver_step number (Some bytes) after there (user, file, signed, is) =
      becomes after _ is (delivered_keeps laws before number bytes user file there signed sound)

  letter_step : (user : UserId) (subject body : List ℕ) (after : WorldView) → LetterStep before user subject body after → IsSoundWorld after
  letter_step user subject body after (server, inl (legal, written), is) =
      becomes after _ is (subst (λ (s : ServerView). IsSoundWorld (with_server before s)) (sym written)
      (letter_keeps laws before before.clock user subject body sound.clock legal sound))
  letter_step user subject body after (server, inr (illegal, same), is) =
      becomes after _ is (subst (λ (s : ServerView). IsSoundWorld (with_server before s)) (sym same) (settled_keeps laws before sound))

  -- ---- any step

  pub step_keeps : (step : Step) (after : WorldView) → HasLawfulClock step → IsRecorded before step → IsStep before step after → IsSoundWorld after
  step_keeps (steps.Make client wish) after lawful recorded step = make_step client wish (slice_get before.customers client) after refl step
  step_keeps (steps.SendAgain client) after lawful recorded step = becomes after _ step (send_step client (slice_get before.customers client) refl)
  step_keeps (steps.RestartClient client) after lawful recorded step = restart_step client (slice_get before.customers client) after refl step
  step_keeps (steps.Deliver request) after lawful recorded step = deliver_step request (slice_get before.requests request) after refl step
  step_keeps (steps.DeliverReply client reply) after lawful recorded step =
      reply_step client reply (slice_get before.customers client) (slice_get before.replies reply) after refl refl step
  step_keeps steps.Due after lawful recorded step = becomes after _ step (due_keeps laws before before.clock recorded sound)
  step_keeps (steps.Letter user subject body) after lawful recorded step = letter_step user subject body after step
  step_keeps (steps.Fault landed) after lawful recorded step = becomes after _ step (fault_keeps before landed sound)
  step_keeps steps.RestartServer after lawful recorded (server, restarts, is) = becomes after _ is (server_restarts laws before server restarts sound)
  step_keeps (steps.Clock at) after lawful recorded step = becomes after _ step (clock_keeps before at lawful sound)

  pub cut_keeps : (after : WorldView) → IsCut before after → IsSoundWorld after
  cut_keeps after (inl same) = stays after same
  cut_keeps after (inr is) = becomes after _ is (settled_keeps laws before sound)

  -- A call that makes a step, or refuses it.
  pub taken_keeps : {T E : Type 0} (result : Result T E) (step : Step) (after : WorldView) → HasLawfulClock step → OnOk result (IsStep before step after)
      → OnOk result (IsRecorded before step) → OnErr result (IsCut before after) → IsSoundWorld after
  taken_keeps (Ok done) step after lawful made recorded cut = step_keeps step after lawful recorded made
  taken_keeps (Err fault) step after lawful made recorded cut = cut_keeps after cut
