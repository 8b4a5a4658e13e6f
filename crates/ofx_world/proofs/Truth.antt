-- What holds of a world that is sound.
use Rattle.std.proofs.Common.{◌≡◌, ℕ, List, Option, Some, sym, subst, ◌∙◌}
use Rattle.std.specs.Option.{IfSome}
use Rattle.std.proofs.lemmas.List.Elements.{All-contains, All-weaker}
use Rattle.bank_model.specs.declared.event.State.{State}
use Rattle.bank_model.specs.declared.setup.Setup.{Setup}
use Rattle.client_core.specs.Making.{file_name}
use Rattle.client_saved.specs.declared.state.ClientState.{ClientState}
use Rattle.client_saved.specs.declared.state.Outstanding.{Outstanding}
use Rattle.ofx_world.specs.Customer.{CustomerView}
use Rattle.ofx_world.specs.Kept.{IsUser}
use Rattle.ofx_world.specs.Laws.{Laws}
use Rattle.ofx_world.specs.Sound.{IsTheKeptOne, IsSoundWorld, IsSoundCustomer, IsLast, HasKeptReply}
use Rattle.ofx_world.specs.Truths.{IsRightWorld, HasOneReply}
use Rattle.ofx_world.specs.World.{WorldView}
use Rattle.ofx_world.proofs.Lists.{same_some, at_all, all_on}

-- The file that is outstanding is the last that was made.
last_of : (client : ClientState) (kept : Outstanding) → IfSome client.outstanding (IsLast client) → client.outstanding ≡ Some kept → IsLast client kept
last_of client kept last is = subst (λ (o : Option Outstanding). IfSome o (IsLast client)) is last

-- It has a name, and all replies to it are the one that the bank keeps for it.
one_reply : (setup : Setup) (state : State) (replies : List (List ℕ)) (customer : CustomerView) → IsSoundCustomer setup customer
    → HasKeptReply setup state replies customer → HasOneReply replies customer
one_reply setup state replies customer sound kept = λ outstanding is_outstanding.
    let last = last_of customer.client outstanding sound.outstanding is_outstanding in
    let name = file_name customer.client.name last.number in
    let all = kept outstanding name sound.user.0 is_outstanding last.name sound.user.1 in (
      name,
      last.name,
      λ a b in_a in_b bears_a bears_b.
          same_some a b (sym (All-contains (IsTheKeptOne state sound.user.0 name) replies a all in_a bears_a)
          ∙ All-contains (IsTheKeptOne state sound.user.0 name) replies b all in_b bears_b),
    )

pub true_of_sound : Laws → (world : WorldView) → IsSoundWorld world → IsRightWorld world
true_of_sound laws world sound = record {
  reopened = sound.reopened;
  books = laws.records.books world.server.setup world.server.records world.server.state sound.within sound.reopened;
  reported = sound.reported;
  alike = all_on (HasKeptReply world.server.setup world.server.state world.replies) (HasOneReply world.replies) world.customers
      (λ k customer there kept. one_reply world.server.setup world.server.state world.replies customer
      (at_all (IsSoundCustomer world.server.setup) world.customers k customer sound.customers there) kept) sound.kept;
  users = All-weaker (IsSoundCustomer world.server.setup) (λ (customer : CustomerView). IsUser world.server.setup customer.client.user)
      (λ customer is. is.user) world.customers sound.customers;
  stores = sound.stores;
}
