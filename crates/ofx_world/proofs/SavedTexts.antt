-- What a client starts from that is loaded from its saved text.
use Rattle.std.proofs.Common.{◌≡◌, ℕ, Result, Ok, Err}
use Rattle.client_saved.specs.SavedText.{GivesState}
use Rattle.client_saved.specs.declared.state.ClientState.{ClientState}
use Rattle.client_saved.specs.declared.state.StoreFault.{StoreFault}
use Rattle.client_saved.specs.declared.state.StoreFault.TheVariants as faults

-- A text that tells of a client is refused for want of memory alone.
pub never_bad : (client : ClientState) (found : Result ClientState StoreFault) (at : ℕ) → GivesState found (Ok client) → found ≡ Err (faults.Bad at) → ⊥
never_bad client (Ok other) at gives is = absurd cc
never_bad client (Err (faults.Bad index)) at gives is = absurd cc
never_bad client (Err faults.OutOfMemory) at gives is = absurd cc
