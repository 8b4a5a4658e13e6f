-- What an event leaves alone.
use Rattle.std.specs.Prelude.{◌≡◌, Some, Contains}
use Rattle.ofx_types.specs.declared.number.AcctId.{AcctId}
use Rattle.ofx_types.specs.declared.number.Moment.{Moment}
use Rattle.bank_model.specs.declared.setup.Setup.{Setup}
use Rattle.bank_model.specs.declared.event.Event.{Event}
use Rattle.bank_model.specs.declared.event.State.{State}
use Rattle.bank_model.specs.SetupForm.{IsWithinLimits}
use Rattle.bank_model.specs.Ledger.{balance}
use Rattle.bank_model.specs.Rules.{named, state_after}

-- An account that an event doesn't name keeps its balance.
abbrev pub UnnamedStay : Type 0
UnnamedStay = (setup : Setup) (S : State) (at : Moment) (event : Event) (account : AcctId) → IsWithinLimits setup →
    (Contains (named setup S event) (Some account) → ⊥) →
    balance setup (state_after setup S at event).entries account ≡ balance setup S.entries account
