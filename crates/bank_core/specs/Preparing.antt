-- Events that are answered and not taken in yet.
use Rattle.std.specs.Prelude.{◌≡◌, ℕ, List, Option, None}
use Rattle.std.specs.Option.{IfSome}
use Rattle.bank_model.specs.declared.setup.Setup.{Setup}
use Rattle.bank_model.specs.declared.event.State.{State}
use Rattle.bank_model.specs.declared.event.Event.{Event}
use Rattle.ofx_types.specs.declared.number.Moment.{Moment}
use Rattle.bank_model.specs.Once.{reply_kept}
use Rattle.bank_model.specs.Rules.{with_kept, keep, release, state_after}
use Rattle.bank_invariants.specs.SoundStates.{IsSoundState}
use Rattle.bank_ledger.specs.DraftView.{AddedView, with_added, IsAdded, AreGiven}

-- The state that an event leaves: what it adds, then OLDFILEUID is released and NEWFILEUID is kept with these bytes.
abbrev pub prepared_after : State → AddedView → Option (List ℕ) → Option (List ℕ) → List ℕ → State
prepared_after S added older newer reply =
    with_kept (with_added S added) (keep added.user newer reply (release added.user older S.kept))

-- What is prepared may be taken in: it is added to this state, it makes the step of the event at some moment, what it leaves is
-- sound, and no reply to the file is kept.
pub record IsPrepared (setup : Setup) (S : State) (event : Event) (added : AddedView) (older newer : Option (List ℕ)) (reply : List ℕ) : Type 0 where
  pub rows : IsAdded S added
  pub balances : AreGiven setup S added
  pub step : (at : Moment) × (prepared_after S added older newer reply ≡ state_after setup S at event)
  pub sound : IsSoundState setup (prepared_after S added older newer reply)
  pub absent : IfSome newer (λ (file : List ℕ). reply_kept added.user file (release added.user older S.kept) ≡ None)
