-- Kept records as what happened to a bank.
use Rattle.std.specs.Prelude.{◌≡◌, ℕ, List, [], ◌∷◌}
use Rattle.bank_model.specs.Rules.{opening_state}
use Rattle.bank_model.specs.declared.setup.Setup.{Setup}
use Rattle.bank_model.specs.declared.event.State.{State}
use Rattle.bank_invariants.specs.Runs.{Happening, after_all, AreLegal}
use Rattle.event_codec.specs.Records.{Codes}

-- Each record codes its event and moment, in order.
abbrev pub CodeAll : List (List ℕ) → List Happening → Type 0
CodeAll [] [] = Unit {0}
CodeAll [] (first ∷ more) = ⊥
CodeAll (rec ∷ records) [] = ⊥
CodeAll (rec ∷ records) (first ∷ more) = Codes rec first.at first.event × CodeAll records more

-- The records code events that are legal one after another from the opening of the bank on, and leave this state.
pub record AreRunTo (setup : Setup) (records : List (List ℕ)) (state : State) : Type 0 where
  pub run : List Happening
  pub code : CodeAll records run
  pub legal : AreLegal setup opening_state run
  pub leaves : state ≡ after_all setup opening_state run
