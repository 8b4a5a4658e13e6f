-- What holds of kept records and of the banks that open from them.
use Rattle.std.specs.Prelude.{◌≡◌, ℕ, List, Some}
use Rattle.bank_model.specs.SetupForm.{IsWithinLimits}
use Rattle.bank_model.specs.Rules.{opening_state}
use Rattle.bank_model.specs.declared.setup.Setup.{Setup}
use Rattle.bank_model.specs.declared.event.State.{State}
use Rattle.bank_invariants.specs.Books.{AreBooksRight}
use Rattle.event_codec.specs.Records.{Reopens}
use Rattle.bank_replay.specs.Opening.{HasNoForm, IsNotLegal}
use Rattle.bank_replay.specs.Runs.{AreRunTo}

-- A bank that opens from records has come by a run of the events that they code,
abbrev pub ReopeningsAreRuns : Type 0
ReopeningsAreRuns = (setup : Setup) (records : List (List ℕ)) (state : State) →
    Reopens setup opening_state records state → AreRunTo setup records state

-- and opens from the records of each such run.
abbrev pub RunsReopen : Type 0
RunsReopen = (setup : Setup) (records : List (List ℕ)) (state : State) →
    AreRunTo setup records state → Reopens setup opening_state records state

-- Its books are right.
abbrev pub ReopenedBooksAreRight : Type 0
ReopenedBooksAreRight = (setup : Setup) (records : List (List ℕ)) (state : State) → IsWithinLimits setup →
    Reopens setup opening_state records state → AreBooksRight setup state

-- Records bring a bank to one state at most.
abbrev pub OneOpening : Type 0
OneOpening = (setup : Setup) (records : List (List ℕ)) (state other : State) →
    Reopens setup opening_state records state → Reopens setup opening_state records other → state ≡ other

-- One record at most is the first without a form, and it has one first fault.
abbrev pub OneWithoutForm : Type 0
OneWithoutForm = (setup : Setup) (records : List (List ℕ)) (number other offset offset' : ℕ) →
    HasNoForm setup (Some records) number offset → HasNoForm setup (Some records) other offset' → (number ≡ other) × (offset ≡ offset')

-- One record at most is the first that isn't legal.
abbrev pub OneNotLegal : Type 0
OneNotLegal = (setup : Setup) (records : List (List ℕ)) (number other : ℕ) →
    IsNotLegal setup (Some records) number → IsNotLegal setup (Some records) other → number ≡ other

-- There aren't both a first record without a form and a first one that isn't legal.
abbrev pub FormlessOrIllegal : Type 0
FormlessOrIllegal = (setup : Setup) (records : List (List ℕ)) (number other offset : ℕ) →
    HasNoForm setup (Some records) number offset → IsNotLegal setup (Some records) other → ⊥

-- No bank opens from records of which one has no form, or isn't legal.
abbrev pub FormlessOpenNothing : Type 0
FormlessOpenNothing = (setup : Setup) (records : List (List ℕ)) (state : State) (number offset : ℕ) →
    HasNoForm setup (Some records) number offset → Reopens setup opening_state records state → ⊥

abbrev pub IllegalOpenNothing : Type 0
IllegalOpenNothing = (setup : Setup) (records : List (List ℕ)) (state : State) (number : ℕ) →
    IsNotLegal setup (Some records) number → Reopens setup opening_state records state → ⊥
