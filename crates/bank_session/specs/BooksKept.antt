-- What a run keeps of a bank's books, whatever files it reads, and that its records bring the bank to where it is.
use Rattle.std.specs.Prelude.{ℕ, List, [], ◌∷◌, ◌++◌}
use Rattle.ofx_types.specs.declared.number.UserId.{UserId}
use Rattle.ofx_types.specs.declared.number.Moment.{Moment}
use Rattle.bank_model.specs.declared.setup.Setup.{Setup}
use Rattle.bank_model.specs.declared.event.State.{State}
use Rattle.bank_model.specs.declared.event.Event.TheVariants.{Letter}
use Rattle.bank_model.specs.SetupForm.{IsWithinLimits}
use Rattle.bank_model.specs.Rules.{IsLegal, opening_state, state_after}
use Rattle.bank_model.specs.DueRun.{after_events}
use Rattle.bank_invariants.specs.Books.{AreBooksRight}
use Rattle.event_codec.specs.Records.{Codes, Reopens}
use Rattle.bank_frames.specs.Frames.{Content}
use Rattle.bank_session.specs.Answers.{AnswersFrame, Turn, AreTurns, records_in, IsPrefixKept}

-- The records from which a bank opened, and after them those of the turns that it took, bring a bank to the state after the
-- turns. So the next run over what is kept goes on from there.
abbrev pub RunsReopen : Type 0
RunsReopen = (setup : Setup) (records : List (List ℕ)) (start state : State) (turns : List Turn) →
    Reopens setup opening_state records start → AreTurns setup start turns state →
    Reopens setup opening_state (records ++ records_in turns) state

-- What is kept of a frame in which a run stopped brings a bank, after the records of the turns, to the state after the
-- events whose records it is. So the next run opens, and goes on from there.
abbrev pub StoppedRunsReopen : (Setup → Moment → State → Content → List (List ℕ) → Type 0) → Type 0
StoppedRunsReopen IsKept = (setup : Setup) (records kept : List (List ℕ)) (start state : State) (turns : List Turn) (at : Moment)
    (content : Content) → Reopens setup opening_state records start → AreTurns setup start turns state →
    IsKept setup at state content kept →
    (begun : IsPrefixKept setup at state content kept)
    × Reopens setup opening_state (records ++ (records_in turns ++ kept)) (after_events setup state at begun.events)

-- The records of a frame whose line wasn't written whole bring a bank, after those of the turns, to the state after the
-- frame.
abbrev pub UnwrittenRunsReopen : Type 0
UnwrittenRunsReopen = (setup : Setup) (records kept : List (List ℕ)) (start state next : State) (turns : List Turn) (at : Moment)
    (content : Content) (line : List ℕ) → Reopens setup opening_state records start → AreTurns setup start turns state →
    AnswersFrame setup at state content line kept next → Reopens setup opening_state (records ++ (records_in turns ++ kept)) next

-- The record of a letter that is legal after the records from which a bank opened brings a bank to the state after the letter.
-- That holds whether or not its append was reported to have failed.
abbrev pub LettersReopen : Type 0
LettersReopen = (setup : Setup) (records : List (List ℕ)) (rec : List ℕ) (state : State) (at : Moment) (user : UserId)
    (subject body : List ℕ) → Reopens setup opening_state records state → IsLegal setup state at (Letter user subject body) →
    Codes rec at (Letter user subject body) →
    Reopens setup opening_state (records ++ rec ∷ []) (state_after setup state at (Letter user subject body))

-- After any records from the opening of a bank, and any turns after them, its books are right.
abbrev pub RunsKeepTheBooks : Type 0
RunsKeepTheBooks = (setup : Setup) (records : List (List ℕ)) (start state : State) (turns : List Turn) → IsWithinLimits setup →
    Reopens setup opening_state records start → AreTurns setup start turns state → AreBooksRight setup state
