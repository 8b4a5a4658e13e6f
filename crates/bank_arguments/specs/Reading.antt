-- What reading the arguments of a command line answers.
use Rattle.std.specs.Prelude.{◌≡◌, ℕ, List, Option, None, Some, Result, Ok, Err}
use Rattle.ofx_types.specs.DateForm.{IsDate}
use Rattle.ofx_types.specs.declared.number.Moment.{Moment}
use Rattle.bank_arguments.specs.Arguments.{AreArguments, AreCheckArguments, AreDueArguments, AreMailArguments, AskForLetter, AreSeedArguments}
use Rattle.bank_arguments.specs.Plans.{AreServeArguments, IsServeUsage}
use Rattle.bank_arguments.specs.declared.command.AnswerArguments.{AnswerArguments}
use Rattle.bank_arguments.specs.declared.command.LetterArguments.{LetterArguments}
use Rattle.bank_arguments.specs.declared.command.Command.{Command}
use Rattle.bank_arguments.specs.declared.command.Command.TheVariants.{Answer, Check, Due, Mail, Rehearse, Serve}
use Rattle.bank_arguments.specs.declared.mistake.Mistake.{Mistake}

-- The arguments ask for this command.
abbrev pub Asks : List (List ℕ) → Command → Type 0
Asks arguments (Answer found) = AreArguments arguments found.at
Asks arguments Check = AreCheckArguments arguments
Asks arguments Due = AreDueArguments arguments
Asks arguments (Mail letter) = AreMailArguments arguments letter.name.now letter.subject.now
Asks arguments (Rehearse seed) = AreSeedArguments arguments seed
Asks arguments (Serve plan) = AreServeArguments arguments plan

-- What was read is `answer`, with this moment.
abbrev pub IsAnswer : Option Moment → Result Command Mistake → Type 0
IsAnswer at result = (found : AnswerArguments) × (result ≡ Ok (Answer found)) × (found.at ≡ at)

-- What was read is `mail`, with this name and subject.
abbrev pub IsLetter : List ℕ → List ℕ → Result Command Mistake → Type 0
IsLetter name subject result =
    (letter : LetterArguments) × (result ≡ Ok (Mail letter)) × (letter.name.now ≡ name) × (letter.subject.now ≡ subject)

-- ---- by parts

-- Arguments are read exactly where they have their form, and they have it with one moment, or with none.
abbrev pub Reads : (Option Moment → Type 0) → Option AnswerArguments → Type 0
Reads HaveForm None = (at : Option Moment) → HaveForm at → ⊥
Reads HaveForm (Some arguments) = HaveForm arguments.at × ((other : Option Moment) → HaveForm other → other ≡ arguments.at)

-- the moment that a date names
abbrev pub IsNamedBy : List ℕ → Option Moment → Type 0
IsNamedBy date None = ⊥
IsNamedBy date (Some at) = IsDate date at.0

-- Arguments are those of a command with a number, or of none.
abbrev pub ReadsNumbered : List (List ℕ) → Option Command → Type 0
ReadsNumbered arguments None = ((seed : ℕ) → AreSeedArguments arguments seed → ⊥) × IsServeUsage arguments
ReadsNumbered arguments (Some (Rehearse seed)) = AreSeedArguments arguments seed
ReadsNumbered arguments (Some (Serve plan)) = AreServeArguments arguments plan
ReadsNumbered arguments (Some (Answer found)) = ⊥
ReadsNumbered arguments (Some Check) = ⊥
ReadsNumbered arguments (Some Due) = ⊥
ReadsNumbered arguments (Some (Mail letter)) = ⊥

-- Arguments are those of one of the commands but `answer`, or of none.
abbrev pub ReadsOther : List (List ℕ) → Option Command → Type 0
ReadsOther arguments None =
    (AreCheckArguments arguments → ⊥) × (AreDueArguments arguments → ⊥) × (AskForLetter arguments → ⊥) × ((seed : ℕ) → AreSeedArguments arguments seed → ⊥) × IsServeUsage arguments
ReadsOther arguments (Some (Answer found)) = ⊥
ReadsOther arguments (Some Check) = AreCheckArguments arguments
ReadsOther arguments (Some Due) = AreDueArguments arguments
ReadsOther arguments (Some (Mail letter)) = AreMailArguments arguments letter.name.now letter.subject.now
ReadsOther arguments (Some (Rehearse seed)) = AreSeedArguments arguments seed
ReadsOther arguments (Some (Serve plan)) = AreServeArguments arguments plan

-- Arguments are those of one command, or of none.
abbrev pub ReadsCommand : List (List ℕ) → Option Command → Type 0
ReadsCommand arguments None = ((at : Option Moment) → AreArguments arguments at → ⊥) × ReadsOther arguments None
ReadsCommand arguments (Some (Answer found)) = Reads (AreArguments arguments) (Some found)
ReadsCommand arguments (Some Check) = AreCheckArguments arguments
ReadsCommand arguments (Some Due) = AreDueArguments arguments
ReadsCommand arguments (Some (Mail letter)) = AreMailArguments arguments letter.name.now letter.subject.now
ReadsCommand arguments (Some (Rehearse seed)) = AreSeedArguments arguments seed
ReadsCommand arguments (Some (Serve plan)) = AreServeArguments arguments plan
