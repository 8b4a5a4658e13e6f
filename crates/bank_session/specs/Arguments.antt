-- The commands that are runs over a bank's records, and what else a command line may ask.
use Rattle.std.specs.Prelude.{List, ℕ, Option, ⊤}
use Rattle.ofx_types.specs.declared.number.Moment.{Moment}
use Rattle.bank_arguments.specs.Arguments.{AreArguments, AreDueArguments, AskForLetter}
use Rattle.bank_arguments.specs.declared.command.Command.{Command}
use Rattle.bank_arguments.specs.declared.command.Command.TheVariants.{Answer, Check, Due, Mail, Rehearse, Serve}

-- Arguments of none of the three commands have no form.
pub record IsUsage (arguments : List (List ℕ)) : Type 0 where
  pub unanswered : (at : Option Moment) → AreArguments arguments at → ⊥
  pub undue : AreDueArguments arguments → ⊥
  pub unmailed : AskForLetter arguments → ⊥

-- A command that is none of the three.
abbrev pub IsOther : Command → Type 0
IsOther (Answer found) = ⊥
IsOther Check = ⊤
IsOther Due = ⊥
IsOther (Mail letter) = ⊥
IsOther (Rehearse seed) = ⊤
IsOther (Serve plan) = ⊤
