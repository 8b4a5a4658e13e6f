-- Arguments of the three commands, and commands that are none of them.
use Rattle.std.proofs.Common.{◌≡◌, ℕ, List, Option, Result, Ok, Err, subst}
use Rattle.ofx_types.specs.declared.number.Moment.{Moment}
use Rattle.ofx_types.specs.declared.told.Told.{Told}
use Rattle.bank_arguments.specs.Arguments.{AreArguments, AreDueArguments, AreMailArguments}
use Rattle.bank_arguments.specs.Reading.{Asks, IsAnswer, IsLetter}
use Rattle.bank_arguments.specs.declared.command.Command.{Command}
use Rattle.bank_arguments.specs.declared.command.Command.TheVariants.{Answer, Check, Due, Mail, Rehearse, Serve}
use Rattle.bank_arguments.specs.declared.mistake.Mistake.{Mistake}
use Rattle.bank_session.specs.Arguments.{IsUsage, IsOther}
use Rattle.bank_session.specs.PortsView.{PortsView}
use Rattle.bank_session.specs.Statuses.{IsMailCommand}

-- what was read is none of the three
abbrev other_in : Result Command Mistake → Type 0
other_in (Ok command) = IsOther command
other_in (Err mistake) = Unit {0}

-- Arguments that ask for another command have no form here.
pub other_usage : (arguments : List (List ℕ)) (result : Result Command Mistake) → ((at : Option Moment) → AreArguments arguments at → IsAnswer at result)
    → (AreDueArguments arguments → result ≡ Ok Due) → ((name subject : List ℕ) → AreMailArguments arguments name subject → IsLetter name subject result)
    → other_in result → IsUsage arguments
other_usage arguments result answer due letter other = record {
  unanswered = λ at are. subst (λ (r : Result Command Mistake). other_in r) (answer at are).1 other;
  undue = λ are. subst (λ (r : Result Command Mistake). other_in r) (due are) other;
  unmailed = λ are. subst (λ (r : Result Command Mistake). other_in r) (letter are.0 are.1 are.2).1 other;
}

-- A command whose arguments have no form here is none of the three.
pub usage_other : (arguments : List (List ℕ)) (command : Command) → Asks arguments command → IsUsage arguments → IsOther command
usage_other arguments (Answer found) asks usage = usage.unanswered found.at asks
usage_other arguments Check asks usage = tt
usage_other arguments Due asks usage = usage.undue asks
usage_other arguments (Mail letter) asks usage = usage.unmailed (letter.name.now, letter.subject.now, asks)
usage_other arguments (Rehearse seed) asks usage = tt
usage_other arguments (Serve plan) asks usage = tt

-- A letter to one name with one subject is a letter to the same name with the same subject.
pub mailed : (name subject other_name other_subject : List ℕ) (before after : PortsView) (what : Told) → other_name ≡ name → other_subject ≡ subject
    → IsMailCommand other_name other_subject before after what → IsMailCommand name subject before after what
mailed name subject other_name other_subject before after what same_name same_subject is =
    subst (λ (s : List ℕ). IsMailCommand name s before after what) same_subject (subst (λ (n : List ℕ). IsMailCommand n other_subject before after what) same_name is)
