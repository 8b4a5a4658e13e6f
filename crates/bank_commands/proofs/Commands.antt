-- Arguments that no command here has.
use Rattle.std.proofs.Common.{◌≡◌, ℕ, List, Result, Ok, Err, Option, refl, subst}
use Rattle.ofx_types.specs.declared.number.Moment.{Moment}
use Rattle.bank_arguments.specs.Arguments.{AreArguments, AreDueArguments, AreMailArguments, AreSeedArguments}
use Rattle.bank_arguments.specs.Reading.{Asks, IsAnswer, IsLetter}
use Rattle.bank_arguments.specs.declared.command.Command.{Command}
use Rattle.bank_arguments.specs.declared.command.Command.TheVariants.{Answer, Check, Due, Mail, Rehearse, Serve}
use Rattle.bank_arguments.specs.declared.mistake.Mistake.{Mistake}
use Rattle.bank_session.specs.Arguments.{IsOther}
use Rattle.bank_commands.specs.Rehearsing.{HaveNoForm, RunsElsewhere}

abbrev elsewhere_in : Result Command Mistake → Type 0
elsewhere_in (Ok command) = RunsElsewhere command
elsewhere_in (Err mistake) = Unit {0}

pub elsewhere_usage : (arguments : List (List ℕ)) (result : Result Command Mistake) → ((at : Option Moment) → AreArguments arguments at → IsAnswer at result)
    → (AreDueArguments arguments → result ≡ Ok Due) → ((name subject : List ℕ) → AreMailArguments arguments name subject → IsLetter name subject result)
    → ((seed : ℕ) → AreSeedArguments arguments seed → result ≡ Ok (Rehearse seed)) → elsewhere_in result → HaveNoForm arguments
elsewhere_usage arguments result answer due letter seed elsewhere = record {
  usage = record {
    unanswered = λ at are. subst (λ (r : Result Command Mistake). elsewhere_in r) (answer at are).1 elsewhere;
    undue = λ are. subst (λ (r : Result Command Mistake). elsewhere_in r) (due are) elsewhere;
    unmailed = λ are. subst (λ (r : Result Command Mistake). elsewhere_in r) (letter are.0 are.1 are.2).1 elsewhere;
  };
  unrehearsed = λ n are. subst (λ (r : Result Command Mistake). elsewhere_in r) (seed n are) elsewhere;
}

pub usage_elsewhere : (arguments : List (List ℕ)) (command : Command) → Asks arguments command → HaveNoForm arguments → RunsElsewhere command
usage_elsewhere arguments (Answer found) asks none = none.usage.unanswered found.at asks
usage_elsewhere arguments Check asks none = tt
usage_elsewhere arguments Due asks none = none.usage.undue asks
usage_elsewhere arguments (Mail letter) asks none = none.usage.unmailed (letter.name.now, letter.subject.now, asks)
usage_elsewhere arguments (Rehearse seed) asks none = none.unrehearsed seed asks
usage_elsewhere arguments (Serve plan) asks none = tt

-- Of the commands that are no run over a bank's records only a rehearsal is done here.
pub other_elsewhere : (command : Command) → ((seed : ℕ) → command ≡ Rehearse seed → ⊥) → IsOther command → RunsElsewhere command
other_elsewhere (Answer found) never other = other
other_elsewhere Check never other = tt
other_elsewhere Due never other = other
other_elsewhere (Mail letter) never other = other
other_elsewhere (Rehearse seed) never other = absurd (never seed refl)
other_elsewhere (Serve plan) never other = tt

pub elsewhere_other : (command : Command) → RunsElsewhere command → IsOther command
elsewhere_other (Answer found) elsewhere = elsewhere
elsewhere_other Check elsewhere = tt
elsewhere_other Due elsewhere = elsewhere
elsewhere_other (Mail letter) elsewhere = elsewhere
elsewhere_other (Rehearse seed) elsewhere = absurd elsewhere
elsewhere_other (Serve plan) elsewhere = tt
