-- A command that was read is one command, with one content.
use Rattle.std.proofs.Common.{◌≡◌, ℕ, Result, Ok}
use Rattle.bank_arguments.specs.declared.command.AnswerArguments.{AnswerArguments}
use Rattle.bank_arguments.specs.declared.command.LetterArguments.{LetterArguments}
use Rattle.bank_arguments.specs.declared.command.Command.{Command}
use Rattle.bank_arguments.specs.declared.command.Command.TheVariants.{Answer, Mail, Rehearse}
use Rattle.bank_arguments.specs.declared.mistake.Mistake.{Mistake}

abbrev the_result : Command → Result Command Mistake
the_result command = Ok command

pub same_command : (one other : Command) → the_result one ≡ the_result other → one ≡ other
same_command one other e = cc

pub same_answer : (command : Command) (one other : AnswerArguments) → command ≡ Answer one → command ≡ Answer other → one ≡ other
same_answer command one other e f = cc

pub same_letter : (command : Command) (one other : LetterArguments) → command ≡ Mail one → command ≡ Mail other → one ≡ other
same_letter command one other e f = cc

pub same_seed : (command : Command) (one other : ℕ) → command ≡ Rehearse one → command ≡ Rehearse other → one ≡ other
same_seed command one other e f = cc
