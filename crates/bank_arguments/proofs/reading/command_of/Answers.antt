use Rattle.std.proofs.Common.{Ok, ap}
use Rattle.bank_arguments.proofs.Commands.{asks_of, answer_read, check_read, due_read, letter_read, seed_read, plan_read}
use Rattle.bank_arguments.proofs.reading.command_of.Goals as goal
use Rattle.bank_arguments.specs.declared.command.Command.{Command}

pub returns-in-Some-clause-asks : goal.returns-in-Some-clause-asks
returns-in-Some-clause-asks c = asks_of c.args.arguments.now c.in-Some.command c.in-Some.ensures

pub returns-in-Some-clause-answer : goal.returns-in-Some-clause-answer
returns-in-Some-clause-answer c at are = answer_read c.args.arguments.now c.in-Some.command at c.in-Some.ensures are

pub returns-in-Some-clause-check : goal.returns-in-Some-clause-check
returns-in-Some-clause-check c are = ap (λ (command : Command). Ok command) (check_read c.args.arguments.now c.in-Some.command c.in-Some.ensures are)

pub returns-in-Some-clause-due : goal.returns-in-Some-clause-due
returns-in-Some-clause-due c are = ap (λ (command : Command). Ok command) (due_read c.args.arguments.now c.in-Some.command c.in-Some.ensures are)

pub returns-in-Some-clause-letter : goal.returns-in-Some-clause-letter
returns-in-Some-clause-letter c name subject are = letter_read c.args.arguments.now c.in-Some.command name subject c.in-Some.ensures are

pub returns-in-Some-clause-seed : goal.returns-in-Some-clause-seed
returns-in-Some-clause-seed c seed are = ap (λ (command : Command). Ok command) (seed_read c.args.arguments.now c.in-Some.command seed c.in-Some.ensures are)

pub returns-in-Some-clause-plan : goal.returns-in-Some-clause-plan
returns-in-Some-clause-plan c plan are = ap (λ (command : Command). Ok command) (plan_read c.args.arguments.now c.in-Some.command plan c.in-Some.ensures are)

pub returns-in-None-clause-answer : goal.returns-in-None-clause-answer
returns-in-None-clause-answer c at are = absurd (c.in-None.ensures.0 at are)

pub returns-in-None-clause-check : goal.returns-in-None-clause-check
returns-in-None-clause-check c are = absurd (c.in-None.ensures.1.0 are)

pub returns-in-None-clause-due : goal.returns-in-None-clause-due
returns-in-None-clause-due c are = absurd (c.in-None.ensures.1.1 are)

pub returns-in-None-clause-letter : goal.returns-in-None-clause-letter
returns-in-None-clause-letter c name subject are = absurd (c.in-None.ensures.1.2 (name, subject, are))

pub returns-in-None-clause-seed : goal.returns-in-None-clause-seed
returns-in-None-clause-seed c seed are = absurd (c.in-None.ensures.1.3 seed are)

pub returns-in-None-clause-plan : goal.returns-in-None-clause-plan
returns-in-None-clause-plan c plan are = absurd (c.in-None.ensures.1.4 plan are)
