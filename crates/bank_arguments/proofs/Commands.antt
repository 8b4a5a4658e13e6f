-- Arguments of a command ask for it alone: the commands differ in their first word.
use Rattle.std.proofs.Common.{◌≡◌, ℕ, ◌<◌, ◌^◌, List, [], get_or, Option, Some, Ok, refl, sym, ap, arith, ◌∙◌}
use Rattle.std.proofs.lemmas.Fmt.{decimal_injective}
use Rattle.ofx_types.specs.declared.number.Moment.{Moment}
use Rattle.program_arguments.specs.Numbers.{IsNumber}
use Rattle.bank_arguments.specs.Arguments.{AreArguments, AreCheckArguments, AreDueArguments, AreMailArguments, AreSeedArguments}
use Rattle.bank_arguments.specs.Plans.{AreServeArguments}
use Rattle.bank_arguments.specs.Reading.{Asks, ReadsCommand, IsAnswer, IsLetter}
use Rattle.bank_arguments.specs.declared.command.Command.{Command}
use Rattle.bank_arguments.specs.declared.command.Command.TheVariants.{Answer, Check, Due, Mail, Rehearse, Serve}
use Rattle.bank_arguments.specs.declared.command.Plan.{Plan}

-- the first byte of the first word
abbrev first_byte : List (List ℕ) → ℕ
first_byte arguments = get_or (get_or arguments 0 []) 0 0

-- the first byte of the name of each command, in which they differ
abbrev begins_with : Command → ℕ
begins_with (Answer found) = 97
begins_with Check = 99
begins_with Due = 100
begins_with (Mail letter) = 109
begins_with (Rehearse seed) = 114
begins_with (Serve plan) = 115

begins : (arguments : List (List ℕ)) (command : Command) → ReadsCommand arguments (Some command) → first_byte arguments ≡ begins_with command
begins arguments (Answer found) read = ap (λ (a : List (List ℕ)). first_byte a) read.0.spelled
begins arguments Check read = ap (λ (a : List (List ℕ)). first_byte a) read.spelled
begins arguments Due read = ap (λ (a : List (List ℕ)). first_byte a) read.spelled
begins arguments (Mail letter) read = ap (λ (a : List (List ℕ)). first_byte a) read.spelled
begins arguments (Rehearse seed) read = ap (λ (a : List (List ℕ)). first_byte a) read.spelled
begins arguments (Serve plan) read = ap (λ (a : List (List ℕ)). first_byte a) read.spelled

-- a command whose arguments begin with this byte
meant : (arguments : List (List ℕ)) (command : Command) (byte : ℕ) → ReadsCommand arguments (Some command) → first_byte arguments ≡ byte → begins_with command ≡ byte
meant arguments command byte read is = sym (begins arguments command read) ∙ is

pub asks_of : (arguments : List (List ℕ)) (command : Command) → ReadsCommand arguments (Some command) → Asks arguments command
asks_of arguments (Answer found) read = read.0
asks_of arguments Check read = read
asks_of arguments Due read = read
asks_of arguments (Mail letter) read = read
asks_of arguments (Rehearse seed) read = read
asks_of arguments (Serve plan) read = read

pub answer_read : (arguments : List (List ℕ)) (command : Command) (at : Option Moment) → ReadsCommand arguments (Some command) → AreArguments arguments at → IsAnswer at (Ok command)
answer_read arguments (Answer found) at read are = (found, refl, sym (read.1 at are))
answer_read arguments other at read are = let e : begins_with other ≡ 97 = meant arguments other 97 read (ap (λ (a : List (List ℕ)). first_byte a) are.spelled) in absurd (omega (arith, e))

pub check_read : (arguments : List (List ℕ)) (command : Command) → ReadsCommand arguments (Some command) → AreCheckArguments arguments → command ≡ Check
check_read arguments Check read are = refl
check_read arguments other read are = let e : begins_with other ≡ 99 = meant arguments other 99 read (ap (λ (a : List (List ℕ)). first_byte a) are.spelled) in absurd (omega (arith, e))

pub due_read : (arguments : List (List ℕ)) (command : Command) → ReadsCommand arguments (Some command) → AreDueArguments arguments → command ≡ Due
due_read arguments Due read are = refl
due_read arguments other read are = let e : begins_with other ≡ 100 = meant arguments other 100 read (ap (λ (a : List (List ℕ)). first_byte a) are.spelled) in absurd (omega (arith, e))

pub letter_read : (arguments : List (List ℕ)) (command : Command) (name subject : List ℕ) → ReadsCommand arguments (Some command) → AreMailArguments arguments name subject → IsLetter name subject (Ok command)
letter_read arguments (Mail letter) name subject read are =
    let same = sym read.spelled ∙ are.spelled in
    (letter, refl, ap (λ (a : List (List ℕ)). get_or a 3 []) same, ap (λ (a : List (List ℕ)). get_or a 4 []) same)
letter_read arguments other name subject read are = let e : begins_with other ≡ 109 = meant arguments other 109 read (ap (λ (a : List (List ℕ)). first_byte a) are.spelled) in absurd (omega (arith, e))

pub seed_read : (arguments : List (List ℕ)) (command : Command) (seed : ℕ) → ReadsCommand arguments (Some command) → AreSeedArguments arguments seed → command ≡ Rehearse seed
seed_read arguments (Rehearse found) seed read are =
    ap (λ (n : ℕ). Rehearse n) (decimal_injective found seed read.fits are.fits (ap (λ (a : List (List ℕ)). get_or a 1 []) (sym read.spelled ∙ are.spelled)))
seed_read arguments other seed read are = let e : begins_with other ≡ 114 = meant arguments other 114 read (ap (λ (a : List (List ℕ)). first_byte a) are.spelled) in absurd (omega (arith, e))

-- one word is one number
one_number : (least most : ℕ) (argument word : List ℕ) (n m : ℕ) → most < 2 ^ 64 → IsNumber least most argument n → IsNumber least most word m → argument ≡ word → n ≡ m
one_number least most argument word n m small one other same =
    decimal_injective n m (omega (arith, one.to, small)) (omega (arith, other.to, small)) (sym one.spelled ∙ same ∙ other.spelled)

abbrev plan_with : ℕ → ℕ → ℕ → Plan
plan_with port workers most = record { port = port; workers = workers; most = most }

one_plan : (arguments : List (List ℕ)) (one other : Plan) → AreServeArguments arguments one → AreServeArguments arguments other → one ≡ other
one_plan arguments one other is are =
    let same = sym is.spelled ∙ are.spelled in
    let port : one.port ≡ other.port = one_number 1 65535 is.port are.port one.port other.port (omega arith) is.port_is are.port_is (ap (λ (a : List (List ℕ)). get_or a 3 []) same) in
    let workers : one.workers ≡ other.workers = one_number 1 64 is.workers are.workers one.workers other.workers (omega arith) is.workers_are are.workers_are (ap (λ (a : List (List ℕ)). get_or a 4 []) same) in
    let most : one.most ≡ other.most = one_number 0 4294967295 is.most are.most one.most other.most (omega arith) is.most_is are.most_is (ap (λ (a : List (List ℕ)). get_or a 5 []) same) in
    ap (λ (n : ℕ). plan_with n one.workers one.most) port ∙ (ap (λ (n : ℕ). plan_with other.port n one.most) workers ∙ ap (λ (n : ℕ). plan_with other.port other.workers n) most)

pub plan_read : (arguments : List (List ℕ)) (command : Command) (plan : Plan) → ReadsCommand arguments (Some command) → AreServeArguments arguments plan → command ≡ Serve plan
plan_read arguments (Serve found) plan read are = ap (λ (p : Plan). Serve p) (one_plan arguments found plan read are)
plan_read arguments other plan read are = let e : begins_with other ≡ 115 = meant arguments other 115 read (ap (λ (a : List (List ℕ)). first_byte a) are.spelled) in absurd (omega (arith, e))
