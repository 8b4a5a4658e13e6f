use Rattle.std.proofs.Common.{sym, arith}
use Rattle.ofx_types.specs.TagNames.{aggregate_names}
use Rattle.ofx_tape.proofs.NameLists.{by_length, no_aggregate_name}
use Rattle.ofx_tape.proofs.names.is_aggregate_name.Goals as goal

pub returns-in-2 : goal.returns-in-2
returns-in-2 c = by_length aggregate_names c.args.name.now 2 c.is_aggregate_of_two.result (sym c.in-2.is) c.is_aggregate_of_two.ensures

pub returns-in-3 : goal.returns-in-3
returns-in-3 c = by_length aggregate_names c.args.name.now 3 c.is_aggregate_of_three.result (sym c.in-3.is) c.is_aggregate_of_three.ensures

pub returns-in-4 : goal.returns-in-4
returns-in-4 c = by_length aggregate_names c.args.name.now 4 c.is_aggregate_of_four.result (sym c.in-4.is) c.is_aggregate_of_four.ensures

pub returns-in-5 : goal.returns-in-5
returns-in-5 c = by_length aggregate_names c.args.name.now 5 c.is_aggregate_of_five.result (sym c.in-5.is) c.is_aggregate_of_five.ensures

pub returns-in-6 : goal.returns-in-6
returns-in-6 c = by_length aggregate_names c.args.name.now 6 c.is_aggregate_of_six.result (sym c.in-6.is) c.is_aggregate_of_six.ensures

pub returns-in-7 : goal.returns-in-7
returns-in-7 c = by_length aggregate_names c.args.name.now 7 c.is_aggregate_of_seven.result (sym c.in-7.is) c.is_aggregate_of_seven.ensures

pub returns-in-8 : goal.returns-in-8
returns-in-8 c = by_length aggregate_names c.args.name.now 8 c.is_aggregate_of_eight.result (sym c.in-8.is) c.is_aggregate_of_eight.ensures

pub returns-in-9 : goal.returns-in-9
returns-in-9 c = by_length aggregate_names c.args.name.now 9 c.is_aggregate_of_nine.result (sym c.in-9.is) c.is_aggregate_of_nine.ensures

pub returns-in-10 : goal.returns-in-10
returns-in-10 c = by_length aggregate_names c.args.name.now 10 c.is_aggregate_of_ten.result (sym c.in-10.is) c.is_aggregate_of_ten.ensures

pub returns-in-11 : goal.returns-in-11
returns-in-11 c = by_length aggregate_names c.args.name.now 11 c.is_aggregate_of_eleven.result (sym c.in-11.is) c.is_aggregate_of_eleven.ensures

pub returns-in-12 : goal.returns-in-12
returns-in-12 c = by_length aggregate_names c.args.name.now 12 c.is_aggregate_of_twelve.result (sym c.in-12.is) c.is_aggregate_of_twelve.ensures

pub returns-in-13 : goal.returns-in-13
returns-in-13 c = by_length aggregate_names c.args.name.now 13 c.is_aggregate_of_thirteen.result (sym c.in-13.is) c.is_aggregate_of_thirteen.ensures

pub returns-in-14 : goal.returns-in-14
returns-in-14 c = by_length aggregate_names c.args.name.now 14 c.is_aggregate_of_fourteen.result (sym c.in-14.is) c.is_aggregate_of_fourteen.ensures

pub returns-in_default : goal.returns-in_default
returns-in_default c =
    no_aggregate_name c.args.name.now (λ e. omega arith) (λ e. omega arith) (λ e. omega arith) (λ e. omega arith) (λ e. omega arith) (λ e. omega arith) (λ e. omega arith) (λ e. omega arith) (λ e. omega arith) (λ e. omega arith) (λ e. omega arith) (λ e. omega arith) (λ e. omega arith)
