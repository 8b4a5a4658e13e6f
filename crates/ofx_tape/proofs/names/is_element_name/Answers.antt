use Rattle.std.proofs.Common.{sym, arith}
use Rattle.ofx_types.specs.TagNames.{element_names}
use Rattle.ofx_tape.proofs.NameLists.{by_length, no_element_name}
use Rattle.ofx_tape.proofs.names.is_element_name.Goals as goal

pub returns-in-2 : goal.returns-in-2
returns-in-2 c = by_length element_names c.args.name.now 2 c.is_element_of_two.result (sym c.in-2.is) c.is_element_of_two.ensures

pub returns-in-3 : goal.returns-in-3
returns-in-3 c = by_length element_names c.args.name.now 3 c.is_element_of_three.result (sym c.in-3.is) c.is_element_of_three.ensures

pub returns-in-4 : goal.returns-in-4
returns-in-4 c = by_length element_names c.args.name.now 4 c.is_element_of_four.result (sym c.in-4.is) c.is_element_of_four.ensures

pub returns-in-5 : goal.returns-in-5
returns-in-5 c = by_length element_names c.args.name.now 5 c.is_element_of_five.result (sym c.in-5.is) c.is_element_of_five.ensures

pub returns-in-6 : goal.returns-in-6
returns-in-6 c = by_length element_names c.args.name.now 6 c.is_element_of_six.result (sym c.in-6.is) c.is_element_of_six.ensures

pub returns-in-7 : goal.returns-in-7
returns-in-7 c = by_length element_names c.args.name.now 7 c.is_element_of_seven.result (sym c.in-7.is) c.is_element_of_seven.ensures

pub returns-in-8 : goal.returns-in-8
returns-in-8 c = by_length element_names c.args.name.now 8 c.is_element_of_eight.result (sym c.in-8.is) c.is_element_of_eight.ensures

pub returns-in-9 : goal.returns-in-9
returns-in-9 c = by_length element_names c.args.name.now 9 c.is_element_of_nine.result (sym c.in-9.is) c.is_element_of_nine.ensures

pub returns-in-10 : goal.returns-in-10
returns-in-10 c = by_length element_names c.args.name.now 10 c.is_element_of_ten.result (sym c.in-10.is) c.is_element_of_ten.ensures

pub returns-in-11 : goal.returns-in-11
returns-in-11 c = by_length element_names c.args.name.now 11 c.is_element_of_eleven.result (sym c.in-11.is) c.is_element_of_eleven.ensures

pub returns-in-15 : goal.returns-in-15
returns-in-15 c = by_length element_names c.args.name.now 15 c.is_element_of_fifteen.result (sym c.in-15.is) c.is_element_of_fifteen.ensures

pub returns-in_default : goal.returns-in_default
returns-in_default c =
    no_element_name c.args.name.now (λ e. omega arith) (λ e. omega arith) (λ e. omega arith) (λ e. omega arith) (λ e. omega arith) (λ e. omega arith) (λ e. omega arith) (λ e. omega arith) (λ e. omega arith) (λ e. omega arith) (λ e. omega arith)
