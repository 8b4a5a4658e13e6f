use Rattle.std.proofs.Common.{◌≤◌, arith, sym, ◌∙◌, ap, IsTrue}
use Rattle.std.proofs.lemmas.Option.{cond_some}
use Rattle.std.specs.Fmt.{decimal}
use Rattle.bank_frames.specs.FirstLine.{number_from}
use Rattle.bank_frames.proofs.Lengths.{is_text, length_of_text, no_digits}
use Rattle.bank_frames.proofs.length_line.length_of.Goals as goal

pub returns-then-not-may_be_length-clause-none : goal.returns-then-not-may_be_length-clause-none
returns-then-not-may_be_length-clause-none c n small e =
    let form : IsTrue c.may_be_length.result = c.may_be_length.ensures.1 (is_text c.args.digits.now n (omega (arith, small, c.requires)) e).form in cc

pub returns-in-None-clause-none : goal.returns-in-None-clause-none
returns-in-None-clause-none c n small e = no_digits _ _ c.in-None.ensures (is_text c.args.digits.now n (omega (arith, small, c.requires)) e).all_digits

pub returns-then-n-most-clause-some : goal.returns-then-n-most-clause-some
returns-then-n-most-clause-some c =
    let form = c.may_be_length.ensures.0 c.if-not-may_be_length.false in
    let read = cond_some _ _ _ (sym c.in-Some.ensures) in
    let small : number_from 0 c.args.digits.now ≤ 99999999 = omega (arith, read.1, c.if-n-most.true, c.requires) in
    (c.if-n-most.true, length_of_text c.args.digits.now form read.0 small ∙ ap decimal read.1)

pub returns-else-n-most-clause-none : goal.returns-else-n-most-clause-none
returns-else-n-most-clause-none c n small e =
    let text = is_text c.args.digits.now n (omega (arith, small, c.requires)) e in
    let read = cond_some _ _ _ (sym c.in-Some.ensures) in
    omega (arith, read.1, text.value)
