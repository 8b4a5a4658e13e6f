use Rattle.std.proofs.Common.{◌≡◌, ◌<◌, ◌∷◌, length, Some, ap, sym, ◌∙◌, arith}
use Rattle.bank_model.specs.SetupFault.{lines_in}
use Rattle.bank_model.specs.SetupReading.{line_at, with_line}
use Rattle.bank_model.proofs.SetupLines.{took, refused_one, lines_next, lines_last, taken_next, taken_refused, taken_last}
use Rattle.bank_model.proofs.SetupLaws.{lines_read}
use Rattle.bank_model.proofs.setup.reading.read_lines.Goals as goal

pub returns-then-not-branch-clause-read : goal.returns-then-not-branch-clause-read
returns-then-not-branch-clause-read c =
    let none = refused_one c.in_ok-take.field-0 (with_line c.loop-line.number c.loop-line.draft c.in-Some.line.now) c.take.new.self c.if-not-branch.true c.in_ok-take.ensures in
    sym c.loop-line.invariant.read ∙ taken_refused c.loop-line.number c.loop-line.draft c.loop-line.rest.now c.in-Some.line.now c.in-Some.suffix.now (sym c.in-Some.ensures.exact) none

pub loop-line-preserved : goal.loop-line-preserved
loop-line-preserved c =
    let next = took c.in_ok-take.field-0 (with_line c.loop-line.number c.loop-line.draft c.in-Some.line.now) c.take.new.self c.if-not-branch.false c.in_ok-take.ensures in
    let here : line_at c.loop-line.rest.now ≡ Some (c.in-Some.line.now, c.in-Some.suffix.now) = sym c.in-Some.ensures.exact in
    let lines = lines_next c.loop-line.rest.now c.in-Some.line.now c.in-Some.suffix.now here in
    let longer : length (lines_in c.loop-line.rest.now) ≡ length (c.in-Some.line.now ∷ lines_in c.in-Some.suffix.now) = ap length lines.0 in
    let shorter : length c.in-Some.suffix.now < length c.loop-line.rest.now = c.in-Some.ensures.less in
    record {
      read = sym (taken_next c.loop-line.number c.loop-line.draft c.take.new.self c.loop-line.rest.now c.in-Some.line.now c.in-Some.suffix.now here next) ∙ c.loop-line.invariant.read;
      count = omega (arith, c.loop-line.invariant.count, longer);
      left = sym lines.1 ∙ c.loop-line.invariant.left;
      few = omega (arith, c.loop-line.invariant.few, shorter);
    }

pub returns-clause-read : goal.returns-clause-read
returns-clause-read c = sym c.loop-line.invariant.read ∙ taken_last c.loop-line.number c.loop-line.draft c.loop-line.rest.now (sym c.in_default.ensures.exact)

pub returns-clause-suffix : goal.returns-clause-suffix
returns-clause-suffix c =
    let none = ap length (lines_last c.loop-line.rest.now (sym c.in_default.ensures.exact)).0 in
    omega (arith, c.loop-line.invariant.count, none)

pub returns-clause-left : goal.returns-clause-left
returns-clause-left c = sym (lines_last c.loop-line.rest.now (sym c.in_default.ensures.exact)).1 ∙ c.loop-line.invariant.left

pub returns-clause-bounded : goal.returns-clause-bounded
returns-clause-bounded c = (lines_read c.loop-line.draft (lines_in c.args.bytes.now) (sym c.loop-line.invariant.read ∙ taken_last c.loop-line.number c.loop-line.draft c.loop-line.rest.now (sym c.in_default.ensures.exact))).bounded
