use Rattle.std.proofs.Common.{arith}
use Rattle.bank_history.proofs.AmongLemmas.{number_begun, number_more, count_begun, count_more, taken_ended, taken_stopped}
use Rattle.bank_history.proofs.among.number_at.Goals as goal

pub loop-entry-init : goal.loop-entry-init
loop-entry-init c =
    let none = count_begun c.args.object c.args.entries.now in
    record { number = number_begun c.args.object c.args.entries.now c.args.before; left = omega arith }

pub loop-entry-preserved : goal.loop-entry-preserved
loop-entry-preserved c =
    let more = count_more c.args.object c.args.entries.now c.loop-entry.entry-index c.entry-item.result c.loop-entry-test.true c.entry-item.is in
    let so_far = c.loop-entry.invariant.left in
    let one = c.one_if-left.ensures in
    let some = c.if-left-eq0.false in
    record {
      number = number_more c.args.object c.args.entries.now c.loop-entry.entry-index c.entry-item.result c.args.before c.loop-entry.number c.number_after-number.result c.loop-entry-test.true c.entry-item.is c.loop-entry.invariant.number c.number_after-number.ensures;
      left = omega arith;
    }

pub returns-then-left-eq0 : goal.returns-then-left-eq0
returns-then-left-eq0 c = taken_stopped c.args.object c.args.entries.now c.loop-entry.entry-index c.args.most c.loop-entry.left c.args.before c.loop-entry.number c.if-left-eq0.true c.loop-entry.invariant.left c.loop-entry.invariant.number

pub returns : goal.returns
returns c = taken_ended c.args.object c.args.entries.now c.loop-entry.entry-index c.args.most c.loop-entry.left c.args.before c.loop-entry.number c.loop-entry-test.false c.loop-entry.invariant.left c.loop-entry.invariant.number
