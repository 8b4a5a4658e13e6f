use Rattle.std.proofs.Common.{arith}
use Rattle.bank_history.proofs.AmongLemmas.{count_begun, count_more, count_ended}
use Rattle.bank_history.proofs.among.count_of.Goals as goal

pub loop-entry-init : goal.loop-entry-init
loop-entry-init c = record { count = count_begun c.args.object c.args.entries.now; most = omega arith }

pub loop-entry-preserved : goal.loop-entry-preserved
loop-entry-preserved c =
    let more = count_more c.args.object c.args.entries.now c.loop-entry.entry-index c.entry-item.result c.loop-entry-test.true c.entry-item.is in
    let so_far = c.loop-entry.invariant in
    let one = c.one_if-count.ensures in
    record { count = omega arith; most = omega arith }

pub returns : goal.returns
returns c = count_ended c.args.object c.args.entries.now c.loop-entry.entry-index c.loop-entry.count c.loop-entry-test.false c.loop-entry.invariant.count
