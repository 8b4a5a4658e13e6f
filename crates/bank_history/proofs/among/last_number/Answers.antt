use Rattle.bank_history.proofs.AmongLemmas.{number_begun, number_more, number_ended}
use Rattle.bank_history.proofs.among.last_number.Goals as goal

pub loop-entry-init : goal.loop-entry-init
loop-entry-init c = number_begun c.args.object c.args.entries.now c.args.before

pub loop-entry-preserved : goal.loop-entry-preserved
loop-entry-preserved c =
    number_more c.args.object c.args.entries.now c.loop-entry.entry-index c.entry-item.result c.args.before c.loop-entry.number c.number_after-number.result c.loop-entry-test.true c.entry-item.is c.loop-entry.invariant c.number_after-number.ensures

pub returns : goal.returns
returns c = number_ended c.args.object c.args.entries.now c.loop-entry.entry-index c.args.before c.loop-entry.number c.loop-entry-test.false c.loop-entry.invariant
