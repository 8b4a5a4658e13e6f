use Rattle.bank_history.proofs.AmongLemmas.{above, above-none, above-append, lent, part_begun, part_more, part_ended}
use Rattle.bank_history.proofs.among.put_above.Goals as goal

pub loop-entry-init : goal.loop-entry-init
loop-entry-init c = part_begun (above c.args.token c.args.object) c.args.entries.now (lent c.args.since.now.items) (above-none c.args.token c.args.object)

pub loop-entry-preserved : goal.loop-entry-preserved
loop-entry-preserved c =
    part_more (above c.args.token c.args.object) c.args.entries.now c.loop-entry.entry-index c.entry-item.result (lent c.args.since.now.items) (lent c.loop-entry.since.items) (lent c.put_if_above.new.since.items) (above-append c.args.token c.args.object) c.loop-entry-test.true c.entry-item.is c.loop-entry.invariant c.in_ok-put_if_above.ensures

pub returns : goal.returns
returns c = part_ended (above c.args.token c.args.object) c.args.entries.now c.loop-entry.entry-index (lent c.args.since.now.items) (lent c.loop-entry.since.items) c.loop-entry-test.false c.loop-entry.invariant
