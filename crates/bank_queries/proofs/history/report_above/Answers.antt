use Rattle.bank_queries.proofs.HistoryLemmas.{reported_above, reported_above-none, reported_above-append, part_begun, part_more, part_ended}
use Rattle.bank_queries.proofs.history.report_above.Goals as goal

pub loop-entry-init : goal.loop-entry-init
loop-entry-init c = part_begun (reported_above c.args.family c.args.token c.args.object) c.args.entries.now c.args.reported.now.items (reported_above-none c.args.family c.args.token c.args.object)

pub loop-entry-preserved : goal.loop-entry-preserved
loop-entry-preserved c =
    part_more (reported_above c.args.family c.args.token c.args.object) c.args.entries.now c.loop-entry.entry-index c.entry-item.result c.args.reported.now.items c.loop-entry.reported.items c.report_entry.new.reported.items (reported_above-append c.args.family c.args.token c.args.object) c.loop-entry-test.true c.entry-item.is c.loop-entry.invariant c.in_ok-report_entry.ensures

pub returns : goal.returns
returns c = part_ended (reported_above c.args.family c.args.token c.args.object) c.args.entries.now c.loop-entry.entry-index c.args.reported.now.items c.loop-entry.reported.items c.loop-entry-test.false c.loop-entry.invariant
