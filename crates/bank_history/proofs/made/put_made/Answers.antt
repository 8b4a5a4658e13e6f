use Rattle.bank_history.specs.Made.{made_of}
use Rattle.bank_history.proofs.AmongLemmas.{part_begun, part_more, part_ended}
use Rattle.bank_history.proofs.MadeLemmas.{made_of-none, made_of-append}
use Rattle.bank_history.proofs.made.put_made.Goals as goal

pub loop-entry-init : goal.loop-entry-init
loop-entry-init c = part_begun (made_of c.args.object) c.args.entries.now c.args.made.now.items (made_of-none c.args.object)

pub loop-entry-preserved : goal.loop-entry-preserved
loop-entry-preserved c =
    part_more (made_of c.args.object) c.args.entries.now c.loop-entry.entry-index c.entry-item.result c.args.made.now.items c.loop-entry.made.items c.put_one.new.made.items (made_of-append c.args.object) c.loop-entry-test.true c.entry-item.is c.loop-entry.invariant c.in_ok-put_one.ensures

pub returns : goal.returns
returns c = part_ended (made_of c.args.object) c.args.entries.now c.loop-entry.entry-index c.args.made.now.items c.loop-entry.made.items c.loop-entry-test.false c.loop-entry.invariant
