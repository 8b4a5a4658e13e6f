use Rattle.std.proofs.Common.{rules}
use Rattle.bank_shared.proofs.Publishes.{first_of, log_next, may_next}
use Rattle.bank_shared.proofs.publishing.BoardLogPublisher.effects.Goals as goal

pub publish_effect-requires-clause-object : goal.publish_effect-requires-clause-object
publish_effect-requires-clause-object c =
    (first_of c.loop-entry.self.board.now c.loop-entry.self.writer.now c.args.entries.now c.loop-entry.entry-index c.entry-item.result
    c.loop-entry-test.true c.entry-item.is c.loop-entry.invariant.may).0

pub publish_effect-requires-clause-above : goal.publish_effect-requires-clause-above
publish_effect-requires-clause-above c =
    (first_of c.loop-entry.self.board.now c.loop-entry.self.writer.now c.args.entries.now c.loop-entry.entry-index c.entry-item.result
    c.loop-entry-test.true c.entry-item.is c.loop-entry.invariant.may).1

pub loop-entry-preserved : goal.loop-entry-preserved
loop-entry-preserved c = record {
  log = log_next c.args.self.now.writer.now.log c.loop-entry.self.writer.now c.publish_effect.new.self c.args.entries.now c.loop-entry.entry-index c.entry-item.result
      c.loop-entry-test.true c.entry-item.is c.publish_effect.ensures.log c.loop-entry.invariant.log;
  claimed = search rules;
  table = search rules;
  through = search rules;
  board = search rules;
  may = may_next c.loop-entry.self.board.now c.loop-entry.self.writer.now c.publish_effect.new.self c.args.entries.now c.loop-entry.entry-index c.entry-item.result
      c.loop-entry-test.true c.entry-item.is c.publish_effect.ensures.log c.loop-entry.invariant.may;
}
