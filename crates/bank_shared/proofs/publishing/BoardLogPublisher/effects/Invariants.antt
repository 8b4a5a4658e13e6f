use Rattle.std.proofs.Common.{◌≡◌, ◌++◌, map, take, drop}
use Rattle.bank_model.specs.declared.log.LogItem.TheVariants.{Effect}
use Rattle.token_board.specs.Publishing.{MayPublish}
use Rattle.bank_shared.proofs.publishing.BoardLogPublisher.effects.Given as goal

-- the entries so far are published, and the rest may be
abbrev pub invariant-loop-entry : goal.invariant-loop-entry
invariant-loop-entry l = record {
  log : l.self.writer.now.log ≡ l.fn.self.writer.now.log ++ map Effect (take l.entry-index l.entries);
  claimed : l.self.writer.now.claimed ≡ l.fn.self.writer.now.claimed;
  table : l.self.writer.now.table ≡ l.fn.self.writer.now.table;
  through : l.self.writer.ghost_name ≡ l.fn.self.writer.ghost_name;
  board : l.self.board ≡ l.fn.self.board;
  may : MayPublish l.self.board.now l.self.writer.now (drop l.entry-index l.entries);
}
