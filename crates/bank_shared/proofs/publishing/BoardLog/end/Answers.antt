use Rattle.token_board.specs.Views.{item_of}
use Rattle.bank_shared.proofs.Publishes.{is_end}
use Rattle.bank_shared.proofs.publishing.BoardLog.end.Goals as goal

pub returns-clause-since : goal.returns-clause-since
returns-clause-since c before published =
    c.endings_are_claimed.ensures.ending c.args.self.now.board.now c.args.self.now.writer.now c.publish_answer.new.self before (item_of c.args.ending.now)
    c.requires.unclaimed (is_end c.args.ending.now) c.publish_answer.ensures.table c.publish_answer.ensures.log c.publish_answer.ensures.claimed published
