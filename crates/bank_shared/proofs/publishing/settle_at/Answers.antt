use Rattle.std.proofs.Common.{rules}
use Rattle.bank_shared.proofs.Publishes.{has_published}
use Rattle.bank_shared.proofs.publishing.settle_at.Goals as goal

pub returns-clause-published : goal.returns-clause-published
returns-clause-published g c =
    let published = has_published c.args.board.now c.settle.new.log.board.now c.args.writer.now c.settle.new.log.writer.now c.requires.free c.settle.ensures.target
    (c.settle.ensures.since c.args.writer.now.log) in search (rules, published)
