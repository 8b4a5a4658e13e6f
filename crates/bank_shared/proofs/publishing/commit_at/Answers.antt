use Rattle.std.proofs.Common.{◌∙◌, rules}
use Rattle.token_board.specs.Publishing.{MayPublish}
use Rattle.bank_shared.proofs.CallLemmas.{named_again, expects_again}
use Rattle.bank_shared.proofs.Publishes.{has_published}
use Rattle.bank_shared.proofs.publishing.commit_at.Goals as goal

pub commit-requires-clause-named : goal.commit-requires-clause-named
commit-requires-clause-named g c =
    named_again c.args.engine.now.setup c.prepare.new.self.setup c.args.engine.now.state c.prepare.new.self.state c.args.event.now c.in_ok-ready.ready.event c.args.held.now c.prepare.new.held
    c.prepare.ensures.setup c.prepare.ensures.state (c.in_ok-ready.ensures.event ∙ c.in-Ok.ensures) c.prepare.ensures.accounts c.requires.named

pub commit-requires-clause-expected : goal.commit-requires-clause-expected
commit-requires-clause-expected g c =
    expects_again (MayPublish c.args.board.now c.args.writer.now) c.args.engine.now.setup c.prepare.new.self.setup c.args.engine.now.state c.prepare.new.self.state
    c.args.at c.in_ok-ready.ready.at c.args.event.now c.in_ok-ready.ready.event
    c.prepare.ensures.setup c.prepare.ensures.state c.in_ok-ready.ensures.at (c.in_ok-ready.ensures.event ∙ c.in-Ok.ensures) c.requires.expected

pub returns-clause-published : goal.returns-clause-published
returns-clause-published g c =
    let published = has_published c.args.board.now c.commit.new.log.board.now c.args.writer.now c.commit.new.log.writer.now c.requires.free c.commit.ensures.target
    (c.commit.ensures.since c.args.writer.now.log) in search (rules, published)
