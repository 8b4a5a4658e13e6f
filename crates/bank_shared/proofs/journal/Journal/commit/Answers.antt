use Rattle.std.proofs.Common.{IfOk, IfErr, ap, sym, subst, ◌∙◌}
use Rattle.bank_model.specs.Rules.{named}
use Rattle.bank_accounts.specs.HeldAccounts.{AreHeld}
use Rattle.bank_engine.specs.Views.{JournalView}
use Rattle.bank_engine.specs.Calls.{Answers, FailsToCommit}
use Rattle.bank_shared.proofs.CallLemmas.{carried, true_committed, true_held}
use Rattle.token_board.specs.Tokens.{AreAbove}
use Rattle.token_board.specs.Views.{BoardView, NoteView, WriterView}
use Rattle.bank_shared.proofs.Publishes.{may_publish, heard, may_end, meets, of_board}
use Rattle.bank_shared.proofs.journal.Journal.commit.Goals as goal

pub commit_at-committed-requires-clause-named : goal.commit_at-committed-requires-clause-named
commit_at-committed-requires-clause-named g c =
    subst (λ (v : JournalView). AreHeld c.args.held.now (named v.setup v.state c.args.event.now)) (sym c.self.view_is) c.requires.named

pub commit_at-committed-requires-clause-expected : goal.commit_at-committed-requires-clause-expected
commit_at-committed-requires-clause-expected g c =
    let writer = of_board g.N.BankName.setup g.N.BankName.opening g.N.BankName.board c.args.board.now c.self.inside.writer c.hear.new.self c.requires.board c.hear.ensures.same.0 c.self.invariant.1 in
    may_publish g.N.BankName.setup g.N.BankName.opening g.N.BankName.first c.args.board.now c.hear.new.self _ c.args.at c.args.event.now
    c.steps_follow.ensures c.entries_belong.ensures.logs c.self.invariant.0 (ap (λ (w : WriterView). w.log) (sym c.hear.ensures.same.0)) writer
    c.book-book.ensures.within c.book-book.ensures.sound (c.requires.moment, rw (sym c.self.view_is) at c.requires.legal)

pub commit_at-committed-requires-clause-free : goal.commit_at-committed-requires-clause-free
commit_at-committed-requires-clause-free g c =
    may_end g.N.BankName.setup g.N.BankName.opening c.args.board.now c.hear.new.self
    (of_board g.N.BankName.setup g.N.BankName.opening g.N.BankName.board c.args.board.now c.self.inside.writer c.hear.new.self c.requires.board c.hear.ensures.same.0 c.self.invariant.1)

pub meet-requires-clause-above : goal.meet-requires-clause-above
meet-requires-clause-above g c =
    subst (λ (n : NoteView). AreAbove n.claimed c.hear.new.pass.mine) (sym c.note.ensures.note)
    (c.heard_passes_meet.ensures.may c.args.board.now c.commit_at-committed.new.writer c.hear.new.self.log c.hear.new.pass
    (heard c.args.board.now c.self.inside.writer c.hear.new.self c.args.pass.now c.hear.new.pass c.hear.ensures.same c.hear.ensures.seen c.hear.ensures.tokens c.hear.ensures.mine)
    c.commit_at-committed.ensures.published)

pub invariant_of-self : goal.invariant_of-self
invariant_of-self g c = (
  true_held g.N.BankName.setup g.N.BankName.opening g.N.BankName.first c.self.inside.engine c.commit_at-committed.new.engine
      (record { records = g.K.Keeper.records c.self.inside.keeper; landed = g.K.Keeper.landed c.self.inside.keeper; unsettled = g.K.Keeper.unsettled c.self.inside.keeper; faults = g.K.Keeper.faults c.self.inside.keeper })
      (record { records = g.K.Keeper.records c.commit_at-committed.new.keeper; landed = g.K.Keeper.landed c.commit_at-committed.new.keeper; unsettled = g.K.Keeper.unsettled c.commit_at-committed.new.keeper; faults = g.K.Keeper.faults c.commit_at-committed.new.keeper })
      c.self.inside.writer c.hear.new.self c.commit_at-committed.new.writer c.note.new.self
      c.hear.ensures.same.0 c.note.ensures.kept (λ holds. true_committed (λ reply. reply.items) c.commit_at-committed.result g.N.BankName.setup g.N.BankName.opening g.N.BankName.first _ _ c.args.event.now c.args.at
      (ap (λ (v : JournalView). v.pending) c.self.view_is ∙ c.requires.settled) c.commit_at-committed.ensures.answers c.commit_at-committed.ensures.fails holds) c.self.invariant.0,
  record {
    own = ap (λ (w : WriterView). w.table) c.note.ensures.kept ∙ (c.commit_at-committed.ensures.published.own ∙ ap (λ (b : BoardView). b.table) c.requires.board);
    unclaimed = ap (λ (w : WriterView). w.claimed) c.note.ensures.kept;
    begins = c.self.invariant.1.begins;
    belong = c.self.invariant.1.belong;
  },
  c.commit_at-committed.ensures.tables ∙ c.self.invariant.2,
)

pub returns-clause-answers : goal.returns-clause-answers
returns-clause-answers g c =
    carried (λ (old new : JournalView). IfOk c.commit_at-committed.result (λ reply. Answers old new c.args.event.now c.args.at reply.items)) c.self.inside.engine c.commit_at-committed.new.engine
    (record { records = g.K.Keeper.records c.self.inside.keeper; landed = g.K.Keeper.landed c.self.inside.keeper; unsettled = g.K.Keeper.unsettled c.self.inside.keeper; faults = g.K.Keeper.faults c.self.inside.keeper })
    (record { records = g.K.Keeper.records c.commit_at-committed.new.keeper; landed = g.K.Keeper.landed c.commit_at-committed.new.keeper; unsettled = g.K.Keeper.unsettled c.commit_at-committed.new.keeper; faults = g.K.Keeper.faults c.commit_at-committed.new.keeper })
    c.self.inside.writer c.hear.new.self c.commit_at-committed.new.writer c.note.new.self
    c.args.self.now c.self.view_is c.hear.ensures.same.0 c.note.ensures.kept c.commit_at-committed.ensures.answers

pub returns-clause-fails : goal.returns-clause-fails
returns-clause-fails g c =
    carried (λ (old new : JournalView). IfErr c.commit_at-committed.result (FailsToCommit old new c.args.event.now c.args.at)) c.self.inside.engine c.commit_at-committed.new.engine
    (record { records = g.K.Keeper.records c.self.inside.keeper; landed = g.K.Keeper.landed c.self.inside.keeper; unsettled = g.K.Keeper.unsettled c.self.inside.keeper; faults = g.K.Keeper.faults c.self.inside.keeper })
    (record { records = g.K.Keeper.records c.commit_at-committed.new.keeper; landed = g.K.Keeper.landed c.commit_at-committed.new.keeper; unsettled = g.K.Keeper.unsettled c.commit_at-committed.new.keeper; faults = g.K.Keeper.faults c.commit_at-committed.new.keeper })
    c.self.inside.writer c.hear.new.self c.commit_at-committed.new.writer c.note.new.self
    c.args.self.now c.self.view_is c.hear.ensures.same.0 c.note.ensures.kept c.commit_at-committed.ensures.fails

pub returns-clause-pass : goal.returns-clause-pass
returns-clause-pass g c =
    meets g.N.BankName.board c.args.board.now c.self.inside.writer c.hear.new.self c.commit_at-committed.new.writer c.args.pass.now c.hear.new.pass c.meet.new.self c.note.result _ _
    c.heard_passes_meet.ensures.meets c.requires.board c.hear.ensures.same c.hear.ensures.seen c.hear.ensures.tokens c.hear.ensures.mine c.commit_at-committed.ensures.published
    c.note.ensures.note c.meet.ensures.seen c.meet.ensures.mine c.meet.ensures.endings c.meet.ensures.kept
    (sym (ap (λ (v : JournalView). v.log) c.self.view_is)) (ap (λ (w : WriterView). w.log) c.note.ensures.kept)
