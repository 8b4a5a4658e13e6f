use Rattle.std.proofs.Common.{ap, sym, subst, ◌∙◌}
use Rattle.std.proofs.lemmas.Result.{err_from_is_err_and}
use Rattle.std.specs.Option.{IfSome}
use Rattle.bank_model.specs.Rules.{named}
use Rattle.bank_accounts.specs.HeldAccounts.{AreHeld}
use Rattle.bank_engine.specs.Views.{PendingView, JournalView}
use Rattle.bank_engine.specs.Calls.{Settles, FailsToSettle}
use Rattle.bank_engine.proofs.Truth.{true_settled, true_unsettled}
use Rattle.token_board.specs.Tokens.{AreAbove}
use Rattle.token_board.specs.Views.{BoardView, NoteView, WriterView}
use Rattle.bank_shared.proofs.CallLemmas.{carried, true_held}
use Rattle.bank_shared.proofs.Publishes.{may_settle, heard, may_end, meets, of_board}
use Rattle.bank_shared.proofs.journal.Journal.settle.Goals as goal

pub settle_at-settled-requires-clause-named : goal.settle_at-settled-requires-clause-named
settle_at-settled-requires-clause-named g c =
    subst (λ (v : JournalView). IfSome v.pending (λ (p : PendingView). AreHeld c.args.held.now (named v.setup v.state p.event))) (sym c.self.view_is) c.requires.named

pub settle_at-settled-requires-clause-expected : goal.settle_at-settled-requires-clause-expected
settle_at-settled-requires-clause-expected g c =
    let writer = of_board g.N.BankName.setup g.N.BankName.opening g.N.BankName.board c.args.board.now c.self.inside.writer c.hear.new.self c.requires.board c.hear.ensures.same.0 c.self.invariant.1 in
    may_settle g.N.BankName.setup g.N.BankName.opening g.N.BankName.first c.args.board.now c.hear.new.self _ c.self.inside.engine.pending
    c.steps_follow.ensures c.entries_belong.ensures.logs c.self.invariant.0 (ap (λ (w : WriterView). w.log) (sym c.hear.ensures.same.0)) writer
    c.book-book.ensures.within c.book-book.ensures.sound c.pending-pending.ensures.may

pub settle_at-settled-requires-clause-free : goal.settle_at-settled-requires-clause-free
settle_at-settled-requires-clause-free g c =
    may_end g.N.BankName.setup g.N.BankName.opening c.args.board.now c.hear.new.self
    (of_board g.N.BankName.setup g.N.BankName.opening g.N.BankName.board c.args.board.now c.self.inside.writer c.hear.new.self c.requires.board c.hear.ensures.same.0 c.self.invariant.1)

pub meet-requires-clause-above : goal.meet-requires-clause-above
meet-requires-clause-above g c =
    subst (λ (n : NoteView). AreAbove n.claimed c.hear.new.pass.mine) (sym c.note.ensures.note)
    (c.heard_passes_meet.ensures.may c.args.board.now c.settle_at-settled.new.writer c.hear.new.self.log c.hear.new.pass
    (heard c.args.board.now c.self.inside.writer c.hear.new.self c.args.pass.now c.hear.new.pass c.hear.ensures.same c.hear.ensures.seen c.hear.ensures.tokens c.hear.ensures.mine)
    c.settle_at-settled.ensures.published)

pub invariant_of-self : goal.invariant_of-self
invariant_of-self g c = (
  true_held g.N.BankName.setup g.N.BankName.opening g.N.BankName.first c.self.inside.engine c.settle_at-settled.new.engine
      (record { records = g.K.Keeper.records c.self.inside.keeper; landed = g.K.Keeper.landed c.self.inside.keeper; unsettled = g.K.Keeper.unsettled c.self.inside.keeper; faults = g.K.Keeper.faults c.self.inside.keeper })
      (record { records = g.K.Keeper.records c.settle_at-settled.new.keeper; landed = g.K.Keeper.landed c.settle_at-settled.new.keeper; unsettled = g.K.Keeper.unsettled c.settle_at-settled.new.keeper; faults = g.K.Keeper.faults c.settle_at-settled.new.keeper })
      c.self.inside.writer c.hear.new.self c.settle_at-settled.new.writer c.note.new.self
      c.hear.ensures.same.0 c.note.ensures.kept (λ holds. true_unsettled g.N.BankName.setup g.N.BankName.opening g.N.BankName.first _ _ c.in_err-_adopted.field-0.0 c.in_err-_adopted.ensures.fails holds) c.self.invariant.0,
  record {
    own = ap (λ (w : WriterView). w.table) c.note.ensures.kept ∙ (c.settle_at-settled.ensures.published.own ∙ ap (λ (b : BoardView). b.table) c.requires.board);
    unclaimed = ap (λ (w : WriterView). w.claimed) c.note.ensures.kept;
    begins = c.self.invariant.1.begins;
    belong = c.self.invariant.1.belong;
  },
  c.settle_at-settled.ensures.tables ∙ c.self.invariant.2,
)

pub invariant_of-self-2 : goal.invariant_of-self-2
invariant_of-self-2 g c = (
  true_held g.N.BankName.setup g.N.BankName.opening g.N.BankName.first c.self.inside.engine c.settle_at-settled.new.engine
      (record { records = g.K.Keeper.records c.self.inside.keeper; landed = g.K.Keeper.landed c.self.inside.keeper; unsettled = g.K.Keeper.unsettled c.self.inside.keeper; faults = g.K.Keeper.faults c.self.inside.keeper })
      (record { records = g.K.Keeper.records c.settle_at-settled.new.keeper; landed = g.K.Keeper.landed c.settle_at-settled.new.keeper; unsettled = g.K.Keeper.unsettled c.settle_at-settled.new.keeper; faults = g.K.Keeper.faults c.settle_at-settled.new.keeper })
      c.self.inside.writer c.hear.new.self c.settle_at-settled.new.writer c.note.new.self
      c.hear.ensures.same.0 c.note.ensures.kept (λ holds. true_settled g.N.BankName.setup g.N.BankName.opening g.N.BankName.first _ _ c.in_ok-_adopted._adopted c.in_ok-_adopted.ensures.settled holds) c.self.invariant.0,
  record {
    own = ap (λ (w : WriterView). w.table) c.note.ensures.kept ∙ (c.settle_at-settled.ensures.published.own ∙ ap (λ (b : BoardView). b.table) c.requires.board);
    unclaimed = ap (λ (w : WriterView). w.claimed) c.note.ensures.kept;
    begins = c.self.invariant.1.begins;
    belong = c.self.invariant.1.belong;
  },
  c.settle_at-settled.ensures.tables ∙ c.self.invariant.2,
)

pub returns-in_err-_adopted-clause-fails : goal.returns-in_err-_adopted-clause-fails
returns-in_err-_adopted-clause-fails g c =
    let p = err_from_is_err_and c.from_residual.result c.from_residual.ensures.1 in
    rw (p.1, p.2) (carried (λ (old new : JournalView). FailsToSettle old new c.in_err-_adopted.field-0.0) c.self.inside.engine c.settle_at-settled.new.engine
    (record { records = g.K.Keeper.records c.self.inside.keeper; landed = g.K.Keeper.landed c.self.inside.keeper; unsettled = g.K.Keeper.unsettled c.self.inside.keeper; faults = g.K.Keeper.faults c.self.inside.keeper })
    (record { records = g.K.Keeper.records c.settle_at-settled.new.keeper; landed = g.K.Keeper.landed c.settle_at-settled.new.keeper; unsettled = g.K.Keeper.unsettled c.settle_at-settled.new.keeper; faults = g.K.Keeper.faults c.settle_at-settled.new.keeper })
    c.self.inside.writer c.hear.new.self c.settle_at-settled.new.writer c.note.new.self
    c.args.self.now c.self.view_is c.hear.ensures.same.0 c.note.ensures.kept c.in_err-_adopted.ensures.fails)

pub returns-clause-settled : goal.returns-clause-settled
returns-clause-settled g c = (
  c.in_ok-_adopted._adopted,
  carried (λ (old new : JournalView). Settles old new c.in_ok-_adopted._adopted) c.self.inside.engine c.settle_at-settled.new.engine
      (record { records = g.K.Keeper.records c.self.inside.keeper; landed = g.K.Keeper.landed c.self.inside.keeper; unsettled = g.K.Keeper.unsettled c.self.inside.keeper; faults = g.K.Keeper.faults c.self.inside.keeper })
      (record { records = g.K.Keeper.records c.settle_at-settled.new.keeper; landed = g.K.Keeper.landed c.settle_at-settled.new.keeper; unsettled = g.K.Keeper.unsettled c.settle_at-settled.new.keeper; faults = g.K.Keeper.faults c.settle_at-settled.new.keeper })
      c.self.inside.writer c.hear.new.self c.settle_at-settled.new.writer c.note.new.self
      c.args.self.now c.self.view_is c.hear.ensures.same.0 c.note.ensures.kept c.in_ok-_adopted.ensures.settled,
)

pub returns-in_err-_adopted-clause-pass : goal.returns-in_err-_adopted-clause-pass
returns-in_err-_adopted-clause-pass g c =
    meets g.N.BankName.board c.args.board.now c.self.inside.writer c.hear.new.self c.settle_at-settled.new.writer c.args.pass.now c.hear.new.pass c.meet.new.self c.note.result _ _
    c.heard_passes_meet.ensures.meets c.requires.board c.hear.ensures.same c.hear.ensures.seen c.hear.ensures.tokens c.hear.ensures.mine c.settle_at-settled.ensures.published
    c.note.ensures.note c.meet.ensures.seen c.meet.ensures.mine c.meet.ensures.endings c.meet.ensures.kept
    (sym (ap (λ (v : JournalView). v.log) c.self.view_is)) (ap (λ (w : WriterView). w.log) c.note.ensures.kept)

pub returns-clause-pass : goal.returns-clause-pass
returns-clause-pass g c =
    meets g.N.BankName.board c.args.board.now c.self.inside.writer c.hear.new.self c.settle_at-settled.new.writer c.args.pass.now c.hear.new.pass c.meet.new.self c.note.result _ _
    c.heard_passes_meet.ensures.meets c.requires.board c.hear.ensures.same c.hear.ensures.seen c.hear.ensures.tokens c.hear.ensures.mine c.settle_at-settled.ensures.published
    c.note.ensures.note c.meet.ensures.seen c.meet.ensures.mine c.meet.ensures.endings c.meet.ensures.kept
    (sym (ap (λ (v : JournalView). v.log) c.self.view_is)) (ap (λ (w : WriterView). w.log) c.note.ensures.kept)
