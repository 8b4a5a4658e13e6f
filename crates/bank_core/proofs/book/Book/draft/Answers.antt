use Rattle.std.proofs.Common.{sym, ap, ◌∙◌, subst}
use Rattle.std.specs.Int.{int_max}
use Rattle.ofx_types.specs.Calendar.{IsDay, day_of}
use Rattle.ofx_types.specs.declared.number.Day.{Day}
use Rattle.bank_invariants.proofs.RowLemmas.{IsDay-of_moment, IsDay-max}
use Rattle.bank_ledger.specs.Balanced.{AreBalanced}
use Rattle.bank_core.specs.BookView.{ReservedBook}
use Rattle.bank_core.proofs.book.Book.draft.Goals as goal

pub new-requires-clause-balanced : goal.new-requires-clause-balanced
new-requires-clause-balanced g c = subst (λ (b : ReservedBook). AreBalanced b.setup b.state c.args.held.now) (sym c.self.view_is) c.requires.balanced

pub new-requires-clause-day : goal.new-requires-clause-day
new-requires-clause-day g c =
    subst IsDay (sym (c.later-day.ensures ∙ ap (λ (d : Day). int_max d.0 (day_of c.args.sent.1.0)) c.day.ensures))
    (IsDay-max c.self.inside.ledger.state.day.0 (day_of c.args.sent.1.0) c.self.invariant.1.day (IsDay-of_moment c.args.sent.1.0 c.requires.moment))
