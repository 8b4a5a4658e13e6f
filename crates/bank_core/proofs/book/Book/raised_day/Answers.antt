use Rattle.std.proofs.Common.{sym, ap, ◌∙◌, subst}
use Rattle.std.specs.Int.{int_max}
use Rattle.ofx_types.specs.Calendar.{IsDay, day_of}
use Rattle.ofx_types.specs.declared.number.Day.{Day}
use Rattle.bank_invariants.proofs.RowLemmas.{IsDay-of_moment, IsDay-max}
use Rattle.bank_core.proofs.book.Book.raised_day.Goals as goal

pub returns-clause-known : goal.returns-clause-known
returns-clause-known g c =
    subst IsDay (sym (c.later.ensures ∙ ap (λ (d : Day). int_max d.0 (day_of c.args.at.0)) c.day.ensures))
    (IsDay-max c.self.inside.ledger.state.day.0 (day_of c.args.at.0) c.self.invariant.1.day (IsDay-of_moment c.args.at.0 c.requires))
