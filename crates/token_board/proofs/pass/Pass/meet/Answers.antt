use Rattle.std.proofs.Common.{ℕ, List, drop, rules, sym, ap, ◌∙◌, subst}
use Rattle.atomic_table.specs.Table.{Me}
use Rattle.token_board.specs.declared.view.View.{View}
use Rattle.token_board.specs.Tokens.{AreAbove}
use Rattle.token_board.specs.Views.{PassView}
use Rattle.token_board.proofs.Keeping.{any_step, joins_note, compares_logs}
use Rattle.token_board.proofs.Holding.{meets}
use Rattle.token_board.proofs.pass.Pass.meet.Goals as goal

pub join_seat-requires : goal.join_seat-requires
join_seat-requires c = (
  search rules,
  search rules,
  c.into_seat.ensures.note.slots,
  search rules,
  joins_note (drop 1 c.board.inside.table.shared.key.value) c.self.inside.seat.id c.self.inside.seat.me.0 c.into_seat.result.id c.into_seat.result.me.0,
)

pub load-requires : goal.load-requires
load-requires c = (
  search rules,
  search rules,
  compares_logs (drop 1 c.board.inside.table.shared.key.value) c.board.inside.table.shared.table_id.slots c.join_seat.new.seat.id c.join_seat.new.seat.me any_step
      (ap (λ (m : Me (Unit {0}) View). m.0.writes) c.join_seat.ensures.2 ∙ c.self.invariant.writes),
)

pub invariant_of-self : goal.invariant_of-self
invariant_of-self c =
    let mine = ap (λ (v : PassView). v.mine) c.self.view_is in
    let claimed = c.into_seat.ensures.view.2 in
    let above = subst (λ (x : List ℕ × List ℕ). AreAbove x.0 x.1) (λ i. (sym claimed i, sym mine i)) c.requires.above in
    (meets any_step c.load.result c.self.inside.seat.me c.into_seat.result.me c.join_seat.new.seat.me c.load.new.seat.me c.self.invariant c.into_seat.ensures.note above c.join_seat.ensures.2 c.load.ensures.2).holds

pub returns-clause-endings : goal.returns-clause-endings
returns-clause-endings c =
    let mine = ap (λ (v : PassView). v.mine) c.self.view_is in
    let claimed = c.into_seat.ensures.view.2 in
    let above = subst (λ (x : List ℕ × List ℕ). AreAbove x.0 x.1) (λ i. (sym claimed i, sym mine i)) c.requires.above in
    (meets any_step c.load.result c.self.inside.seat.me c.into_seat.result.me c.join_seat.new.seat.me c.load.new.seat.me c.self.invariant c.into_seat.ensures.note above c.join_seat.ensures.2 c.load.ensures.2).holds.mine
