use Rattle.std.proofs.Common.{drop, rules, ap, ◌∙◌}
use Rattle.atomic_table.specs.Table.{Me}
use Rattle.token_board.specs.declared.view.View.{View}
use Rattle.token_board.specs.Views.{BoardView, PassView, WriterView}
use Rattle.token_board.proofs.Keeping.{splits_child, joins_child}
use Rattle.token_board.proofs.Holding.{tokens_along, mine_within}
use Rattle.token_board.proofs.writer.Writer.hear.Goals as goal

pub split_seat-child-requires : goal.split_seat-child-requires
split_seat-child-requires c = (
  search rules,
  search rules,
  splits_child (drop 1 c.board.inside.table.shared.key.value) c.pass.inside.seat.id c.pass.inside.seat.me.0,
)

pub join_seat-requires : goal.join_seat-requires
join_seat-requires c = (
  search rules,
  search rules,
  search rules,
  search rules,
  joins_child (drop 1 c.board.inside.table.shared.key.value) c.self.inside.seat.id c.self.inside.seat.me.0 c.split_seat-child.result.id c.split_seat-child.result.me.0,
)

pub returns-clause-tokens : goal.returns-clause-tokens
returns-clause-tokens c =
    let start = ap (λ (v : BoardView). v.start) c.board.view_is in
    let log = ap (λ (m : Me (Unit {0}) View). m.0.seen) c.join_seat.ensures.2 ∙ ap (λ (v : WriterView). v.log) c.self.view_is in
    let loads =
    ap (λ (m : Me (Unit {0}) View). m.0.tokens) c.join_seat.ensures.2 ∙ ap (λ (m : Me (Unit {0}) View). m.0.tokens) c.split_seat-child.ensures.4
    ∙ ap (λ (v : PassView). v.polled) c.pass.view_is in
    tokens_along start log loads c.check_heard.ensures.tokens

pub returns-clause-mine : goal.returns-clause-mine
returns-clause-mine c =
    let log = ap (λ (m : Me (Unit {0}) View). m.0.seen) c.join_seat.ensures.2 ∙ ap (λ (v : WriterView). v.log) c.self.view_is in
    let heard = ap (λ (m : Me (Unit {0}) View). m.0.heard) c.join_seat.ensures.2 ∙ ap (λ (m : Me (Unit {0}) View). m.0.seen) c.split_seat-child.ensures.4 in
    mine_within heard log (ap (λ (v : PassView). v.mine) c.pass.view_is) c.check_heard.ensures.seen c.pass.invariant.mine
