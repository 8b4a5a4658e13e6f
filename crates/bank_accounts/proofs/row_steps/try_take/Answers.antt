use Rattle.std.proofs.Common.{◌∙◌, ap, sym, Some, ◌∷◌, List, ℕ, Option, arith}
use Rattle.atomic_table.specs.Table.{rest}
use Rattle.bank_accounts.specs.AccountView.{AccountView}
use Rattle.bank_accounts.proofs.Turns.{takes_turn}
use Rattle.bank_accounts.proofs.row_steps.try_take.Goals as goal

pub swap_new_seat-found-requires : goal.swap_new_seat-found-requires
swap_new_seat-found-requires c =
    (omega (arith, c.requires.row.word_count, c.requires.known), takes_turn _ _ _ c.args.table.now.key c.requires.known)

pub exchange-requires : goal.exchange-requires
exchange-requires c =
    let taken = c.swap_new_seat-found.ensures.1 c.if-found-eq0.true in (
      c.swap_new_seat-found.ensures.0,
      (Some taken.0, taken.1 ∙ ap (λ (held : List (ℕ × Option AccountView)). (c.args.number, Some taken.0) ∷ rest held) (sym taken.1)),
    )
