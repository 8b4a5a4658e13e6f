use Rattle.std.proofs.Common.{◌∙◌, arith}
use Rattle.bank_accounts.proofs.Sides.{known, changes_at, parts_at}
use Rattle.bank_accounts.proofs.side_steps.change.Goals as goal

pub store-requires : goal.store-requires
store-requires c =
    let both = c.bring_together.ensures in
    (both.0 ∙ c.requires.book_there, omega (arith, c.requires.one_word), changes_at _ _ _ _ _ _ both.1)

pub split_seat-requires : goal.split_seat-requires
split_seat-requires c =
    let both = c.bring_together.ensures in
    let stored = c.store.ensures in (
      stored.0 ∙ both.0 ∙ c.requires.book_there,
      omega (arith, c.requires.one_word),
      parts_at _ _ _ _ (known stored.2),
    )
