use Rattle.std.proofs.Common.{◌∙◌, arith}
use Rattle.bank_accounts.proofs.Sides.{known, holding, hands_at, meets_at}
use Rattle.bank_accounts.proofs.side_steps.bring_together.Goals as goal

pub split_seat-theirs-requires : goal.split_seat-theirs-requires
split_seat-theirs-requires c =
    (c.requires.account_there, omega (arith, c.requires.one_word), hands_at _ _ _ (known c.requires.of_account))

pub join_seat-requires : goal.join_seat-requires
join_seat-requires c =
    let sides = c.requires in
    let theirs = c.split_seat-theirs.ensures in (
      sides.book_there,
      theirs.3 ∙ sides.account_there,
      holding theirs.4,
      omega (arith, sides.one_word),
      meets_at _ _ _ _ _ _ (known sides.of_book) (known theirs.4 ∙ known sides.of_account),
    )
