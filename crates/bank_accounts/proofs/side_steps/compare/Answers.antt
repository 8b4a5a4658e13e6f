use Rattle.std.proofs.Common.{◌∙◌, arith}
use Rattle.bank_accounts.proofs.Sides.{known, compares_at, parts_at}
use Rattle.bank_accounts.proofs.side_steps.compare.Goals as goal

pub load-requires : goal.load-requires
load-requires c =
    let both = c.bring_together.ensures in
    (both.0 ∙ c.requires.book_there, omega (arith, c.requires.one_word), compares_at _ _ _ _ _ both.1)

pub split_seat-requires : goal.split_seat-requires
split_seat-requires c =
    let both = c.bring_together.ensures in
    let loaded = c.load.ensures in (
      loaded.0 ∙ both.0 ∙ c.requires.book_there,
      omega (arith, c.requires.one_word),
      parts_at _ _ _ _ ((λ i. (loaded.2.1 i).0) ∙ loaded.2.0),
    )
