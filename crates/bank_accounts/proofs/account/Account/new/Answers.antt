use Rattle.std.proofs.Common.{arith}
use Rattle.bank_accounts.proofs.Sides.{known, begins, parts_at}
use Rattle.bank_accounts.proofs.account.Account.new.Goals as goal

pub of_words-requires : goal.of_words-requires
of_words-requires c = begins _

pub split_seat-side-requires : goal.split_seat-side-requires
split_seat-side-requires c =
    let made = c.in_ok-table.ensures in
    (made.2, omega (arith, made.0), parts_at _ _ _ _ (known made.4))
