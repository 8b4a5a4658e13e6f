use Rattle.std.proofs.Common.{◌≡◌, ℕ, List, [], ◌∷◌, Some, slice_get, subst, ap}
use Rattle.atomic_table.specs.Seated.{TableId}
use Rattle.bank_accounts.specs.AccountView.{AccountView}
use Rattle.bank_accounts.specs.Sides.{IsOf}
use Rattle.bank_tests.proofs.account_turns.set_in_turn.Goals as goal

-- the account of a row of one has the row's only table
only_table : (tables : List TableId) (table : TableId) (account : AccountView) → tables ≡ table ∷ [] → account.number.0 ≡ 0 → IsOf tables account → table ≡ account.table
only_table tables table account is first own =
    let found : Some table ≡ Some account.table =
    subst (λ (n : ℕ). slice_get (table ∷ []) n ≡ Some account.table) first
    (subst (λ (ts : List TableId). slice_get ts account.number.0 ≡ Some account.table) is own) in
    cc

pub meet-requires : goal.meet-requires
meet-requires g c =
    let taken = c.take-account.ensures.account in
    only_table c.args.row.now.tables c.args.book.table c.take-account.result.0 c.requires.of_row (ap (λ n. n.0) taken.0) taken.1
