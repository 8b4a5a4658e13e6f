use Rattle.std.proofs.Common.{◌≡◌, ℕ, ◌<◌, length, map, get_or}
use Rattle.bank_model.specs.Rules.{opening_state}
use Rattle.bank_accounts.specs.AccountView.{AccountView}
use Rattle.bank_accounts.specs.Sides.{side_of}
use Rattle.bank_ledger.specs.Balanced.{AreBalanced}
use Rattle.bank_core.proofs.opening.opened_accounts.Given as goal

abbrev pub invariant-loop-index : goal.invariant-loop-index
invariant-loop-index l = record {
  count : length l.accounts.items ≡ l.index;
  numbered : (k : ℕ) (d : AccountView) → k < length l.accounts.items → (get_or l.accounts.items k d).number.0 ≡ k;
  balanced : AreBalanced l.setup opening_state l.accounts.items;
  sides : l.sides.items ≡ map side_of l.accounts.items;
}
