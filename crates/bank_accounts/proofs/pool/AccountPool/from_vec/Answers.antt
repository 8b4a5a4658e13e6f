use Rattle.std.proofs.Common.{◌≡◌, [], List, Option, Some, map, sym, subst, arith}
use Rattle.std.proofs.lemmas.Grind.{common_steps}
use Rattle.bank_accounts.specs.AccountView.{AccountView}
use Rattle.bank_accounts.specs.Pool.{AreUnderNumbers, AreCheckedOut}
use Rattle.bank_accounts.specs.Sides.{tables_of}
use Rattle.bank_accounts.proofs.HomeLemmas.{numbered_slots, all_pooled}
use Rattle.bank_accounts.proofs.pool.AccountPool.from_vec.Goals as goal

pub invariant_of-result : goal.invariant_of-result
invariant_of-result c =
    let same : c.reverse.new.self.items ≡ map Some c.args.accounts.items = grind (arith, common_steps) in
    subst AreUnderNumbers (sym same) (numbered_slots c.args.accounts.items c.requires)

pub returns-clause-pool : goal.returns-clause-pool
returns-clause-pool c =
    let same : c.reverse.new.self.items ≡ map Some c.args.accounts.items = grind (arith, common_steps) in
    subst (λ (slots : List (Option AccountView)). AreCheckedOut (tables_of c.args.accounts.items) slots []) (sym same) (all_pooled c.args.accounts.items c.requires)
