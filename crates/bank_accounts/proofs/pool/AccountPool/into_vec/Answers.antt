use Rattle.std.proofs.Common.{◌≡◌, ◌∷◌, ◌++◌, [], ◌∙◌, None, Some, map, reverse, sym, subst, arith}
use Rattle.std.proofs.lemmas.Grind.{common_steps}
use Rattle.bank_accounts.specs.Pool.{AreUnderNumbers}
use Rattle.bank_accounts.proofs.HomeLemmas.{no_empty_slot, slots_numbered, tables_back}
use Rattle.bank_accounts.proofs.pool.AccountPool.into_vec.Goals as goal

pub loop-slot-preserved : goal.loop-slot-preserved
loop-slot-preserved c =
    let last : c.loop-slot.slots.items ≡ c.pop.new.self.items ++ None ∷ [] = grind (arith, common_steps) in
    absurd (no_empty_slot c.args.self c.loop-slot.slots.items c.pop.new.self.items (map Some (reverse c.loop-slot.accounts.items)) c.requires c.loop-slot.invariant last)

pub returns-clause-numbered : goal.returns-clause-numbered
returns-clause-numbered c =
    let same : map Some c.reverse.new.self.items ≡ c.self.inside.slots.items = grind (arith, common_steps) in
    slots_numbered c.reverse.new.self.items (subst AreUnderNumbers (sym same) c.self.invariant)

pub returns-clause-tables : goal.returns-clause-tables
returns-clause-tables c tables checked_out =
    let same : map Some c.reverse.new.self.items ≡ c.self.inside.slots.items = grind (arith, common_steps) in
    tables_back tables c.args.self c.reverse.new.self.items (same ∙ c.self.view_is) (slots_numbered c.reverse.new.self.items (subst AreUnderNumbers (sym same) c.self.invariant)) checked_out
