use Rattle.std.proofs.Common.{◌≡◌, drop}
use Rattle.std.specs.List.{flat_map}
use Rattle.bank_model.specs.Rules.{named_by_pair}
use Rattle.bank_model.specs.Naming.{with_all}
use Rattle.bank_model.proofs.named.add_deeds.Given as goal

-- the accounts so far and those of the rest are those of all
abbrev pub invariant-loop-deed : goal.invariant-loop-deed
invariant-loop-deed l = with_all l.accounts.items (flat_map (named_by_pair l.setup) (drop l.deed-index l.deeds)) ≡ with_all l.fn.accounts.items (flat_map (named_by_pair l.setup) l.deeds)
