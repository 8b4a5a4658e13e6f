use Rattle.std.proofs.Common.{◌≡◌, [], drop}
use Rattle.std.specs.List.{flat_map}
use Rattle.bank_model.specs.Rules.{named_by}
use Rattle.bank_model.specs.Naming.{with_all}
use Rattle.bank_model.proofs.named.accounts_of_asks.Given as goal

-- the accounts so far and those of the rest are those of all
abbrev pub invariant-loop-ask : goal.invariant-loop-ask
invariant-loop-ask l = with_all l.accounts.items (flat_map (named_by l.setup) (drop l.ask-index l.asks)) ≡ with_all [] (flat_map (named_by l.setup) l.asks)
