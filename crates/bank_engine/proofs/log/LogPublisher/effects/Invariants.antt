use Rattle.std.proofs.Common.{◌≡◌, ◌++◌, map, take}
use Rattle.bank_model.specs.declared.log.LogItem.TheVariants.{Effect}
use Rattle.bank_engine.proofs.log.LogPublisher.effects.Given as goal

-- the entries so far are published
abbrev pub invariant-loop-entry : goal.invariant-loop-entry
invariant-loop-entry l = l.self ≡ l.fn.self ++ map Effect (take l.entry-index l.entries)
