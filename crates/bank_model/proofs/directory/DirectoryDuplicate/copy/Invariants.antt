use Rattle.std.proofs.Common.{◌≡◌, take}
use Rattle.bank_model.proofs.directory.DirectoryDuplicate.copy.Given as goal

-- the copies so far are those of the items so far
abbrev pub invariant-loop-item : goal.invariant-loop-item
invariant-loop-item g l = (l.items.items ≡ take l.item-index l.item-items) × (l.item-items ≡ l.self)
