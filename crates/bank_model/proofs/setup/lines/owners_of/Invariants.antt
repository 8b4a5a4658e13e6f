use Rattle.std.proofs.Common.{◌≡◌, length}
use Rattle.bank_model.specs.SetupReading.{words_of, owners_from, owners_at}
use Rattle.bank_model.proofs.setup.lines.owners_of.Given as goal

-- the owners so far, and those of the names that are left
abbrev pub invariant-loop-name : goal.invariant-loop-name
invariant-loop-name l = owners_from l.users l.owners (words_of l.rest) ≡ owners_at l.users l.fn.names

abbrev pub decreases-loop-name : goal.decreases-loop-name
decreases-loop-name l = length l.rest
