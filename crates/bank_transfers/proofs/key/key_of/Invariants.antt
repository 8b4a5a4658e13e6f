use Rattle.std.proofs.Common.{◌≡◌, take, fold}
use Rattle.bank_transfers.specs.Chain.{key_step}
use Rattle.bank_transfers.proofs.key.key_of.Given as goal

abbrev pub invariant-loop-byte : goal.invariant-loop-byte
invariant-loop-byte l = l.key ≡ fold key_step 0 (take l.byte-index l.byte-items)
