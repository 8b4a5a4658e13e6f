use Rattle.std.proofs.Common.{◌≡◌, ◌++◌, take}
use Rattle.scram_sha256.specs.Exchange.{escaped}
use Rattle.scram_sha256.proofs.exchange.escape.Given as goal

-- the bytes so far are appended
abbrev pub invariant-loop-byte : goal.invariant-loop-byte
invariant-loop-byte l = l.text.items ≡ l.fn.text.items ++ escaped (take l.byte-index l.user)
