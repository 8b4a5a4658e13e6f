use Rattle.std.proofs.Common.{◌≡◌, ◌++◌, ◌-◌, take, map, length, replicate}
use Rattle.std.specs.Prelude.{bit_xor}
use Rattle.sha2.specs.Hashers.{Holds256}
use Rattle.scram_sha256.proofs.hmac.begun.Given as goal

abbrev pub invariant-loop-b : goal.invariant-loop-b
invariant-loop-b l = Holds256 l.hasher (map (λ b. bit_xor b l.pad) (take l.b-index l.key))

abbrev pub invariant-loop : goal.invariant-loop
invariant-loop l = Holds256 l.hasher (map (λ b. bit_xor b l.pad) l.key ++ replicate (l.counter - length l.key) l.pad)
