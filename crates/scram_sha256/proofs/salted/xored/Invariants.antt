use Rattle.std.proofs.Common.{◌≡◌, ℕ, ◌<◌, get_or, length, List}
use Rattle.std.specs.Prelude.{bit_xor}
use Rattle.scram_sha256.proofs.salted.xored.Given as goal

-- The bytes so far.
pub record AreXored (count : ℕ) (both one other : List ℕ) : Type 0 where
  pub long : length both ≡ 32
  pub so_far : (k : ℕ) → k < count → get_or both k 0 ≡ bit_xor (get_or one k 0) (get_or other k 0)

abbrev pub invariant-loop-i : goal.invariant-loop-i
invariant-loop-i l = AreXored l.i l.both l.one l.other
