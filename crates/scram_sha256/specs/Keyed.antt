-- A key that is ready for use.
use Rattle.std.specs.Prelude.{List, ℕ}
use Rattle.sha2.specs.Hashers.{Holds256}
use Rattle.scram_sha256.specs.declared.hmac.Keyed.{Keyed}
use Rattle.scram_sha256.specs.Hmac.{inner_block, outer_block}

-- The two hashers have taken in the two blocks of the key.
pub record IsKeyed (key : List ℕ) (keyed : Keyed) : Type 0 where
  pub inner : Holds256 keyed.inner (inner_block key)
  pub outer : Holds256 keyed.outer (outer_block key)
