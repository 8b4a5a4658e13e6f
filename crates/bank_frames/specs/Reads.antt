-- What reading ahead does.
use Rattle.std.specs.Prelude.{◌≡◌, ℕ, List, ◌++◌, length, Option}
use Rattle.std.specs.Io.KnownBytes.{Consumes, IsAtEnd}

-- So many bytes more are ahead, which the source has lost. None are more only at its end.
pub record ReadsMore (old new : List ℕ) (before after : Option (List ℕ)) (count : ℕ) : Type 0 where
  pub bytes : List ℕ
  pub counted : length bytes ≡ count
  pub ahead : new ≡ old ++ bytes
  pub consumed : Consumes before after bytes
  pub at_end : count ≡ 0 → IsAtEnd after
