-- The bytes of a file, read after its first line.
use Rattle.std.proofs.Common.{◌≡◌, ℕ, List, ◌++◌, Option}
use Rattle.std.specs.Io.KnownBytes.{Keeps, prepend_known}

-- these bytes were read after those before
pub record Grows (old : List ℕ) (before : Option (List ℕ)) (new : List ℕ) (after : Option (List ℕ)) : Type 0 where
  pub bytes : List ℕ
  pub grown : new ≡ old ++ bytes
  pub kept : Keeps before (prepend_known bytes after)
