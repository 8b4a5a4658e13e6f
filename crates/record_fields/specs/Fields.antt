-- What it means that a field of a record is the coding of a value.
use Rattle.std.specs.Prelude.{◌≡◌, ℕ, ◌<◌, ◌≤◌, List, ◌++◌, length, drop, slice_index, Result, Ok}

-- A record consists of bytes.
abbrev pub IsBytes : List ℕ → Type 0
IsBytes rec = (i : ℕ) → slice_index rec i < 256

-- These bytes are in a record from an offset up to the next.
pub record IsCodedAt (rec : List ℕ) (at : ℕ) (bytes : List ℕ) (next : ℕ) : Type 0 where
  pub parts : drop at rec ≡ bytes ++ drop next rec
  pub within : next ≤ length rec

-- Reading gives a value exactly where its coding is, of the values that are within their bounds.
pub record IsField {A : Type 0} (read : List ℕ → ℕ → Result (A × ℕ) ℕ) (coding : A → List ℕ) (Fits : A → Type 0) : Type 0 where
  pub holds : (rec : List ℕ) (at : ℕ) (found : A × ℕ) → IsBytes rec → at ≤ length rec → read rec at ≡ Ok found
      → IsCodedAt rec at (coding found.0) found.1 × Fits found.0
  pub again : (rec : List ℕ) (at : ℕ) (value : A) (next : ℕ) → at ≤ length rec → IsCodedAt rec at (coding value) next → Fits value
      → read rec at ≡ Ok (value, next)
