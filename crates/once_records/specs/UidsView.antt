-- The uids that one event uses up.
use Rattle.std.specs.Prelude.{◌≡◌, ℕ, List, bytes_eq}
use Rattle.std.specs.List.{list_any}

-- the same uids are in both lists, in whatever order and however often
abbrev pub HaveSameUids : List (List ℕ) → List (List ℕ) → Type 0
HaveSameUids known order = (uid : List ℕ) → list_any (bytes_eq uid) known ≡ list_any (λ used. bytes_eq used uid) order
