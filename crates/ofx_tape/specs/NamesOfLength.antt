-- Names of one length.
use Rattle.std.specs.Prelude.{ℕ, ◌==◌, List, length, filter}

abbrev pub of_length : ℕ → List (List ℕ) → List (List ℕ)
of_length n names = filter (λ name. length name == n) names
