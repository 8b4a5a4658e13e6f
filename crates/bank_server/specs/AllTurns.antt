-- All workers of a server.
use Rattle.std.specs.Prelude.{ℕ, ◌==◌, if◌then◌else◌, List, [], ◌∷◌}

-- The first status other than 0, or 0.
abbrev pub first_other : List ℕ → ℕ
first_other [] = 0
first_other (status ∷ more) = if status == 0 then first_other more else status
