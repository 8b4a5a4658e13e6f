-- The lines that are written beside frames.
use Rattle.std.specs.Prelude.{ℕ, List, [], ◌∷◌, ◌++◌, codes}
use Rattle.std.specs.Fmt.{decimal}

-- `BAD`, a space and the offset of a fault
abbrev pub bad_line : ℕ → List ℕ
bad_line offset = codes "BAD " ++ decimal offset ++ 10 ∷ []

-- `DUE`, a space and a number of events
abbrev pub due_line : ℕ → List ℕ
due_line n = codes "DUE " ++ decimal n ++ 10 ∷ []

-- `MAIL`, a space and the number of an entry
abbrev pub mail_line : ℕ → List ℕ
mail_line n = codes "MAIL " ++ decimal n ++ 10 ∷ []
