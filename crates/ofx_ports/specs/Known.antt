-- Lists that are known of some things of the outside and not of others.
use Rattle.std.specs.Prelude.{◌≡◌, List, ◌++◌, ⊤, Option, None, Some}

-- A list that is known stays as it was.
abbrev pub Stays : {A : Type 0} → Option (List A) → Option (List A) → Type 0
Stays None new = ⊤
Stays (Some xs) None = ⊥
Stays (Some xs) (Some ys) = ys ≡ xs

-- A list that is known grows by these items at its end.
abbrev pub Grows : {A : Type 0} → Option (List A) → Option (List A) → List A → Type 0
Grows None new items = ⊤
Grows (Some xs) None items = ⊥
Grows (Some xs) (Some ys) items = ys ≡ xs ++ items
