-- Lists in order.
use Rattle.std.specs.Prelude.{List, [], ◌∷◌}
use Rattle.std.specs.List.{AllByRecursion}

-- Each element is in a relation to all after it.
abbrev pub AllInOrder : {X : Type 0} → (X → X → Type 0) → List X → Type 0
AllInOrder R [] = Unit {0}
AllInOrder R (x ∷ xs) = AllByRecursion (R x) xs × AllInOrder R xs
