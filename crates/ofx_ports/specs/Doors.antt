-- Links that a doorway gives and takes back.
use Rattle.std.specs.Prelude.{◌<◌, List, [], ◌∷◌, length, ⊤, Option, None, Some, Result, Ok, Err}

-- the link that a call gave, if it gave one
abbrev pub given_by : {L E : Type 0} → Result (Option L) E → List L
given_by (Ok None) = []
given_by (Ok (Some link)) = link ∷ []
given_by (Err fault) = []

-- Where both are known, fewer links came back than were given.
abbrev pub HasOneOut : {L : Type 0} → Option (List L) → Option (List L) → Type 0
HasOneOut None back = ⊤
HasOneOut (Some given) None = ⊤
HasOneOut (Some given) (Some back) = length back < length given
