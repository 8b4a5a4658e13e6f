-- Lists that are known, where a record may have landed.
use Rattle.std.proofs.Common.{ℕ, Bool, true, false, List, [], ◌∷◌, Option, None, Some, ◌⊎◌, inl, inr}
use Rattle.ofx_ports.specs.Known.{Stays, Grows}
use Rattle.ofx_ports.specs.Kept.{MayGrow}
use Rattle.ofx_ports.proofs.KnownLaws.{Grows-nil, Grows-kept}

-- a list that stays grows by nothing
pub grows_nothing : {A : Type 0} (a b : Option (List A)) → Stays a b → Grows a b []
grows_nothing a b stays = Grows-kept a a b [] (Grows-nil a) stays

-- a record whose append failed is at the end or doesn't
pub landed_or_not : (a b : Option (List (List ℕ))) (landed : Option Bool) (rec : List ℕ) → MayGrow a b landed rec → Stays a b ⊎ Grows a b (rec ∷ [])
landed_or_not None b landed rec lands = inl tt
landed_or_not (Some rs) b None rec lands = absurd lands
landed_or_not (Some rs) b (Some true) rec lands = inr lands
landed_or_not (Some rs) b (Some false) rec lands = inl lands
