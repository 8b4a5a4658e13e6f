-- Lists of which something holds of each element.
use Rattle.std.proofs.Common.{◌≡◌, Bool, true, false, cond, List, [], ◌∷◌, map, Some, ◌∙◌, subst}
use Rattle.std.specs.List.{AllByRecursion, IsDistinct, find}
use Rattle.bank_model.proofs.Lists.{all_map}

-- what is found has what all have
pub all_find : {X : Type 0} (P : X → Type 0) (p : X → Bool) (xs : List X) (found : X) → AllByRecursion P xs → find p xs ≡ Some found → P found
all_find P p [] found all is = absurd cc
all_find {X} P p (x ∷ xs) found all is =
    (elim (p x) as (λ b. cond b (Some x) (find p xs) ≡ Some found → P found) [
      | true ↦ (λ same. let one : x ≡ found = cc in subst P one all.0)
      | false ↦ (λ same. all_find P p xs found all.1 same)
    ]) is

-- A function that keeps what is compared keeps items apart.
pub distinct_map : {X : Type 0} (e : X → X → Bool) (f : X → X) → ((x y : X) → e (f x) (f y) ≡ e x y) → (xs : List X) → IsDistinct e xs → IsDistinct e (map f xs)
unfolding IsDistinct
distinct_map e f same [] apart = tt
distinct_map {X} e f same (x ∷ xs) apart =
    (all_map (λ (y : X). e x y ≡ false) (λ (y : X). e (f x) y ≡ false) f xs (λ y other. same x y ∙ other) apart.0, distinct_map e f same xs apart.1)
