-- What holds of some names holds of one of them.
use Rattle.std.proofs.Common.{◌≡◌, ℕ, ◌⊎◌, inl, inr, Bool, true, false, ◌||◌, List, [], ◌∷◌, refl, sym, subst}
use Rattle.std.specs.List.{AllByRecursion}
use Rattle.std.specs.Str.{bytes_eq}
use Rattle.ofx_types.specs.TagNames.{is_one_of}
use Rattle.ofx_types.proofs.Bytes.{bytes_eq_is}

either_one : (b c : Bool) → (b || c) ≡ true → (b ≡ true) ⊎ (c ≡ true)
either_one true c h = inl refl
either_one false c h = inr h

pub name_has : (Has : List ℕ → Type 0) (names : List (List ℕ)) (name : List ℕ) → AllByRecursion Has names → is_one_of names name ≡ true → Has name
name_has Has [] name all h = cc
name_has Has (first ∷ more) name (has, others) h = elim (either_one (bytes_eq name first) (is_one_of more name) h) [
  | inl is ↦ subst Has (sym (bytes_eq_is name first is)) has
  | inr is ↦ name_has Has more name others is
]
