-- The one of a few names that an aggregate has.
use Rattle.std.proofs.Common.{◌≡◌, ℕ, inl, inr, Bool, true, false, ◌||◌, List, [], ◌∷◌, Ok, Err, if◌then◌else◌, refl, subst}
use Rattle.std.specs.Str.{bytes_eq}
use Rattle.ofx_types.specs.TagNames.{is_one_of}
use Rattle.ofx_types.specs.declared.fault.TreeFault.{TreeFault}
use Rattle.ofx_types.specs.declared.transfer.Family.{Family}
use Rattle.ofx_types.proofs.Bytes.{bytes_eq_is, went}
use Rattle.ofx_tree.proofs.FormLaws.{one_value, ok_guarded}

last_of : (a b c : Bool) → (a || (b || (c || false))) ≡ true → a ≡ false → b ≡ false → c ≡ true
last_of true b c h other second = cc
last_of false true c h other second = cc
last_of false false true h other second = refl
last_of false false false h other second = cc

-- It is the third of three where it is neither of the others.
pub third_name : (name first second third : List ℕ) → is_one_of (first ∷ second ∷ third ∷ []) name ≡ true →
    bytes_eq name first ≡ false → bytes_eq name second ≡ false → name ≡ third
third_name name first second third one other last =
    bytes_eq_is name third (last_of (bytes_eq name first) (bytes_eq name second) (bytes_eq name third) one other last)

-- None of three names isn't one of them.
pub none_of_three : (a b c : Bool) → (a || (b || (c || false))) ≡ true → a ≡ false → b ≡ false → c ≡ false → ⊥
none_of_three a b c one first second third = let is : c ≡ true = last_of a b c one first second in cc

-- A name that isn't among those that stand isn't the one that stands.
pub other_name : (names : List (List ℕ)) (name word : List ℕ) → is_one_of names word ≡ false → is_one_of names name ≡ true → name ≡ word → ⊥
other_name names name word not_there there same =
    let is : is_one_of names word ≡ true = subst (λ (n : List ℕ). is_one_of names n ≡ true) same there in cc

-- What holds of the family of the one or the other of two names holds of the family that a name tells by them.
pub two_named : (P : Family → Type 0) (name first second : List ℕ) (f g family : Family) (fault : TreeFault) → (name ≡ first → P f) → (name ≡ second → P g) →
    (if bytes_eq name first then Ok f else (if bytes_eq name second then Ok g else Err fault)) ≡ Ok family → P family
two_named P name first second f g family fault is_f is_g h = elim (went (bytes_eq name first) (Ok f) (if bytes_eq name second then Ok g else Err fault) (Ok family) h) [
  | inl (is, reported) ↦ subst P (one_value (Ok f) f family refl reported) (is_f (bytes_eq_is name first is))
  | inr (_, more) ↦ let is = ok_guarded (bytes_eq name second) g family fault more in subst P is.1 (is_g (bytes_eq_is name second is.0))
]
