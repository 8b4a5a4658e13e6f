-- What the names in the table tell of the pairs that are used up.
use Rattle.std.proofs.Common.{◌≡◌, ℕ, ◌+◌, ◌<◌, arith, Bool, true, false, cond, eqb, ◌||◌, List, [], ◌∷◌, ◌++◌, map, Option, None, Some, refl, sym, ap, subst, ◌∙◌, is_some}
use Rattle.std.specs.Cmp.{nat_eq_equiv}
use Rattle.std.specs.List.{list_any}
use Rattle.std.specs.List.Sorted.{IsPermutation}
use Rattle.std.specs.Map.{lookup, set_value}
use Rattle.std.specs.Option.{MatchOption}
use Rattle.std.proofs.lemmas.List.{map-append}
use Rattle.std.proofs.lemmas.List.Elements.{All-from_recursion, recursion_from_All}
use Rattle.std.proofs.lemmas.List.Sorted.{All-permutation, IsPermutation-map}
use Rattle.std.proofs.lemmas.Map.Keys.{IsDistinct-cons, IsDistinct-IsPermutation}
use Rattle.ofx_types.specs.declared.number.UserId.{UserId}
use Rattle.bank_model.specs.declared.once.UsedPair.{UsedPair}
use Rattle.bank_model.specs.Once.{is_used}
use Rattle.once_records.specs.declared.name.Name.{Name}
use Rattle.once_records.specs.RecordsView.{UsedOnce}
use Rattle.once_records.specs.Names.{name_of, pair_named, same_name, ordered_by, in_order_used, AreNumberedOnce}
use Rattle.once_records.proofs.NameLemmas.{flips}
use Rattle.once_records.proofs.OnceLemmas.{UsedOnce-push}
use Rattle.once_records.proofs.OrderLemmas.{above, higher, any_ordered, ordered_permuted, ordered_last}

abbrev Held : Type 0
Held = Name × ℕ

abbrev number : Held → ℕ
number one = one.1

abbrev pair_of : Held → UsedPair
pair_of one = pair_named one.0

abbrev is_under : Name → Held → Bool
is_under name one = same_name name one.0

-- ---- whether a pair is used up

some_under : (name : Name) (held : List Held) → is_some (lookup (same_name name) held) ≡ list_any (is_under name) held
some_under name [] = refl
some_under name (one ∷ held) =
    let rest = some_under name held in
    elim (same_name name one.0) as (λ b. is_some (cond b (Some one.1) (lookup (same_name name) held)) ≡ (b || list_any (is_under name) held)) [
      | true ↦ refl
      | false ↦ rest
    ]

any_named : (user : UserId) (uid : List ℕ) (held : List Held) → list_any (is_under (name_of user uid)) held ≡ is_used user uid (map pair_of held)
any_named user uid [] = refl
any_named user uid (one ∷ held) = (λ i. flips user.0 one.0.user uid one.0.uid i || any_named user uid held i)

-- A pair is used up if and only if something is under its name.
pub used_under : (user : UserId) (uid : List ℕ) (held : List Held) → is_some (lookup (same_name (name_of user uid)) held) ≡ is_used user uid (in_order_used held)
used_under user uid held =
    let name = name_of user uid in
    some_under name held ∙ sym (any_ordered number (is_under name) held) ∙ any_named user uid (ordered_by number held)

-- ---- in another order

pub used_reordered : (next : ℕ) (held moved : List Held) → IsPermutation held moved → AreNumberedOnce next held → in_order_used moved ≡ in_order_used held
used_reordered next held moved is right = ap (map pair_of) (ordered_permuted number held moved is right.numbers)

pub once_reordered : (next : ℕ) (held moved : List Held) → IsPermutation held moved → AreNumberedOnce next held → AreNumberedOnce next moved
once_reordered next held moved is right = record {
  below = recursion_from_All below moved (All-permutation below held moved is (All-from_recursion below held right.below));
  numbers = IsDistinct-IsPermutation eqb nat_eq_equiv.symm (map number held) (map number moved) (IsPermutation-map number held moved is) right.numbers;
  used = subst UsedOnce (sym (used_reordered next held moved is right)) right.used;
}
  where
    below : Held → Type 0
    below one = number one < next

-- ---- one more pair

module _ (user : UserId) (uid : List ℕ) (next : ℕ) (held : List Held) (right : AreNumberedOnce next held) (unused : is_used user uid (in_order_used held) ≡ false) where
  abbrev more : Held
  more = (name_of user uid, next)

  last : in_order_used (more ∷ held) ≡ in_order_used held ++ record { user = user; trnuid = uid } ∷ []
  last = ap (map pair_of) (ordered_last number more held right.below) ∙ map-append pair_of (ordered_by number held) (more ∷ [])

  once : AreNumberedOnce (next + 1) (more ∷ held)
  once = record {
    below = (omega arith, higher number next held right.below);
    numbers = IsDistinct-cons eqb next (map number held) (above number next held right.below) right.numbers;
    used = subst UsedOnce (sym last) (UsedOnce-push (in_order_used held) (record { user = user; trnuid = uid }) right.used unused);
  }

  not_some : (found : Option ℕ) → is_some found ≡ false → found ≡ None
  not_some None is = refl
  not_some (Some n) is = cc

  -- What putting it under its name leaves.
  pub new_pair : (moved : List Held) (name : Name) → name ≡ name_of user uid → (before : Option ℕ) → before ≡ lookup (same_name name) held
      → MatchOption before (IsPermutation ((name, next) ∷ held) moved) (λ _. moved ≡ set_value (same_name name) held next)
      → IsPermutation (more ∷ held) moved
  new_pair moved name named before found put =
      let absent = not_some (lookup (same_name (name_of user uid)) held) (used_under user uid held ∙ unused) in
      let none : before ≡ None = found ∙ ap (λ (n : Name). lookup (same_name n) held) named ∙ absent in
      let put_new : IsPermutation ((name, next) ∷ held) moved =
      subst (λ (o : Option ℕ). MatchOption o (IsPermutation ((name, next) ∷ held) moved) (λ _. moved ≡ set_value (same_name name) held next)) none put in
      subst (λ (n : Name). IsPermutation ((n, next) ∷ held) moved) named put_new

  pub once_more : (moved : List Held) → IsPermutation (more ∷ held) moved → AreNumberedOnce (next + 1) moved
  once_more moved is = once_reordered (next + 1) (more ∷ held) moved is once

  pub used_more : (moved : List Held) → IsPermutation (more ∷ held) moved → in_order_used moved ≡ in_order_used held ++ record { user = user; trnuid = uid } ∷ []
  used_more moved is = used_reordered (next + 1) (more ∷ held) moved is once ∙ last
