-- A name is one of some names where it is one of those with its length.
use Rattle.std.proofs.Common.{◌≡◌, ℕ, Bool, true, false, ◌||◌, nat_eq, List, [], ◌∷◌, length, eq-eqb, eqb-true, ne_eqb, refl, sym, ap, ◌∙◌}
use Rattle.std.proofs.lemmas.Bool.{and_parts, false_from_ne_true, both_ways}
use Rattle.std.proofs.lemmas.Slice.Eq.{bytes_eq-Decides}
use Rattle.std.specs.List.{list_all, list_any}
use Rattle.std.specs.Str.{bytes_eq}
use Rattle.ofx_types.specs.TagNames.{is_one_of, element_names, aggregate_names}
use Rattle.ofx_tape.specs.NamesOfLength.{of_length}

differs : (name other : List ℕ) → nat_eq (length other) (length name) ≡ false → bytes_eq name other ≡ false
differs name other apart =
    false_from_ne_true (bytes_eq name other) (λ same.
    let e : name ≡ other = (bytes_eq-Decides name other).0 same in
    both_ways (nat_eq (length other) (length name)) apart (eq-eqb (length other) (length name) (ap length (sym e))))

same_length : (names : List (List ℕ)) (name : List ℕ) → is_one_of names name ≡ is_one_of (of_length (length name) names) name
same_length [] name = refl
same_length (other ∷ names) name = by_cases (nat_eq (length other) (length name)) refl (same_length names name)
  where
    by_cases : (same : Bool) → nat_eq (length other) (length name) ≡ same → is_one_of names name ≡ is_one_of (of_length (length name) names) name →
        is_one_of (other ∷ names) name ≡ is_one_of (of_length (length name) (other ∷ names)) name
    by_cases true e again = rw e (ap (λ b. bytes_eq name other || b) again)
    by_cases false e again = rw (e, differs name other e) again

-- what was told of the names of its length is told of all
pub by_length : (names : List (List ℕ)) (name : List ℕ) (n : ℕ) (answer : Bool) → n ≡ length name → answer ≡ is_one_of (of_length n names) name → answer ≡ is_one_of names name
by_length names name n answer is h = h ∙ ap (λ k. is_one_of (of_length k names) name) is ∙ sym (same_length names name)

apart : (k n : ℕ) → (n ≡ k → ⊥) → nat_eq k n ≡ false
apart k n h = ne_eqb k n (λ e. h (sym e))

abbrev is_among : List ℕ → ℕ → Bool
is_among lengths n = list_any (λ l. nat_eq l n) lengths

-- names whose lengths are all among these aren't of another length
none_of_length : (lengths : List ℕ) (names : List (List ℕ)) (n : ℕ) → list_all (λ name. is_among lengths (length name)) names ≡ true → is_among lengths n ≡ false → of_length n names ≡ []
none_of_length lengths [] n all none = refl
none_of_length lengths (name ∷ names) n all none = by_cases (nat_eq (length name) n) refl (none_of_length lengths names n (and_parts _ _ all).1 none)
  where
    by_cases : (same : Bool) → nat_eq (length name) n ≡ same → of_length n names ≡ [] → of_length n (name ∷ names) ≡ []
    by_cases true e again = absurd (both_ways (is_among lengths n) none (sym (ap (is_among lengths) (eqb-true (length name) n e)) ∙ (and_parts _ _ all).0))
    by_cases false e again = rw e again

none_is : (lengths : List ℕ) (names : List (List ℕ)) (name : List ℕ) → list_all (λ other. is_among lengths (length other)) names ≡ true →
    is_among lengths (length name) ≡ false → false ≡ is_one_of names name
none_is lengths names name all none =
    sym (same_length names name ∙ ap (λ others. is_one_of others name) (none_of_length lengths names (length name) all none))

abbrev element_lengths : List ℕ
element_lengths = 2 ∷ 3 ∷ 4 ∷ 5 ∷ 6 ∷ 7 ∷ 8 ∷ 9 ∷ 10 ∷ 11 ∷ 15 ∷ []

no_element_length : (n : ℕ) → (n ≡ 2 → ⊥) → (n ≡ 3 → ⊥) → (n ≡ 4 → ⊥) → (n ≡ 5 → ⊥) → (n ≡ 6 → ⊥) → (n ≡ 7 → ⊥) → (n ≡ 8 → ⊥) → (n ≡ 9 → ⊥) → (n ≡ 10 → ⊥) → (n ≡ 11 → ⊥) → (n ≡ 15 → ⊥) → is_among element_lengths n ≡ false
no_element_length n h2 h3 h4 h5 h6 h7 h8 h9 h10 h11 h15 = rw (apart 2 n h2, apart 3 n h3, apart 4 n h4, apart 5 n h5, apart 6 n h6, apart 7 n h7, apart 8 n h8, apart 9 n h9, apart 10 n h10, apart 11 n h11, apart 15 n h15) refl

-- no name that is always an element's has another length
pub no_element_name : (name : List ℕ) → (length name ≡ 2 → ⊥) → (length name ≡ 3 → ⊥) → (length name ≡ 4 → ⊥) → (length name ≡ 5 → ⊥) → (length name ≡ 6 → ⊥) → (length name ≡ 7 → ⊥) → (length name ≡ 8 → ⊥) → (length name ≡ 9 → ⊥) → (length name ≡ 10 → ⊥) → (length name ≡ 11 → ⊥) → (length name ≡ 15 → ⊥) → false ≡ is_one_of element_names name
no_element_name name h2 h3 h4 h5 h6 h7 h8 h9 h10 h11 h15 = none_is element_lengths element_names name refl (no_element_length (length name) h2 h3 h4 h5 h6 h7 h8 h9 h10 h11 h15)

abbrev aggregate_lengths : List ℕ
aggregate_lengths = 2 ∷ 3 ∷ 4 ∷ 5 ∷ 6 ∷ 7 ∷ 8 ∷ 9 ∷ 10 ∷ 11 ∷ 12 ∷ 13 ∷ 14 ∷ []

no_aggregate_length : (n : ℕ) → (n ≡ 2 → ⊥) → (n ≡ 3 → ⊥) → (n ≡ 4 → ⊥) → (n ≡ 5 → ⊥) → (n ≡ 6 → ⊥) → (n ≡ 7 → ⊥) → (n ≡ 8 → ⊥) → (n ≡ 9 → ⊥) → (n ≡ 10 → ⊥) → (n ≡ 11 → ⊥) → (n ≡ 12 → ⊥) → (n ≡ 13 → ⊥) → (n ≡ 14 → ⊥) → is_among aggregate_lengths n ≡ false
no_aggregate_length n h2 h3 h4 h5 h6 h7 h8 h9 h10 h11 h12 h13 h14 = rw (apart 2 n h2, apart 3 n h3, apart 4 n h4, apart 5 n h5, apart 6 n h6, apart 7 n h7, apart 8 n h8, apart 9 n h9, apart 10 n h10, apart 11 n h11, apart 12 n h12, apart 13 n h13, apart 14 n h14) refl

-- no name that is always an aggregate's has another length
pub no_aggregate_name : (name : List ℕ) → (length name ≡ 2 → ⊥) → (length name ≡ 3 → ⊥) → (length name ≡ 4 → ⊥) → (length name ≡ 5 → ⊥) → (length name ≡ 6 → ⊥) → (length name ≡ 7 → ⊥) → (length name ≡ 8 → ⊥) → (length name ≡ 9 → ⊥) → (length name ≡ 10 → ⊥) → (length name ≡ 11 → ⊥) → (length name ≡ 12 → ⊥) → (length name ≡ 13 → ⊥) → (length name ≡ 14 → ⊥) → false ≡ is_one_of aggregate_names name
no_aggregate_name name h2 h3 h4 h5 h6 h7 h8 h9 h10 h11 h12 h13 h14 = none_is aggregate_lengths aggregate_names name refl (no_aggregate_length (length name) h2 h3 h4 h5 h6 h7 h8 h9 h10 h11 h12 h13 h14)
