-- A list in the order of its items' numbers: its items are those of the list, whatever their order there.
use Rattle.std.proofs.Common.{◌≡◌, ℕ, ◌<◌, ◌≤◌, ◌+◌, ◌⊎◌, Bool, true, false, cond, ◌||◌, ltb, eqb, List, [], ◌∷◌, ◌++◌, map, filter, refl, sym, ap, ◌∙◌, inl, inr, arith}
use Rattle.std.specs.List.{AllByRecursion, IsDistinct, list_any}
use Rattle.std.specs.Cmp.{nat_eq_equiv}
use Rattle.std.specs.List.Sorted.{IsPermutation}
use Rattle.std.proofs.lemmas.Bool.{le-ltb, ltb-true, ltb-false, eqb-false, ne_eqb}
use Rattle.std.proofs.lemmas.List.Elements.{All-from_recursion, recursion_from_All}
use Rattle.std.proofs.lemmas.List.Sorted.{All-permutation, IsPermutation-map, IsPermutation-sym}
use Rattle.std.proofs.lemmas.Map.Keys.{IsDistinct-head, IsDistinct-tail, IsDistinct-cons, IsDistinct-IsPermutation}
use Rattle.once_records.specs.Names.{put_by, ordered_by}

-- ---- what holds of each item

all_both : {X : Type 0} (P Q R : X → Type 0) → ((x : X) → P x → Q x → R x) → (xs : List X) → AllByRecursion P xs → AllByRecursion Q xs → AllByRecursion R xs
all_both P Q R by [] p q = tt
all_both P Q R by (x ∷ xs) p q = (by x p.0 q.0, all_both P Q R by xs p.1 q.1)

all_weaker : {X : Type 0} (P Q : X → Type 0) → ((x : X) → P x → Q x) → (xs : List X) → AllByRecursion P xs → AllByRecursion Q xs
all_weaker P Q by [] p = tt
all_weaker P Q by (x ∷ xs) p = (by x p.0, all_weaker P Q by xs p.1)

either_first : (a b c : Bool) → (a || (b || c)) ≡ (b || (a || c))
either_first true true c = refl
either_first true false c = refl
either_first false b c = refl

module _ {X : Type 0} (n : X → ℕ) where
  all_put : (P : X → Type 0) (x : X) (xs : List X) → P x → AllByRecursion P xs → AllByRecursion P (put_by n x xs)
  all_put P x [] h all = (h, tt)
  all_put P x (y ∷ ys) h all =
      elim (ltb (n x) (n y)) as (λ b. AllByRecursion P (cond b (x ∷ y ∷ ys) (y ∷ put_by n x ys))) [
        | true ↦ (h, all)
        | false ↦ (all.0, all_put P x ys h all.1)
      ]

  put_all : (P : X → Type 0) (x : X) (xs : List X) → AllByRecursion P (put_by n x xs) → P x × AllByRecursion P xs
  put_all P x [] all = (all.0, tt)
  put_all P x (y ∷ ys) all =
      (elim (ltb (n x) (n y)) as (λ b. AllByRecursion P (cond b (x ∷ y ∷ ys) (y ∷ put_by n x ys)) → P x × AllByRecursion P (y ∷ ys)) [
        | true ↦ (λ all. (all.0, all.1))
        | false ↦ (λ all. let more = put_all P x ys all.1 in (more.0, (all.0, more.1)))
      ]) all

  pub all_ordered : (P : X → Type 0) (xs : List X) → AllByRecursion P xs → AllByRecursion P (ordered_by n xs)
  all_ordered P [] all = tt
  all_ordered P (x ∷ xs) all = all_put P x (ordered_by n xs) all.0 (all_ordered P xs all.1)

  pub ordered_all : (P : X → Type 0) (xs : List X) → AllByRecursion P (ordered_by n xs) → AllByRecursion P xs
  ordered_all P [] all = tt
  ordered_all P (x ∷ xs) all = let parts = put_all P x (ordered_by n xs) all in (parts.0, ordered_all P xs parts.1)

  any_put : (p : X → Bool) (x : X) (xs : List X) → list_any p (put_by n x xs) ≡ (p x || list_any p xs)
  any_put p x [] = refl
  any_put p x (y ∷ ys) =
      let rest = any_put p x ys in
      elim (ltb (n x) (n y)) as (λ b. list_any p (cond b (x ∷ y ∷ ys) (y ∷ put_by n x ys)) ≡ (p x || (p y || list_any p ys))) [
        | true ↦ refl
        | false ↦ ap (λ b. p y || b) rest ∙ either_first (p y) (p x) (list_any p ys)
      ]

  -- One of the items passes in order if and only if one does.
  pub any_ordered : (p : X → Bool) (xs : List X) → list_any p (ordered_by n xs) ≡ list_any p xs
  any_ordered p [] = refl
  any_ordered p (x ∷ xs) = any_put p x (ordered_by n xs) ∙ ap (λ b. p x || b) (any_ordered p xs)

  -- ---- a number above all

  pub above : (next : ℕ) (xs : List X) → AllByRecursion (λ x. n x < next) xs → AllByRecursion (λ k. eqb next k ≡ false) (map n xs)
  above next [] below = tt
  above next (x ∷ xs) below = (ne_eqb next (n x) (λ same. omega (arith, same, below.0)), above next xs below.1)

  pub higher : (next : ℕ) (xs : List X) → AllByRecursion (λ x. n x < next) xs → AllByRecursion (λ x. n x < next + 1) xs
  higher next [] below = tt
  higher next (x ∷ xs) below = (omega (arith, below.0), higher next xs below.1)

  -- ---- lists that rise

  abbrev Rises : List X → Type 0
  Rises [] = Unit {0}
  Rises (x ∷ xs) = AllByRecursion (λ y. n x < n y) xs × Rises xs

  rises_put : (x : X) (xs : List X) → AllByRecursion (λ y. eqb (n x) (n y) ≡ false) xs → Rises xs → Rises (put_by n x xs)
  rises_put x [] apart rises = (tt, tt)
  rises_put x (y ∷ ys) apart rises = by (ltb (n x) (n y)) refl (rises_put x ys apart.1 rises.1)
    where
      above : ltb (n x) (n y) ≡ false → eqb (n x) (n y) ≡ false → n y < n x
      above less same = let le : n y ≤ n x = ltb-false (n x) (n y) less in omega (arith, le, eqb-false (n x) (n y) same)

      by : (b : Bool) → ltb (n x) (n y) ≡ b → Rises (put_by n x ys) → Rises (cond b (x ∷ y ∷ ys) (y ∷ put_by n x ys))
      by true is rest =
          let below : n x < n y = ltb-true (n x) (n y) is in
          ((below, all_weaker (λ z. n y < n z) (λ z. n x < n z) (λ z up. omega (arith, below, up)) ys rises.0), rises)
      by false is rest = (all_put (λ z. n y < n z) x ys (above is apart.0) rises.0, rest)

  rises_ordered : (xs : List X) → IsDistinct eqb (map n xs) → Rises (ordered_by n xs)
  rises_ordered [] apart = tt
  rises_ordered (x ∷ xs) apart =
      rises_put x (ordered_by n xs) (all_ordered (λ y. eqb (n x) (n y) ≡ false) xs (unmapped (λ k. eqb (n x) k ≡ false) xs (IsDistinct-head eqb (n x) (map n xs) apart)))
      (rises_ordered xs (IsDistinct-tail eqb (n x) (map n xs) apart))
    where
      unmapped : (P : ℕ → Type 0) (xs : List X) → AllByRecursion P (map n xs) → AllByRecursion (λ x. P (n x)) xs
      unmapped P [] all = tt
      unmapped P (x ∷ xs) all = (all.0, unmapped P xs all.1)

  other : (a b z : X) (P : X → Type 0) → a ≡ b → n b < n z → (z ≡ a) ⊎ P z → P z
  other a b z P same up (inl is) = absurd (let e : n z ≡ n b = ap n (is ∙ same) in omega (arith, up, e))
  other a b z P same up (inr p) = p

  without : (a b : X) (P : X → Type 0) → a ≡ b → (xs ys : List X) → AllByRecursion (λ z. n b < n z) ys
      → ((P : X → Type 0) → AllByRecursion P (a ∷ xs) → AllByRecursion P (b ∷ ys)) → AllByRecursion P xs → AllByRecursion P ys
  without a b P same xs ys above to all =
      all_both (λ z. n b < n z) (λ z. (z ≡ a) ⊎ P z) P (λ z. other a b z P same) ys above
      (to (λ z. (z ≡ a) ⊎ P z) (inl refl, all_weaker P (λ z. (z ≡ a) ⊎ P z) (λ z. inr) xs all)).1

  heads : (x y : X) (xs ys : List X) → ((y ≡ x) → xs ≡ ys) → (y ≡ x) ⊎ (n x < n y) → (x ≡ y) ⊎ (n y < n x) → x ∷ xs ≡ y ∷ ys
  heads x y xs ys rest (inl is) back = (λ i. sym is i ∷ rest is i)
  heads x y xs ys rest (inr up) (inl is) = absurd (let e : n x ≡ n y = ap n is in omega (arith, up, e))
  heads x y xs ys rest (inr up) (inr down) = absurd (omega (arith, up, down))

  -- Lists that rise and have the same items are the same.
  same_rising : (xs ys : List X) → Rises xs → Rises ys → ((P : X → Type 0) → AllByRecursion P xs → AllByRecursion P ys)
      → ((P : X → Type 0) → AllByRecursion P ys → AllByRecursion P xs) → xs ≡ ys
  same_rising [] [] r s to back = refl
  same_rising [] (y ∷ ys) r s to back = absurd ((to (λ x. ⊥) tt).0)
  same_rising (x ∷ xs) [] r s to back = absurd ((back (λ x. ⊥) tt).0)
  same_rising (x ∷ xs) (y ∷ ys) r s to back =
      heads x y xs ys (λ is. same_rising xs ys r.1 s.1 (λ P. without x y P (sym is) xs ys s.0 to) (λ P. without y x P is ys xs r.0 back))
      (to (λ z. (z ≡ x) ⊎ (n x < n z)) (inl refl, all_weaker (λ z. n x < n z) (λ z. (z ≡ x) ⊎ (n x < n z)) (λ z. inr) xs r.0)).0
      (back (λ z. (z ≡ y) ⊎ (n y < n z)) (inl refl, all_weaker (λ z. n y < n z) (λ z. (z ≡ y) ⊎ (n y < n z)) (λ z. inr) ys s.0)).0

  -- ---- the order of other lists

  pub ordered_permuted : (xs ys : List X) → IsPermutation xs ys → IsDistinct eqb (map n xs) → ordered_by n ys ≡ ordered_by n xs
  ordered_permuted xs ys moved apart =
      same_rising (ordered_by n ys) (ordered_by n xs)
      (rises_ordered ys (IsDistinct-IsPermutation eqb nat_eq_equiv.symm (map n xs) (map n ys) (IsPermutation-map n xs ys moved) apart))
      (rises_ordered xs apart)
      (λ P all. all_ordered P xs (recursion_from_All P xs (All-permutation P ys xs (IsPermutation-sym xs ys moved) (All-from_recursion P ys (ordered_all P ys all)))))
      (λ P all. all_ordered P ys (recursion_from_All P ys (All-permutation P xs ys moved (All-from_recursion P xs (ordered_all P xs all)))))

  put_last : (x : X) (xs : List X) → AllByRecursion (λ y. n y < n x) xs → put_by n x xs ≡ xs ++ x ∷ []
  put_last x [] below = refl
  put_last x (y ∷ ys) below =
      let not_less : ltb (n x) (n y) ≡ false = le-ltb (n x) (n y) (omega (arith, below.0)) in
      ap (λ b. cond b (x ∷ y ∷ ys) (y ∷ put_by n x ys)) not_less ∙ ap (λ more. y ∷ more) (put_last x ys below.1)

  -- An item with the greatest number comes last.
  pub ordered_last : (x : X) (xs : List X) → AllByRecursion (λ y. n y < n x) xs → ordered_by n (x ∷ xs) ≡ ordered_by n xs ++ x ∷ []
  ordered_last x xs below = put_last x (ordered_by n xs) (all_ordered (λ y. n y < n x) xs below)

  -- ---- without some of the items

  filter_all : (P : X → Type 0) (p : X → Bool) (xs : List X) → AllByRecursion (λ x. p x ≡ true → P x) xs → AllByRecursion P (filter p xs)
  filter_all P p [] all = tt
  filter_all P p (x ∷ xs) all = by (p x) refl (filter_all P p xs all.1)
    where
      by : (b : Bool) → p x ≡ b → AllByRecursion P (filter p xs) → AllByRecursion P (cond b (x ∷ filter p xs) (filter p xs))
      by true is rest = (all.0 is, rest)
      by false is rest = rest

  all_filter : (P : X → Type 0) (p : X → Bool) (xs : List X) → AllByRecursion P (filter p xs) → AllByRecursion (λ x. p x ≡ true → P x) xs
  all_filter P p [] all = tt
  all_filter P p (x ∷ xs) all =
      (elim (p x) as (λ b. AllByRecursion P (cond b (x ∷ filter p xs) (filter p xs)) → (b ≡ true → P x) × AllByRecursion (λ z. p z ≡ true → P z) xs) [
        | true ↦ (λ all. ((λ is. all.0), all_filter P p xs all.1))
        | false ↦ (λ all. ((λ is. cc), all_filter P p xs all))
      ]) all

  all_left : (P : X → Type 0) (p : X → Bool) (xs : List X) → AllByRecursion P xs → AllByRecursion P (filter p xs)
  all_left P p xs all = filter_all P p xs (all_weaker P (λ x. p x ≡ true → P x) (λ x h is. h) xs all)

  rises_filter : (p : X → Bool) (xs : List X) → Rises xs → Rises (filter p xs)
  rises_filter p [] rises = tt
  rises_filter p (x ∷ xs) rises =
      elim (p x) as (λ b. Rises (cond b (x ∷ filter p xs) (filter p xs))) [
        | true ↦ (all_left (λ y. n x < n y) p xs rises.0, rises_filter p xs rises.1)
        | false ↦ rises_filter p xs rises.1
      ]

  pub distinct_filter : (p : X → Bool) (xs : List X) → IsDistinct eqb (map n xs) → IsDistinct eqb (map n (filter p xs))
  distinct_filter p [] apart = apart
  distinct_filter p (x ∷ xs) apart =
      let rest = distinct_filter p xs (IsDistinct-tail eqb (n x) (map n xs) apart) in
      elim (p x) as (λ b. IsDistinct eqb (map n (cond b (x ∷ filter p xs) (filter p xs)))) [
        | true ↦ IsDistinct-cons eqb (n x) (map n (filter p xs)) (mapped_left (λ k. eqb (n x) k ≡ false) xs (IsDistinct-head eqb (n x) (map n xs) apart)) rest
        | false ↦ rest
      ]
    where
      mapped_left : (P : ℕ → Type 0) (xs : List X) → AllByRecursion P (map n xs) → AllByRecursion P (map n (filter p xs))
      mapped_left P [] all = tt
      mapped_left P (x ∷ xs) all =
          elim (p x) as (λ b. AllByRecursion P (map n (cond b (x ∷ filter p xs) (filter p xs)))) [
            | true ↦ (all.0, mapped_left P xs all.1)
            | false ↦ mapped_left P xs all.1
          ]

  pub ordered_filter : (p : X → Bool) (xs : List X) → IsDistinct eqb (map n xs) → ordered_by n (filter p xs) ≡ filter p (ordered_by n xs)
  ordered_filter p xs apart =
      same_rising (ordered_by n (filter p xs)) (filter p (ordered_by n xs))
      (rises_ordered (filter p xs) (distinct_filter p xs apart))
      (rises_filter p (ordered_by n xs) (rises_ordered xs apart))
      (λ P all. filter_all P p (ordered_by n xs) (all_ordered (λ x. p x ≡ true → P x) xs (all_filter P p xs (ordered_all P (filter p xs) all))))
      (λ P all. all_ordered P (filter p xs) (filter_all P p xs (ordered_all (λ x. p x ≡ true → P x) xs (all_filter P p (ordered_by n xs) all))))
