-- Lists in a strict order: what is in them, and that their members make them.
use Rattle.std.proofs.Common.{◌≡◌, ℕ, suc, ◌+◌, ◌≤◌, ◌∙◌, inl, inr, ◌⊎◌, ◌↔◌, true, false, List, [], ◌∷◌, ◌++◌, length, get_or, refl, sym, ap, subst, arith}
use Rattle.std.specs.List.{All, AllByRecursion, Contains, IsDistinct, fold}
use Rattle.std.specs.List.Sorted.{IsStrictlySortedBy, IsSortedBy, IsNonDecreasingBy, IsPartitionPoint}
use Rattle.std.specs.BTreeSet.{insert_key}
use Rattle.std.specs.Cmp.{IsTotalOrder}
use Rattle.std.specs.Ordering.{match_ordering, ordering_reverse, ordering_index, eq_by_cmp, is_lt, is_eq}
use Rattle.std.specs.declared.cmp.Ordering.{Ordering}
use Rattle.std.specs.declared.cmp.Ordering.TheVariants.{Less, Equal, Greater}
use Rattle.std.proofs.lemmas.Bool.{cases_lt}
use Rattle.std.proofs.lemmas.Cmp.{tied_itself, tied_back}
use Rattle.std.proofs.lemmas.List.Elements.{All-from_recursion, recursion_from_All, All-contains, Contains-get_or, Contains-append_right, Contains-append_cases, Contains-push_cases}
use Rattle.std.proofs.lemmas.List.Sorted.{searchable_from_sorted}
use Rattle.std.proofs.lemmas.Map.Keys.{sorted_head, sorted_tail, IsDistinct-head, IsDistinct-tail, IsDistinct-cons, Less-from_sorted, apart_from_distinct, sorted_from_all_adjacent}

-- ---- members

pub none_in : {X : Type 0} (z : X) → Contains [] z → ⊥
none_in z h = absurd (omega (arith, h.1))

pub first_in : {X : Type 0} (x : X) (xs : List X) → Contains (x ∷ xs) x
first_in x xs = (0, omega arith, refl)

pub later_in : {X : Type 0} (x : X) (xs : List X) (z : X) → Contains xs z → Contains (x ∷ xs) z
later_in x xs z h = Contains-append_right (x ∷ []) xs z h

pub in_cases : {X : Type 0} (x : X) (xs : List X) (z : X) → Contains (x ∷ xs) z → (x ≡ z) ⊎ Contains xs z
in_cases x xs z h = elim (Contains-append_cases (x ∷ []) xs z h) [
  | inl one ↦ elim (Contains-push_cases [] x z one) [ inl none ↦ absurd (none_in z none) | inr e ↦ inl e ]
  | inr there ↦ inr there
]

pub all_of : {X : Type 0} (P : X → Type 0) (xs : List X) → ((z : X) → Contains xs z → P z) → All P xs
all_of P xs each k d lt = each (get_or xs k d) (Contains-get_or xs k d lt)

pub each_of : {X : Type 0} (P : X → Type 0) (xs : List X) (z : X) → AllByRecursion P xs → Contains xs z → P z
each_of P xs z all there = All-contains P xs z (All-from_recursion P xs all) there

pub each_by : {X : Type 0} (P : X → Type 0) (xs : List X) → ((z : X) → Contains xs z → P z) → AllByRecursion P xs
each_by P xs each = recursion_from_All P xs (all_of P xs each)

module _ {X : Type 0} (R : X → X → Ordering) (o : IsTotalOrder R) where
  -- ---- comparisons

  pub not_both : (x y : X) → R x y ≡ Less → R y x ≡ Less → ⊥
  not_both x y less back = let turned : Less ≡ Greater = sym less ∙ (o.antisymm x y ∙ ap ordering_reverse back) in absurd cc

  pub not_itself : (x y : X) → R x y ≡ Less → x ≡ y → ⊥
  not_itself x y less same = let tie : R x y ≡ Equal = subst (λ z. R x z ≡ Equal) same (tied_itself o x) in let both : Less ≡ Equal = sym less ∙ tie in absurd cc

  pub above : (x : X) (xs : List X) (z : X) → IsStrictlySortedBy R (x ∷ xs) → Contains xs z → R x z ≡ Less
  above x xs z rising there = each_of (λ y. R x y ≡ Less) xs z (sorted_head R x xs rising) there

  -- ---- the members of a list in order make it

  one_head : (x : X) (xs : List X) (y : X) (ys : List X) → IsStrictlySortedBy R (x ∷ xs) → IsStrictlySortedBy R (y ∷ ys)
      → ((z : X) → Contains (x ∷ xs) z ↔ Contains (y ∷ ys) z) → x ≡ y
  one_head x xs y ys s t same = elim (in_cases y ys x ((same x).0 (first_in x xs))) [
    | inl e ↦ sym e
    | inr later ↦ elim (in_cases x xs y ((same y).1 (first_in y ys))) [
      | inl e ↦ e
      | inr also ↦ absurd (not_both x y (above x xs y s also) (above y ys x t later))
    ]
  ]

  tail_in : (x : X) (xs : List X) (y : X) (ys : List X) (z : X) → IsStrictlySortedBy R (x ∷ xs) → x ≡ y
      → (Contains (x ∷ xs) z → Contains (y ∷ ys) z) → Contains xs z → Contains ys z
  tail_in x xs y ys z s heads goes there = elim (in_cases y ys z (goes (later_in x xs z there))) [
    | inl e ↦ absurd (not_itself x z (above x xs z s there) (heads ∙ e))
    | inr later ↦ later
  ]

  pub one_list : (xs ys : List X) → IsStrictlySortedBy R xs → IsStrictlySortedBy R ys → ((z : X) → Contains xs z ↔ Contains ys z) → xs ≡ ys
  one_list [] [] s t same = refl
  one_list [] (y ∷ ys) s t same = absurd (none_in y ((same y).1 (first_in y ys)))
  one_list (x ∷ xs) [] s t same = absurd (none_in x ((same x).0 (first_in x xs)))
  one_list (x ∷ xs) (y ∷ ys) s t same =
      let heads : x ≡ y = one_head x xs y ys s t same in
      let tails : xs ≡ ys = one_list xs ys (sorted_tail R x xs s) (sorted_tail R y ys t)
      (λ z. (tail_in x xs y ys z s heads (same z).0, tail_in y ys x xs z t (sym heads) (same z).1)) in
      cc

  -- ---- one more

  pub put_from : (k : X) (xs : List X) (z : X) → Contains (insert_key R xs k) z → (k ≡ z) ⊎ Contains xs z
  put_from k [] z = in_cases k [] z
  put_from k (x ∷ xs) z = by (R k x) (put_from k xs z)
    where
      by : (r : Ordering) → (Contains (insert_key R xs k) z → (k ≡ z) ⊎ Contains xs z)
          → Contains (match_ordering r (k ∷ x ∷ xs) (x ∷ xs) (x ∷ insert_key R xs k)) z → (k ≡ z) ⊎ Contains (x ∷ xs) z
      by Less more h = in_cases k (x ∷ xs) z h
      by Equal more h = inr h
      by Greater more h = elim (in_cases x (insert_key R xs k) z h) [
        | inl e ↦ inr (subst (Contains (x ∷ xs)) e (first_in x xs))
        | inr there ↦ elim (more there) [ inl e ↦ inl e | inr later ↦ inr (later_in x xs z later) ]
      ]

  pub put_old : (k : X) (xs : List X) (z : X) → Contains xs z → Contains (insert_key R xs k) z
  put_old k [] z h = absurd (none_in z h)
  put_old k (x ∷ xs) z h = by (R k x) (put_old k xs z)
    where
      by : (r : Ordering) → (Contains xs z → Contains (insert_key R xs k) z) → Contains (match_ordering r (k ∷ x ∷ xs) (x ∷ xs) (x ∷ insert_key R xs k)) z
      by Less more = later_in k (x ∷ xs) z h
      by Equal more = h
      by Greater more = elim (in_cases x xs z h) [
        | inl e ↦ subst (Contains (x ∷ insert_key R xs k)) e (first_in x (insert_key R xs k))
        | inr there ↦ later_in x (insert_key R xs k) z (more there)
      ]

  -- what is put is there, or what ties with it was
  abbrev pub IsTiedIn : X → List X → Type 0
  IsTiedIn k xs = (z : X) × Contains xs z × (R k z ≡ Equal)

  pub put_new : (k : X) (xs : List X) → Contains (insert_key R xs k) k ⊎ IsTiedIn k xs
  put_new k [] = inl (first_in k [])
  put_new k (x ∷ xs) = by (R k x) refl (put_new k xs)
    where
      by : (r : Ordering) → R k x ≡ r → Contains (insert_key R xs k) k ⊎ IsTiedIn k xs
          → Contains (match_ordering r (k ∷ x ∷ xs) (x ∷ xs) (x ∷ insert_key R xs k)) k ⊎ IsTiedIn k (x ∷ xs)
      by Less e more = inl (first_in k (x ∷ xs))
      by Equal e more = inr (x, first_in x xs, e)
      by Greater e more = elim more [
        | inl there ↦ inl (later_in x (insert_key R xs k) k there)
        | inr tie ↦ inr (tie.0, later_in x xs tie.0 tie.1, tie.2)
      ]

  pub put_rising : (k : X) (xs : List X) → IsStrictlySortedBy R xs → IsStrictlySortedBy R (insert_key R xs k)
  unfolding IsStrictlySortedBy
  put_rising k [] s = (tt, tt)
  put_rising k (x ∷ xs) s = by (R k x) refl (put_rising k xs s.1)
    where
      by : (r : Ordering) → R k x ≡ r → IsStrictlySortedBy R (insert_key R xs k) → IsStrictlySortedBy R (match_ordering r (k ∷ x ∷ xs) (x ∷ xs) (x ∷ insert_key R xs k))
      by Less e more = ((e, each_by (λ y. R k y ≡ Less) xs (λ z there. o.trans k x z e (each_of (λ y. R x y ≡ Less) xs z s.0 there))), s)
      by Equal e more = s
      by Greater e more =
          let less : R x k ≡ Less = o.antisymm x k ∙ ap ordering_reverse e in (
            each_by (λ y. R x y ≡ Less) (insert_key R xs k) (λ z there. elim (put_from k xs z there) [
              | inl same ↦ subst (λ y. R x y ≡ Less) same less
              | inr old ↦ each_of (λ y. R x y ≡ Less) xs z s.0 old
            ]),
            more,
          )

  pub put_length : (k : X) (xs : List X) → (IsTiedIn k xs → ⊥) → length (insert_key R xs k) ≡ suc (length xs)
  put_length k [] new = refl
  put_length k (x ∷ xs) new = by (R k x) refl (put_length k xs)
    where
      by : (r : Ordering) → R k x ≡ r → ((IsTiedIn k xs → ⊥) → length (insert_key R xs k) ≡ suc (length xs))
          → length (match_ordering r (k ∷ x ∷ xs) (x ∷ xs) (x ∷ insert_key R xs k)) ≡ suc (suc (length xs))
      by Less e more = refl
      by Equal e more = absurd (new (x, first_in x xs, e))
      by Greater e more = ap suc (more (λ tie. new (tie.0, later_in x xs tie.0 tie.1, tie.2)))

  -- ---- many more

  abbrev pub putting : List X → List X → List X
  putting all xs = fold (insert_key R) all xs

  pub puts_rising : (all xs : List X) → IsStrictlySortedBy R all → IsStrictlySortedBy R (putting all xs)
  puts_rising all [] s = s
  puts_rising all (x ∷ xs) s = puts_rising (insert_key R all x) xs (put_rising x all s)

  pub puts_old : (all xs : List X) (z : X) → Contains all z → Contains (putting all xs) z
  puts_old all [] z h = h
  puts_old all (x ∷ xs) z h = puts_old (insert_key R all x) xs z (put_old x all z h)

  pub puts_from : (all xs : List X) (z : X) → Contains (putting all xs) z → Contains all z ⊎ Contains xs z
  puts_from all [] z h = inl h
  puts_from all (x ∷ xs) z h = elim (puts_from (insert_key R all x) xs z h) [
    | inl there ↦ elim (put_from x all z there) [ inl e ↦ inr (subst (Contains (x ∷ xs)) e (first_in x xs)) | inr old ↦ inl old ]
    | inr later ↦ inr (later_in x xs z later)
  ]

  -- each that is put is there, or one that ties with it
  pub puts_new : (all xs : List X) (z : X) → Contains xs z → IsTiedIn z (putting all xs)
  puts_new all [] z h = absurd (none_in z h)
  puts_new all (x ∷ xs) z h = elim (in_cases x xs z h) [
    | inl e ↦ subst (λ y. IsTiedIn y (putting (insert_key R all x) xs)) e (elim (put_new x all) [
      | inl there ↦ (x, puts_old (insert_key R all x) xs x there, tied_itself o x)
      | inr tie ↦ (tie.0, puts_old (insert_key R all x) xs tie.0 (put_old x all tie.0 tie.1), tie.2)
    ])
    | inr later ↦ puts_new (insert_key R all x) xs z later
  ]

  pub puts_length : (all xs : List X) → IsDistinct (eq_by_cmp R) xs → ((z : X) → Contains xs z → IsTiedIn z all → ⊥)
      → length (putting all xs) ≡ length all + length xs
  puts_length all [] distinct new = omega arith
  puts_length all (x ∷ xs) distinct new =
      let more : length (putting (insert_key R all x) xs) ≡ length (insert_key R all x) + length xs =
      puts_length (insert_key R all x) xs (IsDistinct-tail (eq_by_cmp R) x xs distinct) (λ z there tie. elim (put_from x all tie.0 tie.1) [
        | inl same ↦
            let apart : eq_by_cmp R x z ≡ false = each_of (λ y. eq_by_cmp R x y ≡ false) xs z (IsDistinct-head (eq_by_cmp R) x xs distinct) there in
            let tied : R x z ≡ Equal = tied_back o z x (subst (λ y. R z y ≡ Equal) (sym same) tie.2) in
            let both : true ≡ false = sym (ap is_eq tied) ∙ apart in
            absurd cc
        | inr old ↦ new z (later_in x xs z there) (tie.0, old, tie.2)
      ]) in
      omega (arith, more, put_length x all (new x (first_in x xs)))

  -- ---- lists in another order

  pub distinct_both : (xs ys : List X) → IsDistinct (eq_by_cmp R) xs → IsDistinct (eq_by_cmp R) ys
      → ((x y : X) → Contains xs x → Contains ys y → eq_by_cmp R x y ≡ false) → IsDistinct (eq_by_cmp R) (xs ++ ys)
  distinct_both [] ys s t apart = t
  distinct_both (x ∷ xs) ys s t apart =
      IsDistinct-cons (eq_by_cmp R) x (xs ++ ys) (each_by (λ y. eq_by_cmp R x y ≡ false) (xs ++ ys) (λ z there. elim (Contains-append_cases xs ys z there) [
        | inl left ↦ each_of (λ y. eq_by_cmp R x y ≡ false) xs z (IsDistinct-head (eq_by_cmp R) x xs s) left
        | inr right ↦ apart x z (first_in x xs) right
      ])) (distinct_both xs ys (IsDistinct-tail (eq_by_cmp R) x xs s) t (λ a b there. apart a b (later_in x xs a there)))

  rises : (p q : Ordering) → p ≡ ordering_reverse q → is_lt q ≡ false → is_eq p ≡ false → p ≡ Less
  rises Less q back up apart = refl
  rises Equal q back up apart = absurd cc
  rises Greater Less back up apart = absurd cc
  rises Greater Equal back up apart = absurd cc
  rises Greater Greater back up apart = absurd cc

  pub none_strict : IsStrictlySortedBy R []
  unfolding IsStrictlySortedBy
  none_strict = tt

  -- a list in order in which no two tie is in strict order
  pub strictly : (xs : List X) → IsSortedBy (λ x y. is_lt (R x y)) xs → IsDistinct (eq_by_cmp R) xs → IsStrictlySortedBy R xs
  strictly [] up distinct = none_strict
  strictly (x ∷ xs) up distinct =
      sorted_from_all_adjacent o (x ∷ xs) x (λ k lt. rises _ _ (o.antisymm (get_or (x ∷ xs) k x) (get_or (x ∷ xs) (k + 1) x)) (up k x (omega arith) lt)
      (apart_from_distinct (eq_by_cmp R) (x ∷ xs) k (k + 1) x distinct (omega arith) lt))

  -- members of a strict order that tie are one
  pub tied_once : (xs : List X) (a b : X) → IsStrictlySortedBy R xs → Contains xs a → Contains xs b → R a b ≡ Equal → a ≡ b
  tied_once [] a b s p q tie = absurd (none_in a p)
  tied_once (x ∷ xs) a b s p q tie = elim (in_cases x xs a p) [
    | inl x_a ↦ elim (in_cases x xs b q) [
      | inl x_b ↦ sym x_a ∙ x_b
      | inr b_in ↦ let less : R a b ≡ Less = subst (λ y. R y b ≡ Less) x_a (above x xs b s b_in) in let both : Less ≡ Equal = sym less ∙ tie in absurd cc
    ]
    | inr a_in ↦ elim (in_cases x xs b q) [
      | inl x_b ↦
          let less : R b a ≡ Less = subst (λ y. R y a ≡ Less) x_b (above x xs a s a_in) in
          let both : Less ≡ Equal = sym less ∙ tied_back o a b tie in
          absurd cc
      | inr b_in ↦ tied_once xs a b (sorted_tail R x xs s) a_in b_in tie
    ]
  ]

  -- what a search by halves in a strict order ends with
  falls_not : (p q : Ordering) → q ≡ ordering_reverse p → p ≡ Less → is_lt q ≡ false
  falls_not Less Less back less = absurd cc
  falls_not Less Equal back less = absurd cc
  falls_not Less Greater back less = refl
  falls_not Equal q back less = absurd cc
  falls_not Greater q back less = absurd cc

  pub in_order : (xs : List X) → IsStrictlySortedBy R xs → IsSortedBy (λ x y. is_lt (R x y)) xs
  in_order xs s k d low lt =
      falls_not (R (get_or xs k d) (get_or xs (k + 1) d)) (R (get_or xs (k + 1) d) (get_or xs k d)) (o.antisymm (get_or xs (k + 1) d) (get_or xs k d))
      (Less-from_sorted R xs k (k + 1) d s (omega arith) lt)

  pub gap_apart : (xs : List X) (x : X) (at : ℕ) → IsStrictlySortedBy R xs
      → (IsNonDecreasingBy (λ y. ordering_index (R y x)) xs → IsPartitionPoint (λ y. R y x ≡ Less) (λ y. R y x ≡ Greater) xs at)
      → (z : X) → Contains xs z → R x z ≡ Equal → ⊥
  gap_apart xs x at s parted z there tie =
      let parts = parted (searchable_from_sorted o (λ (y : X). y) xs x (in_order xs s)) in
      let back : R z x ≡ Equal = tied_back o x z tie in
      let here : get_or xs there.0 z ≡ z = there.2 in
      elim (cases_lt there.0 at) [
        | inl below ↦
            let less : R z x ≡ Less = subst (λ y. R y x ≡ Less) here (parts.0 there.0 z (omega arith) below) in
            let both : Less ≡ Equal = sym less ∙ back in
            absurd cc
        | inr from ↦
            let more : R z x ≡ Greater = subst (λ y. R y x ≡ Greater) here (parts.1 there.0 z from there.1) in
            let both : Greater ≡ Equal = sym more ∙ back in
            absurd cc
      ]

  -- what is below the first of a list in order isn't in it
  not_below : (x : X) (xs : List X) (z y : X) → IsStrictlySortedBy R (x ∷ xs) → Contains (x ∷ xs) z → R y x ≡ Less → z ≡ y → ⊥
  not_below x xs z y s there less same = elim (in_cases x xs z there) [
    | inl e ↦ not_itself y x less (sym same ∙ sym e)
    | inr later ↦ not_itself y z (o.trans y x z less (above x xs z s later)) (sym same)
  ]

  -- a list in order whose members are all in another is no longer
  pub sub_length : (xs ys : List X) → IsStrictlySortedBy R xs → IsStrictlySortedBy R ys → ((z : X) → Contains xs z → Contains ys z) → length xs ≤ length ys
  sub_length [] ys s t goes = omega arith
  sub_length (x ∷ xs) [] s t goes = absurd (none_in x (goes x (first_in x xs)))
  sub_length (x ∷ xs) (y ∷ ys) s t goes = elim (in_cases y ys x (goes x (first_in x xs))) [
    | inl same ↦
        let rest : length xs ≤ length ys = sub_length xs ys (sorted_tail R x xs s) (sorted_tail R y ys t) (λ z there. tail_in x xs y ys z s (sym same) (goes z) there) in
        omega (arith, rest)
    | inr later ↦
        let less : R y x ≡ Less = above y ys x t later in
        let rest : length (x ∷ xs) ≤ length ys = sub_length (x ∷ xs) ys s (sorted_tail R y ys t) (λ z there. elim (in_cases y ys z (goes z there)) [
          | inl e ↦ absurd (not_below x xs z y s there less (sym e))
          | inr in_ys ↦ in_ys
        ]) in
        omega (arith, rest)
  ]
