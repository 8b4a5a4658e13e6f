-- What an order of places by their keys tells of the items, and how one more place goes into it.
use Rattle.std.proofs.Common.{◌≡◌, ℕ, ◌+◌, ◌-◌, ◌<◌, ◌≤◌, ◌≢◌, ◌∙◌, inl, inr, Bool, true, false, List, [], ◌∷◌, ◌++◌, length, get_or, Some, None, Result, Ok, Err, IfOk, IfErr, refl, sym, ap, subst, arith}
use Rattle.std.specs.List.{All, insert, position, position_or_len, list_any, slice_get}
use Rattle.std.specs.List.Sorted.{IsSearchInRange, IsBinarySearchResult, IsNonDecreasingBy, IsPartitionPoint}
use Rattle.std.specs.Cmp.{IsTotalOrder}
use Rattle.std.specs.Result.{is_ok}
use Rattle.std.specs.Ordering.{ordering_index, ordering_reverse, is_eq}
use Rattle.std.specs.declared.cmp.Ordering.{Ordering}
use Rattle.std.specs.declared.cmp.Ordering.TheVariants.{Less, Equal, Greater}
use Rattle.std.proofs.lemmas.Bool.{cases_lt}
use Rattle.std.proofs.lemmas.Cmp.{alike_right}
use Rattle.std.proofs.lemmas.List.{get_or_default, get_or_append_left, get_or_push, length_push}
use Rattle.std.proofs.lemmas.List.Edits.{length-insert, get_or-insert_below, get_or-insert_at, get_or-insert_above}
use Rattle.std.proofs.lemmas.List.Folds.{list_any_at, list_any_none}
use Rattle.std.proofs.lemmas.List.Sums.{position_or_len_is}
use Rattle.std.proofs.lemmas.Bool.Decides.{nat_tests}
use Rattle.std.proofs.lemmas.Option.{slice_get-get_or, slice_get_cases}
use Rattle.bank_model.specs.Directory.{IsOrderOf, IsFound, IsGap, compared}

-- an answer that is less wherever another is less or equal stands no higher
holds_lower : (p q : Ordering) → (q ≡ Less → p ≡ Less) → (q ≡ Equal → p ≡ Less) → ordering_index p ≤ ordering_index q
holds_lower p Less less equal = rw (less refl) (omega arith)
holds_lower p Equal less equal = rw (equal refl) (omega arith)
holds_lower Less Greater less equal = omega arith
holds_lower Equal Greater less equal = omega arith
holds_lower Greater Greater less equal = omega arith

pub position_at : {X : Type 0} (p : X → Bool) (xs : List X) (i : ℕ) → i < length xs → position_or_len p xs ≡ i → position p xs ≡ Some i
position_at p xs i lt is = grind (arith, nat_tests)

pub position_nowhere : {X : Type 0} (p : X → Bool) (xs : List X) → position_or_len p xs ≡ length xs → position p xs ≡ None
position_nowhere p xs is = grind (arith, nat_tests)

-- where no item passes
pub position_or_len_none : {X : Type 0} (p : X → Bool) (xs : List X) → All (λ x. p x ≡ false) xs → position_or_len p xs ≡ length xs
position_or_len_none p [] none = refl
position_or_len_none p (x ∷ xs) none = position_or_len_is p (x ∷ xs) _ x (omega arith) (λ j lt. none j x lt) (λ lt. absurd (omega (arith, lt)))

-- a list with an index has an item
some_item : {X : Type 0} (xs : List X) (i : ℕ) → i < length xs → X
some_item xs i lt = elim ((slice_get_cases xs i).1) [ inl w ↦ w.0 | inr w ↦ absurd (omega (arith, lt, w.0)) ]

module _ {X K : Type 0} (key : X → K) (R : K → K → Ordering) (o : IsTotalOrder R) where
  -- what is less than a key is so of what equals it too, and the comparisons with one key rise along rising keys
  rises_to : (a b k : K) → R a b ≡ Less → ordering_index (R a k) ≤ ordering_index (R b k)
  rises_to a b k less = holds_lower (R a k) (R b k) (λ e. o.trans a b k less e) (λ e. sym (alike_right o b k a e) ∙ less)

  module _ (items : List X) (indices : List ℕ) (order : IsOrderOf key R items indices) (k : K) where
    -- a place that the order has is that of an item
    seen : (index : ℕ) (d : X) → index < length items → compared key R k (slice_get items index) ≡ R (key (get_or items index d)) k
    seen index d lt = ap (compared key R k) (slice_get-get_or items index d lt)

    rising : IsNonDecreasingBy (λ index. ordering_index (compared key R k (slice_get items index))) indices
    rising i j d le lt = elim (cases_lt i j) [
      | inl below ↦
          let x = some_item items _ (order.known i (omega arith)) in
          rw (
            get_or_default indices i d 0 (omega arith),
            get_or_default indices j d 0 lt,
            seen _ x (order.known i (omega arith)),
            seen _ x (order.known j lt),
          ) (rises_to _ _ k (order.rising i j x below lt))
      | inr from ↦ let same : i ≡ j = omega arith in rw same (omega arith)
    ]

    -- a search ends at the place of the item under the key, or where it would go
    pub searched_found : (at : ℕ) → at < length indices → ((d : ℕ) → compared key R k (slice_get items (get_or indices at d)) ≡ Equal)
        → IsFound key R items indices k at
    searched_found at lt same = record { within = lt; same = λ d. sym (seen _ d (order.known at lt)) ∙ same 0 }

    pub searched_gap : (at : ℕ) → at ≤ length indices
        → IsPartitionPoint (λ index. compared key R k (slice_get items index) ≡ Less) (λ index. compared key R k (slice_get items index) ≡ Greater) indices at
        → IsGap key R items indices k at
    searched_gap at le parted = record {
      within = le;
      before = λ j d lt. sym (seen _ d (order.known j (omega arith))) ∙ parted.0 j 0 (omega arith) lt;
      suffix = λ j d from lt. sym (seen _ d (order.known j lt)) ∙ parted.1 j 0 from lt;
    }

    pub searched : (r : Result ℕ ℕ) → IsSearchInRange r (length indices) → IsBinarySearchResult (λ index. compared key R k (slice_get items index)) indices r
        → IfOk r (IsFound key R items indices k) × IfErr r (IsGap key R items indices k)
    searched (Ok at) lt same = (searched_found at lt same, tt)
    searched (Err at) le parted = (tt, searched_gap at le (parted rising))

    -- at the other places the keys are others
    other_offset : (at : ℕ) → IsFound key R items indices k at → (index : ℕ) (d : X) → index < length items → index ≢ get_or indices at 0
        → is_eq (R (key (get_or items index d)) k) ≡ false
    other_offset at found index d lt other =
        let there = order.whole index lt in
        let is : get_or indices there.0 0 ≡ index = get_or_default indices there.0 0 index there.1 ∙ there.2 in
        let item = λ (j : ℕ). key (get_or items (get_or indices j 0) d) in
        let near = alike_right o (item at) k (item there.0) (found.same d) in
        elim (cases_lt there.0 at) [
          | inl below ↦ subst (λ q. is_eq (R (key (get_or items q d)) k) ≡ false) is
              (ap is_eq (sym near ∙ order.rising there.0 at d below found.within))
          | inr from ↦ elim (cases_lt at there.0) [
            | inl above ↦ subst (λ q. is_eq (R (key (get_or items q d)) k) ≡ false) is
                (ap is_eq (sym near ∙ o.antisymm (item there.0) (item at) ∙ ap ordering_reverse (order.rising at there.0 d above there.1)))
            | inr to ↦ let same : there.0 ≡ at = omega arith in absurd (other (sym is ∙ ap (λ j. get_or indices j 0) same))
          ]
        ]

    no_index : (at : ℕ) → IsGap key R items indices k at → (index : ℕ) (d : X) → index < length items → is_eq (R (key (get_or items index d)) k) ≡ false
    no_index at gap index d lt =
        let there = order.whole index lt in
        let is : get_or indices there.0 0 ≡ index = get_or_default indices there.0 0 index there.1 ∙ there.2 in
        elim (cases_lt there.0 at) [
          | inl below ↦ subst (λ q. is_eq (R (key (get_or items q d)) k) ≡ false) is (ap is_eq (gap.before there.0 d below))
          | inr from ↦ subst (λ q. is_eq (R (key (get_or items q d)) k) ≡ false) is (ap is_eq (gap.suffix there.0 d from there.1))
        ]

    module _ (has_key : X → K → Bool) (ties : (x : X) (k : K) → has_key x k ≡ is_eq (R (key x) k)) where
      pub position_found : (at : ℕ) → IsFound key R items indices k at → position (λ x. has_key x k) items ≡ Some (get_or indices at 0)
      position_found at found =
          let index = get_or indices at 0 in
          let lt = order.known at found.within in
          let d = some_item items index lt in
          position_at _ items index lt (position_or_len_is _ items index d (omega (arith, lt))
          (λ j below. ties _ k ∙ other_offset at found j d (omega (arith, below, lt)) (λ same. omega (arith, below, same)))
          (λ _. ties _ k ∙ ap is_eq (found.same d)))

      pub position_gap : (at : ℕ) → IsGap key R items indices k at → position (λ x. has_key x k) items ≡ None
      position_gap at gap = position_nowhere _ items (position_or_len_none _ items (λ index d lt. ties _ k ∙ no_index at gap index d lt))

      pub any_found : (at : ℕ) → IsFound key R items indices k at → list_any (λ x. has_key x k) items ≡ true
      any_found at found =
          let lt = order.known at found.within in
          let d = some_item items (get_or indices at 0) lt in
          list_any_at _ items (get_or indices at 0) d lt (ties _ k ∙ ap is_eq (found.same d))

      pub any_gap : (at : ℕ) → IsGap key R items indices k at → list_any (λ x. has_key x k) items ≡ false
      any_gap at gap = list_any_none _ items (λ index d lt. ties _ k ∙ no_index at gap index d lt)

      pub any_searched : (r : Result ℕ ℕ) → IfOk r (IsFound key R items indices k) → IfErr r (IsGap key R items indices k)
          → is_ok r ≡ list_any (λ x. has_key x k) items
      any_searched (Ok at) found gap = sym (any_found at found)
      any_searched (Err at) found gap = sym (any_gap at gap)

  -- one item more under a key of its own, with its place where it goes
  pub inserted : (items : List X) (indices : List ℕ) → IsOrderOf key R items indices → (x : X) (at : ℕ) → IsGap key R items indices (key x) at
      → IsOrderOf key R (items ++ x ∷ []) (insert indices at (length items))
  inserted items indices order x at gap = record { known = known; whole = whole; rising = rising_with }
    where
      n : ℕ
      n = length items

      new : List ℕ
      new = insert indices at n

      below : (j : ℕ) → j < at → get_or new j 0 ≡ get_or indices j 0
      below j lt = get_or-insert_below indices at n 0 j lt gap.within

      here : (j : ℕ) → j ≡ at → get_or new j 0 ≡ n
      here j is = rw is (get_or-insert_at indices at n 0 gap.within)

      above : (j : ℕ) → at < j → get_or new j 0 ≡ get_or indices (j - 1) 0
      above j lt = subst (λ q. get_or new q 0 ≡ get_or indices (j - 1) 0) {x = j - 1 + 1} (omega arith) (get_or-insert_above indices at n 0 (j - 1) (omega arith) gap.within)

      above_by_one : (j : ℕ) → at ≤ j → get_or new (j + 1) 0 ≡ get_or indices j 0
      above_by_one j le = get_or-insert_above indices at n 0 j le gap.within

      longer : length new ≡ length indices + 1
      longer = length-insert indices at n gap.within

      known : (j : ℕ) → j < length new → get_or new j 0 < length (items ++ x ∷ [])
      known j lt = grind (arith, below j, here j, above j, order.known j, order.known (j - 1), longer, length_push items x)

      whole : (index : ℕ) → index < length (items ++ x ∷ []) → (k : ℕ) × (k < length new) × (get_or new k index ≡ index)
      whole index lt = elim (cases_lt index n) [
        | inl old ↦
            let there = order.whole index old in
            let is : get_or indices there.0 0 ≡ index = get_or_default indices there.0 0 index there.1 ∙ there.2 in
            elim (cases_lt there.0 at) [
              | inl left ↦
                  let in_range : there.0 < length new = omega (arith, longer, there.1) in
                  (there.0, in_range, get_or_default new there.0 index 0 in_range ∙ below there.0 left ∙ is)
              | inr from ↦
                  let in_range : there.0 + 1 < length new = omega (arith, longer, there.1) in
                  (there.0 + 1, in_range, get_or_default new (there.0 + 1) index 0 in_range ∙ above_by_one there.0 from ∙ is)
            ]
        | inr last ↦
            let same : n ≡ index = omega (arith, length_push items x, lt, last) in
            let in_range : at < length new = omega (arith, longer, gap.within) in
            (at, in_range, get_or_default new at index 0 in_range ∙ here at refl ∙ same)
      ]

      new_key : ℕ → X → K
      new_key m d = key (get_or (items ++ x ∷ []) (get_or new m 0) d)

      old_key : ℕ → X → K
      old_key m d = key (get_or items (get_or indices m 0) d)

      left_key : (m : ℕ) (d : X) → m < at → new_key m d ≡ old_key m d
      left_key m d lt = rw (below m lt) (ap key (get_or_append_left items (x ∷ []) d _ (order.known m (omega (arith, gap.within, lt)))))

      this_key : (m : ℕ) (d : X) → m ≡ at → new_key m d ≡ key x
      this_key m d is = rw (here m is) (ap key (get_or_push items x d n refl))

      right_key : (m : ℕ) (d : X) → at < m → m < length new → new_key m d ≡ old_key (m - 1) d
      right_key m d lt in_range =
          rw (above m lt) (ap key (get_or_append_left items (x ∷ []) d _ (order.known (m - 1) (omega (arith, lt, in_range, longer)))))

      flipped : (m : ℕ) (d : X) → at ≤ m → m < length indices → R (key x) (old_key m d) ≡ Less
      flipped m d from lt = o.antisymm (key x) (old_key m d) ∙ ap ordering_reverse (gap.suffix m d from lt)

      rising_with : (i j : ℕ) (d : X) → i < j → j < length new → R (new_key i d) (new_key j d) ≡ Less
      rising_with i j d lt in_range = elim (cases_lt j at) [
        | inl left ↦ rw (left_key i d (omega arith), left_key j d left) (order.rising i j d lt (omega (arith, gap.within)))
        | inr from ↦ elim (cases_lt at j) [
          | inr to ↦ rw (left_key i d (omega arith), this_key j d (omega arith)) (gap.before i d (omega arith))
          | inl right ↦ elim (cases_lt i at) [
            | inl left ↦ rw (left_key i d left, right_key j d right in_range) (order.rising i (j - 1) d (omega arith) (omega (arith, longer)))
            | inr high ↦ elim (cases_lt at i) [
              | inr to ↦ rw (this_key i d (omega arith), right_key j d right in_range) (flipped (j - 1) d (omega arith) (omega (arith, longer)))
              | inl above_it ↦ rw (right_key i d above_it (omega arith), right_key j d right in_range)
                  (order.rising (i - 1) (j - 1) d (omega arith) (omega (arith, longer)))
            ]
          ]
        ]
      ]
