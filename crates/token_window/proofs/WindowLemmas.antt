-- Entries whose numbers rise, cut at one of them, and a window with one entry more.
use Rattle.std.proofs.Common.{◌≡◌, ℕ, ◌+◌, ◌-◌, ◌<◌, ◌≤◌, ◌⊎◌, inl, inr, Bool, cond, ltb, List, [], ◌∷◌, ◌++◌, length, get_or, take, drop, filter, Option, None, Some, zero, suc, refl, sym, ap, ◌∙◌, subst, arith}
use Rattle.std.proofs.lemmas.Bool.{lt-ltb, le-ltb, cases_lt, cond-true, cond-false}
use Rattle.std.proofs.lemmas.List.{take-append-drop, take_more, drop-append-le, drop-drop, length-drop, length-append, length-take-le, get_or-drop, get_or_append_left}
use Rattle.std.proofs.Math.Seq.{take-append-add}
use Rattle.std.proofs.lemmas.List.Sums.{fold-append}
use Rattle.std.proofs.lemmas.List.Sorted.{IsNonDecreasingBy-from_all_adjacent}
use Rattle.std.proofs.lemmas.Option.{slice_get-get_or, slice_get_within}
use Rattle.std.specs.List.{AllAdjacentBelow, slice_get}
use Rattle.std.specs.List.Sorted.{IsNonDecreasingBy}
use Rattle.circular_buffer.specs.Buffer.{last_item}
use Rattle.bank_model.specs.declared.entry.Entry.{Entry}
use Rattle.bank_model.specs.Objects.{last_number}
use Rattle.bank_model.specs.Sync.{is_above}
use Rattle.token_window.specs.WindowView.{WindowView, RiseFrom, last_number_from, newest_held, entry_before, number_of, Represents, IsWindow}

abbrev number_after : ℕ → Entry → ℕ
number_after number entry = entry.number

-- ---- numbers that rise

pub last_over : (before : ℕ) (xs ys : List Entry) → last_number_from before (xs ++ ys) ≡ last_number_from (last_number_from before xs) ys
last_over before xs ys = fold-append number_after before xs ys

pub at_least : (before : ℕ) (xs : List Entry) → RiseFrom before xs → before ≤ last_number_from before xs
at_least before [] rise = omega arith
at_least before (x ∷ xs) rise = let rest = at_least x.number xs rise.1 in omega (arith, rise.0, rest)

pub rise_parts : (before : ℕ) (xs ys : List Entry) → RiseFrom before (xs ++ ys) → RiseFrom before xs × RiseFrom (last_number_from before xs) ys
rise_parts before [] ys rise = (tt, rise)
rise_parts before (x ∷ xs) ys rise = let rest = rise_parts x.number xs ys rise.1 in ((rise.0, rest.0), rest.1)

pub rise_more : (before : ℕ) (xs : List Entry) (entry : Entry) → RiseFrom before xs → last_number_from before xs < entry.number → RiseFrom before (xs ++ entry ∷ [])
rise_more before [] entry rise above = (above, tt)
rise_more before (x ∷ xs) entry rise above = (rise.0, rise_more x.number xs entry rise.1 above)

adjacent : (before : ℕ) (xs : List Entry) → RiseFrom before xs → AllAdjacentBelow (λ (x y : Entry). x.number ≤ y.number) xs (length xs)
adjacent before [] rise k d less = absurd (omega arith)
adjacent before (x ∷ []) rise k d less = absurd (omega arith)
adjacent before (x ∷ y ∷ xs) rise zero d less = omega (arith, rise.1.0)
adjacent before (x ∷ y ∷ xs) rise (suc k) d less =
    let next : suc k + 1 ≡ suc (k + 1) = omega arith in
    subst (λ (n : ℕ). (get_or (y ∷ xs) k d).number ≤ (get_or (x ∷ y ∷ xs) n d).number) (sym next) (adjacent x.number (y ∷ xs) rise.1 k d (omega arith))

pub in_order : (before : ℕ) (xs : List Entry) → RiseFrom before xs → IsNonDecreasingBy (λ (entry : Entry). entry.number) xs
in_order before xs rise = IsNonDecreasingBy-from_all_adjacent (λ (entry : Entry). entry.number) xs (adjacent before xs rise)

-- the last one of entries, found by its place
last_at : (before : ℕ) (xs : List Entry) (k : ℕ) (entry : Entry) → k + 1 ≡ length xs → slice_get xs k ≡ Some entry → last_number_from before xs ≡ entry.number
last_at before [] k entry same is = absurd (omega arith)
last_at before (x ∷ []) zero entry same is = ap (number_of 0) is
last_at before (x ∷ []) (suc k) entry same is = absurd (omega arith)
last_at before (x ∷ y ∷ ys) zero entry same is = absurd (omega arith)
last_at before (x ∷ y ∷ ys) (suc k) entry same is = last_at x.number (y ∷ ys) k entry (omega arith) is

pub last_some : (before : ℕ) (xs : List Entry) (entry : Entry) → last_item xs ≡ Some entry → last_number_from before xs ≡ entry.number
last_some before xs entry is =
    let within = slice_get_within xs (length xs - 1) entry is in
    last_at before xs (length xs - 1) entry (omega (arith, within)) is

pub last_none : (before : ℕ) (xs : List Entry) → last_item xs ≡ None → last_number_from before xs ≡ before
last_none before [] is = refl
last_none before (x ∷ xs) is =
    let some = slice_get-get_or (x ∷ xs) (length (x ∷ xs) - 1) x (omega arith) in
    let both : Some (get_or (x ∷ xs) (length (x ∷ xs) - 1) x) ≡ None = sym some ∙ is in
    cc

-- ---- the entries above a number

all_above : (token before : ℕ) (xs : List Entry) → RiseFrom before xs → token ≤ before → filter (is_above token) xs ≡ xs
all_above token before [] rise less = refl
all_above token before (x ∷ xs) rise less =
    cond-true (ltb token x.number) (x ∷ filter (is_above token) xs) (filter (is_above token) xs) (lt-ltb token x.number (omega (arith, rise.0, less)))
    ∙ ap (λ (rest : List Entry). x ∷ rest) (all_above token x.number xs rise.1 (omega (arith, rise.0, less)))

-- those above the number of an entry are those after it
pub cut_above : (before : ℕ) (k : ℕ) (xs : List Entry) → RiseFrom before xs → filter (is_above (last_number_from before (take k xs))) xs ≡ drop k xs
cut_above before zero xs rise = all_above before before xs rise (omega arith)
cut_above before (suc k) [] rise = refl
cut_above before (suc k) (x ∷ xs) rise =
    let token : ℕ = last_number_from x.number (take k xs) in
    let parts = rise_parts x.number (take k xs) (drop k xs) (subst (λ (ys : List Entry). RiseFrom x.number ys) (sym (take-append-drop k xs)) rise.1) in
    let passed : x.number ≤ token = at_least x.number (take k xs) parts.0 in
    cond-false (ltb token x.number) (x ∷ filter (is_above token) xs) (filter (is_above token) xs) (le-ltb token x.number passed)
    ∙ cut_above x.number k xs rise.1

-- a higher token after a lower one
pub above_both : (low high : ℕ) (xs : List Entry) → low ≤ high → filter (is_above high) (filter (is_above low) xs) ≡ filter (is_above high) xs
above_both low high [] less = refl
above_both low high (x ∷ xs) less = split (above_both low high xs less) (cases_lt high x.number) (cases_lt low x.number)
  where
    split : filter (is_above high) (filter (is_above low) xs) ≡ filter (is_above high) xs → (high < x.number) ⊎ (x.number ≤ high) → (low < x.number) ⊎ (x.number ≤ low) → filter (is_above high) (filter (is_above low) (x ∷ xs)) ≡ filter (is_above high) (x ∷ xs)
    split rest (inl over) (inl past) =
        ap (λ (b : Bool). filter (is_above high) (cond b (x ∷ filter (is_above low) xs) (filter (is_above low) xs))) (lt-ltb low x.number past)
        ∙ ap (λ (ys : List Entry). cond (ltb high x.number) (x ∷ ys) ys) rest
    split rest (inl over) (inr under) = absurd (omega (arith, over, under, less))
    split rest (inr not_over) (inl past) =
        ap (λ (b : Bool). filter (is_above high) (cond b (x ∷ filter (is_above low) xs) (filter (is_above low) xs))) (lt-ltb low x.number past)
        ∙ ap (λ (ys : List Entry). cond (ltb high x.number) (x ∷ ys) ys) rest
    split rest (inr not_over) (inr under) =
        ap (λ (b : Bool). filter (is_above high) (cond b (x ∷ filter (is_above low) xs) (filter (is_above low) xs))) (le-ltb low x.number under)
        ∙ rest
        ∙ sym (cond-false (ltb high x.number) (x ∷ filter (is_above high) xs) (filter (is_above high) xs) (le-ltb high x.number not_over))

-- those above a token, where it cuts the list in two
pub above_cut : (token : ℕ) (xs : List Entry) (i : ℕ) → ((k : ℕ) (d : Entry) → k < i → k < length xs → (get_or xs k d).number ≤ token) → ((k : ℕ) (d : Entry) → i ≤ k → k < length xs → token < (get_or xs k d).number) → filter (is_above token) xs ≡ drop i xs
above_cut token [] zero low high = refl
above_cut token [] (suc i) low high = refl
above_cut token (x ∷ xs) zero low high =
    cond-true (ltb token x.number) (x ∷ filter (is_above token) xs) (filter (is_above token) xs) (lt-ltb token x.number (high 0 x (omega arith) (omega arith)))
    ∙ ap (λ (rest : List Entry). x ∷ rest) (above_cut token xs zero (λ k d less within. absurd (omega arith)) (λ k d more within. high (suc k) d (omega arith) (omega arith)))
above_cut token (x ∷ xs) (suc i) low high =
    cond-false (ltb token x.number) (x ∷ filter (is_above token) xs) (filter (is_above token) xs) (le-ltb token x.number (low 0 x (omega arith) (omega arith)))
    ∙ above_cut token xs i (λ k d less within. low (suc k) d (omega arith) (omega arith)) (λ k d more within. high (suc k) d (omega arith) (omega arith))

-- ---- a ring with one entry more

-- what the ring hands back, and what it holds then
abbrev pub ring_left : ℕ → List Entry → Entry → Option Entry
ring_left capacity held entry = cond (ltb (length held) capacity) None (slice_get (held ++ entry ∷ []) 0)

abbrev pub ring_with : ℕ → List Entry → Entry → List Entry
ring_with capacity held entry = drop (length (held ++ entry ∷ []) - capacity) (held ++ entry ∷ [])

-- what the window hands back
abbrev pub window_left : ℕ → List Entry → Option Entry
window_left width held = cond (ltb (length held) width) None (slice_get held 0)

-- A ring that is full is as wide as the window.
full : (width capacity floor room : ℕ) (held : List Entry) → IsWindow width capacity floor room held → 0 < room → (length held < capacity) ⊎ ((capacity ≡ width) × (length held ≡ width))
full width capacity floor room held is some = split (cases_lt (length held) capacity) (cases_lt capacity width)
  where
    split : (length held < capacity) ⊎ (capacity ≤ length held) → (capacity < width) ⊎ (width ≤ capacity) → (length held < capacity) ⊎ ((capacity ≡ width) × (length held ≡ width))
    split (inl less) other = inl less
    split (inr all) (inl less) = absurd (let roomy = is.roomy less in omega (arith, roomy, all, some))
    split (inr all) (inr wide) = inr (omega (arith, is.narrow, wide), omega (arith, is.narrow, is.located, wide, all))

size_more : (held : List Entry) (entry : Entry) → length (held ++ entry ∷ []) ≡ length held + 1
size_more held entry = length-append held (entry ∷ [])

first_stays : (held : List Entry) (entry : Entry) → 0 < length held → slice_get (held ++ entry ∷ []) 0 ≡ slice_get held 0
first_stays [] entry some = absurd (omega arith)
first_stays (x ∷ xs) entry some = refl

pub left_same : (width capacity floor room : ℕ) (held : List Entry) (entry : Entry) → IsWindow width capacity floor room held → 0 < room → ring_left capacity held entry ≡ window_left width held
left_same width capacity floor room held entry is some = split (full width capacity floor room held is some)
  where
    split : (length held < capacity) ⊎ ((capacity ≡ width) × (length held ≡ width)) → ring_left capacity held entry ≡ window_left width held
    split (inl less) =
        cond-true (ltb (length held) capacity) None (slice_get (held ++ entry ∷ []) 0) (lt-ltb (length held) capacity less)
        ∙ sym (cond-true (ltb (length held) width) None (slice_get held 0) (lt-ltb (length held) width (omega (arith, less, is.narrow))))
    split (inr (same, all)) =
        cond-false (ltb (length held) capacity) None (slice_get (held ++ entry ∷ []) 0) (le-ltb (length held) capacity (omega (arith, same, all)))
        ∙ first_stays held entry (omega (arith, all, is.wide))
        ∙ sym (cond-false (ltb (length held) width) None (slice_get held 0) (le-ltb (length held) width (omega (arith, all))))

pub held_same : (width capacity floor room : ℕ) (held : List Entry) (entry : Entry) → IsWindow width capacity floor room held → 0 < room → ring_with capacity held entry ≡ ring_with width held entry
held_same width capacity floor room held entry is some = ap (λ (n : ℕ). drop n (held ++ entry ∷ [])) (split (full width capacity floor room held is some))
  where
    size : length (held ++ entry ∷ []) ≡ length held + 1
    size = size_more held entry

    split : (length held < capacity) ⊎ ((capacity ≡ width) × (length held ≡ width)) → length (held ++ entry ∷ []) - capacity ≡ length (held ++ entry ∷ []) - width
    split (inl less) = omega (arith, less, is.narrow, size)
    split (inr (same, all)) = omega (arith, same)

-- Numbers rise from the floor that the entry that leaves makes.
rise_in_ring : (capacity floor : ℕ) (held : List Entry) (entry : Entry) → RiseFrom floor held → last_number_from floor held < entry.number → (length held < capacity) ⊎ ((length held ≡ capacity) × (0 < capacity)) → RiseFrom (number_of floor (ring_left capacity held entry)) (ring_with capacity held entry)
rise_in_ring capacity floor held entry rise above (inl less) =
    let left : ring_left capacity held entry ≡ None = cond-true (ltb (length held) capacity) None (slice_get (held ++ entry ∷ []) 0) (lt-ltb (length held) capacity less) in
    let none : length (held ++ entry ∷ []) - capacity ≡ 0 = omega (arith, size_more held entry, less) in
    subst (λ (o : Option Entry). RiseFrom (number_of floor o) (ring_with capacity held entry)) (sym left)
    (subst (λ (n : ℕ). RiseFrom floor (drop n (held ++ entry ∷ []))) (sym none) (rise_more floor held entry rise above))
rise_in_ring capacity floor [] entry rise above (inr all) = absurd (omega (arith, all.0, all.1))
rise_in_ring capacity floor (x ∷ xs) entry rise above (inr all) =
    let left : ring_left capacity (x ∷ xs) entry ≡ Some x = cond-false (ltb (length (x ∷ xs)) capacity) None (Some x) (le-ltb (length (x ∷ xs)) capacity (omega (arith, all.0))) in
    let one : length (x ∷ xs ++ entry ∷ []) - capacity ≡ 1 = omega (arith, size_more (x ∷ xs) entry, all.0) in
    subst (λ (o : Option Entry). RiseFrom (number_of floor o) (ring_with capacity (x ∷ xs) entry)) (sym left)
    (subst (λ (n : ℕ). RiseFrom x.number (drop n (x ∷ xs ++ entry ∷ []))) (sym one) (rise_more x.number xs entry rise.1 above))

pub still_window : (width capacity floor room left_room : ℕ) (held : List Entry) (entry : Entry) → IsWindow width capacity floor room held → left_room + 1 ≡ room → last_number_from floor held < entry.number → IsWindow width capacity (number_of floor (ring_left capacity held entry)) left_room (ring_with capacity held entry)
still_window width capacity floor room left_room held entry is less above =
    let X : List Entry = held ++ entry ∷ [] in
    let size = size_more held entry in
    let rest = length-drop (length X - capacity) X in
    record {
      wide = is.wide;
      rising = rise_in_ring capacity floor held entry is.rising above (either (full width capacity floor room held is (omega (arith, less))));
      located = omega (arith, rest);
      narrow = is.narrow;
      roomy = (λ narrow. let roomy = is.roomy narrow in omega (arith, rest, size, less, roomy));
    }
  where
    either : (length held < capacity) ⊎ ((capacity ≡ width) × (length held ≡ width)) → (length held < capacity) ⊎ ((length held ≡ capacity) × (0 < capacity))
    either (inl less) = inl less
    either (inr (same, all)) = inr (omega (arith, same, all), omega (arith, same, is.wide))

-- ---- the history that a window stands for

pub held_cut : (history : List Entry) (width : ℕ) (window : WindowView) → Represents history width window → window.held ≡ drop (length history - width) history
held_cut history width window holds =
    holds.held
    ∙ ap (λ (n : ℕ). filter (is_above n) history) holds.floor
    ∙ cut_above 0 (length history - width) history holds.rising

pub newest_holds : (history : List Entry) (width : ℕ) (window : WindowView) → Represents history width window → newest_held window ≡ last_number history
newest_holds history width window holds =
    let k : ℕ = length history - width in
    ap (λ (n : ℕ). last_number_from n window.held) holds.floor
    ∙ ap (last_number_from (last_number_from 0 (take k history))) (held_cut history width window holds)
    ∙ sym (last_over 0 (take k history) (drop k history))
    ∙ ap (last_number_from 0) (take-append-drop k history)

pub above_holds : (history : List Entry) (width token : ℕ) (window : WindowView) → Represents history width window → window.floor ≤ token → filter (is_above token) window.held ≡ filter (is_above token) history
above_holds history width token window holds less =
    ap (filter (is_above token)) holds.held ∙ above_both window.floor token history less

-- ---- the entry before the last ones

last_up_to : (before : ℕ) (xs : List Entry) (n : ℕ) (entry : Entry) → n < length xs → slice_get xs n ≡ Some entry → last_number_from before (take (n + 1) xs) ≡ entry.number
last_up_to before xs n entry within is =
    ap (last_number_from before) (take_more xs n entry within)
    ∙ last_over before (take n xs) (get_or xs n entry ∷ [])
    ∙ ap (number_of 0) (sym (slice_get-get_or xs n entry within) ∙ is)

pub number_at : (floor : ℕ) (held : List Entry) (count last : ℕ) (entry : Entry) → count ≡ length held → last < count → slice_get held (count - last - 1) ≡ Some entry → last_number_from floor (take (length held - last) held) ≡ entry.number
number_at floor held count last entry size more is =
    let next : length held - last ≡ count - last - 1 + 1 = omega (arith, size, more) in
    ap (λ (n : ℕ). last_number_from floor (take n held)) next
    ∙ last_up_to floor held (count - last - 1) entry (omega (arith, size, more)) is

pub none_before : (floor : ℕ) (held : List Entry) (last : ℕ) → length held ≤ last → floor ≡ last_number_from floor (take (length held - last) held)
none_before floor held last few =
    let none : length held - last ≡ 0 = omega (arith, few) in
    sym (ap (λ (n : ℕ). last_number_from floor (take n held)) none)

pub some_there : (held : List Entry) (count last : ℕ) → count ≡ length held → last < count → slice_get held (count - last - 1) ≡ None → ⊥
some_there [] count last size more is = omega (arith, size, more)
some_there (x ∷ xs) count last size more is =
    let some = slice_get-get_or (x ∷ xs) (count - last - 1) x (omega (arith, size, more)) in
    let both : Some (get_or (x ∷ xs) (count - last - 1) x) ≡ None = sym some ∙ is in
    cc

-- A window that stands for a history tells of the entries before its last ones what the history does.
pub before_holds : (history : List Entry) (width last : ℕ) (window : WindowView) → Represents history width window → last ≤ width → last_number_from window.floor (take (length window.held - last) window.held) ≡ last_number (take (length history - last) history)
before_holds history width last window holds narrow =
    let k : ℕ = length history - width in
    let prefix : List Entry = take k history in
    let back : List Entry = drop k history in
    let cut : window.held ≡ back = held_cut history width window holds in
    let size = length-drop k history in
    let prefix_size : length prefix ≡ k = length-take-le k history (omega arith) in
    let offsets : length history - last ≡ length prefix + (length back - last) = omega (arith, size, prefix_size, narrow) in
    ap (λ (n : ℕ). last_number_from n (take (length window.held - last) window.held)) holds.floor
    ∙ ap (λ (ys : List Entry). last_number_from (last_number prefix) (take (length ys - last) ys)) cut
    ∙ sym (last_over 0 prefix (take (length back - last) back))
    ∙ ap last_number (sym (take-append-add prefix back (length back - last)))
    ∙ ap (λ (n : ℕ). last_number (take n (prefix ++ back))) (sym offsets)
    ∙ ap (λ (xs : List Entry). last_number (take (length history - last) xs)) (take-append-drop k history)

-- ---- one entry more

-- the entry before the last ones, once there is one entry more
before_none : (history : List Entry) (width : ℕ) (entry : Entry) → length history < width → entry_before width (history ++ entry ∷ []) ≡ None
before_none history width entry few =
    let X : List Entry = history ++ entry ∷ [] in
    cond-false (ltb width (length X)) (slice_get X (length X - width - 1)) None (le-ltb width (length X) (omega (arith, size_more history entry, few)))

before_some : (history : List Entry) (width : ℕ) (entry : Entry) → width ≤ length history → 0 < width → entry_before width (history ++ entry ∷ []) ≡ Some (get_or history (length history - width) entry)
before_some history width entry many wide =
    let X : List Entry = history ++ entry ∷ [] in
    let k : ℕ = length history - width in
    let size = size_more history entry in
    let index : length X - width - 1 ≡ k = omega (arith, size) in
    let within : k < length X = omega (arith, size) in
    cond-true (ltb width (length X)) (slice_get X (length X - width - 1)) None (lt-ltb width (length X) (omega (arith, size, many)))
    ∙ ap (slice_get X) index
    ∙ slice_get-get_or X k entry within
    ∙ ap (λ (x : Entry). Some x) (get_or_append_left history (entry ∷ []) entry k (omega (arith, many, wide)))

pub left_holds : (history : List Entry) (width : ℕ) (window : WindowView) (entry : Entry) → Represents history width window → 0 < width → window_left window.width window.held ≡ entry_before width (history ++ entry ∷ [])
left_holds history width window entry holds wide =
    ap (λ (n : ℕ). window_left n window.held) holds.as_wide
    ∙ ap (window_left width) (held_cut history width window holds)
    ∙ split (cases_lt (length history) width)
  where
    k : ℕ
    k = length history - width

    size : length (drop k history) ≡ length history - k
    size = length-drop k history

    split : (length history < width) ⊎ (width ≤ length history) → window_left width (drop k history) ≡ entry_before width (history ++ entry ∷ [])
    split (inl few) =
        cond-true (ltb (length (drop k history)) width) None (slice_get (drop k history) 0) (lt-ltb (length (drop k history)) width (omega (arith, size, few)))
        ∙ sym (before_none history width entry few)
    split (inr many) =
        let none_added : k + 0 ≡ k = omega arith in
        cond-false (ltb (length (drop k history)) width) None (slice_get (drop k history) 0) (le-ltb (length (drop k history)) width (omega (arith, size, many)))
        ∙ slice_get-get_or (drop k history) 0 entry (omega (arith, size, many, wide))
        ∙ ap (λ (x : Entry). Some x) (get_or-drop k history 0 entry)
        ∙ ap (λ (n : ℕ). Some (get_or history n entry)) none_added
        ∙ sym (before_some history width entry many wide)

floor_more : (history : List Entry) (width floor : ℕ) (entry : Entry) → 0 < width → floor ≡ last_number (take (length history - width) history) → number_of floor (entry_before width (history ++ entry ∷ [])) ≡ last_number (take (length (history ++ entry ∷ []) - width) (history ++ entry ∷ []))
floor_more history width floor entry wide is = split (cases_lt (length history) width)
  where
    X : List Entry
    X = history ++ entry ∷ []

    k : ℕ
    k = length history - width

    size : length X ≡ length history + 1
    size = size_more history entry

    split : (length history < width) ⊎ (width ≤ length history) → number_of floor (entry_before width X) ≡ last_number (take (length X - width) X)
    split (inl few) =
        let none : length X - width ≡ 0 = omega (arith, size, few) in
        let nothing : k ≡ 0 = omega (arith, few) in
        ap (number_of floor) (before_none history width entry few)
        ∙ is
        ∙ ap (λ (n : ℕ). last_number (take n history)) nothing
        ∙ sym (ap (λ (n : ℕ). last_number (take n X)) none)
    split (inr many) =
        let next : length X - width ≡ k + 1 = omega (arith, size, many) in
        let within : k < length X = omega (arith, size) in
        ap (number_of floor) (before_some history width entry many wide)
        ∙ ap (λ (x : Entry). x.number) (sym (get_or_append_left history (entry ∷ []) entry k (omega (arith, many, wide))))
        ∙ sym (last_over 0 (take k X) (get_or X k entry ∷ []))
        ∙ ap last_number (sym (take_more X k entry within))
        ∙ sym (ap (λ (n : ℕ). last_number (take n X)) next)

pub holds_more : (history : List Entry) (width : ℕ) (old new : WindowView) (entry : Entry) → Represents history width old → 0 < width → newest_held old < entry.number → new.width ≡ old.width → new.held ≡ ring_with old.width old.held entry → new.floor ≡ number_of old.floor (window_left old.width old.held) → Represents (history ++ entry ∷ []) width new
holds_more history width old new entry holds wide above same held floor =
    let X : List Entry = history ++ entry ∷ [] in
    let k : ℕ = length history - width in
    let size = size_more history entry in
    let newest = newest_holds history width old holds in
    let rising : RiseFrom 0 X = rise_more 0 history entry holds.rising (omega (arith, newest, above)) in
    let at : new.floor ≡ last_number (take (length X - width) X) =
    floor
    ∙ ap (number_of old.floor) (left_holds history width old entry holds wide)
    ∙ floor_more history width old.floor entry wide holds.floor in
    let back : drop k X ≡ drop k history ++ entry ∷ [] = drop-append-le k history (entry ∷ []) (omega arith) in
    let m : ℕ = length (drop k X) - width in
    let offsets : k + m ≡ length X - width = omega (arith, size, length-drop k X) in
    record {
      rising = rising;
      as_wide = same ∙ holds.as_wide;
      floor = at;
      held =
          held
          ∙ ap (λ (n : ℕ). ring_with n old.held entry) holds.as_wide
          ∙ ap (λ (ys : List Entry). ring_with width ys entry) (held_cut history width old holds)
          ∙ ap (λ (ys : List Entry). drop (length ys - width) ys) (sym back)
          ∙ drop-drop m k X
          ∙ ap (λ (n : ℕ). drop n X) offsets
          ∙ sym (cut_above 0 (length X - width) X rising)
          ∙ ap (λ (n : ℕ). filter (is_above n) X) (sym at);
    }
