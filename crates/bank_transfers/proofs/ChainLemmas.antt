-- The chain of the postings of a key: its last one, how each leads back, and one posting more.
use Rattle.std.proofs.Common.{◌≡◌, ℕ, zero, suc, ◌+◌, ◌-◌, ◌<◌, ◌≤◌, ◌⊎◌, ◌≤ℤ◌, Bool, true, false, ◌||◌, cond, eqb, List, [], ◌∷◌, ◌++◌, length, take, get_or, Option, Some, refl, sym, ap, subst, ◌∙◌, inl, inr, arith}
use Rattle.std.proofs.Math.ListN.{get_or-append, get_or-map}
use Rattle.std.proofs.Math.Seq.{take-append_seam, get_or-append_seam}
use Rattle.std.proofs.lemmas.Bool.{eqb-true, cases_lt}
use Rattle.std.proofs.lemmas.List.{take-append-le, map-append, length-map, length-append, length-take-le, get_or-take}
use Rattle.std.proofs.lemmas.Int.{ints}
use Rattle.std.specs.Prelude.{int_lt}
use Rattle.std.specs.List.{All}
use Rattle.ofx_types.specs.declared.number.Moment.{Moment}
use Rattle.bank_model.specs.Ledger.{Posting}
use Rattle.bank_transfers.specs.Chain.{is_of, index_or_none, key_of, touches, index_before, last_by, posting_of, postings_of, PassesAt, IsBetween, AreBetween, IsLinked, AreLinked}
use Rattle.bank_transfers.specs.SkipLink.{earliest, latest}
use Rattle.bank_transfers.specs.PostingsView.{IsPosted}
use Rattle.bank_transfers.specs.TransfersView.{IsWithinAmounts}
use Rattle.bank_transfers.specs.declared.skip_link.SkipLink.{SkipLink}
use Rattle.bank_transfers.specs.declared.postings.Linked.{Linked}

-- ---- the last posting that passes a test

pub last_within : (test : Posting → Bool) (postings : List Posting) → last_by test postings ≤ length postings
last_within test [] = omega arith
last_within test (posting ∷ more) = bound (test posting) (last_by test more) (last_within test more)
  where
    bound : (b : Bool) (n : ℕ) → n ≤ length more → index_before b n ≤ suc (length more)
    bound true zero h = omega arith
    bound false zero h = omega arith
    bound b (suc n) h = omega (arith, h)

pub last_push : (test : Posting → Bool) (postings : List Posting) (posting : Posting) → last_by test (postings ++ posting ∷ []) ≡ cond (test posting) (length postings + 1) (last_by test postings)
last_push test [] posting = one (test posting)
  where
    one : (b : Bool) → index_before b 0 ≡ cond b 1 0
    one true = refl
    one false = refl
last_push test (p ∷ more) posting = ap (index_before (test p)) (last_push test more posting) ∙ by (test posting)
  where
    suc_next : (n : ℕ) → index_before (test p) (n + 1) ≡ suc n + 1
    suc_next n =
        let next : n + 1 ≡ suc n = omega arith in
        let after : suc (suc n) ≡ suc n + 1 = omega arith in
        ap (index_before (test p)) next ∙ after

    by : (b : Bool) → index_before (test p) (cond b (length more + 1) (last_by test more)) ≡ cond b (suc (length more) + 1) (index_before (test p) (last_by test more))
    by true = suc_next (length more)
    by false = refl

pub last_passes : (test : Posting → Bool) (postings : List Posting) → PassesAt test (last_by test postings) postings
last_passes test [] = tt
last_passes test (posting ∷ more) = by (test posting) (last_by test more) refl (last_passes test more)
  where
    by : (b : Bool) (n : ℕ) → test posting ≡ b → PassesAt test n more → PassesAt test (index_before b n) (posting ∷ more)
    by true zero is rest = λ d. is
    by false zero is rest = tt
    by b (suc n) is rest = λ d. rest d

-- Behind the last posting that passes none passes.
pub last_after : (test : Posting → Bool) (postings : List Posting) (k : ℕ) (d : Posting) → last_by test postings ≤ k → k < length postings → test (get_or postings k d) ≡ false
last_after test [] k d after within = absurd (omega (arith, within))
last_after test (posting ∷ more) k d after within = by k (test posting) (last_by test more) refl (λ j. last_after test more j d) after within
  where
    by : (j : ℕ) (b : Bool) (n : ℕ) → test posting ≡ b → ((j : ℕ) → n ≤ j → j < length more → test (get_or more j d) ≡ false) → index_before b n ≤ j → j < suc (length more) → test (get_or (posting ∷ more) j d) ≡ false
    by zero true zero is rest after within = absurd (omega (arith, after))
    by zero false zero is rest after within = is
    by zero b (suc n) is rest after within = absurd (omega (arith, after))
    by (suc j) b zero is rest after within = rest j (omega arith) (omega (arith, within))
    by (suc j) b (suc n) is rest after within = rest j (omega (arith, after)) (omega (arith, within))

pub passes_in : (test : Posting → Bool) (index k : ℕ) (postings : List Posting) → index ≤ k → PassesAt test index (take k postings) → PassesAt test index postings
passes_in test zero k postings le passes = tt
passes_in test (suc j) k postings le passes = λ d. sym (ap test (get_or-take k postings j d (omega (arith, le)))) ∙ passes d

-- ---- the posting at a place

pub posting_is : (held : List Linked) (k : ℕ) (linked : Linked) → linked ≡ get_or held k linked → get_or (postings_of held) k (posting_of linked) ≡ posting_of linked
posting_is held k linked is = get_or-map posting_of held k linked ∙ ap posting_of (sym is)

pub amount_at : (held : List Linked) (k : ℕ) (linked : Linked) → All IsPosted (postings_of held) → k < length held → linked ≡ get_or held k linked → IsWithinAmounts linked.row
amount_at held k linked all within is =
    let count : length (postings_of held) ≡ length held = length-map held posting_of in
    (subst IsPosted (posting_is held k linked is) (all k (posting_of linked) (omega (arith, within, count)))).0

-- Where a posting is about an account of the key, the one of its two links that is taken for the key is linked.
pub link_at : (key : ℕ) (held : List Linked) (index : ℕ) (linked : Linked) → AreLinked held → 0 < index → index ≤ length (postings_of held) → PassesAt (touches key) index (postings_of held) → linked ≡ get_or held (index - 1) linked
    → IsLinked key (cond (eqb (key_of linked.row.from) key) linked.from_link linked.to_link) (index - 1) (postings_of held)
link_at key held zero linked are there within passes is = absurd (omega (arith, there))
link_at key held (suc k) linked are there within passes is =
    subst (λ n. IsLinked key (cond (eqb (key_of linked.row.from) key) linked.from_link linked.to_link) n (postings_of held)) (sym same)
    (by (eqb (key_of linked.row.from) key) refl
    (subst (λ (l : Linked). IsLinked (key_of l.row.from) l.from_link k (postings_of held)) (sym here) (are k linked inside).0)
    (subst (λ (l : Linked). IsLinked (key_of l.row.to) l.to_link k (postings_of held)) (sym here) (are k linked inside).1)
    (sym (ap (touches key) (posting_is held k linked here)) ∙ passes (posting_of linked)))
  where
    same : suc k - 1 ≡ k
    same = omega arith

    here : linked ≡ get_or held k linked
    here = subst (λ n. linked ≡ get_or held n linked) same is

    inside : k < length held
    inside = let count : length (postings_of held) ≡ length held = length-map held posting_of in omega (arith, within, count)

    by : (b : Bool) → eqb (key_of linked.row.from) key ≡ b → IsLinked (key_of linked.row.from) linked.from_link k (postings_of held) → IsLinked (key_of linked.row.to) linked.to_link k (postings_of held)
        → (b || eqb (key_of linked.row.to) key) ≡ true → IsLinked key (cond b linked.from_link linked.to_link) k (postings_of held)
    by true same_key from to touched = subst (λ n. IsLinked n linked.from_link k (postings_of held)) (eqb-true (key_of linked.row.from) key same_key) from
    by false same_key from to touched = subst (λ n. IsLinked n linked.to_link k (postings_of held)) (eqb-true (key_of linked.row.to) key touched) to

pub before_within : (key : ℕ) (link : SkipLink) (k : ℕ) (postings : List Posting) → k ≤ length postings → IsLinked key link k postings → link.before ≤ k
before_within key link k postings within linked =
    let bound : last_by (touches key) (take k postings) ≤ length (take k postings) = last_within (touches key) (take k postings) in
    let size : length (take k postings) ≡ k = length-take-le k postings within in
    omega (arith, linked.before, bound, size)

-- ---- with more postings behind

passes_stays : (test : Posting → Bool) (index : ℕ) (postings more : List Posting) → index ≤ length postings → PassesAt test index postings → PassesAt test index (postings ++ more)
passes_stays test zero postings more within passes = tt
passes_stays test (suc k) postings more within passes = λ d. ap test (get_or-append postings more d k (omega (arith, within))) ∙ passes d

between_stays : (key : ℕ) (least greatest : Moment) (after index : ℕ) (postings more : List Posting) → index ≤ length postings → AreBetween key least greatest after index postings → AreBetween key least greatest after index (postings ++ more)
between_stays key least greatest after index postings more within are k d low high =
    subst (λ (p : Posting). touches key p ≡ true → IsBetween least greatest p) (sym (get_or-append postings more d k (omega (arith, within, high)))) (are k d low high)

linked_stays : (key : ℕ) (link : SkipLink) (k : ℕ) (postings more : List Posting) → k < length postings → IsLinked key link k postings → IsLinked key link k (postings ++ more)
linked_stays key link k postings more within linked =
    let little : link.before ≤ k = before_within key link k postings (omega (arith, within)) linked in
    record {
      before = linked.before ∙ ap (last_by (touches key)) (sym (take-append-le k postings more (omega (arith, within))));
      skip = linked.skip;
      lands = passes_stays (touches key) link.skip postings more (omega (arith, linked.skip, little, within)) linked.lands;
      stamps = between_stays key link.least link.greatest link.skip (k + 1) postings more (omega (arith, within)) linked.stamps;
    }

-- ---- the link of a new posting

-- It leads to the last posting of the key, where its bounds hold from where it skips to up to there, and at the new one.
linked_last : (key : ℕ) (link : SkipLink) (k : ℕ) (postings : List Posting) (posting : Posting) → k ≡ length postings → link.before ≡ last_by (touches key) postings → link.skip ≤ link.before → PassesAt (touches key) link.skip postings
    → AreBetween key link.least link.greatest link.skip link.before postings → IsBetween link.least link.greatest posting → IsLinked key link k (postings ++ posting ∷ [])
linked_last key link k postings posting count before skip lands between own = record {
  before = before ∙ ap (last_by (touches key)) (sym (ap (λ n. take n (postings ++ posting ∷ [])) count ∙ take-append_seam postings (posting ∷ [])));
  skip = skip;
  lands = passes_stays (touches key) link.skip postings (posting ∷ []) (omega (arith, skip, before, bound)) lands;
  stamps = λ j d low high. parts j d low (omega (arith, high, count)) (cases_lt j link.before) (cases_lt j (length postings));
}
  where
    bound : last_by (touches key) postings ≤ length postings
    bound = last_within (touches key) postings

    parts : (j : ℕ) (d : Posting) → link.skip ≤ j → j < length postings + 1 → (j < link.before) ⊎ (link.before ≤ j) → (j < length postings) ⊎ (length postings ≤ j)
        → touches key (get_or (postings ++ posting ∷ []) j d) ≡ true → IsBetween link.least link.greatest (get_or (postings ++ posting ∷ []) j d)
    parts j d low high (inl less) c touched = between_stays key link.least link.greatest link.skip link.before postings (posting ∷ []) (omega (arith, before, bound)) between j d low less touched
    parts j d low high (inr more) (inl less) touched =
        let no : true ≡ false = sym touched ∙ ap (touches key) (get_or-append postings (posting ∷ []) d j less) ∙ last_after (touches key) postings j d (omega (arith, before, more)) less in cc
    parts j d low high (inr more) (inr end) touched =
        let last : j ≡ length postings = omega (arith, high, end) in
        subst (IsBetween link.least link.greatest) (sym (ap (λ n. get_or (postings ++ posting ∷ []) n d) last ∙ get_or-append_seam postings posting [] d)) own

pub short_linked : (key before : ℕ) (stamp : Moment) (link : SkipLink) (held : List Linked) (posting : Posting) → before ≡ last_by (touches key) (postings_of held) → link ≡ record { before = before; skip = before; rank = 0; least = stamp; greatest = stamp }
    → posting.row.stamp ≡ stamp → IsLinked key link (length held) (postings_of held ++ posting ∷ [])
short_linked key before stamp link held posting last is same =
    let at : posting.row.stamp.0 ≡ stamp.0 = ap (λ (m : Moment). m.0) same in
    subst (λ (l : SkipLink). IsLinked key l (length held) (postings_of held ++ posting ∷ [])) (sym is)
    (linked_last key (record { before = before; skip = before; rank = 0; least = stamp; greatest = stamp }) (length held) (postings_of held) posting (sym (length-map held posting_of)) last (omega arith)
    (subst (λ n. PassesAt (touches key) n (postings_of held)) (sym last) (last_passes (touches key) (postings_of held)))
    (λ k d low high. absurd (omega (arith, low, high)))
    (omega (arith, ints, at), omega (arith, ints, at)))

earliest_low : (a b : Moment) → ((earliest a b).0 ≤ℤ a.0) × ((earliest a b).0 ≤ℤ b.0)
earliest_low a b = by (int_lt b.0 a.0) refl
  where
    by : (t : Bool) → int_lt b.0 a.0 ≡ t → ((cond t b a).0 ≤ℤ a.0) × ((cond t b a).0 ≤ℤ b.0)
    by true less = (grind (arith, ints), omega (arith, ints))
    by false more = (omega (arith, ints), grind (arith, ints))

latest_high : (a b : Moment) → (a.0 ≤ℤ (latest a b).0) × (b.0 ≤ℤ (latest a b).0)
latest_high a b = by (int_lt a.0 b.0) refl
  where
    by : (t : Bool) → int_lt a.0 b.0 ≡ t → (a.0 ≤ℤ (cond t b a).0) × (b.0 ≤ℤ (cond t b a).0)
    by true less = (grind (arith, ints), omega (arith, ints))
    by false more = (omega (arith, ints), grind (arith, ints))

wider : (least greatest low high : Moment) (posting : Posting) → low.0 ≤ℤ least.0 → greatest.0 ≤ℤ high.0 → IsBetween least greatest posting → IsBetween low high posting
wider least greatest low high posting below above between = (omega (arith, ints, below, between.0), omega (arith, ints, above, between.1))

-- Over the skip of the last posting of the key, and of the one where that lands.
pub over_linked : (key : ℕ) (link last earlier : SkipLink) (stamp : Moment) (held : List Linked) (posting : Posting) → 0 < link.before → 0 < last.skip → link.before ≡ last_by (touches key) (postings_of held)
    → IsLinked key last (link.before - 1) (postings_of held) → IsLinked key earlier (last.skip - 1) (postings_of held)
    → link.skip ≡ earlier.skip → link.least ≡ earliest stamp (earliest last.least earlier.least) → link.greatest ≡ latest stamp (latest last.greatest earlier.greatest)
    → posting.row.stamp ≡ stamp → IsLinked key link (length held) (postings_of held ++ posting ∷ [])
over_linked key link last earlier stamp held posting some more before last_is earlier_is skip least greatest same =
    linked_last key link (length held) (postings_of held) posting (sym (length-map held posting_of)) before (omega (arith, skip, earlier_is.skip, earlier_little, last_is.skip, last_little, some, more))
    (subst (λ n. PassesAt (touches key) n (postings_of held)) (sym skip) earlier_is.lands)
    (λ k d low high. parts k d low high (cases_lt k last.skip))
    (omega (arith, ints, at, lows.0), omega (arith, ints, at, highs.0))
  where
    bound : last_by (touches key) (postings_of held) ≤ length (postings_of held)
    bound = last_within (touches key) (postings_of held)

    last_little : last.before ≤ link.before - 1
    last_little = before_within key last (link.before - 1) (postings_of held) (omega (arith, before, bound)) last_is

    earlier_little : earlier.before ≤ last.skip - 1
    earlier_little = before_within key earlier (last.skip - 1) (postings_of held) (omega (arith, before, bound, last_is.skip, last_little)) earlier_is

    at : posting.row.stamp.0 ≡ stamp.0
    at = ap (λ (m : Moment). m.0) same

    low_is : link.least.0 ≡ (earliest stamp (earliest last.least earlier.least)).0
    low_is = ap (λ (m : Moment). m.0) least

    high_is : link.greatest.0 ≡ (latest stamp (latest last.greatest earlier.greatest)).0
    high_is = ap (λ (m : Moment). m.0) greatest

    lows : (link.least.0 ≤ℤ stamp.0) × (link.least.0 ≤ℤ last.least.0) × (link.least.0 ≤ℤ earlier.least.0)
    lows =
        let all = earliest_low stamp (earliest last.least earlier.least) in
        let both = earliest_low last.least earlier.least in
        (omega (arith, ints, low_is, all.0), omega (arith, ints, low_is, all.1, both.0), omega (arith, ints, low_is, all.1, both.1))

    highs : (stamp.0 ≤ℤ link.greatest.0) × (last.greatest.0 ≤ℤ link.greatest.0) × (earlier.greatest.0 ≤ℤ link.greatest.0)
    highs =
        let all = latest_high stamp (latest last.greatest earlier.greatest) in
        let both = latest_high last.greatest earlier.greatest in
        (omega (arith, ints, high_is, all.0), omega (arith, ints, high_is, all.1, both.0), omega (arith, ints, high_is, all.1, both.1))

    parts : (k : ℕ) (d : Posting) → link.skip ≤ k → k < link.before → (k < last.skip) ⊎ (last.skip ≤ k) → touches key (get_or (postings_of held) k d) ≡ true → IsBetween link.least link.greatest (get_or (postings_of held) k d)
    parts k d low high (inl less) touched =
        wider earlier.least earlier.greatest link.least link.greatest (get_or (postings_of held) k d) lows.2 highs.2 (earlier_is.stamps k d (omega (arith, low, skip)) (omega (arith, less, more)) touched)
    parts k d low high (inr after) touched =
        wider last.least last.greatest link.least link.greatest (get_or (postings_of held) k d) lows.1 highs.1 (last_is.stamps k d after (omega (arith, high, some)) touched)

-- ---- one posting more

abbrev BothLinked : Linked → ℕ → List Posting → Type 0
BothLinked linked k postings = IsLinked (key_of linked.row.from) linked.from_link k postings × IsLinked (key_of linked.row.to) linked.to_link k postings

pub linked_push : (held : List Linked) (linked : Linked) → AreLinked held → IsLinked (key_of linked.row.from) linked.from_link (length held) (postings_of held ++ posting_of linked ∷ [])
    → IsLinked (key_of linked.row.to) linked.to_link (length held) (postings_of held ++ posting_of linked ∷ []) → AreLinked (held ++ linked ∷ [])
linked_push held linked are from to k d within = subst (BothLinked (get_or (held ++ linked ∷ []) k d) k) (sym all) (by (cases_lt k (length held)))
  where
    all : postings_of (held ++ linked ∷ []) ≡ postings_of held ++ posting_of linked ∷ []
    all = map-append posting_of held (linked ∷ [])

    count : length (postings_of held) ≡ length held
    count = length-map held posting_of

    by : (k < length held) ⊎ (length held ≤ k) → BothLinked (get_or (held ++ linked ∷ []) k d) k (postings_of held ++ posting_of linked ∷ [])
    by (inl less) =
        let both = are k d less in
        let inside : k < length (postings_of held) = omega (arith, less, count) in
        subst (λ (l : Linked). BothLinked l k (postings_of held ++ posting_of linked ∷ [])) (sym (get_or-append held (linked ∷ []) d k less))
        (linked_stays _ _ k (postings_of held) (posting_of linked ∷ []) inside both.0, linked_stays _ _ k (postings_of held) (posting_of linked ∷ []) inside both.1)
    by (inr more) =
        let size : length (held ++ linked ∷ []) ≡ length held + 1 = length-append held (linked ∷ []) in
        let last : k ≡ length held = omega (arith, more, within, size) in
        subst (λ (l : Linked). BothLinked l k (postings_of held ++ posting_of linked ∷ [])) (sym (ap (λ n. get_or (held ++ linked ∷ []) n d) last ∙ get_or-append_seam held linked [] d))
        (subst (λ n. BothLinked linked n (postings_of held ++ posting_of linked ∷ [])) (sym last) (from, to))

pub lasts_set : (from to key index : ℕ) (found : Option ℕ) (postings : List Posting) (posting : Posting) → index ≡ length postings + 1 → key_of posting.row.from ≡ from → key_of posting.row.to ≡ to
    → index_or_none found ≡ last_by (touches key) postings
    → index_or_none (cond (eqb to key) (Some index) (cond (eqb from key) (Some index) found)) ≡ last_by (touches key) (postings ++ posting ∷ [])
lasts_set from to key index found postings posting is from_is to_is before =
    set_is (eqb from key) (eqb to key)
    ∙ (λ i. cond (eqb (sym from_is i) key || eqb (sym to_is i) key) (is i) (before i))
    ∙ sym (last_push (touches key) postings posting)
  where
    set_is : (b c : Bool) → index_or_none (cond c (Some index) (cond b (Some index) found)) ≡ cond (b || c) index (index_or_none found)
    set_is true true = refl
    set_is true false = refl
    set_is false true = refl
    set_is false false = refl

pub id_set : (id key index : ℕ) (found : Option ℕ) (postings : List Posting) (posting : Posting) → index ≡ length postings + 1 → posting.row.id ≡ id
    → index_or_none found ≡ last_by (is_of key) postings → index_or_none (cond (eqb id key) (Some index) found) ≡ last_by (is_of key) (postings ++ posting ∷ [])
id_set id key index found postings posting is same before =
    set_is (eqb id key)
    ∙ (λ i. cond (eqb (sym same i) key) (is i) (before i))
    ∙ sym (last_push (is_of key) postings posting)
  where
    set_is : (b : Bool) → index_or_none (cond b (Some index) found) ≡ cond b index (index_or_none found)
    set_is true = refl
    set_is false = refl
