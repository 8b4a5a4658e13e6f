-- The history of an object, one entry more and one part after another.
use Rattle.std.proofs.Common.{◌≡◌, ℕ, ◌+◌, ◌-◌, ◌<◌, ◌≤◌, List, [], ◌∷◌, ◌++◌, length, length-append, map, filter, take, drop, get_or, Bor, sym, ap, ◌∙◌, append_assoc, arith}
use Rattle.std.proofs.Math.Seq.{take-append_seam, take-append-add}
use Rattle.std.proofs.lemmas.List.Elements.{filter-append}
use Rattle.std.proofs.lemmas.List.{append-nil, take_more, take_all, take-append-le, take-append-drop}
use Rattle.ofx_types.specs.declared.number.ObjectId.{ObjectId}
use Rattle.bank_model.specs.declared.entry.Entry.{Entry}
use Rattle.bank_model.specs.Objects.{history_of, newest, last_number, last_number_from}
use Rattle.bank_model.specs.Sync.{is_above}
use Rattle.bank_model.proofs.Histories.{history_of-append, history_of-none}
pub use Rattle.token_window.proofs.WindowLemmas.{last_over}

-- ---- a loop over a list that takes one part after another

-- one item more
entries_more : {Y : Type 0} (entries : List Y) (k : ℕ) (entry : Y) → k < length entries → entry ≡ get_or entries k entry → take (k + 1) entries ≡ take k entries ++ entry ∷ []
entries_more entries k entry below is = take_more entries k entry below ∙ ap (λ e. take k entries ++ e ∷ []) (sym is)

pub part_begun : {Y X : Type 0} (part : List Y → List X) (entries : List Y) (start : List X) → part [] ≡ [] → start ≡ start ++ part (take 0 entries)
part_begun part entries start none = sym (ap (λ l. start ++ l) none ∙ append-nil start)

pub part_more : {Y X : Type 0} (part : List Y → List X) (entries : List Y) (k : ℕ) (entry : Y) (start reported next : List X) → ((xs ys : List Y) → part (xs ++ ys) ≡ part xs ++ part ys) → k < length entries → entry ≡ get_or entries k entry → reported ≡ start ++ part (take k entries) → next ≡ reported ++ part (entry ∷ []) → next ≡ start ++ part (take (k + 1) entries)
part_more part entries k entry start reported next grows below is so_far more =
    more
    ∙ ap (λ l. l ++ part (entry ∷ [])) so_far
    ∙ append_assoc start (part (take k entries)) (part (entry ∷ []))
    ∙ ap (λ l. start ++ l) (sym (ap part (entries_more entries k entry below is) ∙ grows (take k entries) (entry ∷ [])))

pub part_ended : {Y X : Type 0} (part : List Y → List X) (entries : List Y) (k : ℕ) (start reported : List X) → length entries ≤ k → reported ≡ start ++ part (take k entries) → reported ≡ start ++ part entries
part_ended part entries k start reported past so_far = so_far ∙ ap (λ l. start ++ part l) (take_all k entries past)

-- ---- numbers

pub number_begun : (object : ObjectId) (entries : List Entry) (before : ℕ) → before ≡ last_number_from before (history_of object (take 0 entries))
number_begun object entries before = sym (ap (last_number_from before) (history_of-none object))

pub number_more : (object : ObjectId) (entries : List Entry) (k : ℕ) (entry : Entry) (before number next : ℕ) → k < length entries → entry ≡ get_or entries k entry → number ≡ last_number_from before (history_of object (take k entries)) → next ≡ last_number_from number (history_of object (entry ∷ [])) → next ≡ last_number_from before (history_of object (take (k + 1) entries))
number_more object entries k entry before number next below is so_far more =
    more
    ∙ ap (λ (n : ℕ). last_number_from n (history_of object (entry ∷ []))) so_far
    ∙ sym (ap (λ l. last_number_from before (history_of object l)) (entries_more entries k entry below is)
    ∙ ap (last_number_from before) (history_of-append object (take k entries) (entry ∷ []))
    ∙ last_over before (history_of object (take k entries)) (history_of object (entry ∷ [])))

pub number_ended : (object : ObjectId) (entries : List Entry) (k before number : ℕ) → length entries ≤ k → number ≡ last_number_from before (history_of object (take k entries)) → number ≡ last_number_from before (history_of object entries)
number_ended object entries k before number past so_far = so_far ∙ ap (λ l. last_number_from before (history_of object l)) (take_all k entries past)

-- how many entries an object has
pub count_begun : (object : ObjectId) (entries : List Entry) → 0 ≡ length (history_of object (take 0 entries))
count_begun object entries = sym (ap length (history_of-none object))

pub count_more : (object : ObjectId) (entries : List Entry) (k : ℕ) (entry : Entry) → k < length entries → entry ≡ get_or entries k entry → length (history_of object (take (k + 1) entries)) ≡ length (history_of object (take k entries)) + length (history_of object (entry ∷ []))
count_more object entries k entry below is =
    ap (λ l. length (history_of object l)) (entries_more entries k entry below is)
    ∙ ap length (history_of-append object (take k entries) (entry ∷ []))
    ∙ length-append (history_of object (take k entries)) (history_of object (entry ∷ []))

pub count_ended : (object : ObjectId) (entries : List Entry) (k count : ℕ) → length entries ≤ k → count ≡ length (history_of object (take k entries)) → count ≡ length (history_of object entries)
count_ended object entries k count past so_far = so_far ∙ ap (λ l. length (history_of object l)) (take_all k entries past)

-- so many entries are taken
pub taken_ended : (object : ObjectId) (entries : List Entry) (k most left before number : ℕ) → length entries ≤ k → left + length (history_of object (take k entries)) ≡ most → number ≡ last_number_from before (history_of object (take k entries)) → number ≡ last_number_from before (take most (history_of object entries))
taken_ended object entries k most left before number past counted so_far =
    let all : take k entries ≡ entries = take_all k entries past in
    let size : length (history_of object (take k entries)) ≡ length (history_of object entries) = ap (λ l. length (history_of object l)) all in
    so_far
    ∙ ap (λ l. last_number_from before (history_of object l)) all
    ∙ ap (last_number_from before) (sym (take_all most (history_of object entries) (omega arith)))

pub taken_stopped : (object : ObjectId) (entries : List Entry) (k most left before number : ℕ) → left ≡ 0 → left + length (history_of object (take k entries)) ≡ most → number ≡ last_number_from before (history_of object (take k entries)) → number ≡ last_number_from before (take most (history_of object entries))
taken_stopped object entries k most left before number none counted so_far =
    let size : most ≡ length (history_of object (take k entries)) = omega arith in
    so_far
    ∙ ap (last_number_from before) (sym (
    ap (λ l. take most (history_of object l)) (sym (take-append-drop k entries))
    ∙ ap (take most) (history_of-append object (take k entries) (drop k entries))
    ∙ ap (λ (n : ℕ). take n (history_of object (take k entries) ++ history_of object (drop k entries))) size
    ∙ take-append_seam (history_of object (take k entries)) (history_of object (drop k entries))))

-- ---- the first entries, and those after them

-- Where those after have no more entries of the object than are kept, the entry before these is among the first ones.
pub before_prefix : (kept : ℕ) (object : ObjectId) (prefix back : List Entry) (later : ℕ) → later ≡ length (history_of object back) → later ≤ kept → last_number (take (length (history_of object prefix) - (kept - later)) (history_of object prefix)) ≡ last_number (take (length (history_of object (prefix ++ back)) - kept) (history_of object (prefix ++ back)))
before_prefix kept object prefix back later is few =
    let F = history_of object prefix in
    let B = history_of object back in
    let size = length-append F B in
    let past : length (F ++ B) - kept ≡ length F - (kept - later) = omega (arith, size, is, few) in
    sym (
    ap (λ l. last_number (take (length l - kept) l)) (history_of-append object prefix back)
    ∙ ap (λ (n : ℕ). last_number (take n (F ++ B))) past
    ∙ ap last_number (take-append-le (length F - (kept - later)) F B (omega arith)))

-- Where they have more, it is one of them.
pub before_back : (kept : ℕ) (object : ObjectId) (prefix back : List Entry) (later number : ℕ) → later ≡ length (history_of object back) → kept < later → number ≡ newest object prefix → last_number_from number (take (later - kept) (history_of object back)) ≡ last_number (take (length (history_of object (prefix ++ back)) - kept) (history_of object (prefix ++ back)))
unfolding newest
before_back kept object prefix back later number is_later many is =
    let F = history_of object prefix in
    let B = history_of object back in
    let size = length-append F B in
    let past : length (F ++ B) - kept ≡ length F + (later - kept) = omega (arith, size, is_later, many) in
    ap (λ (n : ℕ). last_number_from n (take (later - kept) B)) is
    ∙ sym (
    ap (λ l. last_number (take (length l - kept) l)) (history_of-append object prefix back)
    ∙ ap (λ (n : ℕ). last_number (take n (F ++ B))) past
    ∙ ap last_number (take-append-add F B (later - kept))
    ∙ last_over 0 F (take (later - kept) B))

-- ---- the entries above a token

abbrev pub above : ℕ → ObjectId → List Entry → List Entry
above token object entries = filter (is_above token) (history_of object entries)

-- entries that are lent
abbrev pub lent : List (Bor Entry) → List Entry
lent entries = map (λ (entry : Bor Entry). entry.now) entries

pub above-append : (token : ℕ) (object : ObjectId) (xs ys : List Entry) → above token object (xs ++ ys) ≡ above token object xs ++ above token object ys
above-append token object xs ys = ap (filter (is_above token)) (history_of-append object xs ys) ∙ filter-append (is_above token) (history_of object xs) (history_of object ys)

pub above-none : (token : ℕ) (object : ObjectId) → above token object [] ≡ []
above-none token object = ap (filter (is_above token)) (history_of-none object)
