-- The history of a bank with one entry more, and how far back the histories of its objects are held.
use Rattle.std.proofs.Common.{◌≡◌, ℕ, zero, suc, ◌+◌, ◌-◌, ◌<◌, ◌≤◌, Bool, true, false, cond, eqb, ltb, List, [], ◌∷◌, ◌++◌, length, take, drop, get_or, Option, Some, None, refl, sym, ap, subst, ◌∙◌, arith}
use Rattle.std.proofs.Math.ListN.{get_or-append}
use Rattle.std.proofs.Math.Seq.{take-append_seam, get_or-append_seam, take-append-add}
use Rattle.std.proofs.lemmas.Bool.{ltb-true, ltb-false}
use Rattle.std.proofs.lemmas.List.{take_more, take_all, take-append-le, take-append-drop, length-append, length-take-le}
use Rattle.std.proofs.lemmas.List.Elements.{filter-append}
use Rattle.std.proofs.lemmas.List.Sums.{fold-append}
use Rattle.ofx_types.specs.declared.number.ObjectId.{ObjectId}
use Rattle.bank_model.specs.declared.entry.Entry.{Entry}
use Rattle.bank_model.specs.Objects.{belongs_to, history_of, newest, floor, last_number, last_number_from}
use Rattle.bank_model.proofs.Histories.{history_of-append}
use Rattle.token_window.specs.WindowView.{RiseFrom}
use Rattle.token_window.proofs.WindowLemmas.{at_least, rise_parts, rise_more}
use Rattle.bank_history.specs.ObjectHistory.{ObjectHistoryView, HoldsHistoryOr, floor_in}
use Rattle.bank_history.specs.HistoryHeld.{AreNumbered, number_or_none}

-- ---- one entry more

history_of-more : (object : ObjectId) (entries : List Entry) (entry : Entry) → history_of object (entries ++ entry ∷ []) ≡ history_of object entries ++ cond (belongs_to object entry) (entry ∷ []) []
unfolding history_of
history_of-more object entries entry = filter-append (belongs_to object) entries (entry ∷ [])

newest_more : (object : ObjectId) (entries : List Entry) (entry : Entry) → newest object (entries ++ entry ∷ []) ≡ cond (belongs_to object entry) entry.number (newest object entries)
unfolding newest
newest_more object entries entry =
    ap last_number (history_of-more object entries entry)
    ∙ fold-append _ 0 (history_of object entries) (cond (belongs_to object entry) (entry ∷ []) [])
    ∙ one (belongs_to object entry)
  where
    one : (b : Bool) → last_number_from (last_number (history_of object entries)) (cond b (entry ∷ []) []) ≡ cond b entry.number (last_number (history_of object entries))
    one true = refl
    one false = refl

pub newest_none : (object : ObjectId) → newest object [] ≡ 0
unfolding newest history_of
newest_none object = refl

pub numbered_more : (entries : List Entry) (entry : Entry) → AreNumbered entries → entry.number ≡ length entries + 1 → AreNumbered (entries ++ entry ∷ [])
numbered_more entries entry are is k d within = by (ltb k (length entries)) refl
  where
    by : (b : Bool) → ltb k (length entries) ≡ b → (get_or (entries ++ entry ∷ []) k d).number ≡ k + 1
    by true less =
        let inside : k < length entries = ltb-true k (length entries) less in
        ap (λ (e : Entry). e.number) (get_or-append entries (entry ∷ []) d k inside) ∙ are k d inside
    by false less =
        let up = ltb-false k (length entries) less in
        let size = length-append entries (entry ∷ []) in
        let last : k ≡ length entries = omega (arith, up, within, size) in
        ap (λ (n : ℕ). (get_or (entries ++ entry ∷ []) n d).number) last ∙ ap (λ (e : Entry). e.number) (get_or-append_seam entries entry [] d) ∙ is ∙ ap (λ (n : ℕ). n + 1) (sym last)

pub lasts_more : (object : ObjectId) (entries : List Entry) (entry : Entry) (number : ℕ) (found : Option ℕ) → number ≡ entry.number → number_or_none found ≡ newest object entries
    → number_or_none (cond (eqb entry.object.0 object.0) (Some number) found) ≡ newest object (entries ++ entry ∷ [])
lasts_more object entries entry number found is before = set (eqb entry.object.0 object.0) ∙ sym (newest_more object entries entry)
  where
    set : (b : Bool) → number_or_none (cond b (Some number) found) ≡ cond b entry.number (newest object entries)
    set true = is
    set false = before

-- ---- numbers rise along an object's history, up to the last one's place

record IsRising (object : ObjectId) (entries : List Entry) (n : ℕ) : Type 0 where
  rises : RiseFrom 0 (history_of object (take n entries))
  within : newest object (take n entries) ≤ n

rising_up_to : (object : ObjectId) (entries : List Entry) (d : Entry) (n : ℕ) → AreNumbered entries → n ≤ length entries → IsRising object entries n
unfolding newest history_of
rising_up_to object entries d zero are fits = let none : newest object (take 0 entries) ≡ 0 = newest_none object in record { rises = tt; within = omega (arith, none) }
rising_up_to object entries d (suc n) are fits =
    let inside : n < length entries = omega (arith, fits) in
    let entry : Entry = get_or entries n d in
    let next : n + 1 ≡ suc n = omega arith in
    let before = rising_up_to object entries d n are (omega (arith, fits)) in
    let more : take (suc n) entries ≡ take n entries ++ entry ∷ [] = ap (λ k. take k entries) (sym next) ∙ take_more entries n d inside in
    let number : entry.number ≡ suc n = are n d inside ∙ next in
    let last : newest object (take (suc n) entries) ≡ cond (belongs_to object entry) entry.number (newest object (take n entries)) = ap (newest object) more ∙ newest_more object (take n entries) entry in
    let history : history_of object (take (suc n) entries) ≡ history_of object (take n entries) ++ cond (belongs_to object entry) (entry ∷ []) [] = ap (history_of object) more ∙ history_of-more object (take n entries) entry in
    record {
      rises = subst (RiseFrom 0) (sym history) (rise (belongs_to object entry) entry number before);
      within = up (belongs_to object entry) entry number before last;
    }
  where
    rise : (b : Bool) (entry : Entry) → entry.number ≡ suc n → IsRising object entries n → RiseFrom 0 (history_of object (take n entries) ++ cond b (entry ∷ []) [])
    rise true entry number before = rise_more 0 (history_of object (take n entries)) entry before.rises (omega (arith, number, before.within))
    rise false entry number before = subst (RiseFrom 0) (sym (nothing (history_of object (take n entries)))) before.rises
      where
        nothing : (xs : List Entry) → xs ++ [] ≡ xs
        nothing [] = refl
        nothing (x ∷ xs) = ap (λ (ys : List Entry). x ∷ ys) (nothing xs)

    up : (b : Bool) (entry : Entry) → entry.number ≡ suc n → IsRising object entries n → newest object (take (suc n) entries) ≡ cond b entry.number (newest object (take n entries)) → newest object (take (suc n) entries) ≤ suc n
    up true entry number before last = omega (arith, last, number)
    up false entry number before last = omega (arith, last, before.within)

pub rising : (object : ObjectId) (entries : List Entry) → AreNumbered entries → RiseFrom 0 (history_of object entries)
unfolding history_of
rising object [] are = tt
rising object (e ∷ l) are =
    let all : take (length (e ∷ l)) (e ∷ l) ≡ e ∷ l = take_all (length (e ∷ l)) (e ∷ l) (omega arith) in
    subst (λ entries. RiseFrom 0 (history_of object entries)) all (rising_up_to object (e ∷ l) e (length (e ∷ l)) are (omega arith)).rises

-- The first of the entries after some has a number above those of its object before.
pub first_rises : (prefix rest entries : List Entry) (entry : Entry) → AreNumbered entries → prefix ++ entry ∷ rest ≡ entries → newest entry.object prefix < entry.number
first_rises prefix rest entries entry are all =
    let size = length-append prefix (entry ∷ rest) in
    let within : length prefix < length entries = omega (arith, size, ap length all) in
    let prefix_is : take (length prefix) entries ≡ prefix = ap (λ (es : List Entry). take (length prefix) es) (sym all) ∙ take-append_seam prefix (entry ∷ rest) in
    let up = (rising_up_to entry.object entries entry (length prefix) are (omega (arith, within))).within in
    let below : newest entry.object prefix ≤ length prefix = subst (λ (es : List Entry). newest entry.object es ≤ length prefix) prefix_is up in
    let here : get_or entries (length prefix) entry ≡ entry = ap (λ (es : List Entry). get_or es (length prefix) entry) (sym all) ∙ get_or-append_seam prefix entry rest entry in
    let number : entry.number ≡ length prefix + 1 = sym (ap (λ (e : Entry). e.number) here) ∙ are (length prefix) entry within in
    omega (arith, below, number)

-- ---- floors rise

last_grows : (xs ys : List Entry) → RiseFrom 0 (xs ++ ys) → last_number xs ≤ last_number (xs ++ ys)
last_grows xs ys rise =
    let parts = rise_parts 0 xs ys rise in
    let up = at_least (last_number xs) ys parts.1 in
    omega (arith, up, fold-append (λ (number : ℕ) (entry : Entry). entry.number) 0 xs ys)

floor_among : (width : ℕ) (F B : List Entry) → RiseFrom 0 (F ++ B) → last_number (take (length F - width) F) ≤ last_number (take (length (F ++ B) - width) (F ++ B))
floor_among width F B rise =
    let X : List Entry = F ++ B in
    let i : ℕ = length F - width in
    let j : ℕ = length X - width in
    let m : ℕ = j - i in
    let size = length-append F B in
    let prefix : take i F ≡ take i X = sym (take-append-le i F B (omega arith)) in
    let prefix_size : length (take i X) ≡ i = length-take-le i X (omega (arith, size)) in
    let offsets : j ≡ length (take i X) + m = omega (arith, prefix_size, size) in
    let whole : take j X ≡ take i X ++ take m (drop i X) =
    ap (λ (n : ℕ). take n X) offsets
    ∙ ap (λ (xs : List Entry). take (length (take i X) + m) xs) (sym (take-append-drop i X))
    ∙ take-append-add (take i X) (drop i X) m in
    let first = (rise_parts 0 (take j X) (drop j X) (subst (RiseFrom 0) (sym (take-append-drop j X)) rise)).0 in
    let grows = last_grows (take i X) (take m (drop i X)) (subst (RiseFrom 0) whole first) in
    omega (arith, grows, ap last_number prefix, ap last_number whole)

-- An object's floor is no lower after more entries.
pub floor_grows : (width : ℕ) (object : ObjectId) (prefix back : List Entry) → AreNumbered (prefix ++ back) → floor width object prefix ≤ floor width object (prefix ++ back)
unfolding floor
floor_grows width object prefix back are =
    let F = history_of object prefix in
    let B = history_of object back in
    let both : history_of object (prefix ++ back) ≡ F ++ B = history_of-append object prefix back in
    let rise : RiseFrom 0 (F ++ B) = subst (RiseFrom 0) both (rising object (prefix ++ back) are) in
    let grows = floor_among width F B rise in
    omega (arith, grows, ap (λ (xs : List Entry). last_number (take (length xs - width) xs)) both)

pub floor_held : (width token : ℕ) (object : ObjectId) (prefix recent entries : List Entry) (found : Option ObjectHistoryView) → AreNumbered entries → prefix ++ recent ≡ entries → HoldsHistoryOr (history_of object prefix) width found → floor width object entries ≤ token → floor_in found ≤ token
unfolding floor
floor_held width token object prefix recent entries None are all is least = omega arith
floor_held width token object prefix recent entries (Some kept) are all is least =
    let numbered : AreNumbered (prefix ++ recent) = subst AreNumbered (sym all) are in
    let grows = floor_grows width object prefix recent numbered in
    omega (arith, grows, ap (floor width object) all, is.window.floor, least)
