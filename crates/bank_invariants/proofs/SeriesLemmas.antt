-- Each transfer that a recurring one has made since it last began anew has its own date.
use Rattle.std.proofs.Common.{◌≡◌, ℕ, zero, suc, ◌+◌, ◌<◌, ◌≤◌, ◌⊎◌, inl, inr, Bool, true, false, not, cond, eqb, List, [], ◌∷◌, ◌++◌, filter, length, length-append, reverse, take, get_or, Option, None, Some, ◌<ℤ◌, refl, sym, ap, ◌∙◌, subst, append_assoc, arith}
use Rattle.std.proofs.lemmas.Bool.{eqb-true}
use Rattle.std.proofs.lemmas.Int.{ints}
use Rattle.std.proofs.lemmas.List.{append-nil, reverse-append, get_or_at}
use Rattle.std.proofs.lemmas.List.Sums.{take_while-cons}
use Rattle.std.proofs.Math.Seq.{take-append_seam}
use Rattle.std.specs.List.{AllByRecursion, flat_map, take_while}
use Rattle.ofx_types.specs.Calendar.{IsDay}
use Rattle.ofx_types.specs.declared.number.Day.{Day}
use Rattle.ofx_types.specs.declared.transfer.TransferRow.{TransferRow}
use Rattle.ofx_types.specs.declared.transfer.Change.{Change}
use Rattle.ofx_types.specs.declared.transfer.Change.TheVariants.{NewTransfer, SetTransfer, DropTransfer, NewModel, SetModel, DropModel, NewMail}
use Rattle.ofx_types.specs.declared.recurring.ModelRow.{ModelRow}
use Rattle.bank_model.specs.declared.entry.Entry.{Entry}
use Rattle.bank_model.specs.Models.{model_in, if_model_named, or_model_before, model_of, begins_anew, is_of_model, is_made_by, since_anew, next_occurrence}
use Rattle.bank_model.specs.Due.{occurrence_date}
use Rattle.bank_recur.proofs.GrowthLemmas.{model_of-push}
use Rattle.bank_recur.proofs.SeriesDays.{series_rises}
use Rattle.bank_invariants.specs.SoundStates.{IsLawful, IsNextOf}
use Rattle.bank_invariants.specs.Series.{date_made, dates_made, AreOwnDates}
use Rattle.bank_invariants.proofs.SoundStateLemmas.{AreLawfulAt}
use Rattle.bank_model.proofs.Lists.{all_by_index}

-- ---- the dates of a series

-- The dates are those of a series, the latest first.
abbrev pub AreDates : Option ModelRow → List Day → Type 0
AreDates model [] = Unit {0}
AreDates model (date ∷ more) = (occurrence_date model (length more) ≡ Some date) × AreDates model more

-- as many as there are transfers
count_one : (id : ℕ) (change : Change) (entry : Entry) (dates : List Day) (made : List Entry) → length dates ≡ length made → length (date_made id change ++ dates) ≡ length (cond (is_made_by id change) (entry ∷ made) made)
count_one id (NewTransfer row) entry dates made same = one (eqb row.model id)
  where
    one : (b : Bool) → length (cond b (row.due ∷ []) [] ++ dates) ≡ length (cond b (entry ∷ made) made)
    one true = ap suc same
    one false = same
count_one id (SetTransfer row) entry dates made same = same
count_one id (DropTransfer dropped) entry dates made same = same
count_one id (NewModel row) entry dates made same = same
count_one id (SetModel row also) entry dates made same = same
count_one id (DropModel dropped also) entry dates made same = same
count_one id (NewMail mail) entry dates made same = same

count_all : (id : ℕ) (entries : List Entry) → length (flat_map (λ (entry : Entry). date_made id entry.change) entries) ≡ length (filter (λ (entry : Entry). is_made_by id entry.change) entries)
count_all id [] = refl
count_all id (entry ∷ entries) = count_one id entry.change entry _ _ (count_all id entries)

count_made : (id : ℕ) (entries : List Entry) → length (dates_made id entries) ≡ next_occurrence id entries
unfolding next_occurrence
count_made id entries = count_all id (since_anew id entries)

-- ---- one entry more

dates_if : (id : ℕ) (entry : Entry) (anew : Bool) (since : List Entry) → flat_map (λ (e : Entry). date_made id e.change) (cond (not anew) (entry ∷ since) []) ≡ cond anew [] (date_made id entry.change ++ flat_map (λ (e : Entry). date_made id e.change) since)
dates_if id entry true since = refl
dates_if id entry false since = refl

dates_more : (id : ℕ) (entries : List Entry) (entry : Entry) → dates_made id (entries ++ entry ∷ []) ≡ cond (begins_anew id entry.change) [] (date_made id entry.change ++ dates_made id entries)
dates_more id entries entry =
    ap (λ (es : List Entry). flat_map (λ (e : Entry). date_made id e.change) (take_while (λ (e : Entry). not (begins_anew id e.change)) es)) (reverse-append entries (entry ∷ []))
    ∙ ap (λ (es : List Entry). flat_map (λ (e : Entry). date_made id e.change) es) (take_while-cons (λ (e : Entry). not (begins_anew id e.change)) entry (reverse entries))
    ∙ dates_if id entry (begins_anew id entry.change) (since_anew id entries)

kept_row : (id : ℕ) (before given : Option ModelRow) → is_of_model id given ≡ false → or_model_before before (if_model_named id given) ≡ before
kept_row id before None other = refl
kept_row id before (Some row) other = ap (λ (b : Bool). or_model_before before (cond b (Some row) None)) other

next_date : (id : ℕ) (before : List Entry) (row : TransferRow) → 0 < id → row.model ≡ id → (row.model ≡ 0) ⊎ IsNextOf before row → occurrence_date (model_of id before) (length (dates_made id before)) ≡ Some row.due
next_date id before row some own (inl none) = absurd (omega (arith, some, own, none))
next_date id before row some own (inr next) =
    ap (occurrence_date (model_of id before)) (count_made id before)
    ∙ ap (λ (n : ℕ). occurrence_date (model_of n before) (next_occurrence n before)) (sym own)
    ∙ next.0

dated_one : (id : ℕ) (before : List Entry) (change : Change) → 0 < id → IsLawful before change → AreDates (model_of id before) (dates_made id before) → AreDates (model_of id before) (date_made id change ++ dates_made id before)
dated_one id before (NewTransfer row) some lawful dated = one (eqb row.model id) refl
  where
    one : (b : Bool) → eqb row.model id ≡ b → AreDates (model_of id before) (cond b (row.due ∷ []) [] ++ dates_made id before)
    one true own = (next_date id before row some (eqb-true row.model id own) lawful.1, dated)
    one false other = dated
dated_one id before (SetTransfer row) some lawful dated = dated
dated_one id before (DropTransfer dropped) some lawful dated = dated
dated_one id before (NewModel row) some lawful dated = dated
dated_one id before (SetModel row also) some lawful dated = dated
dated_one id before (DropModel dropped also) some lawful dated = dated
dated_one id before (NewMail mail) some lawful dated = dated

dated_if : (id : ℕ) (anew : Bool) (before now : Option ModelRow) (dates : List Day) → (anew ≡ false → now ≡ before) → AreDates before dates → AreDates now (cond anew [] dates)
dated_if id true before now dates same dated = tt
dated_if id false before now dates same dated = subst (λ (model : Option ModelRow). AreDates model dates) (sym (same refl)) dated

dated_more : (id : ℕ) (before : List Entry) (entry : Entry) → 0 < id → IsLawful before entry.change → AreDates (model_of id before) (dates_made id before) → AreDates (model_of id (before ++ entry ∷ [])) (dates_made id (before ++ entry ∷ []))
dated_more id before entry some lawful dated =
    subst (AreDates (model_of id (before ++ entry ∷ []))) (sym (dates_more id before entry))
    (dated_if id (begins_anew id entry.change) (model_of id before) (model_of id (before ++ entry ∷ [])) (date_made id entry.change ++ dates_made id before)
    (λ goes_on. model_of-push id before entry ∙ kept_row id (model_of id before) (model_in entry.change) goes_on)
    (dated_one id before entry.change some lawful dated))

-- ---- all entries

pub lawful_next : (before entries : List Entry) (entry : Entry) → AreLawfulAt (before ++ entry ∷ entries) → IsLawful before entry.change
lawful_next before entries entry lawful =
    let size : length (before ++ entry ∷ entries) ≡ length before + length (entry ∷ entries) = length-append before (entry ∷ entries) in
    let here = lawful (length before) entry (omega (arith, size)) in
    let prefix : take (length before) (before ++ entry ∷ entries) ≡ before = take-append_seam before (entry ∷ entries) in
    let at : get_or (before ++ entry ∷ entries) (length before) entry ≡ entry = get_or_at before entry entries entry (length before) refl in
    subst (λ (l : List Entry). IsLawful l entry.change) prefix (subst (λ (e : Entry). IsLawful (take (length before) (before ++ entry ∷ entries)) e.change) at here)

abbrev IsDated : ℕ → List Entry → Type 0
IsDated id entries = AreDates (model_of id entries) (dates_made id entries)

dated_after : (id : ℕ) (before entries : List Entry) → 0 < id → IsDated id before → AreLawfulAt (before ++ entries) → IsDated id (before ++ entries)
dated_after id before [] some dated lawful = subst (IsDated id) (sym (append-nil before)) dated
dated_after id before (entry ∷ entries) some dated lawful =
    subst (IsDated id) (append_assoc before (entry ∷ []) entries)
    (dated_after id (before ++ entry ∷ []) entries some (dated_more id before entry some (lawful_next before entries entry lawful) dated)
    (subst AreLawfulAt (sym (append_assoc before (entry ∷ []) entries)) lawful))

pub are_dated : (id : ℕ) (entries : List Entry) → 0 < id → AreLawfulAt entries → AreDates (model_of id entries) (dates_made id entries)
are_dated id entries some lawful = dated_after id [] entries some tt lawful

-- ---- no two are the same

-- the model's first day lies in the years 1900 to 9999, where there is one
abbrev pub HasFirst : Option ModelRow → Type 0
HasFirst None = Unit {0}
HasFirst (Some row) = IsDay row.first.0

rise : (model : Option ModelRow) (a b : Day) (j k : ℕ) → HasFirst model → occurrence_date model j ≡ Some a → occurrence_date model k ≡ Some b → j < k → a.0 <ℤ b.0
rise None a b j k first is_a is_b below = cc
rise (Some row) a b j k first is_a is_b below = series_rises row.first a b row.recur.freq j k first is_a is_b below

all_below : (model : Option ModelRow) (date : Day) (n : ℕ) (dates : List Day) → HasFirst model → occurrence_date model n ≡ Some date → length dates ≤ n → AreDates model dates → AllByRecursion (λ (other : Day). other.0 <ℤ date.0) dates
all_below model date n [] first is few dated = tt
all_below model date n (other ∷ dates) first is few dated =
    (rise model other date (length dates) n first dated.0 is (omega (arith, few)), all_below model date n dates first is (omega (arith, few)) dated.1)

less_differs : (a b : Day) → b.0 <ℤ a.0 → a ≡ b → ⊥
less_differs a b less same =
    let days : a.0 ≡ b.0 = ap (λ (d : Day). d.0) same in
    omega (arith, ints, less, days)

pub own_dates : (model : Option ModelRow) (dates : List Day) → HasFirst model → AreDates model dates → AreOwnDates dates
own_dates model [] first dated j k d before below = absurd (omega arith)
own_dates model (date ∷ dates) first dated j zero d before below = absurd (omega arith)
own_dates model (date ∷ dates) first dated zero (suc k) d before below =
    less_differs date (get_or dates k d) (all_by_index (λ (other : Day). other.0 <ℤ date.0) dates k d (all_below model date (length dates) dates first dated.0 (omega arith) dated.1) (omega arith))
own_dates model (date ∷ dates) first dated (suc j) (suc k) d before below = own_dates model dates first dated.1 j k d (omega arith) (omega arith)
