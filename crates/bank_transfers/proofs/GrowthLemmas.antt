-- One entry more: what is moved, what is dropped, and the row of a transfer.
use Rattle.std.proofs.Common.{◌≡◌, ℕ, Bool, true, false, ◌||◌, cond, eqb, fold, List, [], ◌∷◌, ◌++◌, Option, None, Some, refl, ap, ◌∙◌}
use Rattle.std.proofs.lemmas.List.Sums.{fold-append}
use Rattle.std.proofs.lemmas.List.Folds.{list_any-append}
use Rattle.std.proofs.lemmas.Grind.{flat_map-append}
use Rattle.std.proofs.lemmas.Bool.{eqb-true}
use Rattle.std.proofs.lemmas.List.{append-nil}
use Rattle.std.specs.Option.{option_map}
use Rattle.std.specs.List.{AllByRecursion, flat_map, list_any}
use Rattle.ofx_types.specs.declared.transfer.XferCode.TheVariants.{Cancelled}
use Rattle.ofx_types.specs.declared.transfer.TransferRow.{TransferRow}
use Rattle.ofx_types.specs.declared.transfer.Change.{Change}
use Rattle.ofx_types.specs.declared.transfer.Change.TheVariants.{NewTransfer, SetTransfer, DropTransfer, NewModel, SetModel, DropModel, NewMail}
use Rattle.bank_model.specs.declared.entry.Entry.{Entry}
use Rattle.bank_model.specs.Ledger.{row_in, if_named, or_before, last_row, drops, is_dropped, with_code, row_of, posting_of, moved}
use Rattle.bank_transfers.specs.Growth.{row_given, row_after}

pub moved-push : (entries : List Entry) (entry : Entry) → moved (entries ++ entry ∷ []) ≡ moved entries ++ posting_of entry.number (row_in entry.change)
unfolding moved
moved-push entries entry =
    flat_map-append (λ (e : Entry). posting_of e.number (row_in e.change)) entries (entry ∷ [])
    ∙ ap (λ ps. flat_map (λ (e : Entry). posting_of e.number (row_in e.change)) entries ++ ps) (append-nil (posting_of entry.number (row_in entry.change)))

or_false : (b : Bool) → (b || false) ≡ b
or_false true = refl
or_false false = refl

pub is_dropped-push : (id : ℕ) (entries : List Entry) (entry : Entry) → is_dropped id (entries ++ entry ∷ []) ≡ (is_dropped id entries || drops id entry.change)
unfolding is_dropped
is_dropped-push id entries entry =
    list_any-append (λ (e : Entry). drops id e.change) entries (entry ∷ [])
    ∙ ap (λ b. list_any (λ (e : Entry). drops id e.change) entries || b) (or_false (drops id entry.change))

last_row-push : (id : ℕ) (entries : List Entry) (entry : Entry) → last_row id (entries ++ entry ∷ []) ≡ or_before (last_row id entries) (if_named id (row_in entry.change))
unfolding last_row
last_row-push id entries entry = fold-append _ None entries (entry ∷ [])

-- a row with its code changed where its transfer is dropped
abbrev cancelled_if : Bool → TransferRow → TransferRow
cancelled_if dropped row = cond dropped (with_code Cancelled row) row

given_row : (id : ℕ) (dropped : Bool) (last : Option TransferRow) (row : TransferRow) → option_map (cancelled_if (dropped || false)) (or_before last (if_named id (Some row))) ≡ row_given id dropped (option_map (cancelled_if dropped) last) row
given_row id dropped last row =
    rw (or_false dropped)
    (elim (eqb row.id id) as (λ named. option_map (cancelled_if dropped) (or_before last (cond named (Some row) None)) ≡ cond named (Some (cancelled_if dropped row)) (option_map (cancelled_if dropped) last)) [
      | true ↦ refl
      | false ↦ refl
    ])

cancelled_twice : (dropped : Bool) (last : Option TransferRow) → option_map (cancelled_if true) last ≡ option_map (with_code Cancelled) (option_map (cancelled_if dropped) last)
cancelled_twice dropped None = refl
cancelled_twice true (Some row) = refl
cancelled_twice false (Some row) = refl

dropped_row : (id gone : ℕ) (dropped : Bool) (last : Option TransferRow) → option_map (cancelled_if (dropped || eqb gone id)) last ≡ cond (eqb gone id) (option_map (with_code Cancelled) (option_map (cancelled_if dropped) last)) (option_map (cancelled_if dropped) last)
dropped_row id gone dropped last =
    elim (eqb gone id) as (λ named. option_map (cancelled_if (dropped || named)) last ≡ cond named (option_map (with_code Cancelled) (option_map (cancelled_if dropped) last)) (option_map (cancelled_if dropped) last)) [
      | true ↦ ap (λ b. option_map (cancelled_if b) last) (or_true dropped) ∙ cancelled_twice dropped last
      | false ↦ ap (λ b. option_map (cancelled_if b) last) (or_false dropped)
    ]
  where
    or_true : (b : Bool) → (b || true) ≡ true
    or_true true = refl
    or_true false = refl

kept_row : (dropped : Bool) (last : Option TransferRow) → option_map (cancelled_if (dropped || false)) last ≡ option_map (cancelled_if dropped) last
kept_row dropped last = ap (λ b. option_map (cancelled_if b) last) (or_false dropped)

changed_row : (id : ℕ) (dropped : Bool) (last : Option TransferRow) (change : Change) → option_map (cancelled_if (dropped || drops id change)) (or_before last (if_named id (row_in change))) ≡ row_after id dropped (option_map (cancelled_if dropped) last) change
changed_row id dropped last (NewTransfer row) = given_row id dropped last row
changed_row id dropped last (SetTransfer row) = given_row id dropped last row
changed_row id dropped last (DropTransfer gone) = dropped_row id gone dropped last
changed_row id dropped last (NewModel row) = kept_row dropped last
changed_row id dropped last (SetModel row pending) = kept_row dropped last
changed_row id dropped last (DropModel gone pending) = kept_row dropped last
changed_row id dropped last (NewMail mail) = kept_row dropped last

pub row_of-push : (id : ℕ) (entries : List Entry) (entry : Entry) → row_of id (entries ++ entry ∷ []) ≡ row_after id (is_dropped id entries) (row_of id entries) entry.change
unfolding row_of
row_of-push id entries entry = rw (is_dropped-push id entries entry, last_row-push id entries entry) (changed_row id (is_dropped id entries) (last_row id entries) entry.change)

-- ---- the id of a found row

abbrev pub HasId : ℕ → Option TransferRow → Type 0
HasId id None = Unit {0}
HasId id (Some row) = row.id ≡ id

named_has_id : (id : ℕ) (row : Option TransferRow) → HasId id (if_named id row)
named_has_id id None = tt
named_has_id id (Some row) = named (eqb row.id id) (eqb-true row.id id)
  where
    named : (b : Bool) → (b ≡ true → row.id ≡ id) → HasId id (cond b (Some row) None)
    named true same = same refl
    named false same = tt

later_has_id : (id : ℕ) (before row : Option TransferRow) → HasId id before → HasId id row → HasId id (or_before before row)
later_has_id id before None had has = had
later_has_id id before (Some row) had has = has

kept_id : (id : ℕ) (before : Option TransferRow) (entries : List Entry) → HasId id before → HasId id (fold (λ (row : Option TransferRow) (entry : Entry). or_before row (if_named id (row_in entry.change))) before entries)
kept_id id before [] had = had
kept_id id before (entry ∷ entries) had =
    kept_id id (or_before before (if_named id (row_in entry.change))) entries (later_has_id id before (if_named id (row_in entry.change)) had (named_has_id id (row_in entry.change)))

cancelled_id : (id : ℕ) (dropped : Bool) (last : Option TransferRow) → HasId id last → HasId id (option_map (cancelled_if dropped) last)
cancelled_id id dropped None has = tt
cancelled_id id true (Some row) has = has
cancelled_id id false (Some row) has = has

pub row_of-id : (id : ℕ) (entries : List Entry) → HasId id (row_of id entries)
unfolding row_of last_row
row_of-id id entries = cancelled_id id (is_dropped id entries) (last_row id entries) (kept_id id None entries tt)

-- ---- no row

none_before : (id : ℕ) (before : Option TransferRow) (entries : List Entry) → fold (λ (row : Option TransferRow) (entry : Entry). or_before row (if_named id (row_in entry.change))) before entries ≡ None → (before ≡ None) × AllByRecursion (λ (entry : Entry). if_named id (row_in entry.change) ≡ None) entries
none_before id before [] none = (none, tt)
none_before id before (entry ∷ entries) none =
    let more = none_before id (or_before before (if_named id (row_in entry.change))) entries none in
    let both = none_of before (if_named id (row_in entry.change)) more.0 in
    (both.0, (both.1, more.1))
  where
    none_of : (before row : Option TransferRow) → or_before before row ≡ None → (before ≡ None) × (row ≡ None)
    none_of before None is = (is, refl)
    none_of before (Some row) is = cc

-- Where a transfer has no row, no entry gives it one.
pub row_of-none : (id : ℕ) (entries : List Entry) → row_of id entries ≡ None → AllByRecursion (λ (entry : Entry). if_named id (row_in entry.change) ≡ None) entries
unfolding row_of last_row
row_of-none id entries none = (none_before id None entries (unmapped (cancelled_if (is_dropped id entries)) (last_row id entries) none)).1
  where
    unmapped : (f : TransferRow → TransferRow) (last : Option TransferRow) → option_map f last ≡ None → last ≡ None
    unmapped f None is = refl
    unmapped f (Some row) is = cc
