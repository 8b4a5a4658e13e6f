-- What an event adds: nothing yet, one entry more, one uid more.
use Rattle.std.proofs.Common.{◌≡◌, ℕ, ◌+◌, ◌<◌, Bool, true, false, ◌||◌, cond, eqb, ltb, List, [], ◌∷◌, ◌++◌, length, length-append, take, get_or, reverse, Option, None, Some, refl, sym, ap, ◌∙◌, subst, append_assoc, arith}
use Rattle.std.proofs.lemmas.Bool.{ltb-true, ltb-false}
use Rattle.std.proofs.lemmas.List.{append-nil, get_or_append_left, get_or_push, take-append-le, reverse-append}
use Rattle.std.proofs.Math.Seq.{take-append_seam}
use Rattle.std.proofs.lemmas.List.Folds.{list_any-append}
use Rattle.std.specs.List.{find}
use Rattle.std.specs.Option.{option_or}
use Rattle.ofx_types.specs.declared.number.Day.{Day}
use Rattle.ofx_types.specs.declared.number.Moment.{Moment}
use Rattle.ofx_types.specs.declared.number.UserId.{UserId}
use Rattle.ofx_types.specs.declared.transfer.TransferRow.{TransferRow}
use Rattle.ofx_types.specs.declared.transfer.Change.{Change}
use Rattle.ofx_types.specs.declared.recurring.ModelRow.{ModelRow}
use Rattle.bank_model.specs.declared.entry.Entry.{Entry}
use Rattle.bank_model.specs.declared.event.State.{State}
use Rattle.bank_model.specs.Ledger.{row_of, is_dropped}
use Rattle.bank_model.specs.Models.{model_in, if_model_named, or_model_before, model_of, drops_model, is_model_dropped}
use Rattle.bank_transfers.specs.TransfersView.{GivesRow}
use Rattle.bank_transfers.proofs.GrowthLemmas.{row_of-push}
use Rattle.bank_transfers.proofs.RepresentsLemmas.{given_row}
use Rattle.bank_accounts.specs.declared.balances.Balance.{Balance}
use Rattle.bank_ledger.specs.declared.row_change.RowChange.{RowChange}
use Rattle.bank_ledger.specs.declared.row_change.RowChange.TheVariants.{Row, Made, Model, NoModel, Mail}
use Rattle.bank_ledger.specs.Changes.{row_given_by, has_row, has_model, cancels, GivesRows, IsKnown, row_from, model_from, row_drafted, model_drafted, is_cancelled_in}
use Rattle.bank_ledger.specs.DraftView.{AddedView, IsAdded}
use Rattle.bank_recur.proofs.GrowthLemmas.{model_of-push, is_model_dropped-push}
use Rattle.bank_invariants.proofs.ModelChanges.{IsOfModel, model_change_rows}
use Rattle.bank_ledger.proofs.GivenLemmas.{model_given, model_dropped, model_is, no_model, no_model_dropped, no_drop, given_drop, dropped_as, or_assoc, mail_apart, mail_no_model, mail_no_drop}
use Rattle.std.proofs.Math.Bool.{or-false}

abbrev pub nothing_added : UserId → Moment → Day → AddedView
nothing_added user at day = record { user = user; at = at; day = day; entries = []; row_changes = []; uids = []; balances = [] }

pub IsAdded-none : (S : State) (user : UserId) (at : Moment) (day : Day) → IsAdded S (nothing_added user at day)
IsAdded-none S user at day = record {
  count = refl;
  numbered = λ k entry below. absurd (omega arith);
  given = λ k entry row_change below. absurd (omega arith);
  known = λ k row_change below. absurd (omega arith);
  rows = λ id. ap (row_of id) (append-nil S.entries);
  models = λ id. ap (model_of id) (append-nil S.entries);
  cancelled = λ id. ap (is_model_dropped id) (append-nil S.entries) ∙ sym (or-false (is_model_dropped id S.entries));
}

abbrev pub with_entry : AddedView → Entry → RowChange → List Balance → AddedView
with_entry added entry row_change balances = record {
  user = added.user;
  at = added.at;
  day = added.day;
  entries = added.entries ++ entry ∷ [];
  row_changes = added.row_changes ++ row_change ∷ [];
  uids = added.uids;
  balances = balances;
}

abbrev GivesAt : List Entry → List Entry → List RowChange → ℕ → Entry → RowChange → Type 0
GivesAt before entries row_changes k entry row_change = GivesRows (before ++ take k entries) (get_or entries k entry).change (get_or row_changes k row_change)

given_more : (before entries : List Entry) (row_changes : List RowChange) (entry : Entry) (row_change : RowChange) → length row_changes ≡ length entries → ((k : ℕ) (e : Entry) (f : RowChange) → k < length entries → GivesAt before entries row_changes k e f) → GivesRows (before ++ entries) entry.change row_change → (k : ℕ) (e : Entry) (f : RowChange) → k < length (entries ++ entry ∷ []) → GivesAt before (entries ++ entry ∷ []) (row_changes ++ row_change ∷ []) k e f
given_more before entries row_changes entry row_change count given next k e f below = given_at (ltb k (length entries)) refl
  where
    gives_as : (before l m : List Entry) (e d : Entry) (f g : RowChange) → l ≡ m → e ≡ d → f ≡ g → GivesRows (before ++ l) e.change f → GivesRows (before ++ m) d.change g
    gives_as before l m e d f g prefix at held here =
        subst (λ (x : RowChange). GivesRows (before ++ m) d.change x) held (subst (λ (x : Entry). GivesRows (before ++ m) x.change f) at (subst (λ (x : List Entry). GivesRows (before ++ x) e.change f) prefix here))

    given_at : (b : Bool) → ltb k (length entries) ≡ b → GivesAt before (entries ++ entry ∷ []) (row_changes ++ row_change ∷ []) k e f
    given_at true is =
        let less : k < length entries = ltb-true k (length entries) is in
        let here : GivesAt before entries row_changes k e f = given k e f less in
        let prefix : take k (entries ++ entry ∷ []) ≡ take k entries = take-append-le k entries (entry ∷ []) (omega arith) in
        let at : get_or (entries ++ entry ∷ []) k e ≡ get_or entries k e = get_or_append_left entries (entry ∷ []) e k less in
        let held : get_or (row_changes ++ row_change ∷ []) k f ≡ get_or row_changes k f = get_or_append_left row_changes (row_change ∷ []) f k (omega arith) in
        gives_as before _ _ _ _ _ _ (sym prefix) (sym at) (sym held) here
    given_at false is =
        let last : length entries ≡ k = omega (arith, ltb-false k (length entries) is, length-append entries (entry ∷ [])) in
        let prefix : take k (entries ++ entry ∷ []) ≡ entries = ap (λ (n : ℕ). take n (entries ++ entry ∷ [])) (sym last) ∙ take-append_seam entries (entry ∷ []) in
        let at : get_or (entries ++ entry ∷ []) k e ≡ entry = get_or_push entries entry e k last in
        let held : get_or (row_changes ++ row_change ∷ []) k f ≡ row_change = get_or_push row_changes row_change f k (count ∙ last) in
        gives_as before _ _ _ _ _ _ (sym prefix) (sym at) (sym held) next

known_more : (entries : List Entry) (row_changes : List RowChange) (entry : Entry) (row_change : RowChange) → length row_changes ≡ length entries → ((k : ℕ) (f : RowChange) → k < length entries → IsKnown (get_or row_changes k f)) → IsKnown row_change → (k : ℕ) (f : RowChange) → k < length (entries ++ entry ∷ []) → IsKnown (get_or (row_changes ++ row_change ∷ []) k f)
known_more entries row_changes entry row_change count knows known k f below = known_at (ltb k (length entries)) refl
  where
    known_at : (b : Bool) → ltb k (length entries) ≡ b → IsKnown (get_or (row_changes ++ row_change ∷ []) k f)
    known_at true is =
        let less : k < length entries = ltb-true k (length entries) is in
        let held : get_or (row_changes ++ row_change ∷ []) k f ≡ get_or row_changes k f = get_or_append_left row_changes (row_change ∷ []) f k (omega arith) in
        subst IsKnown (sym held) (knows k f less)
    known_at false is =
        let last : length entries ≡ k = omega (arith, ltb-false k (length entries) is, length-append entries (entry ∷ [])) in
        subst IsKnown (sym (get_or_push row_changes row_change f k (count ∙ last))) known

or_cond : (b : Bool) (row : TransferRow) (found rest : Option TransferRow) → cond b (Some row) (option_or found rest) ≡ option_or (cond b (Some row) found) rest
or_cond true row found rest = refl
or_cond false row found rest = refl

numbered_more : (before entries : List Entry) (entry : Entry) → ((k : ℕ) (e : Entry) → k < length entries → (get_or entries k e).number ≡ length (before ++ take k entries) + 1) → entry.number ≡ length (before ++ entries) + 1 → (k : ℕ) (e : Entry) → k < length (entries ++ entry ∷ []) → (get_or (entries ++ entry ∷ []) k e).number ≡ length (before ++ take k (entries ++ entry ∷ [])) + 1
numbered_more before entries entry numbered next k e below = number_at (ltb k (length entries)) refl
  where
    number_at : (b : Bool) → ltb k (length entries) ≡ b → (get_or (entries ++ entry ∷ []) k e).number ≡ length (before ++ take k (entries ++ entry ∷ [])) + 1
    number_at true is =
        let less : k < length entries = ltb-true k (length entries) is in
        ap (λ (d : Entry). d.number) (get_or_append_left entries (entry ∷ []) e k less)
        ∙ numbered k e less
        ∙ ap (λ (l : List Entry). length (before ++ l) + 1) (sym (take-append-le k entries (entry ∷ []) (omega arith)))
    number_at false is =
        let last : length entries ≡ k = omega (arith, ltb-false k (length entries) is, length-append entries (entry ∷ [])) in
        ap (λ (d : Entry). d.number) (get_or_push entries entry e k last)
        ∙ next
        ∙ ap (λ (l : List Entry). length (before ++ l) + 1) (sym (ap (λ (n : ℕ). take n (entries ++ entry ∷ [])) (sym last) ∙ take-append_seam entries (entry ∷ [])))

-- ---- rows of transfers

row_drafted-push : (id : ℕ) (row_changes : List RowChange) (row_change : RowChange) → row_drafted id (row_changes ++ row_change ∷ []) ≡ row_from (cond (has_row id row_change) (Some row_change) (find (has_row id) (reverse row_changes)))
row_drafted-push id row_changes row_change = ap (λ (l : List RowChange). row_from (find (has_row id) l)) (reverse-append row_changes (row_change ∷ []))

row_of_cond : (b : Bool) (row_change : RowChange) (row : TransferRow) (found : Option RowChange) → row_given_by row_change ≡ Some row → row_from (cond b (Some row_change) found) ≡ cond b (Some row) (row_from found)
row_of_cond true row_change row found is = is
row_of_cond false row_change row found is = refl

-- a row that is given to a transfer is drafted
row_more : (before entries : List Entry) (row_changes : List RowChange) (entry : Entry) (row_change : RowChange) (row : TransferRow) (id : ℕ) → has_row id row_change ≡ eqb row.id id → row_given_by row_change ≡ Some row → row_of id (before ++ entries) ≡ option_or (row_drafted id row_changes) (row_of id before) → GivesRow (before ++ entries) entry.change row → row_of id (before ++ (entries ++ entry ∷ [])) ≡ option_or (row_drafted id (row_changes ++ row_change ∷ [])) (row_of id before)
row_more before entries row_changes entry row_change row id has is found gives =
    ap (row_of id) (sym (append_assoc before entries (entry ∷ [])))
    ∙ row_of-push id (before ++ entries) entry
    ∙ sym (given_row id (before ++ entries) entry.change row gives)
    ∙ ap (cond (eqb row.id id) (Some row)) found
    ∙ or_cond (eqb row.id id) row (row_drafted id row_changes) (row_of id before)
    ∙ ap (λ (r : Option TransferRow). option_or r (row_of id before)) (sym (row_drafted-push id row_changes row_change ∙ ap (λ (b : Bool). row_from (cond b (Some row_change) (find (has_row id) (reverse row_changes)))) has ∙ row_of_cond (eqb row.id id) row_change row (find (has_row id) (reverse row_changes)) is))

row_kept : (before entries : List Entry) (row_changes : List RowChange) (entry : Entry) (row_change : RowChange) (id : ℕ) → has_row id row_change ≡ false → row_of id (before ++ entries) ≡ option_or (row_drafted id row_changes) (row_of id before) → IsOfModel entry.change → row_of id (before ++ (entries ++ entry ∷ [])) ≡ option_or (row_drafted id (row_changes ++ row_change ∷ [])) (row_of id before)
row_kept before entries row_changes entry row_change id has found is =
    ap (row_of id) (sym (append_assoc before entries (entry ∷ [])))
    ∙ row_of-push id (before ++ entries) entry
    ∙ model_change_rows id (is_dropped id (before ++ entries)) (row_of id (before ++ entries)) entry.change is
    ∙ found
    ∙ ap (λ (r : Option TransferRow). option_or r (row_of id before)) (sym (row_drafted-push id row_changes row_change ∙ ap (λ (b : Bool). row_from (cond b (Some row_change) (find (has_row id) (reverse row_changes)))) has))

rows_more : (before entries : List Entry) (row_changes : List RowChange) (entry : Entry) (row_change : RowChange) (id : ℕ) → row_of id (before ++ entries) ≡ option_or (row_drafted id row_changes) (row_of id before) → GivesRows (before ++ entries) entry.change row_change → row_of id (before ++ (entries ++ entry ∷ [])) ≡ option_or (row_drafted id (row_changes ++ row_change ∷ [])) (row_of id before)
rows_more before entries row_changes entry (Row row) id found gives = row_more before entries row_changes entry (Row row) row id refl refl found gives.0
rows_more before entries row_changes entry (Made row) id found gives = row_more before entries row_changes entry (Made row) row id refl refl found gives.0
rows_more before entries row_changes entry (Model row) id found gives = row_kept before entries row_changes entry (Model row) id refl found (model_given (before ++ entries) entry.change row gives)
rows_more before entries row_changes entry (NoModel gone) id found gives = row_kept before entries row_changes entry (NoModel gone) id refl found (model_dropped (before ++ entries) entry.change gone gives)
rows_more before entries row_changes entry Mail id found gives = row_kept before entries row_changes entry Mail id refl found (mail_apart entry.change gives)

-- ---- rows of recurring transfers

model_drafted-push : (id : ℕ) (row_changes : List RowChange) (row_change : RowChange) → model_drafted id (row_changes ++ row_change ∷ []) ≡ model_from (cond (has_model id row_change) (Some row_change) (find (has_model id) (reverse row_changes)))
model_drafted-push id row_changes row_change = ap (λ (l : List RowChange). model_from (find (has_model id) l)) (reverse-append row_changes (row_change ∷ []))

model_after : (id : ℕ) (entries : List Entry) (found : Option ModelRow) (rest : Option RowChange) (before : Option ModelRow) (change : Change) (row_change : RowChange) → found ≡ option_or (model_from rest) before → GivesRows entries change row_change → or_model_before found (if_model_named id (model_in change)) ≡ option_or (model_from (cond (has_model id row_change) (Some row_change) rest)) before
model_after id entries found rest before change (Row row) is gives = ap (λ (r : Option ModelRow). or_model_before found (if_model_named id r)) (no_model entries change row gives.0) ∙ is
model_after id entries found rest before change (Made row) is gives = ap (λ (r : Option ModelRow). or_model_before found (if_model_named id r)) (no_model entries change row gives.0) ∙ is
model_after id entries found rest before change (Model row) is gives =
    ap (λ (r : Option ModelRow). or_model_before found (if_model_named id r)) (model_is entries change row gives)
    ∙ named (eqb row.id id)
  where
    named : (b : Bool) → or_model_before found (cond b (Some row) None) ≡ option_or (model_from (cond b (Some (Model row)) rest)) before
    named true = refl
    named false = is
model_after id entries found rest before change (NoModel gone) is gives = ap (λ (r : Option ModelRow). or_model_before found (if_model_named id r)) (no_model_dropped entries change gone gives) ∙ is
model_after id entries found rest before change Mail is gives = ap (λ (r : Option ModelRow). or_model_before found (if_model_named id r)) (mail_no_model change gives) ∙ is

models_more : (before entries : List Entry) (row_changes : List RowChange) (entry : Entry) (row_change : RowChange) (id : ℕ) → model_of id (before ++ entries) ≡ option_or (model_drafted id row_changes) (model_of id before) → GivesRows (before ++ entries) entry.change row_change → model_of id (before ++ (entries ++ entry ∷ [])) ≡ option_or (model_drafted id (row_changes ++ row_change ∷ [])) (model_of id before)
models_more before entries row_changes entry row_change id found gives =
    ap (model_of id) (sym (append_assoc before entries (entry ∷ [])))
    ∙ model_of-push id (before ++ entries) entry
    ∙ model_after id (before ++ entries) (model_of id (before ++ entries)) (find (has_model id) (reverse row_changes)) (model_of id before) entry.change row_change found gives
    ∙ ap (λ (r : Option ModelRow). option_or r (model_of id before)) (sym (model_drafted-push id row_changes row_change))

drops_as : (id : ℕ) (entries : List Entry) (change : Change) (row_change : RowChange) → GivesRows entries change row_change → drops_model id change ≡ cancels id row_change
drops_as id entries change (Row row) gives = no_drop id entries change row gives.0
drops_as id entries change (Made row) gives = no_drop id entries change row gives.0
drops_as id entries change (Model row) gives = given_drop id entries change row gives
drops_as id entries change (NoModel gone) gives = dropped_as id entries change gone gives
drops_as id entries change Mail gives = mail_no_drop id change gives

cancelled_more : (before entries : List Entry) (row_changes : List RowChange) (entry : Entry) (row_change : RowChange) (id : ℕ) → is_model_dropped id (before ++ entries) ≡ (is_model_dropped id before || is_cancelled_in id row_changes) → GivesRows (before ++ entries) entry.change row_change → is_model_dropped id (before ++ (entries ++ entry ∷ [])) ≡ (is_model_dropped id before || is_cancelled_in id (row_changes ++ row_change ∷ []))
cancelled_more before entries row_changes entry row_change id found gives =
    ap (is_model_dropped id) (sym (append_assoc before entries (entry ∷ [])))
    ∙ is_model_dropped-push id (before ++ entries) entry
    ∙ ap (λ (b : Bool). is_model_dropped id (before ++ entries) || b) (drops_as id (before ++ entries) entry.change row_change gives ∙ sym (or-false (cancels id row_change)))
    ∙ ap (λ (b : Bool). b || (cancels id row_change || false)) found
    ∙ or_assoc (is_model_dropped id before) (is_cancelled_in id row_changes) (cancels id row_change || false)
    ∙ ap (λ (b : Bool). is_model_dropped id before || b) (sym (list_any-append (cancels id) row_changes (row_change ∷ [])))

-- One entry more is added, with what it gives.
pub IsAdded-entry : (S : State) (added : AddedView) (entry : Entry) (row_change : RowChange) (balances : List Balance) → IsAdded S added → entry.number ≡ length (S.entries ++ added.entries) + 1 → GivesRows (S.entries ++ added.entries) entry.change row_change → IsKnown row_change → IsAdded S (with_entry added entry row_change balances)
IsAdded-entry S added entry row_change balances is number gives known = record {
  count = omega (arith, length-append added.row_changes (row_change ∷ []), length-append added.entries (entry ∷ []), is.count);
  numbered = numbered_more S.entries added.entries entry is.numbered number;
  given = given_more S.entries added.entries added.row_changes entry row_change is.count is.given gives;
  known = known_more added.entries added.row_changes entry row_change is.count is.known known;
  rows = λ id. rows_more S.entries added.entries added.row_changes entry row_change id (is.rows id) gives;
  models = λ id. models_more S.entries added.entries added.row_changes entry row_change id (is.models id) gives;
  cancelled = λ id. cancelled_more S.entries added.entries added.row_changes entry row_change id (is.cancelled id) gives;
}

abbrev pub uid_added : AddedView → List ℕ → AddedView
uid_added added uid = record {
  user = added.user;
  at = added.at;
  day = added.day;
  entries = added.entries;
  row_changes = added.row_changes;
  uids = added.uids ++ uid ∷ [];
  balances = added.balances;
}

-- one uid more is used up
pub IsAdded-uid : (S : State) (added : AddedView) (uid : List ℕ) → IsAdded S added → IsAdded S (uid_added added uid)
IsAdded-uid S added uid is = record {
  count = is.count;
  numbered = is.numbered;
  given = is.given;
  known = is.known;
  rows = is.rows;
  models = is.models;
  cancelled = is.cancelled;
}
