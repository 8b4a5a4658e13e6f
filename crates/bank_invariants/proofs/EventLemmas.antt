-- The entry of an event that nobody asks for may come next.
use Rattle.std.proofs.Common.{◌≡◌, ℕ, ◌+◌, ◌≤◌, Bool, true, false, ◌&&◌, not, cond, eqb, ltb, [], ◌∷◌, ◌++◌, length, codes, Option, None, Some, pos, ◌≤ℤ◌, refl, sym, ap, ◌∙◌, subst}
use Rattle.std.specs.Prelude.{is_some, int_le}
use Rattle.std.specs.Option.{option_map}
use Rattle.std.proofs.lemmas.Bool.{and_parts, eqb-true, ltb-false}
use Rattle.ofx_types.specs.Calendar.{IsMoment, IsDay}
use Rattle.ofx_types.specs.declared.number.AcctId.{AcctId}
use Rattle.ofx_types.specs.declared.account.AcctName.{AcctName}
use Rattle.ofx_types.specs.declared.number.Cents.{Cents}
use Rattle.ofx_types.specs.declared.number.Day.{Day}
use Rattle.ofx_types.specs.declared.number.Moment.{Moment}
use Rattle.ofx_types.specs.declared.transfer.TransferRow.{TransferRow}
use Rattle.ofx_types.specs.declared.transfer.XferCode.TheVariants.{Posted, NoFunds}
use Rattle.ofx_types.specs.declared.transfer.Change.TheVariants.{NewTransfer, SetTransfer}
use Rattle.ofx_types.specs.declared.recurring.ModelRow.{ModelRow}
use Rattle.bank_model.specs.declared.entry.Entry.{Entry}
use Rattle.bank_model.specs.declared.setup.Setup.{Setup}
use Rattle.bank_model.specs.declared.event.State.{State}
use Rattle.bank_model.specs.SetupForm.{IsWithinLimits}
use Rattle.bank_model.specs.SetupLookups.{account_of}
use Rattle.bank_model.specs.Ledger.{row_of, posting_of, balance}
use Rattle.bank_model.specs.Models.{model_of, is_model_dropped, next_occurrence, is_waiting}
use Rattle.bank_model.specs.Recurrence.{kth_date}
use Rattle.bank_model.specs.Judging.{is_cancelled}
use Rattle.bank_model.specs.Deeds.{balance_if_any, object_of, next_entry}
use Rattle.bank_model.specs.Due.{has_number, is_to_post, may_post, processed_row, has_cover, posts, is_below_count, date_in_series, last_day, if_by, date_if_any, date_to_make, may_spawn, spawned_row, spawns_on, occurrence_date, spawns}
use Rattle.bank_invariants.specs.SoundStates.{IsSoundRow, IsSoundModel, IsSoundState}
use Rattle.bank_invariants.specs.Next.{IsNext}
use Rattle.bank_invariants.proofs.LedgerSteps.{balance-kept, covered-posted}
use Rattle.bank_invariants.proofs.RowLemmas.{IsSoundRow-settled, IsSoundRow-spawned, model_of-named}
use Rattle.bank_invariants.proofs.NextLemmas.{row_of-named, made_next, set_next}
use Rattle.bank_invariants.proofs.DeedLemmas.{some_of, covers}
use Rattle.bank_invariants.proofs.SoundFound.{row_sound, model_sound}
use Rattle.bank_recur.proofs.SeriesDays.{few_occurrences}

not_true : (b : Bool) → not b ≡ true → b ≡ false
not_true true is = cc
not_true false is = refl

-- where a number is left, one entry more isn't too many
pub few_number : (setup : Setup) (S : State) → has_number setup S ≡ true → length S.entries + 1 ≤ setup.entries
few_number setup S left = ltb-false setup.entries (length S.entries + 1) (not_true (ltb setup.entries (length S.entries + 1)) left)

-- ---- posting

-- a transfer that may be posted
pub record IsToPost (setup : Setup) (S : State) (id : ℕ) : Type 0 where
  pub row : TransferRow
  pub found : row_of id S.entries ≡ Some row
  pub waits : is_waiting row.code ≡ true
  pub due : int_le row.due.0 S.day.0 ≡ true
  pub number : has_number setup S ≡ true
  pub sound : IsSoundRow setup row

to_post_of : (setup : Setup) (S : State) (id : ℕ) (found : Option TransferRow) → row_of id S.entries ≡ found → IsSoundState setup S → may_post setup S found ≡ true → IsToPost setup S id
to_post_of setup S id None is sound may = cc
to_post_of setup S id (Some row) is sound may =
    let both = and_parts (is_to_post S.day row) (has_number setup S) may in
    let due = and_parts (is_waiting row.code) (int_le row.due.0 S.day.0) both.0 in
    record { row = row; found = is; waits = due.0; due = due.1; number = both.1; sound = row_sound setup S id row sound is }

pub to_post : (setup : Setup) (S : State) (id : ℕ) → IsSoundState setup S → may_post setup S (row_of id S.entries) ≡ true → IsToPost setup S id
to_post setup S id sound may = to_post_of setup S id (row_of id S.entries) refl sound may

pub settled_fields : (covered : Bool) (at : Moment) (row : TransferRow) → ((processed_row covered at row).id ≡ row.id) × ((processed_row covered at row).model ≡ row.model) × ((processed_row covered at row).from ≡ row.from) × ((processed_row covered at row).to ≡ row.to) × ((processed_row covered at row).amount ≡ row.amount) × ((processed_row covered at row).code ≡ cond covered Posted NoFunds)
unfolding processed_row
settled_fields covered at row = (refl, refl, refl, refl, refl, refl)

pub settled_open : (covered : Bool) → is_cancelled (cond covered Posted NoFunds) ≡ false
settled_open true = refl
settled_open false = refl

abbrev pub post_entry : Setup → State → Moment → TransferRow → Entry
post_entry setup S at row = next_entry S (object_of setup row.from) (codes "0") (SetTransfer (processed_row (has_cover setup S row) at row))

settled_posting : (number : ℕ) (at : Moment) (row : TransferRow) (covered : Bool) → posting_of number (Some (processed_row covered at row)) ≡ cond covered (record { number = number; row = processed_row covered at row } ∷ []) []
unfolding processed_row
settled_posting number at row true = refl
settled_posting number at row false = refl

post_covered : (setup : Setup) (S : State) (at : Moment) (row : TransferRow) (covered : Bool) → has_cover setup S row ≡ covered → IsWithinLimits setup → IsSoundState setup S → IsSoundRow setup row → (account : AcctId) → pos 0 ≤ℤ balance setup (S.entries ++ post_entry setup S at row ∷ []) account
post_covered setup S at row true covered within sound good account =
    let source = some_of (account_of setup row.from) good.from in
    let fields = settled_fields (has_cover setup S row) at row in
    let enough : row.amount.0 ≤ℤ balance_if_any setup S.entries (account_of setup row.from) = covers row.amount.0 (balance_if_any setup S.entries (account_of setup row.from)) covered in
    let found = source.1 in
    let from : row.amount.0 ≤ℤ balance setup S.entries source.0 = rw found at enough in
    covered-posted setup S.entries (post_entry setup S at row) (processed_row (has_cover setup S row) at row) source.0 within
    (settled_posting (length S.entries + 1) at row (has_cover setup S row) ∙ ap (λ (b : Bool). cond b (record { number = length S.entries + 1; row = processed_row (has_cover setup S row) at row } ∷ []) []) covered)
    (ap (account_of setup) fields.2 ∙ found)
    (subst (λ (c : Cents). pos 0 ≤ℤ c.0) (sym fields.4) good.not_negative)
    (subst (λ (c : Cents). c.0 ≤ℤ balance setup S.entries source.0) (sym fields.4) from)
    sound.covered account
post_covered setup S at row false covered within sound good account =
    rw (balance-kept setup S.entries (post_entry setup S at row) account (settled_posting (length S.entries + 1) at row (has_cover setup S row) ∙ ap (λ (b : Bool). cond b (record { number = length S.entries + 1; row = processed_row (has_cover setup S row) at row } ∷ []) []) covered))
    (sound.covered account)

pub post_next : (setup : Setup) (S : State) (id : ℕ) (at : Moment) → IsWithinLimits setup → IsSoundState setup S → IsMoment at.0 → (to : IsToPost setup S id) → IsNext setup S (post_entry setup S at to.row)
post_next setup S id at within sound moment to =
    let covered : Bool = has_cover setup S to.row in
    let fields = settled_fields covered at to.row in
    let same : to.row.id ≡ id = row_of-named id S.entries to.row to.found in
    set_next setup S (object_of setup to.row.from) (codes "0") to.row (processed_row covered at to.row) sound
    (ap (λ (n : ℕ). row_of n S.entries) (fields.0 ∙ same) ∙ to.found)
    to.waits
    (sym fields.1)
    (sym fields.2)
    (ap is_cancelled fields.5 ∙ settled_open covered)
    (IsSoundRow-settled setup covered at to.row moment to.sound)
    (post_covered setup S at to.row covered refl within sound to.sound)

pub post_entries : (setup : Setup) (S : State) (at : Moment) (id : ℕ) (row : TransferRow) → row_of id S.entries ≡ Some row → posts setup S at (row_of id S.entries) ≡ post_entry setup S at row ∷ []
post_entries setup S at id row found = ap (posts setup S at) found

-- ---- making the next transfer

-- a recurring transfer that may make its next transfer
pub record IsToSpawn (setup : Setup) (S : State) (id occurrence : ℕ) : Type 0 where
  pub row : ModelRow
  pub date : Day
  pub found : model_of id S.entries ≡ Some row
  pub goes_on : is_model_dropped id S.entries ≡ false
  pub is_next : occurrence ≡ next_occurrence id S.entries
  pub has_date : kth_date row.first row.recur.freq occurrence ≡ Some date
  pub near : int_le date.0 (last_day setup S.day).0 ≡ true
  pub number : has_number setup S ≡ true
  pub sound : IsSoundModel setup row

date_by : (last : Day) (found : Option Day) → is_some (if_by last found) ≡ true → (date : Day) × (found ≡ Some date) × (int_le date.0 last.0 ≡ true)
date_by last None some = cc
date_by last (Some date) some = (date, refl, near (int_le date.0 last.0) some)
  where
    near : (b : Bool) → is_some (cond b (Some date) None) ≡ true → b ≡ true
    near true some = refl
    near false some = cc

date_of_series : (row : ModelRow) (occurrence : ℕ) (date : Day) (b : Bool) → cond b (kth_date row.first row.recur.freq occurrence) None ≡ Some date → kth_date row.first row.recur.freq occurrence ≡ Some date
date_of_series row occurrence date true is = is
date_of_series row occurrence date false is = cc

to_spawn_of : (setup : Setup) (S : State) (id occurrence : ℕ) (found : Option ModelRow) (dropped : Bool) → model_of id S.entries ≡ found → is_model_dropped id S.entries ≡ dropped → occurrence ≡ next_occurrence id S.entries → has_number setup S ≡ true → IsSoundState setup S → is_some (date_if_any (last_day setup S.day) id S.entries found) ≡ true → IsToSpawn setup S id occurrence
to_spawn_of setup S id occurrence None dropped is goes offset_is number sound some = cc
to_spawn_of setup S id occurrence (Some row) true is goes offset_is number sound some =
    absurd (let none : is_some (cond true None (if_by (last_day setup S.day) (date_in_series row (next_occurrence id S.entries)))) ≡ true = rw goes at some in cc)
to_spawn_of setup S id occurrence (Some row) false is goes offset_is number sound some =
    let date = date_by (last_day setup S.day) (date_in_series row (next_occurrence id S.entries)) (rw goes at some) in
    record {
      row = row;
      date = date.0;
      found = is;
      goes_on = goes;
      is_next = offset_is;
      has_date = ap (kth_date row.first row.recur.freq) offset_is ∙ date_of_series row (next_occurrence id S.entries) date.0 (is_below_count (next_occurrence id S.entries) row.recur.count) date.1;
      near = date.2;
      number = number;
      sound = model_sound setup S id row sound is;
    }

pub to_spawn : (setup : Setup) (S : State) (id occurrence : ℕ) → IsSoundState setup S → may_spawn setup S id occurrence ≡ true → IsToSpawn setup S id occurrence
unfolding date_to_make
to_spawn setup S id occurrence sound may =
    let both = and_parts (is_some (date_to_make (last_day setup S.day) id S.entries) && eqb occurrence (next_occurrence id S.entries)) (has_number setup S) may in
    let first = and_parts (is_some (date_to_make (last_day setup S.day) id S.entries)) (eqb occurrence (next_occurrence id S.entries)) both.0 in
    to_spawn_of setup S id occurrence (model_of id S.entries) (is_model_dropped id S.entries) refl refl (eqb-true occurrence (next_occurrence id S.entries) first.1) both.1 sound first.0

pub spawned_fields : (id : ℕ) (date : Day) (row : ModelRow) → ((spawned_row id date row).id ≡ id) × ((spawned_row id date row).model ≡ row.id) × ((spawned_row id date row).from ≡ row.from) × ((spawned_row id date row).due ≡ date) × (is_waiting (spawned_row id date row).code ≡ true)
unfolding spawned_row
spawned_fields id date row = (refl, refl, refl, refl, refl)

abbrev pub spawn_entry : Setup → State → Day → ModelRow → Entry
spawn_entry setup S date row = next_entry S (object_of setup row.from) (codes "0") (NewTransfer (spawned_row (length S.entries + 1) date row))

pub spawn_entries : (setup : Setup) (S : State) (id occurrence : ℕ) (to : IsToSpawn setup S id occurrence) → spawns setup S id occurrence ≡ spawn_entry setup S to.date to.row ∷ []
unfolding spawns
spawn_entries setup S id occurrence to =
    ap (λ (r : Option ModelRow). spawns_on setup S r (occurrence_date r occurrence)) to.found ∙ ap (spawns_on setup S (Some to.row)) to.has_date

-- a date of a series is a day of the calendar
pub date_known : (row : ModelRow) (date : Day) (occurrence : ℕ) → IsDay row.first.0 → kth_date row.first row.recur.freq occurrence ≡ Some date → IsDay date.0
date_known row date occurrence first is = (few_occurrences row.first date row.recur.freq occurrence first is).1

pub spawn_next : (setup : Setup) (S : State) (id occurrence : ℕ) → IsSoundState setup S → (to : IsToSpawn setup S id occurrence) → IsDay to.date.0 → IsNext setup S (spawn_entry setup S to.date to.row)
spawn_next setup S id occurrence sound to day =
    let new : TransferRow = spawned_row (length S.entries + 1) to.date to.row in
    let fields = spawned_fields (length S.entries + 1) to.date to.row in
    let same : to.row.id ≡ id = model_of-named id S.entries to.row to.found in
    let model : new.model ≡ id = fields.1 ∙ same in
    let there : model_of new.model S.entries ≡ Some to.row = ap (λ (n : ℕ). model_of n S.entries) model ∙ to.found in
    let at : next_occurrence new.model S.entries ≡ occurrence = ap (λ (n : ℕ). next_occurrence n S.entries) model ∙ sym to.is_next in
    let dated : occurrence_date (model_of new.model S.entries) (next_occurrence new.model S.entries) ≡ Some new.due =
    ap (λ (r : Option ModelRow). occurrence_date r (next_occurrence new.model S.entries)) there ∙ ap (kth_date to.row.first to.row.recur.freq) at ∙ to.has_date ∙ ap (λ (d : Day). Some d) (sym fields.3) in
    made_next setup S (object_of setup to.row.from) (codes "0") new sound fields.0
    (dated, ap (option_map (λ (m : ModelRow). m.from)) there ∙ ap (λ (name : AcctName). Some name) (sym fields.2))
    fields.4
    (IsSoundRow-spawned setup (length S.entries + 1) to.date to.row day to.sound)
