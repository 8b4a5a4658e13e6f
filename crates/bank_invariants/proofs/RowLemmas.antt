-- The rows that are made, and what the history knows of their transfers and recurring transfers.
use Rattle.std.proofs.Common.{◌≡◌, ℕ, ◌<◌, ◌≤◌, Bool, true, false, cond, eqb, List, [], ◌∷◌, fold, Option, None, Some, ℤ, pos, negsuc, ◌≤ℤ◌, refl, sym, ap, ◌∙◌, arith}
use Rattle.std.specs.Prelude.{int_lt, unwrap_or, is_some}
use Rattle.std.specs.Int.{int_max}
use Rattle.std.specs.List.{AllByRecursion}
use Rattle.std.specs.Option.{IfSome, option_map}
use Rattle.std.proofs.lemmas.Bool.{eqb-true, ne_eqb, or_from}
use Rattle.std.proofs.lemmas.Int.{ints, clamps}
use Rattle.ofx_types.specs.AccountForm.{same_account}
use Rattle.ofx_types.specs.Calendar.{IsMoment, IsDay, day_of, midnight}
use Rattle.ofx_types.specs.declared.number.Day.{Day}
use Rattle.ofx_types.specs.declared.number.Moment.{Moment}
use Rattle.ofx_types.specs.declared.transfer.TransferRow.{TransferRow}
use Rattle.ofx_types.specs.declared.recurring.ModelRow.{ModelRow}
use Rattle.ofx_types.specs.declared.recurring.Recur.{Recur}
use Rattle.ofx_types.specs.declared.transfer.XferInfo.{XferInfo}
use Rattle.ofx_types.specs.declared.transfer.XferCode.TheVariants.{Cancelled}
use Rattle.ofx_types.specs.declared.transfer.Change.{Change}
use Rattle.ofx_types.specs.declared.transfer.Change.TheVariants.{NewTransfer, SetTransfer, DropTransfer, NewModel, SetModel, DropModel, NewMail}
use Rattle.ofx_types.proofs.Days.{IsMoment-midnight}
use Rattle.bank_model.specs.declared.entry.Entry.{Entry}
use Rattle.bank_model.specs.declared.setup.Setup.{Setup}
use Rattle.bank_model.specs.Ledger.{row_in, if_named, or_before, last_row, drops, is_dropped, with_code, row_of}
use Rattle.bank_model.specs.Models.{model_in, if_model_named, or_model_before, model_of}
use Rattle.bank_model.specs.SetupLookups.{account_of}
use Rattle.bank_model.specs.Judging.{due_day, is_due, is_positive, is_cancelled}
use Rattle.bank_model.specs.Deeds.{new_row, changed_row, new_model, changed_model, with_terms}
use Rattle.bank_model.specs.Due.{processed_row, spawned_row}
use Rattle.bank_model.specs.Sound.{IsSoundInfo}
use Rattle.bank_invariants.specs.SoundStates.{IsSoundRow, IsSoundModel, IsOfMade, IsNumbered}
use Rattle.bank_invariants.proofs.Verdicts.{IsTaken, IsChange, IsTakenModel, IsModelChange}
use Rattle.bank_model.proofs.AccountNames.{same_account-is}

-- ---- days and moments

pub IsDay-of_moment : (at : ℤ) → IsMoment at → IsDay (day_of at)
IsDay-of_moment (pos at) moment = (omega (arith, ints), omega (arith, ints))
IsDay-of_moment (negsuc at) moment = (omega (arith, ints), omega (arith, ints))

pub IsDay-max : (a b : ℤ) → IsDay a → IsDay b → IsDay (int_max a b)
IsDay-max a b first second = (omega (arith, ints, clamps), omega (arith, ints, clamps))

pub IsDay-due : (due : Option Day) (day : Day) → IfSome due (λ (d : Day). IsDay d.0) → IsDay day.0 → IsDay (unwrap_or due day).0
IsDay-due None day due known = known
IsDay-due (Some d) day due known = due

pub stamp_is : (due : Bool) (at : Moment) (day : ℤ) → IsMoment at.0 → IsDay day → IsMoment (cond due at (record { 0 = midnight day })).0
stamp_is true at day moment known = moment
stamp_is false at day moment known = IsMoment-midnight day known

positive_is : (amount : ℤ) → int_lt (pos 0) amount ≡ true → pos 0 ≤ℤ amount
positive_is amount positive = grind (arith, ints)

-- ---- sound rows

pub IsSoundRow-new : (setup : Setup) (id : ℕ) (at : Moment) (day : Day) (balance : ℤ) (info : XferInfo) → IsMoment at.0 → IsDay day.0 → IsSoundInfo info → IsTaken setup info day balance → IsSoundRow setup (new_row id at day info)
unfolding new_row
IsSoundRow-new setup id at day balance info moment known sound taken = record {
  not_negative = positive_is info.amount.0 taken.positive;
  amount = sound.amount;
  due = IsDay-due info.due day sound.due known;
  stamp = stamp_is (is_due info day) at (due_day info day).0 moment (IsDay-due info.due day sound.due known);
  from = taken.from;
  to = taken.to;
  apart = taken.apart;
}

pub IsSoundRow-changed : (setup : Setup) (day : Day) (info : XferInfo) (row : TransferRow) → IsDay day.0 → IsSoundInfo info → IsChange setup row info day → IsSoundRow setup (changed_row day info row)
unfolding changed_row
IsSoundRow-changed setup day info row known sound change =
    let name : info.from ≡ row.from = same_account-is info.from row.from change.from in
    let due : IsDay (due_day info day).0 = IsDay-due info.due day sound.due known in
    record {
      not_negative = positive_is info.amount.0 change.positive;
      amount = sound.amount;
      due = due;
      stamp = IsMoment-midnight (due_day info day).0 due;
      from = change.is_open.from;
      to = change.to;
      apart = ap (same_account info.to) (sym name) ∙ change.apart;
    }

-- a transfer that is posted or closed
pub IsSoundRow-settled : (setup : Setup) (covered : Bool) (at : Moment) (row : TransferRow) → IsMoment at.0 → IsSoundRow setup row → IsSoundRow setup (processed_row covered at row)
unfolding processed_row
IsSoundRow-settled setup covered at row moment sound = record {
  not_negative = sound.not_negative;
  amount = sound.amount;
  due = sound.due;
  stamp = moment;
  from = sound.from;
  to = sound.to;
  apart = sound.apart;
}

-- a transfer that a recurring one makes
pub IsSoundRow-spawned : (setup : Setup) (id : ℕ) (date : Day) (row : ModelRow) → IsDay date.0 → IsSoundModel setup row → IsSoundRow setup (spawned_row id date row)
unfolding spawned_row
IsSoundRow-spawned setup id date row day sound = record {
  not_negative = sound.not_negative;
  amount = sound.amount;
  due = day;
  stamp = IsMoment-midnight date.0 day;
  from = sound.from;
  to = sound.to;
  apart = sound.apart;
}

-- a transfer that waits while its recurring transfer is changed
pub IsSoundRow-with_terms : (setup : Setup) (info : XferInfo) (row : TransferRow) → IsSoundRow setup row → IsSoundInfo info → is_positive info ≡ true → is_some (account_of setup info.to) ≡ true → same_account info.to row.from ≡ false → IsSoundRow setup (with_terms info row)
unfolding with_terms
IsSoundRow-with_terms setup info row sound known positive to apart = record {
  not_negative = positive_is info.amount.0 positive;
  amount = known.amount;
  due = sound.due;
  stamp = sound.stamp;
  from = sound.from;
  to = to;
  apart = apart;
}

pub IsSoundModel-new : (setup : Setup) (id : ℕ) (day : Day) (recur : Recur) (info : XferInfo) → IsDay day.0 → IsSoundInfo info → IsTakenModel setup info day → IsSoundModel setup (new_model id day recur info)
unfolding new_model
IsSoundModel-new setup id day recur info known sound taken = record {
  not_negative = positive_is info.amount.0 taken.positive;
  amount = sound.amount;
  first = IsDay-due info.due day sound.due known;
  from = taken.from;
  to = taken.to;
  apart = taken.apart;
}

pub IsSoundModel-changed : (setup : Setup) (day : Day) (recur : Recur) (info : XferInfo) (row : ModelRow) → IsDay day.0 → IsSoundInfo info → IsModelChange setup row info day → IsSoundModel setup (changed_model day recur info row)
unfolding changed_model
IsSoundModel-changed setup day recur info row known sound change =
    let name : info.from ≡ row.from = same_account-is info.from row.from change.from in
    record {
      not_negative = positive_is info.amount.0 change.positive;
      amount = sound.amount;
      first = IsDay-due info.due day sound.due known;
      from = change.own;
      to = change.to;
      apart = ap (same_account info.to) (sym name) ∙ change.apart;
    }

-- ---- what an entry has made

abbrev pub AreMade : ℕ → List Entry → Type 0
AreMade count entries = AllByRecursion (IsNumbered count) entries

pub made_up : (count more : ℕ) (change : Change) → count ≤ more → IsOfMade count change → IsOfMade more change
made_up count more (NewTransfer row) less made = (made.0, let most = made.1 in omega arith)
made_up count more (SetTransfer row) less made = (made.0, let most = made.1 in omega arith)
made_up count more (DropTransfer id) less made = (made.0, let most = made.1 in omega arith)
made_up count more (NewModel row) less made = (made.0, let most = made.1 in omega arith)
made_up count more (SetModel row pending) less made = (made.0, let most = made.1 in omega arith)
made_up count more (DropModel id pending) less made = (made.0, let most = made.1 in omega arith)
made_up count more (NewMail row) less made = tt

pub AreMade-more : (count more : ℕ) (entries : List Entry) → count ≤ more → AreMade count entries → AreMade more entries
AreMade-more count more [] less made = tt
AreMade-more count more (entry ∷ entries) less made =
    (made_up count more entry.change less made.0, AreMade-more count more entries less made.1)

drops_made : (count id : ℕ) (change : Change) → IsOfMade count change → count < id → drops id change ≡ false
drops_made count id (NewTransfer row) made less = refl
drops_made count id (SetTransfer row) made less = refl
drops_made count id (DropTransfer dropped) made less = ne_eqb dropped id (let most = made.1 in omega arith)
drops_made count id (NewModel row) made less = refl
drops_made count id (SetModel row pending) made less = refl
drops_made count id (DropModel dropped pending) made less = refl
drops_made count id (NewMail mail) made less = refl

-- a transfer that no entry speaks of isn't dropped
pub is_dropped-new : (count id : ℕ) (entries : List Entry) → AreMade count entries → count < id → is_dropped id entries ≡ false
unfolding is_dropped
is_dropped-new count id [] made less = refl
is_dropped-new count id (entry ∷ entries) made less =
    or_from (drops id entry.change) _ (drops_made count id entry.change made.0 less) (is_dropped-new count id entries made.1 less)

-- Where a row is found, its id is that of an entry.
abbrev pub IsMade : {X : Type 0} → ℕ → ℕ → Option X → Type 0
IsMade count id None = Unit {0}
IsMade count id (Some row) = (0 < id) × (id ≤ count)

made_named : {X : Type 0} (count id number : ℕ) (row : X) (b : Bool) → (b ≡ true → number ≡ id) → (0 < number) × (number ≤ count) → IsMade count id (cond b (Some row) None)
made_named count id number row true same made = let is = same refl in (omega (arith, made.0), omega (arith, made.1))
made_named count id number row false same made = tt

made_change : (count id : ℕ) (change : Change) → IsOfMade count change → IsMade count id (if_named id (row_in change))
made_change count id (NewTransfer row) made = made_named count id row.id row (eqb row.id id) (eqb-true row.id id) made
made_change count id (SetTransfer row) made = made_named count id row.id row (eqb row.id id) (eqb-true row.id id) made
made_change count id (DropTransfer dropped) made = tt
made_change count id (NewModel row) made = tt
made_change count id (SetModel row pending) made = tt
made_change count id (DropModel dropped pending) made = tt
made_change count id (NewMail mail) made = tt

made_later : (count id : ℕ) (before row : Option TransferRow) → IsMade count id before → IsMade count id row → IsMade count id (or_before before row)
made_later count id before None first second = first
made_later count id before (Some row) first second = second

made_fold : (count id : ℕ) (before : Option TransferRow) (entries : List Entry) → AreMade count entries → IsMade count id before → IsMade count id (fold (λ (row : Option TransferRow) (entry : Entry). or_before row (if_named id (row_in entry.change))) before entries)
made_fold count id before [] made known = known
made_fold count id before (entry ∷ entries) made known =
    made_fold count id (or_before before (if_named id (row_in entry.change))) entries made.1
    (made_later count id before (if_named id (row_in entry.change)) known (made_change count id entry.change made.0))

made_map : {X : Type 0} (count id : ℕ) (change : X → X) (last : Option X) (row : X) → IsMade count id last → option_map change last ≡ Some row → (0 < id) × (id ≤ count)
made_map count id change None row known found = cc
made_map count id change (Some last) row known found = known

-- a transfer that has a row was made by an entry
pub id_made : (count id : ℕ) (entries : List Entry) (row : TransferRow) → AreMade count entries → row_of id entries ≡ Some row → (0 < id) × (id ≤ count)
unfolding row_of last_row
id_made count id entries row made found =
    made_map count id _ (last_row id entries) row (made_fold count id None entries made tt) found

none_if : {X : Type 0} (found : Option X) → ((x : X) → found ≡ Some x → ⊥) → found ≡ None
none_if None never = refl
none_if (Some x) never = absurd (never x refl)

-- a transfer that no entry has made has no row
pub row_of-new : (count id : ℕ) (entries : List Entry) → AreMade count entries → count < id → row_of id entries ≡ None
row_of-new count id entries made less =
    none_if (row_of id entries) (λ row found. let known = id_made count id entries row made found in omega (arith, known.1))

-- ---- recurring transfers that an entry has made

abbrev pub IsModelNamed : ℕ → Option ModelRow → Type 0
IsModelNamed id None = Unit {0}
IsModelNamed id (Some row) = row.id ≡ id

made_model_change : (count id : ℕ) (change : Change) → IsOfMade count change → IsMade count id (if_model_named id (model_in change))
made_model_change count id (NewTransfer row) made = tt
made_model_change count id (SetTransfer row) made = tt
made_model_change count id (DropTransfer dropped) made = tt
made_model_change count id (NewModel row) made = made_named count id row.id row (eqb row.id id) (eqb-true row.id id) made
made_model_change count id (SetModel row pending) made = made_named count id row.id row (eqb row.id id) (eqb-true row.id id) made
made_model_change count id (DropModel dropped pending) made = tt
made_model_change count id (NewMail mail) made = tt

made_model_later : (count id : ℕ) (before row : Option ModelRow) → IsMade count id before → IsMade count id row → IsMade count id (or_model_before before row)
made_model_later count id before None first second = first
made_model_later count id before (Some row) first second = second

made_model_fold : (count id : ℕ) (before : Option ModelRow) (entries : List Entry) → AreMade count entries → IsMade count id before → IsMade count id (fold (λ (row : Option ModelRow) (entry : Entry). or_model_before row (if_model_named id (model_in entry.change))) before entries)
made_model_fold count id before [] made known = known
made_model_fold count id before (entry ∷ entries) made known =
    made_model_fold count id (or_model_before before (if_model_named id (model_in entry.change))) entries made.1
    (made_model_later count id before (if_model_named id (model_in entry.change)) known (made_model_change count id entry.change made.0))

made_some : {X : Type 0} (count id : ℕ) (found : Option X) (row : X) → IsMade count id found → found ≡ Some row → (0 < id) × (id ≤ count)
made_some count id None row known is = cc
made_some count id (Some held) row known is = known

-- a recurring transfer that has a row was made by an entry
pub model_made : (count id : ℕ) (entries : List Entry) (row : ModelRow) → AreMade count entries → model_of id entries ≡ Some row → (0 < id) × (id ≤ count)
unfolding model_of
model_made count id entries row made found = made_some count id _ row (made_model_fold count id None entries made tt) found

pub model_of-new : (count id : ℕ) (entries : List Entry) → AreMade count entries → count < id → model_of id entries ≡ None
model_of-new count id entries made less =
    none_if (model_of id entries) (λ row found. let known = model_made count id entries row made found in omega (arith, known.1))

named_model : (id : ℕ) (row : Option ModelRow) → IsModelNamed id (if_model_named id row)
named_model id None = tt
named_model id (Some row) = named (eqb row.id id) (eqb-true row.id id)
  where
    named : (b : Bool) → (b ≡ true → row.id ≡ id) → IsModelNamed id (cond b (Some row) None)
    named true same = same refl
    named false same = tt

later_model : (id : ℕ) (before row : Option ModelRow) → IsModelNamed id before → IsModelNamed id row → IsModelNamed id (or_model_before before row)
later_model id before None had has = had
later_model id before (Some row) had has = has

model_fold_named : (id : ℕ) (before : Option ModelRow) (entries : List Entry) → IsModelNamed id before → IsModelNamed id (fold (λ (row : Option ModelRow) (entry : Entry). or_model_before row (if_model_named id (model_in entry.change))) before entries)
model_fold_named id before [] had = had
model_fold_named id before (entry ∷ entries) had =
    model_fold_named id (or_model_before before (if_model_named id (model_in entry.change))) entries (later_model id before (if_model_named id (model_in entry.change)) had (named_model id (model_in entry.change)))

named_of : (id : ℕ) (found : Option ModelRow) (row : ModelRow) → IsModelNamed id found → found ≡ Some row → row.id ≡ id
named_of id None row named is = cc
named_of id (Some held) row named is = let e : held ≡ row = cc in sym (ap (λ (r : ModelRow). r.id) e) ∙ named

pub model_of-id : (id : ℕ) (entries : List Entry) → IsModelNamed id (model_of id entries)
unfolding model_of
model_of-id id entries = model_fold_named id None entries tt

-- a row that is found has the id that is looked for
pub model_of-named : (id : ℕ) (entries : List Entry) (row : ModelRow) → model_of id entries ≡ Some row → row.id ≡ id
model_of-named id entries row found = named_of id (model_of id entries) row (model_of-id id entries) found

-- no recurring transfer has the id 0
pub model_of-0 : (count : ℕ) (entries : List Entry) → AreMade count entries → model_of 0 entries ≡ None
model_of-0 count entries made =
    none_if (model_of 0 entries) (λ row found. let known = model_made count 0 entries row made found in omega (arith, known.0))

-- ---- open transfers

dropped_code : (dropped : Bool) (last : Option TransferRow) (row : TransferRow) → option_map (λ (found : TransferRow). cond dropped (with_code Cancelled found) found) last ≡ Some row → is_cancelled row.code ≡ false → dropped ≡ false
dropped_code dropped None row found here = cc
dropped_code false (Some last) row found here = refl
dropped_code true (Some last) row found here =
    let is : with_code Cancelled last ≡ row = cc in
    let cancelled : is_cancelled row.code ≡ true = sym (ap (λ (r : TransferRow). is_cancelled r.code) is) in
    cc

-- a transfer whose row isn't cancelled isn't dropped
pub is_dropped-open : (id : ℕ) (entries : List Entry) (row : TransferRow) → row_of id entries ≡ Some row → is_cancelled row.code ≡ false → is_dropped id entries ≡ false
unfolding row_of
is_dropped-open id entries row found here = dropped_code (is_dropped id entries) (last_row id entries) row found here
