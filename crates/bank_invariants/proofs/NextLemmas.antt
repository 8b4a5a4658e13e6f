-- Entries that may come next, by their kinds of change.
use Rattle.std.proofs.Common.{◌≡◌, ◌≢◌, ℕ, ◌+◌, ◌⊎◌, inl, inr, Bool, true, false, cond, List, [], ◌∷◌, ◌++◌, length, Option, None, Some, pos, ◌≤ℤ◌, refl, sym, ap, ◌∙◌, subst, arith}
use Rattle.std.specs.Prelude.{is_some}
use Rattle.std.specs.Option.{option_map}
use Rattle.std.proofs.lemmas.Bool.{true≢false}
use Rattle.ofx_types.specs.Printable.{IsPrintableRow}
use Rattle.ofx_types.specs.declared.account.AcctName.{AcctName}
use Rattle.ofx_types.specs.declared.number.AcctId.{AcctId}
use Rattle.ofx_types.specs.declared.number.ObjectId.{ObjectId}
use Rattle.ofx_types.specs.declared.transfer.TransferRow.{TransferRow}
use Rattle.ofx_types.specs.declared.transfer.XferCode.{XferCode}
use Rattle.ofx_types.specs.declared.transfer.XferCode.TheVariants.{Waiting, Posted, NoFunds, Cancelled}
use Rattle.ofx_types.specs.declared.transfer.Change.TheVariants.{NewTransfer, SetTransfer, DropTransfer, NewModel, SetModel, DropModel, NewMail}
use Rattle.ofx_types.specs.declared.recurring.ModelRow.{ModelRow}
use Rattle.ofx_types.specs.declared.mail.MailRow.{MailRow}
use Rattle.ofx_types.specs.Calendar.{IsMoment}
use Rattle.bank_model.specs.declared.entry.Entry.{Entry}
use Rattle.bank_model.specs.declared.setup.Setup.{Setup}
use Rattle.bank_model.specs.declared.event.State.{State}
use Rattle.bank_model.specs.Ledger.{is_posted, posting_of, row_of, balance}
use Rattle.bank_model.specs.Models.{model_of, is_model_dropped, is_waiting}
use Rattle.bank_model.specs.Judging.{is_cancelled}
use Rattle.bank_model.specs.Deeds.{next_entry}
use Rattle.bank_transfers.specs.TransfersView.{waits}
use Rattle.bank_transfers.proofs.GrowthLemmas.{HasId, row_of-id}
use Rattle.bank_invariants.specs.SoundStates.{IsSoundRow, IsSoundModel, IsSoundState, IsOfWaiting, IsWaiting, IsNextOf}
use Rattle.bank_invariants.specs.Next.{IsNext}
use Rattle.bank_invariants.proofs.LedgerSteps.{PostsNothing, balance-kept}
use Rattle.bank_invariants.proofs.Verdicts.{open_waits}
use Rattle.bank_invariants.proofs.RowLemmas.{id_made, model_made}

-- ---- ids

has_id : (id : ℕ) (found : Option TransferRow) (row : TransferRow) → HasId id found → found ≡ Some row → row.id ≡ id
has_id id None row has is = cc
has_id id (Some held) row has is = let e : held ≡ row = cc in sym (ap (λ (r : TransferRow). r.id) e) ∙ has

-- a row that is found has the id that is looked for
pub row_of-named : (id : ℕ) (entries : List Entry) (row : TransferRow) → row_of id entries ≡ Some row → row.id ≡ id
row_of-named id entries row found = has_id id (row_of id entries) row (row_of-id id entries) found

-- ---- money

-- An entry that posts nothing leaves no balance below zero.
pub covered_nothing : (setup : Setup) (S : State) (entry : Entry) → IsSoundState setup S → PostsNothing entry → (account : AcctId) → pos 0 ≤ℤ balance setup (S.entries ++ entry ∷ []) account
covered_nothing setup S entry sound nothing account = rw (balance-kept setup S.entries entry account nothing) (sound.covered account)

unposted : (code : XferCode) → is_waiting code ≡ true → is_posted code ≡ false
unposted Waiting waits = refl
unposted Posted waits = cc
unposted NoFunds waits = cc
unposted Cancelled waits = cc

-- a row that waits isn't posted
pub waiting_posts : (number : ℕ) (row : TransferRow) → is_waiting row.code ≡ true → posting_of number (Some row) ≡ []
waiting_posts number row waits = ap (λ (b : Bool). cond b (record { number = number; row = row } ∷ []) []) (unposted row.code waits)

-- ---- what may be reported

pub not_cancelled : (code : XferCode) → is_cancelled code ≡ false → code ≢ Cancelled
not_cancelled code here is = true≢false (sym (ap is_cancelled is) ∙ here)

-- a sound row that isn't cancelled may be reported
reported_row : (setup : Setup) (row : TransferRow) → row.code ≢ Cancelled → IsSoundRow setup row → IsPrintableRow row
reported_row setup row reported sound = record {
  reported = reported;
  due = sound.due;
  stamp = sound.stamp;
}

-- ---- a new transfer

pub new_next : (setup : Setup) (S : State) (object : ObjectId) (trnuid : List ℕ) (row : TransferRow) → IsSoundState setup S → row.id ≡ length S.entries + 1 → row.model ≡ 0 → is_cancelled row.code ≡ false → IsSoundRow setup row → ((account : AcctId) → pos 0 ≤ℤ balance setup (S.entries ++ next_entry S object trnuid (NewTransfer row) ∷ []) account) → IsNext setup S (next_entry S object trnuid (NewTransfer row))
new_next setup S object trnuid row sound id none kept good covered = record {
  number = refl;
  sound = good;
  sound_model = tt;
  made = (omega (arith, id), omega (arith, id));
  lawful = (id, asked none);
  covered = covered;
  reported = reported_row setup row (not_cancelled row.code kept) good;
}
  where
    asked : row.model ≡ 0 → (row.model ≡ 0) ⊎ IsNextOf S.entries row
    asked none = inl none

pub made_next : (setup : Setup) (S : State) (object : ObjectId) (trnuid : List ℕ) (row : TransferRow) → IsSoundState setup S → row.id ≡ length S.entries + 1 → IsNextOf S.entries row → is_waiting row.code ≡ true → IsSoundRow setup row → IsNext setup S (next_entry S object trnuid (NewTransfer row))
made_next setup S object trnuid row sound id next waits good = record {
  number = refl;
  sound = good;
  sound_model = tt;
  made = (omega (arith, id), omega (arith, id));
  lawful = (id, made next);
  covered = covered_nothing setup S (next_entry S object trnuid (NewTransfer row)) sound (waiting_posts (length S.entries + 1) row waits);
  reported = reported_row setup row (not_cancelled row.code (open_waits row.code waits)) good;
}
  where
    made : IsNextOf S.entries row → (row.model ≡ 0) ⊎ IsNextOf S.entries row
    made next = inr next

-- ---- a transfer that waits is set or dropped

found_of : (found : Option TransferRow) (row given : TransferRow) → found ≡ Some row → is_waiting row.code ≡ true → row.model ≡ given.model → row.from ≡ given.from → IsOfWaiting given found
found_of found row given is wait model from = subst (IsOfWaiting given) (sym is) (wait, model, from)

pub set_next : (setup : Setup) (S : State) (object : ObjectId) (trnuid : List ℕ) (found row : TransferRow) → IsSoundState setup S → row_of row.id S.entries ≡ Some found → is_waiting found.code ≡ true → found.model ≡ row.model → found.from ≡ row.from → is_cancelled row.code ≡ false → IsSoundRow setup row → ((account : AcctId) → pos 0 ≤ℤ balance setup (S.entries ++ next_entry S object trnuid (SetTransfer row) ∷ []) account) → IsNext setup S (next_entry S object trnuid (SetTransfer row))
set_next setup S object trnuid found row sound there waits same from kept good covered =
    let known = id_made (length S.entries) row.id S.entries found sound.made there in
    record {
      number = refl;
      sound = good;
      sound_model = tt;
      made = (known.0, omega (arith, known.1));
      lawful = found_of (row_of row.id S.entries) found row there waits same from;
      covered = covered;
      reported = reported_row setup row (not_cancelled row.code kept) good;
    }

pub drop_next : (setup : Setup) (S : State) (object : ObjectId) (trnuid : List ℕ) (id : ℕ) (found : TransferRow) → IsSoundState setup S → row_of id S.entries ≡ Some found → is_waiting found.code ≡ true → IsNext setup S (next_entry S object trnuid (DropTransfer id))
drop_next setup S object trnuid id found sound there waits =
    let known = id_made (length S.entries) id S.entries found sound.made there in
    record {
      number = refl;
      sound = tt;
      sound_model = tt;
      made = (known.0, omega (arith, known.1));
      lawful = subst IsWaiting (sym there) waits;
      covered = covered_nothing setup S (next_entry S object trnuid (DropTransfer id)) sound refl;
      reported = tt;
    }

-- ---- recurring transfers

pub new_model_next : (setup : Setup) (S : State) (object : ObjectId) (trnuid : List ℕ) (row : ModelRow) → IsSoundState setup S → row.id ≡ length S.entries + 1 → IsSoundModel setup row → IsNext setup S (next_entry S object trnuid (NewModel row))
new_model_next setup S object trnuid row sound id good = record {
  number = refl;
  sound = tt;
  sound_model = good;
  made = (omega (arith, id), omega (arith, id));
  lawful = id;
  covered = covered_nothing setup S (next_entry S object trnuid (NewModel row)) sound refl;
  reported = good.first;
}

pub set_model_next : (setup : Setup) (S : State) (object : ObjectId) (trnuid : List ℕ) (found row : ModelRow) (also : Bool) → IsSoundState setup S → model_of row.id S.entries ≡ Some found → is_model_dropped row.id S.entries ≡ false → found.from ≡ row.from → IsSoundModel setup row → IsNext setup S (next_entry S object trnuid (SetModel row also))
set_model_next setup S object trnuid found row also sound there goes_on from good =
    let known = model_made (length S.entries) row.id S.entries found sound.made there in
    record {
      number = refl;
      sound = tt;
      sound_model = good;
      made = (known.0, omega (arith, known.1));
      lawful = ((ap is_some there, goes_on), ap (option_map (λ (m : ModelRow). m.from)) there ∙ ap (λ (name : AcctName). Some name) from);
      covered = covered_nothing setup S (next_entry S object trnuid (SetModel row also)) sound refl;
      reported = good.first;
    }

pub drop_model_next : (setup : Setup) (S : State) (object : ObjectId) (trnuid : List ℕ) (id : ℕ) (found : ModelRow) (also : Bool) → IsSoundState setup S → model_of id S.entries ≡ Some found → is_model_dropped id S.entries ≡ false → IsNext setup S (next_entry S object trnuid (DropModel id also))
drop_model_next setup S object trnuid id found also sound there goes_on =
    let known = model_made (length S.entries) id S.entries found sound.made there in
    record {
      number = refl;
      sound = tt;
      sound_model = tt;
      made = (known.0, omega (arith, known.1));
      lawful = (ap is_some there, goes_on);
      covered = covered_nothing setup S (next_entry S object trnuid (DropModel id also)) sound refl;
      reported = tt;
    }

-- a mail
pub mail_next : (setup : Setup) (S : State) (object : ObjectId) (trnuid : List ℕ) (row : MailRow) → IsSoundState setup S → IsMoment row.mail.created.0 → IsNext setup S (next_entry S object trnuid (NewMail row))
mail_next setup S object trnuid row sound written = record {
  number = refl;
  sound = tt;
  sound_model = tt;
  made = tt;
  lawful = tt;
  covered = covered_nothing setup S (next_entry S object trnuid (NewMail row)) sound refl;
  reported = written;
}
