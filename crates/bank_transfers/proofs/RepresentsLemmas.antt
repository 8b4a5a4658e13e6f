-- The transfers stand for their entries, and for one entry more.
use Rattle.std.proofs.Common.{◌≡◌, ℕ, Bool, true, false, cond, eqb, List, [], ◌∷◌, ◌++◌, map, reverse, Option, None, Some, refl, sym, ap, ◌∙◌, subst, inl, inr}
use Rattle.std.proofs.lemmas.Bool.{eqb-true}
use Rattle.std.proofs.lemmas.List.{append-nil, reverse-append}
use Rattle.std.specs.Option.{option_map, option_or}
use Rattle.ofx_types.specs.declared.transfer.XferCode.{XferCode}
use Rattle.ofx_types.specs.declared.transfer.XferCode.TheVariants.{Waiting, Posted, NoFunds, Cancelled}
use Rattle.ofx_types.specs.declared.transfer.TransferRow.{TransferRow}
use Rattle.ofx_types.specs.declared.transfer.Change.{Change}
use Rattle.ofx_types.specs.declared.transfer.Change.TheVariants.{NewTransfer, SetTransfer, DropTransfer, NewModel, SetModel, DropModel, NewMail}
use Rattle.bank_model.specs.declared.entry.Entry.{Entry}
use Rattle.bank_model.specs.Ledger.{row_in, drops, is_dropped, with_code, row_of, is_posted, posting_of, moved, Posting}
use Rattle.bank_model.specs.Models.{is_waiting, all_waiting}
use Rattle.bank_transfers.specs.Growth.{row_given, row_after}
use Rattle.bank_transfers.specs.TransfersView.{TransfersView, row_found, row_at, row_settled, row_held, RiseById, Represents, IsSet, waits, GivesRow}
use Rattle.bank_transfers.proofs.GrowthLemmas.{moved-push, row_of-push, HasId, row_of-id}
use Rattle.bank_transfers.proofs.WaitingLemmas.{WaitsAfter, waits_after, waiting_stays}
use Rattle.bank_transfers.proofs.HeldLemmas.{waiting_swapped, closed_swapped, last_found, swapped_rises, last_rises, waits_first}

-- ---- what an entry gives

set_row : (id : ℕ) (entries : List Entry) (given row : TransferRow) → IsSet entries given row → cond (eqb row.id id) (Some row) (row_of id entries) ≡ row_given id (is_dropped id entries) (row_of id entries) given
set_row id entries given row is_set =
    subst (λ (r : TransferRow). cond (eqb row.id id) (Some row) (row_of id entries) ≡ row_given id (is_dropped id entries) (row_of id entries) r) (sym is_set.0)
    (named (eqb row.id id) (λ t. ap (λ n. is_dropped n entries) (sym (eqb-true row.id id t)) ∙ is_set.2))
  where
    named : (b : Bool) → (b ≡ true → is_dropped id entries ≡ false) → cond b (Some row) (row_of id entries) ≡ cond b (Some (cond (is_dropped id entries) (with_code Cancelled row) row)) (row_of id entries)
    named true kept = ap (λ d. Some (cond d (with_code Cancelled row) row)) (sym (kept refl))
    named false kept = refl

cancelled_is : (before : Option TransferRow) (id : ℕ) (row : TransferRow) → HasId id before → option_map (with_code Cancelled) before ≡ Some row → row.id ≡ id
cancelled_is None id row has is = cc
cancelled_is (Some before) id row has is = let e : with_code Cancelled before ≡ row = cc in sym (ap (λ (r : TransferRow). r.id) e) ∙ has

dropped_row : (id gone : ℕ) (entries : List Entry) (row : TransferRow) → option_map (with_code Cancelled) (row_of gone entries) ≡ Some row → cond (eqb row.id id) (Some row) (row_of id entries) ≡ cond (eqb gone id) (option_map (with_code Cancelled) (row_of id entries)) (row_of id entries)
dropped_row id gone entries row is =
    let same : row.id ≡ gone = cancelled_is (row_of gone entries) gone row (row_of-id gone entries) is in
    ap (λ n. cond (eqb n id) (Some row) (row_of id entries)) same ∙ named (eqb gone id) (λ t. sym is ∙ ap (λ n. option_map (with_code Cancelled) (row_of n entries)) (eqb-true gone id t))
  where
    named : (b : Bool) → (b ≡ true → Some row ≡ option_map (with_code Cancelled) (row_of id entries)) → cond b (Some row) (row_of id entries) ≡ cond b (option_map (with_code Cancelled) (row_of id entries)) (row_of id entries)
    named true e = e refl
    named false e = refl

pub given_row : (id : ℕ) (entries : List Entry) (change : Change) (row : TransferRow) → GivesRow entries change row → cond (eqb row.id id) (Some row) (row_of id entries) ≡ row_after id (is_dropped id entries) (row_of id entries) change
given_row id entries (NewTransfer given) row gives = set_row id entries given row gives.0
given_row id entries (SetTransfer given) row gives = set_row id entries given row gives.0
given_row id entries (DropTransfer gone) row gives = dropped_row id gone entries row gives
given_row id entries (NewModel given) row gives = absurd gives
given_row id entries (SetModel given pending) row gives = absurd gives
given_row id entries (DropModel gone pending) row gives = absurd gives
given_row id entries (NewMail mail) row gives = absurd gives

cancelled_stays : (number : ℕ) (before : Option TransferRow) (row : TransferRow) → option_map (with_code Cancelled) before ≡ Some row → posting_of number (Some row) ≡ []
cancelled_stays number None row is = cc
cancelled_stays number (Some before) row is = let e : with_code Cancelled before ≡ row = cc in sym (ap (λ (r : TransferRow). posting_of number (Some r)) e)

pub given_posting : (number : ℕ) (entries : List Entry) (change : Change) (row : TransferRow) → GivesRow entries change row → posting_of number (Some row) ≡ posting_of number (row_in change)
given_posting number entries (NewTransfer given) row gives = ap (λ (r : TransferRow). posting_of number (Some r)) (sym gives.0.0)
given_posting number entries (SetTransfer given) row gives = ap (λ (r : TransferRow). posting_of number (Some r)) (sym gives.0.0)
given_posting number entries (DropTransfer gone) row gives = cancelled_stays number (row_of gone entries) row gives
given_posting number entries (NewModel given) row gives = absurd gives
given_posting number entries (SetModel given pending) row gives = absurd gives
given_posting number entries (DropModel gone pending) row gives = absurd gives
given_posting number entries (NewMail mail) row gives = absurd gives

-- ---- standing for one entry more

-- the row that each transfer has after the entry
rows_after : (entries : List Entry) (entry : Entry) (row : TransferRow) → GivesRow entries entry.change row → (id : ℕ) → row_of id (entries ++ entry ∷ []) ≡ cond (eqb row.id id) (Some row) (row_of id entries)
rows_after entries entry row gives id = row_of-push id entries entry ∙ sym (given_row id entries entry.change row gives)

holds_after : (old new : TransfersView) (entries : List Entry) (entry : Entry) (row : TransferRow) → Represents old entries → GivesRow entries entry.change row → ((id : ℕ) → row_held new id ≡ cond (eqb row.id id) (Some row) (row_held old id)) → ((id : ℕ) → row_at new.waiting id ≡ row_found id (all_waiting (entries ++ entry ∷ []))) → RiseById (all_waiting (entries ++ entry ∷ [])) → new.postings ≡ old.postings ++ posting_of entry.number (Some row) → Represents new (entries ++ entry ∷ [])
holds_after old new entries entry row holds gives rows waiting rise postings = record {
  rows = λ id. rows id ∙ ap (cond (eqb row.id id) (Some row)) (holds.rows id) ∙ sym (rows_after entries entry row gives id);
  waiting = waiting;
  rise = rise;
  postings = postings ∙ ap (λ ps. ps ++ posting_of entry.number (Some row)) holds.postings ∙ ap (λ ps. moved entries ++ ps) (given_posting entry.number entries entry.change row gives) ∙ sym (moved-push entries entry);
}

waiting_unposted : (code : XferCode) → is_waiting code ≡ true → is_posted code ≡ false
waiting_unposted Waiting waiting = refl
waiting_unposted Posted waiting = cc
waiting_unposted NoFunds waiting = cc
waiting_unposted Cancelled waiting = cc

held_first : (b : Bool) (row : TransferRow) (own rest : Option TransferRow) → option_or (cond b (Some row) own) rest ≡ cond b (Some row) (option_or own rest)
held_first true row own rest = refl
held_first false row own rest = refl

held_last : (b : Bool) (row : TransferRow) (own rest : Option TransferRow) → option_or (cond b None own) (cond b (Some row) rest) ≡ cond b (Some row) (option_or own rest)
held_last true row own rest = refl
held_last false row own rest = refl

-- a row that waits stands with those that wait
pub holds_waiting : (old new : TransfersView) (row : TransferRow) (entries : List Entry) (entry : Entry) → (waits (row_settled old.closed old.postings row.id) ≡ false) → is_waiting row.code ≡ true → ((id : ℕ) → row_at new.waiting id ≡ cond (eqb row.id id) (Some row) (row_at old.waiting id)) → ((id : ℕ) → row_settled new.closed new.postings id ≡ row_settled old.closed old.postings id) → new.postings ≡ old.postings
    → Represents old entries → GivesRow entries entry.change row → Represents new (entries ++ entry ∷ [])
holds_waiting old new row entries entry closed waiting put processed postings holds gives =
    let after = waits_then (waits_after entries entry row (rows_after entries entry row gives) gives) in
    holds_after old new entries entry row holds gives
    (λ id. (λ i. option_or (put id i) (processed id i)) ∙ held_first (eqb row.id id) row (row_at old.waiting id) (row_settled old.closed old.postings id))
    (λ id. put id ∙ ap (cond (eqb row.id id) (Some row)) (holds.waiting id) ∙ sym (after.0 id))
    after.1
    (postings ∙ sym (ap (λ b. old.postings ++ cond b (record { number = entry.number; row = row } ∷ []) []) (waiting_unposted row.code waiting) ∙ append-nil old.postings))
  where
    waits_then : WaitsAfter (all_waiting entries) (all_waiting (entries ++ entry ∷ [])) row (row_of row.id entries) → ((id : ℕ) → row_found id (all_waiting (entries ++ entry ∷ [])) ≡ cond (eqb row.id id) (Some row) (row_found id (all_waiting entries))) × RiseById (all_waiting (entries ++ entry ∷ []))
    waits_then (inl replaced) =
        let there = ap waits (sym (holds.waiting row.id)) ∙ waits_first (row_at old.waiting row.id) (row_settled old.closed old.postings row.id) closed (ap waits (holds.rows row.id) ∙ replaced.0 waiting) in (
          λ id. ap (row_found id) replaced.1 ∙ waiting_swapped id row (all_waiting entries) waiting there,
          subst RiseById (sym replaced.1) (swapped_rises row (all_waiting entries) holds.rise),
        )
    waits_then (inr added) = (
      λ id. ap (row_found id) added.2 ∙ last_found id row (all_waiting entries) added.3,
      subst RiseById (sym added.2) (last_rises row (all_waiting entries) holds.rise added.3),
    )

-- a row that doesn't wait stands with the settled ones
pub holds_settled : (old new : TransfersView) (row : TransferRow) (entries : List Entry) (entry : Entry) → is_waiting row.code ≡ false → ((id : ℕ) → row_at new.waiting id ≡ cond (eqb row.id id) None (row_at old.waiting id))
    → ((id : ℕ) → row_settled new.closed new.postings id ≡ cond (eqb row.id id) (Some row) (row_settled old.closed old.postings id)) → new.postings ≡ old.postings ++ posting_of entry.number (Some row)
    → Represents old entries → GivesRow entries entry.change row → Represents new (entries ++ entry ∷ [])
holds_settled old new row entries entry closed out processed postings holds gives =
    let after = waits_then (waits_after entries entry row (rows_after entries entry row gives) gives) in
    holds_after old new entries entry row holds gives
    (λ id. (λ i. option_or (out id i) (processed id i)) ∙ held_last (eqb row.id id) row (row_at old.waiting id) (row_settled old.closed old.postings id))
    (λ id. out id ∙ ap (cond (eqb row.id id) None) (holds.waiting id) ∙ sym (after.0 id))
    after.1
    postings
  where
    waits_then : WaitsAfter (all_waiting entries) (all_waiting (entries ++ entry ∷ [])) row (row_of row.id entries) → ((id : ℕ) → row_found id (all_waiting (entries ++ entry ∷ [])) ≡ cond (eqb row.id id) None (row_found id (all_waiting entries))) × RiseById (all_waiting (entries ++ entry ∷ []))
    waits_then (inl replaced) = (
      λ id. ap (row_found id) replaced.1 ∙ closed_swapped id row (all_waiting entries) closed,
      subst RiseById (sym replaced.1) (swapped_rises row (all_waiting entries) holds.rise),
    )
    waits_then (inr added) = let no : true ≡ false = sym added.1 ∙ closed in cc

-- the same rows under their ids stand for the same entries
pub holds_same : (old new : TransfersView) (entries : List Entry) → ((id : ℕ) → row_at new.waiting id ≡ row_at old.waiting id) → ((id : ℕ) → row_at new.closed id ≡ row_at old.closed id) → new.postings ≡ old.postings → Represents old entries → Represents new entries
holds_same old new entries waiting closed postings holds = record {
  rows = λ id. (λ i. option_or (waiting id i) (option_or (closed id i) (row_found id (map (λ (p : Posting). p.row) (reverse (postings i)))))) ∙ holds.rows id;
  waiting = λ id. waiting id ∙ holds.waiting id;
  rise = holds.rise;
  postings = postings ∙ holds.postings;
}

-- what is found of the settled ones where a row is put among the closed ones
pub settled_closed : (row : TransferRow) (old new : List (ℕ × TransferRow)) (postings : List Posting) → ((id : ℕ) → row_at new id ≡ cond (eqb row.id id) (Some row) (row_at old id))
    → (id : ℕ) → row_settled new postings id ≡ cond (eqb row.id id) (Some row) (row_settled old postings id)
settled_closed row old new postings put id =
    let posted = row_found id (map (λ (p : Posting). p.row) (reverse postings)) in
    ap (λ found. option_or found posted) (put id) ∙ held_first (eqb row.id id) row (row_at old id) posted

-- and where it comes with a posting
pub settled_posted : (number : ℕ) (row : TransferRow) (old new : List (ℕ × TransferRow)) (postings : List Posting) → ((id : ℕ) → row_at new id ≡ cond (eqb row.id id) None (row_at old id))
    → (id : ℕ) → row_settled new (postings ++ record { number = number; row = row } ∷ []) id ≡ cond (eqb row.id id) (Some row) (row_settled old postings id)
settled_posted number row old new postings out id =
    let last : Posting = record { number = number; row = row } in
    let posted = row_found id (map (λ (p : Posting). p.row) (reverse postings)) in
    ap (λ ps. option_or (row_at new id) (row_found id (map (λ (p : Posting). p.row) ps))) (reverse-append postings (last ∷ []))
    ∙ ap (λ found. option_or found (cond (eqb row.id id) (Some row) posted)) (out id)
    ∙ held_last (eqb row.id id) row (row_at old id) posted

pub posting_if : (number : ℕ) (row : TransferRow) (posted : Bool) → is_posted row.code ≡ posted → posting_of number (Some row) ≡ cond posted (record { number = number; row = row } ∷ []) []
posting_if number row posted e = ap (λ b. cond b (record { number = number; row = row } ∷ []) []) e

-- An entry that gives no transfer a row and drops none changes nothing.
pub holds_still : (transfers : TransfersView) (entries : List Entry) (entry : Entry) → Represents transfers entries → row_in entry.change ≡ None → ((id : ℕ) → drops id entry.change ≡ false) → Represents transfers (entries ++ entry ∷ [])
holds_still transfers entries entry holds none kept =
    let same = λ (id : ℕ). row_of-push id entries entry ∙ unchanged id (is_dropped id entries) (row_of id entries) entry.change none (kept id) in
    record {
      rows = λ id. holds.rows id ∙ sym (same id);
      waiting = λ id. holds.waiting id ∙ ap (row_found id) (sym (waiting_stays entries entry same none));
      rise = subst RiseById (sym (waiting_stays entries entry same none)) holds.rise;
      postings = holds.postings ∙ sym (moved-push entries entry ∙ ap (λ (row : Option TransferRow). moved entries ++ posting_of entry.number row) none ∙ append-nil (moved entries));
    }
  where
    unchanged : (id : ℕ) (dropped : Bool) (before : Option TransferRow) (change : Change) → row_in change ≡ None → drops id change ≡ false → row_after id dropped before change ≡ before
    unchanged id dropped before (NewTransfer row) none kept = cc
    unchanged id dropped before (SetTransfer row) none kept = cc
    unchanged id dropped before (DropTransfer gone) none kept = ap (λ b. cond b (option_map (with_code Cancelled) before) before) kept
    unchanged id dropped before (NewModel row) none kept = refl
    unchanged id dropped before (SetModel row pending) none kept = refl
    unchanged id dropped before (DropModel gone pending) none kept = refl
    unchanged id dropped before (NewMail mail) none kept = refl
