-- The transfers that wait and go along with a deed on their recurring transfer: each entry follows those before it.
use Rattle.std.proofs.Common.{◌≡◌, ◌≢◌, ℕ, ◌+◌, ◌<◌, Bool, cond, eqb, List, [], ◌∷◌, ◌++◌, length, length-append, codes, Option, Some, refl, sym, ap, ◌∙◌, subst, arith}
use Rattle.std.specs.List.{AllByRecursion}
use Rattle.std.specs.Option.{option_map}
use Rattle.std.proofs.lemmas.Bool.{eqb-true, false_from_ne_true}
use Rattle.ofx_types.specs.declared.number.ObjectId.{ObjectId}
use Rattle.ofx_types.specs.declared.transfer.TransferRow.{TransferRow}
use Rattle.ofx_types.specs.declared.transfer.XferInfo.{XferInfo}
use Rattle.ofx_types.specs.declared.transfer.XferCode.TheVariants.{Cancelled}
use Rattle.ofx_types.specs.declared.transfer.Change.{Change}
use Rattle.ofx_types.specs.declared.transfer.Change.TheVariants.{NewTransfer, SetTransfer, DropTransfer, NewModel, SetModel, DropModel, NewMail}
use Rattle.bank_model.specs.declared.entry.Entry.{Entry}
use Rattle.bank_model.specs.declared.setup.Setup.{Setup}
use Rattle.bank_model.specs.Ledger.{with_code, is_dropped, row_of}
use Rattle.bank_model.specs.Models.{waiting_of}
use Rattle.bank_model.specs.Deeds.{object_of, with_terms, entries_after}
use Rattle.sync_laws.specs.Histories.{MaySay, AllFollow}
use Rattle.bank_transfers.specs.Growth.{row_after}
use Rattle.bank_transfers.proofs.GrowthLemmas.{row_of-push}
use Rattle.bank_invariants.proofs.Verdicts.{open_waits}
use Rattle.bank_invariants.proofs.PendingLemmas.{IsHere, IsNewAt, AreNewAt, Rise, new_of_rise, waiting_wait}
use Rattle.bank_invariants.proofs.DoneLemmas.{with_new_terms, dropping}

-- ---- what is new has the number of its entry

says_new : (setup : Setup) (before : List Entry) (object : ObjectId) (change : Change) → MaySay setup before object change → IsNewAt (length before) change
says_new setup before object (NewTransfer row) says = says.0
says_new setup before object (SetTransfer row) says = tt
says_new setup before object (DropTransfer id) says = tt
says_new setup before object (NewModel row) says = says.0
says_new setup before object (SetModel row also) says = tt
says_new setup before object (DropModel id also) says = tt
says_new setup before object (NewMail mail) says = tt

follow_new : (setup : Setup) (before entries : List Entry) → AllFollow setup before entries → AreNewAt (length before) entries
follow_new setup before [] follow = tt
follow_new setup before (entry ∷ entries) follow = (
  says_new setup before entry.object entry.change follow.0.says,
  subst (λ (n : ℕ). AreNewAt n entries) (length-append before (entry ∷ [])) (follow_new setup (before ++ entry ∷ []) entries follow.1),
)

abbrev AreAbove : ℕ → List TransferRow → Type 0
AreAbove n rows = AllByRecursion (λ (row : TransferRow). n < row.id) rows

-- ---- one after another

-- A way to change transfers that wait: its entry may be said, and it leaves the rows of other transfers.
pub record IsWay (setup : Setup) (change : TransferRow → Change) : Type 0 where
  pub says : (before : List Entry) (row : TransferRow) → IsHere before row → MaySay setup before (object_of setup row.from) (change row)
  pub others : (before : List Entry) (entry : Entry) (row : TransferRow) (id : ℕ) → entry.change ≡ change row → (row.id ≢ id) → row_of id (before ++ entry ∷ []) ≡ row_of id before

still_here : (setup : Setup) (change : TransferRow → Change) (before : List Entry) (entry : Entry) (row : TransferRow) (more : List TransferRow) → IsWay setup change → entry.change ≡ change row → AreAbove row.id more → AllByRecursion (IsHere before) more → AllByRecursion (IsHere (before ++ entry ∷ [])) more
still_here setup change before entry row [] way is above here = tt
still_here setup change before entry row (other ∷ more) way is above here =
    let over = above.0 in
    ((way.others before entry row other.id is (λ (same : row.id ≡ other.id). omega arith) ∙ here.0.0, here.0.1), still_here setup change before entry row more way is above.1 here.1)

after_follow : (setup : Setup) (change : TransferRow → Change) (before : List Entry) (count : ℕ) (rows : List TransferRow) → IsWay setup change → count ≡ length before → AllByRecursion (IsHere before) rows → Rise rows → AllFollow setup before (entries_after setup count change rows)
unfolding entries_after
after_follow setup change before count [] way is here rise = tt
after_follow setup change before count (row ∷ more) way is here rise =
    let entry : Entry = record { number = count + 1; object = object_of setup row.from; trnuid = codes "0"; change = change row } in
    let size : length (before ++ entry ∷ []) ≡ length before + 1 = length-append before (entry ∷ []) in (
      record { number = ap (λ (n : ℕ). n + 1) is; says = way.says before row here.0 },
      after_follow setup change (before ++ entry ∷ []) (count + 1) more way (omega arith) (still_here setup change before entry row more way refl rise.0 here.1) rise.1,
    )

-- ---- the two ways

changing : (setup : Setup) (info : XferInfo) (before : List Entry) (row : TransferRow) → IsHere before row → MaySay setup before (object_of setup row.from) (with_new_terms info row)
unfolding with_terms
changing setup info before row here =
    (record { row = row; found = here.0; waits = here.1; here = refl }, open_waits row.code here.1, refl, refl)

changes_one : (info : XferInfo) (before : List Entry) (entry : Entry) (row : TransferRow) (id : ℕ) → entry.change ≡ with_new_terms info row → (row.id ≢ id) → row_of id (before ++ entry ∷ []) ≡ row_of id before
unfolding with_terms
changes_one info before entry row id is apart =
    row_of-push id before entry
    ∙ ap (row_after id (is_dropped id before) (row_of id before)) is
    ∙ ap (λ (b : Bool). cond b (Some (cond (is_dropped id before) (with_code Cancelled (with_terms info row)) (with_terms info row))) (row_of id before)) (false_from_ne_true (eqb row.id id) (λ same. apart (eqb-true row.id id same)))

drops_one : (before : List Entry) (entry : Entry) (row : TransferRow) (id : ℕ) → entry.change ≡ dropping row → (row.id ≢ id) → row_of id (before ++ entry ∷ []) ≡ row_of id before
drops_one before entry row id is apart =
    row_of-push id before entry
    ∙ ap (row_after id (is_dropped id before) (row_of id before)) is
    ∙ ap (λ (b : Bool). cond b (option_map (with_code Cancelled) (row_of id before)) (row_of id before)) (false_from_ne_true (eqb row.id id) (λ same. apart (eqb-true row.id id same)))

pub changing_way : (setup : Setup) (info : XferInfo) → IsWay setup (with_new_terms info)
changing_way setup info = record { says = changing setup info; others = changes_one info }

pub dropping_way : (setup : Setup) → IsWay setup dropping
dropping_way setup = record {
  says = λ before row here. record { row = row; found = here.0; waits = here.1; here = refl };
  others = drops_one;
}

-- ---- after a change of their recurring transfer

-- a change that is of no transfer
abbrev pub LeavesRows : Change → Type 0
LeavesRows change = (id : ℕ) (dropped : Bool) (before : Option TransferRow) → row_after id dropped before change ≡ before

here_after : (before : List Entry) (entry : Entry) (rows : List TransferRow) → LeavesRows entry.change → AllByRecursion (IsHere before) rows → AllByRecursion (IsHere (before ++ entry ∷ [])) rows
here_after before entry [] leaves here = tt
here_after before entry (row ∷ rows) leaves here =
    ((row_of-push row.id before entry ∙ leaves row.id (is_dropped row.id before) (row_of row.id before) ∙ here.0.0, here.0.1), here_after before entry rows leaves here.1)

pub waiting_follow : (setup : Setup) (change : TransferRow → Change) (before : List Entry) (entry : Entry) (id : ℕ) → IsWay setup change → LeavesRows entry.change → AllFollow setup [] before → AllFollow setup (before ++ entry ∷ []) (entries_after setup (length before + 1) change (waiting_of id before))
waiting_follow setup change before entry id way leaves follow =
    after_follow setup change (before ++ entry ∷ []) (length before + 1) (waiting_of id before) way (sym (length-append before (entry ∷ [])))
    (here_after before entry (waiting_of id before) leaves (waiting_wait id before)) (new_of_rise id before (follow_new setup [] before follow))
