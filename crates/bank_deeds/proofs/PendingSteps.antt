-- The transfers that wait and go along with a deed are entered in a draft one after another.
use Rattle.std.proofs.Common.{◌≡◌, ℕ, zero, suc, ◌+◌, ◌<◌, ◌≤◌, true, false, eqb, List, [], ◌∷◌, ◌++◌, length, length-append, take, drop, get_or, codes, Option, None, Some, refl, sym, ap, ◌∙◌, subst, add-one, drop-cons, arith}
use Rattle.std.specs.Prelude.{option_to_list}
use Rattle.std.specs.List.{AllByRecursion, IsDistinct}
use Rattle.std.proofs.lemmas.Bool.{eq-eqb, true≢false}
use Rattle.std.proofs.lemmas.List.{take_more, take_all, length-take-le}
use Rattle.std.proofs.lemmas.Grind.{flat_map-append}
use Rattle.ofx_types.specs.declared.transfer.TransferRow.{TransferRow}
use Rattle.ofx_types.specs.declared.transfer.Change.{Change}
use Rattle.bank_model.specs.declared.entry.Entry.{Entry}
use Rattle.bank_model.specs.declared.setup.Setup.{Setup}
use Rattle.bank_model.specs.declared.event.State.{State}
use Rattle.bank_model.specs.Ledger.{row_of}
use Rattle.bank_model.specs.Deeds.{object_of, next_entry, entries_after}
use Rattle.bank_transfers.specs.TransfersView.{waits}
use Rattle.ofx_types.specs.declared.transfer.XferInfo.{XferInfo}
use Rattle.bank_invariants.specs.Pending.{rows_at, AreWaiting, AreTerms, SuitsRow}
use Rattle.bank_ledger.specs.DraftView.{DraftView, drafted, HasAdded}
use Rattle.bank_ledger.proofs.DraftStates.{drafted-added, added_as, added_none, added_trans}
use Rattle.bank_invariants.proofs.NextLemmas.{row_of-named}
use Rattle.bank_invariants.proofs.PendingLemmas.{IsWay}
use Rattle.bank_invariants.proofs.DoneLemmas.{after_count}
use Rattle.bank_deeds.proofs.PendingAnswers.{one_after}

-- What is added so far is that of the first ids. The others' transfers have the rows that they had.
pub record IsSoFar (setup : Setup) (old draft : DraftView) (change : TransferRow → Change) (ids : List ℕ) (k : ℕ) : Type 0 where
  pub added : HasAdded old draft (entries_after setup (length (drafted old).entries) change (rows_at (drafted old).entries (take k ids)))
  pub rest : AllByRecursion (λ (id : ℕ). row_of id (drafted draft).entries ≡ row_of id (drafted old).entries) (drop k ids)

all_same : (entries : List Entry) (ids : List ℕ) → AllByRecursion (λ (id : ℕ). row_of id entries ≡ row_of id entries) ids
all_same entries [] = tt
all_same entries (id ∷ ids) = (refl, all_same entries ids)

pub so_far-none : (setup : Setup) (draft : DraftView) (change : TransferRow → Change) (ids : List ℕ) → IsSoFar setup draft draft change ids 0
unfolding entries_after
so_far-none setup draft change ids = record {
  added = added_none draft;
  rest = all_same (drafted draft).entries ids;
}

rest-append : (setup : Setup) (count : ℕ) (change : TransferRow → Change) (rows more : List TransferRow) → entries_after setup count change (rows ++ more) ≡ entries_after setup count change rows ++ entries_after setup (count + length rows) change more
unfolding entries_after
rest-append setup count change [] more = ap (λ (n : ℕ). entries_after setup n change more) (omega arith)
rest-append setup count change (row ∷ rows) more =
    let next : (count + 1) + length rows ≡ count + length (row ∷ rows) = omega arith in
    ap (λ (l : List Entry). record { number = count + 1; object = object_of setup row.from; trnuid = codes "0"; change = change row } ∷ l)
    (rest-append setup (count + 1) change rows more ∙ ap (λ (n : ℕ). entries_after setup (count + 1) change rows ++ entries_after setup n change more) next)

rows_one : (entries : List Entry) (ids : List ℕ) (k id : ℕ) → k < length ids → id ≡ get_or ids k id → rows_at entries (take (k + 1) ids) ≡ rows_at entries (take k ids) ++ rows_at entries (id ∷ [])
rows_one entries ids k id below is =
    let prefix : take (k + 1) ids ≡ take k ids ++ id ∷ [] = take_more ids k id below ∙ ap (λ (n : ℕ). take k ids ++ n ∷ []) (sym is) in
    ap (rows_at entries) prefix ∙ flat_map-append (λ (n : ℕ). option_to_list (row_of n entries)) (take k ids) (id ∷ [])

pub rest_of : (ids : List ℕ) (k id : ℕ) → k < length ids → id ≡ get_or ids k id → drop k ids ≡ id ∷ drop (k + 1) ids
rest_of ids k id below is = rw (add-one, drop-cons ids k id, ← is) refl

rows_same : (before now : List Entry) (id : ℕ) → row_of id now ≡ row_of id before → rows_at now (id ∷ []) ≡ rows_at before (id ∷ [])
rows_same before now id same = ap (λ (r : Option TransferRow). option_to_list r ++ []) same

-- how many entries there are so far
so_far-grouped : (setup : Setup) (old draft : DraftView) (change : TransferRow → Change) (ids : List ℕ) (k : ℕ) → IsSoFar setup old draft change ids k → (drafted draft).entries ≡ (drafted old).entries ++ entries_after setup (length (drafted old).entries) change (rows_at (drafted old).entries (take k ids))
so_far-grouped setup old draft change ids k far = ap (λ (T : State). T.entries) (drafted-added old draft _ far.added)

-- the entries so far and the next one are those of one id more
so_far-entries : (setup : Setup) (old draft : DraftView) (change : TransferRow → Change) (ids : List ℕ) (k id : ℕ) → IsSoFar setup old draft change ids k → k < length ids → id ≡ get_or ids k id → entries_after setup (length (drafted old).entries) change (rows_at (drafted old).entries (take k ids)) ++ entries_after setup (length (drafted draft).entries) change (rows_at (drafted draft).entries (id ∷ [])) ≡ entries_after setup (length (drafted old).entries) change (rows_at (drafted old).entries (take (k + 1) ids))
so_far-entries setup old draft change ids k id far below is =
    let E : List Entry = (drafted old).entries in
    let M : List Entry = (drafted draft).entries in
    let n : ℕ = length E in
    let before : List TransferRow = rows_at E (take k ids) in
    let rest = subst (AllByRecursion (λ (one : ℕ). row_of one M ≡ row_of one E)) (rest_of ids k id below is) far.rest in
    let size : length M ≡ n + length before = ap length (so_far-grouped setup old draft change ids k far) ∙ length-append E (entries_after setup n change before) ∙ ap (λ (m : ℕ). n + m) (after_count setup n change before) in
    ap (λ (l : List TransferRow). entries_after setup n change before ++ entries_after setup (length M) change l) (rows_same E M id rest.0)
    ∙ ap (λ (m : ℕ). entries_after setup n change before ++ entries_after setup m change (rows_at E (id ∷ []))) size
    ∙ sym (rest-append setup n change before (rows_at E (id ∷ [])))
    ∙ ap (entries_after setup n change) (sym (rows_one E ids k id below is))

pub so_far-all : (setup : Setup) (old draft : DraftView) (change : TransferRow → Change) (ids : List ℕ) (k : ℕ) → IsSoFar setup old draft change ids k → length ids ≤ k → HasAdded old draft (entries_after setup (length (drafted old).entries) change (rows_at (drafted old).entries ids))
so_far-all setup old draft change ids k far past =
    subst (λ (l : List ℕ). HasAdded old draft (entries_after setup (length (drafted old).entries) change (rows_at (drafted old).entries l))) (take_all k ids past) far.added

-- ---- one more

drop_apart : (ids more : List ℕ) (k id : ℕ) → IsDistinct (λ (a b : ℕ). eqb a b) ids → drop k ids ≡ id ∷ more → AllByRecursion (λ (other : ℕ). eqb id other ≡ false) more
unfolding IsDistinct
drop_apart [] more zero id once is = cc
drop_apart [] more (suc k) id once is = cc
drop_apart (first ∷ ids) more zero id once is =
    let head : first ≡ id = cc in
    let tail : ids ≡ more = cc in
    subst (λ (l : List ℕ). AllByRecursion (λ (other : ℕ). eqb id other ≡ false) l) tail (subst (λ (n : ℕ). AllByRecursion (λ (other : ℕ). eqb n other ≡ false) ids) head once.0)
drop_apart (first ∷ ids) more (suc k) id once is = drop_apart ids more k id once.1 is

wait_at : (entries : List Entry) (ids more : List ℕ) (k id : ℕ) → AllByRecursion (λ (one : ℕ). waits (row_of one entries) ≡ true) ids → drop k ids ≡ id ∷ more → waits (row_of id entries) ≡ true
wait_at entries [] more zero id all is = cc
wait_at entries [] more (suc k) id all is = cc
wait_at entries (first ∷ ids) more zero id all is = let head : first ≡ id = cc in subst (λ (n : ℕ). waits (row_of n entries) ≡ true) head all.0
wait_at entries (first ∷ ids) more (suc k) id all is = wait_at entries ids more k id all.1 is

-- the item that a loop over ids has at a place
pub item_is : (ids : List ℕ) (k : ℕ) → k < length ids → get_or ids k 0 ≡ get_or ids k (get_or ids k 0)
item_is [] k below = absurd (omega arith)
item_is (id ∷ ids) zero below = refl
item_is (id ∷ ids) (suc k) below = item_is ids k (omega arith)

-- the next transfer waits still
pub waits_next : (setup : Setup) (old draft : DraftView) (change : TransferRow → Change) (ids : List ℕ) (k id : ℕ) → IsSoFar setup old draft change ids k → AreWaiting (drafted old).entries ids → k < length ids → id ≡ get_or ids k id → waits (row_of id (drafted draft).entries) ≡ true
waits_next setup old draft change ids k id far waiting below is =
    let rest = subst (AllByRecursion (λ (one : ℕ). row_of one (drafted draft).entries ≡ row_of one (drafted old).entries)) (rest_of ids k id below is) far.rest in
    ap waits rest.0 ∙ wait_at (drafted old).entries ids (drop (k + 1) ids) k id waiting.wait (rest_of ids k id below is)

still_same : (setup : Setup) (change : TransferRow → Change) (P : TransferRow → Type 0) (way : IsWay setup change P) (before : List Entry) (entry : Entry) (row : TransferRow) (old : List Entry) (ids : List ℕ) → entry.change ≡ change row → AllByRecursion (λ (other : ℕ). eqb row.id other ≡ false) ids → AllByRecursion (λ (one : ℕ). row_of one before ≡ row_of one old) ids → AllByRecursion (λ (one : ℕ). row_of one (before ++ entry ∷ []) ≡ row_of one old) ids
still_same setup change P way before entry row old [] is apart same = tt
still_same setup change P way before entry row old (other ∷ ids) is apart same = (
  way.others before entry row other is (λ equal. true≢false (sym (eq-eqb row.id other equal) ∙ apart.0)) ∙ same.0,
  still_same setup change P way before entry row old ids is apart.1 same.1,
)

-- One more is entered.
pub so_far-more : (setup : Setup) (old draft new : DraftView) (change : TransferRow → Change) (P : TransferRow → Type 0) (ids : List ℕ) (k id : ℕ) (row : TransferRow) → IsWay setup change P → IsSoFar setup old draft change ids k → AreWaiting (drafted old).entries ids → k < length ids → id ≡ get_or ids k id → row_of id (drafted draft).entries ≡ Some row → HasAdded draft new (entries_after setup (length (drafted draft).entries) change (rows_at (drafted draft).entries (id ∷ []))) → IsSoFar setup old new change ids (k + 1)
so_far-more setup old draft new change P ids k id row way far waiting below is found has =
    let E : List Entry = (drafted old).entries in
    let mid : List Entry = (drafted draft).entries in
    let named : row.id ≡ id = row_of-named id mid row found in
    let entry : Entry = next_entry (drafted draft) (object_of setup row.from) (codes "0") (change row) in
    let added : HasAdded draft new (entry ∷ []) = added_as draft new _ _ (one_after setup (drafted draft) change id row found) has in
    let entries : (drafted new).entries ≡ mid ++ entry ∷ [] = ap (λ (T : State). T.entries) (drafted-added draft new (entry ∷ []) added) in
    let rest = subst (AllByRecursion (λ (n : ℕ). row_of n mid ≡ row_of n E)) (rest_of ids k id below is) far.rest in
    let apart = subst (λ (n : ℕ). AllByRecursion (λ (other : ℕ). eqb n other ≡ false) (drop (k + 1) ids)) (sym named) (drop_apart ids (drop (k + 1) ids) k id waiting.once (rest_of ids k id below is)) in
    record {
      added = added_as old new _ _ (so_far-entries setup old draft change ids k id far below is) (added_trans old draft new _ _ far.added has);
      rest = subst (λ (l : List Entry). AllByRecursion (λ (n : ℕ). row_of n l ≡ row_of n E) (drop (k + 1) ids)) (sym entries) (still_same setup change P way mid entry row E (drop (k + 1) ids) refl apart rest.1);
    }

-- ---- room and terms of the next one

listed_few : (found : Option TransferRow) → length (option_to_list found) ≤ 1
listed_few None = omega arith
listed_few (Some row) = omega arith

rows_few : (entries : List Entry) (ids : List ℕ) → length (rows_at entries ids) ≤ length ids
rows_few entries [] = omega arith
rows_few entries (id ∷ ids) =
    let first = listed_few (row_of id entries) in
    let rest = rows_few entries ids in
    let size = length-append (option_to_list (row_of id entries)) (rows_at entries ids) in
    omega arith

-- There is a number left for the next entry.
pub few_next : (setup : Setup) (old draft : DraftView) (change : TransferRow → Change) (ids : List ℕ) (k : ℕ) → IsSoFar setup old draft change ids k → k < length ids → length (drafted old).entries + length ids ≤ setup.entries → length (drafted draft).entries + 1 ≤ setup.entries
few_next setup old draft change ids k far below few =
    let E : List Entry = (drafted old).entries in
    let n : ℕ = length E in
    let before : List TransferRow = rows_at E (take k ids) in
    let size : length (drafted draft).entries ≡ n + length before = ap length (so_far-grouped setup old draft change ids k far) ∙ length-append E (entries_after setup n change before) ∙ ap (λ (m : ℕ). n + m) (after_count setup n change before) in
    let rows = rows_few E (take k ids) in
    let prefix : length (take k ids) ≡ k = length-take-le k ids (omega arith) in
    omega arith

suits_at : (info : XferInfo) (entries : List Entry) (ids more : List ℕ) (k id : ℕ) → AllByRecursion (λ (one : ℕ). SuitsRow info (row_of one entries)) ids → drop k ids ≡ id ∷ more → SuitsRow info (row_of id entries)
suits_at info entries [] more zero id all is = cc
suits_at info entries [] more (suc k) id all is = cc
suits_at info entries (first ∷ ids) more zero id all is = let head : first ≡ id = cc in subst (λ (n : ℕ). SuitsRow info (row_of n entries)) head all.0
suits_at info entries (first ∷ ids) more (suc k) id all is = suits_at info entries ids more k id all.1 is

-- The terms suit the next one.
pub terms_next : (setup : Setup) (old draft : DraftView) (change : TransferRow → Change) (ids : List ℕ) (k id : ℕ) (info : XferInfo) → IsSoFar setup old draft change ids k → AreTerms setup (drafted old).entries ids info → k < length ids → id ≡ get_or ids k id → AreTerms setup (drafted draft).entries (id ∷ []) info
terms_next setup old draft change ids k id info far terms below is =
    let rest = subst (AllByRecursion (λ (one : ℕ). row_of one (drafted draft).entries ≡ row_of one (drafted old).entries)) (rest_of ids k id below is) far.rest in
    record {
      to = terms.to;
      positive = terms.positive;
      apart = (subst (SuitsRow info) (sym rest.0) (suits_at info (drafted old).entries ids (drop (k + 1) ids) k id terms.apart (rest_of ids k id below is)), tt);
    }

-- what is entered by the setup of a draft that is still of the same bank
pub after_same : (setup : Setup) (draft new : DraftView) (change : TransferRow → Change) (count : ℕ) (rows : List TransferRow) → draft.setup ≡ setup → HasAdded draft new (entries_after draft.setup count change rows) → HasAdded draft new (entries_after setup count change rows)
after_same setup draft new change count rows same has = added_as draft new _ _ (ap (λ (s : Setup). entries_after s count change rows) same) has
