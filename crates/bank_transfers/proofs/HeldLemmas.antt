-- The rows as they are held: which is found, and which wait, when a row is put.
use Rattle.std.proofs.Common.{◌≡◌, ℕ, ◌<◌, Bool, true, false, cond, eqb, List, [], ◌∷◌, ◌++◌, map, reverse, Option, None, Some, refl, sym, ap, ◌∙◌, subst}
use Rattle.std.proofs.lemmas.Bool.{eqb-true, eq-eqb}
use Rattle.std.proofs.lemmas.List.Elements.{recursion_from_All}
use Rattle.std.proofs.lemmas.List.{reverse-append}
use Rattle.std.proofs.lemmas.List.Folds.{find-append}
use Rattle.std.specs.Option.{option_map, option_or}
use Rattle.std.specs.List.{All, AllByRecursion, find}
use Rattle.ofx_types.specs.declared.transfer.TransferRow.{TransferRow}
use Rattle.ofx_types.specs.declared.transfer.XferCode.{XferCode}
use Rattle.ofx_types.specs.declared.transfer.XferCode.TheVariants.{Waiting, Posted, NoFunds, Cancelled}
use Rattle.bank_model.specs.Ledger.{Posting, is_posted}
use Rattle.bank_model.specs.Models.{is_waiting}
use Rattle.bank_transfers.specs.Held.{waiting_in, AreClosed}
use Rattle.bank_transfers.specs.PostingsView.{IsPosted}
use Rattle.bank_transfers.specs.TransfersView.{row_found, row_at, row_settled, waits, RiseById}
use Rattle.bank_transfers.proofs.WaitingLemmas.{swapped}
use Rattle.bank_transfers.proofs.RisingLemmas.{less_apart}

-- ---- a row found

find-map : {A B : Type 0} (f : A → B) (p : B → Bool) (xs : List A) → find p (map f xs) ≡ option_map f (find (λ x. p (f x)) xs)
find-map f p [] = refl
find-map {A} f p (x ∷ xs) =
    let rest = find-map f p xs in
    elim (p (f x)) as (λ b. cond b (Some (f x)) (find p (map f xs)) ≡ option_map f (cond b (Some x) (find (λ y. p (f y)) xs))) [
      | true ↦ refl
      | false ↦ rest
    ]

-- a row is found among the first rows, or else among the rest
pub found_either : (id : ℕ) (rows rest : List TransferRow) → row_found id (rows ++ rest) ≡ option_or (row_found id rows) (row_found id rest)
found_either id rows rest = find-append (λ (row : TransferRow). eqb row.id id) rows rest

pub found_posted : (id : ℕ) (postings : List Posting) → row_found id (map (λ (posted : Posting). posted.row) (reverse postings)) ≡ option_map (λ (posted : Posting). posted.row) (find (λ (posted : Posting). eqb posted.row.id id) (reverse postings))
found_posted id postings = find-map (λ (posted : Posting). posted.row) (λ (row : TransferRow). eqb row.id id) (reverse postings)

-- ---- those that wait

closed_in : (row : TransferRow) → is_waiting row.code ≡ false → waiting_in (row ∷ []) ≡ []
closed_in row closed = ap (λ b. cond b (row ∷ []) []) closed

waits_in : (row : TransferRow) → is_waiting row.code ≡ true → waiting_in (row ∷ []) ≡ row ∷ []
waits_in row waiting = ap (λ b. cond b (row ∷ []) []) waiting

-- another row in the place of one with its id, or where there is none
apart_from : (row held : TransferRow) (id : ℕ) → eqb row.id id ≡ false → eqb held.id row.id ≡ true → eqb held.id id ≡ false
apart_from row held id apart same = ap (λ n. eqb n id) (eqb-true held.id row.id same) ∙ apart

-- a row in the place of others changes no row of another id
other_found : (id : ℕ) (row : TransferRow) (rows : List TransferRow) → eqb row.id id ≡ false → row_found id (swapped row rows) ≡ row_found id rows
other_found id row [] apart = refl
other_found id row (held ∷ rows) apart =
    (elim (eqb held.id row.id) as (λ b. eqb held.id row.id ≡ b → row_found id (cond b (waiting_in (row ∷ [])) (held ∷ []) ++ swapped row rows) ≡ cond (eqb held.id id) (Some held) (row_found id rows)) [
      | true ↦ (λ same. one (is_waiting row.code) ∙ other_found id row rows apart ∙ sym (ap (λ b. cond b (Some held) (row_found id rows)) (apart_from row held id apart same)))
      | false ↦ (λ other. ap (cond (eqb held.id id) (Some held)) (other_found id row rows apart))
    ]) refl
  where
    one : (b : Bool) → row_found id (cond b (row ∷ []) [] ++ swapped row rows) ≡ row_found id (swapped row rows)
    one true = ap (λ b. cond b (Some row) (row_found id (swapped row rows))) apart
    one false = refl

waiting_found : (row : TransferRow) (rows : List TransferRow) → is_waiting row.code ≡ true → waits (row_found row.id rows) ≡ true → row_found row.id (swapped row rows) ≡ Some row
waiting_found row [] waiting there = cc
waiting_found row (held ∷ rows) waiting there =
    (elim (eqb held.id row.id) as (λ b. eqb held.id row.id ≡ b → waits (cond b (Some held) (row_found row.id rows)) ≡ true → row_found row.id (cond b (waiting_in (row ∷ [])) (held ∷ []) ++ swapped row rows) ≡ Some row) [
      | true ↦ (λ same any. ap (λ (l : List TransferRow). row_found row.id (l ++ swapped row rows)) (waits_in row waiting) ∙ ap (λ b. cond b (Some row) (row_found row.id (swapped row rows))) (eq-eqb row.id row.id refl))
      | false ↦ (λ other rest. ap (λ b. cond b (Some held) (row_found row.id (swapped row rows))) other ∙ waiting_found row rows waiting rest)
    ]) refl there

none_found : (row : TransferRow) (rows : List TransferRow) → is_waiting row.code ≡ false → row_found row.id (swapped row rows) ≡ None
none_found row [] closed = refl
none_found row (held ∷ rows) closed =
    (elim (eqb held.id row.id) as (λ b. eqb held.id row.id ≡ b → row_found row.id (cond b (waiting_in (row ∷ [])) (held ∷ []) ++ swapped row rows) ≡ None) [
      | true ↦ (λ same. ap (λ (l : List TransferRow). row_found row.id (l ++ swapped row rows)) (closed_in row closed) ∙ none_found row rows closed)
      | false ↦ (λ other. ap (λ b. cond b (Some held) (row_found row.id (swapped row rows))) other ∙ none_found row rows closed)
    ]) refl

found_by : (id : ℕ) (row : TransferRow) (first : Option TransferRow) (rows after : List TransferRow) → row_found row.id after ≡ first → (eqb row.id id ≡ false → row_found id after ≡ row_found id rows) → row_found id after ≡ cond (eqb row.id id) first (row_found id rows)
found_by id row first rows after own other =
    (elim (eqb row.id id) as (λ b. eqb row.id id ≡ b → row_found id after ≡ cond b first (row_found id rows)) [
      | true ↦ (λ same. ap (λ n. row_found n after) (sym (eqb-true row.id id same)) ∙ own)
      | false ↦ other
    ]) refl

-- what is found where a row that waits comes in the place of one, or one that doesn't takes its place away
pub waiting_swapped : (id : ℕ) (row : TransferRow) (rows : List TransferRow) → is_waiting row.code ≡ true → waits (row_found row.id rows) ≡ true → row_found id (swapped row rows) ≡ cond (eqb row.id id) (Some row) (row_found id rows)
waiting_swapped id row rows waiting there = found_by id row (Some row) rows (swapped row rows) (waiting_found row rows waiting there) (other_found id row rows)

pub closed_swapped : (id : ℕ) (row : TransferRow) (rows : List TransferRow) → is_waiting row.code ≡ false → row_found id (swapped row rows) ≡ cond (eqb row.id id) None (row_found id rows)
closed_swapped id row rows closed = found_by id row None rows (swapped row rows) (none_found row rows closed) (other_found id row rows)

below_none : (id : ℕ) (rows : List TransferRow) → AllByRecursion (λ (held : TransferRow). held.id < id) rows → row_found id rows ≡ None
below_none id [] below = refl
below_none id (held ∷ rows) below = ap (λ b. cond b (Some held) (row_found id rows)) (less_apart held.id id below.0) ∙ below_none id rows below.1

or_none : (found : Option TransferRow) → option_or found None ≡ found
or_none None = refl
or_none (Some row) = refl

pub last_found : (id : ℕ) (row : TransferRow) (rows : List TransferRow) → AllByRecursion (λ (held : TransferRow). held.id < row.id) rows → row_found id (rows ++ row ∷ []) ≡ cond (eqb row.id id) (Some row) (row_found id rows)
last_found id row rows below =
    found_by id row (Some row) rows (rows ++ row ∷ [])
    (found_either row.id rows (row ∷ []) ∙ ap (λ found. option_or found (row_found row.id (row ∷ []))) (below_none row.id rows below) ∙ ap (λ b. cond b (Some row) None) (eq-eqb row.id row.id refl))
    (λ apart. found_either id rows (row ∷ []) ∙ ap (λ b. option_or (row_found id rows) (cond b (Some row) None)) apart ∙ or_none (row_found id rows))

-- ---- their ids rise

swapped_above : (n : ℕ) (row : TransferRow) (rows : List TransferRow) → AllByRecursion (λ (held : TransferRow). n < held.id) rows → AllByRecursion (λ (held : TransferRow). n < held.id) (swapped row rows)
swapped_above n row [] above = tt
swapped_above n row (held ∷ rows) above =
    let rest = swapped_above n row rows above.1 in
    (elim (eqb held.id row.id) as (λ b. eqb held.id row.id ≡ b → AllByRecursion (λ (r : TransferRow). n < r.id) (cond b (waiting_in (row ∷ [])) (held ∷ []) ++ swapped row rows)) [
      | true ↦ (λ same. one (is_waiting row.code) rest (subst (λ m. n < m) (eqb-true held.id row.id same) above.0))
      | false ↦ (λ other. (above.0, rest))
    ]) refl
  where
    one : (b : Bool) → AllByRecursion (λ (r : TransferRow). n < r.id) (swapped row rows) → n < row.id → AllByRecursion (λ (r : TransferRow). n < r.id) (cond b (row ∷ []) [] ++ swapped row rows)
    one true rest less = (less, rest)
    one false rest less = rest

pub swapped_rises : (row : TransferRow) (rows : List TransferRow) → RiseById rows → RiseById (swapped row rows)
swapped_rises row [] rise = tt
swapped_rises row (held ∷ rows) rise =
    let rest = swapped_rises row rows rise.1 in
    (elim (eqb held.id row.id) as (λ b. eqb held.id row.id ≡ b → RiseById (cond b (waiting_in (row ∷ [])) (held ∷ []) ++ swapped row rows)) [
      | true ↦ (λ same. one (is_waiting row.code) rest (subst (λ n. AllByRecursion (λ (r : TransferRow). n < r.id) rows) (eqb-true held.id row.id same) rise.0))
      | false ↦ (λ other. (swapped_above held.id row rows rise.0, rest))
    ]) refl
  where
    one : (b : Bool) → RiseById (swapped row rows) → AllByRecursion (λ (r : TransferRow). row.id < r.id) rows → RiseById (cond b (row ∷ []) [] ++ swapped row rows)
    one true rest above = (swapped_above row.id row rows above, rest)
    one false rest above = rest

last_above : (n : ℕ) (row : TransferRow) (rows : List TransferRow) → AllByRecursion (λ (held : TransferRow). n < held.id) rows → n < row.id → AllByRecursion (λ (held : TransferRow). n < held.id) (rows ++ row ∷ [])
last_above n row [] above less = (less, tt)
last_above n row (held ∷ rows) above less = (above.0, last_above n row rows above.1 less)

pub last_rises : (row : TransferRow) (rows : List TransferRow) → RiseById rows → AllByRecursion (λ (held : TransferRow). held.id < row.id) rows → RiseById (rows ++ row ∷ [])
last_rises row [] rise below = (tt, tt)
last_rises row (held ∷ rows) rise below = (last_above held.id row rows rise.0 below.0, last_rises row rows rise.1 below.1)

-- ---- a row found that waits lies by itself

pub posted_closed : (code : XferCode) → is_posted code ≡ true → is_waiting code ≡ false
posted_closed Waiting posted = cc
posted_closed Posted posted = refl
posted_closed NoFunds posted = cc
posted_closed Cancelled posted = cc

none_waits : (id : ℕ) (postings : List Posting) → AllByRecursion IsPosted postings → waits (option_map (λ (posted : Posting). posted.row) (find (λ (posted : Posting). eqb posted.row.id id) (reverse postings))) ≡ false
none_waits id [] all = refl
none_waits id (posted ∷ postings) all =
    let named = λ (p : Posting). eqb p.row.id id in
    ap (λ (found : Option Posting). waits (option_map (λ (p : Posting). p.row) found)) (ap (find named) (reverse-append (posted ∷ []) postings) ∙ find-append named (reverse postings) (posted ∷ []))
    ∙ either (find named (reverse postings)) (find named (posted ∷ [])) (none_waits id postings all.1)
    (elim (eqb posted.row.id id) as (λ b. waits (option_map (λ (p : Posting). p.row) (cond b (Some posted) None)) ≡ false) [
      | true ↦ posted_closed posted.row.code all.0.1
      | false ↦ refl
    ])
  where
    either : (first last : Option Posting) → waits (option_map (λ (p : Posting). p.row) first) ≡ false → waits (option_map (λ (p : Posting). p.row) last) ≡ false → waits (option_map (λ (p : Posting). p.row) (option_or first last)) ≡ false
    either None last closed other = other
    either (Some row) last closed other = closed

-- No row of a transfer that doesn't wait any more waits.
pub settled_waits : (id : ℕ) (closed : List (ℕ × TransferRow)) (postings : List Posting) → AreClosed closed → All IsPosted postings → waits (row_settled closed postings id) ≡ false
settled_waits id closed postings closed_all posted_all =
    either (row_at closed id) (row_found id (map (λ (posted : Posting). posted.row) (reverse postings))) (closed_all id)
    (ap waits (found_posted id postings) ∙ none_waits id postings (recursion_from_All IsPosted postings posted_all))
  where
    either : (first last : Option TransferRow) → waits first ≡ false → waits last ≡ false → waits (option_or first last) ≡ false
    either None last closed other = other
    either (Some row) last closed other = closed

-- Closed rows stay so where one more comes, or one goes.
pub closed_put : (row : TransferRow) (old new : List (ℕ × TransferRow)) → ((id : ℕ) → row_at new id ≡ cond (eqb row.id id) (Some row) (row_at old id)) → is_waiting row.code ≡ false → AreClosed old → AreClosed new
closed_put row old new put closed all id = ap waits (put id) ∙ elim (eqb row.id id) as (λ b. waits (cond b (Some row) (row_at old id)) ≡ false) [
  | true ↦ closed
  | false ↦ all id
]

pub closed_out : (gone : ℕ) (old new : List (ℕ × TransferRow)) → ((id : ℕ) → row_at new id ≡ cond (eqb gone id) None (row_at old id)) → AreClosed old → AreClosed new
closed_out gone old new out all id = ap waits (out id) ∙ elim (eqb gone id) as (λ b. waits (cond b None (row_at old id)) ≡ false) [
  | true ↦ refl
  | false ↦ all id
]

-- A row found that waits is one of those that wait, where the other doesn't.
pub waits_first : (found other : Option TransferRow) → waits other ≡ false → waits (option_or found other) ≡ true → waits found ≡ true
waits_first None other closed waiting = let no : true ≡ false = sym waiting ∙ closed in cc
waits_first (Some row) other closed waiting = waiting
