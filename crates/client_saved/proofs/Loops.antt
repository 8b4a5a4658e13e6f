-- Reading items one after the other, as a loop does.
use Rattle.std.proofs.Common.{◌≡◌, ℕ, zero, suc, ◌-◌, ◌+◌, ◌≤◌, ◌<◌, length, get_or, take, List, [], ◌∷◌, ◌++◌, Option, None, Some, Result, Ok, Err, refl, sym, ap, ◌∙◌, append_assoc, arith}
use Rattle.std.specs.Option.{option_or}
use Rattle.std.specs.List.{flat_map, AllByRecursion}
use Rattle.std.proofs.lemmas.List.{append-nil, take_all, length-map}
use Rattle.std.proofs.lemmas.List.Folds.{flat_map-map}
use Rattle.ofx_types.specs.declared.transfer.Family.{Family}
use Rattle.bank_model.specs.Stores.{Row, id_of, Store}
use Rattle.record_fields.specs.declared.fault.RecordFault.{RecordFault}
use Rattle.record_fields.specs.declared.fault.RecordFault.TheVariants as faults
use Rattle.record_fields.specs.Answers.{Fails}
use Rattle.record_fields.specs.FieldCoding.{u64_bytes}
use Rattle.event_codec.proofs.Loops.{with_prefix, regroup}
use Rattle.client_store.specs.RowForm.{seen, all_seen, bound_after}
use Rattle.client_store.specs.declared.row.Row.{Row as HeldRow}
use Rattle.client_saved.specs.Bounds.{IsSoundRow}
use Rattle.client_saved.specs.Coding.{row_bytes, counted_bytes}
use Rattle.client_saved.specs.Reading.{row_at, rows_from, store_at, stores_from}

-- ---- rows

-- the least id that may stand after rows and one more
pub after_one : (own before : Option ℕ) → bound_after 0 (option_or own before) ≡ bound_after (bound_after 0 before) own
after_one None before = refl
after_one (Some id) before = refl

pub rows_go_on : (prefix : List Row) (count i : ℕ) (family : Family) (bound : ℕ) (rec : List ℕ) (at : ℕ) (row : Row) (next : ℕ) (total : Result (List Row × ℕ) ℕ)
    → i < count → row_at family bound rec at ≡ Ok (row, next)
    → with_prefix prefix (rows_from (count - i) family bound rec at) ≡ total → with_prefix (prefix ++ row ∷ []) (rows_from (count - (i + 1)) family (bound_after bound (id_of row)) rec next) ≡ total
unfolding rows_from
rows_go_on prefix count i family bound rec at row next total lt h so_far =
    let k : count - i ≡ suc (count - (i + 1)) = omega arith in
    let one : with_prefix prefix (rows_from (count - i) family bound rec at) ≡ with_prefix (prefix ++ row ∷ []) (rows_from (count - (i + 1)) family (bound_after bound (id_of row)) rec next) =
    rw (k, h) (regroup prefix row (rows_from (count - (i + 1)) family (bound_after bound (id_of row)) rec next)) in
    sym one ∙ so_far

pub rows_end : (fault : RecordFault) (prefix : List Row) (count i : ℕ) (family : Family) (bound : ℕ) (rec : List ℕ) (at : ℕ) (total : Result (List Row × ℕ) ℕ)
    → i < count → Fails fault (row_at family bound rec at) → with_prefix prefix (rows_from (count - i) family bound rec at) ≡ total → Fails fault total
unfolding rows_from
rows_end (faults.Version n) prefix count i family bound rec at total lt h so_far = h
rows_end faults.OutOfMemory prefix count i family bound rec at total lt h so_far = tt
rows_end (faults.Bad offset) prefix count i family bound rec at total lt h so_far =
    let k : count - i ≡ suc (count - (i + 1)) = omega arith in
    let one : with_prefix prefix (rows_from (count - i) family bound rec at) ≡ Err offset = rw (k, h) refl in
    sym so_far ∙ one

pub rows_done : (prefix : List Row) (count i : ℕ) (family : Family) (bound : ℕ) (rec : List ℕ) (at : ℕ) (total : Result (List Row × ℕ) ℕ)
    → count ≤ i → with_prefix prefix (rows_from (count - i) family bound rec at) ≡ total → total ≡ Ok (prefix, at)
unfolding rows_from
rows_done prefix count i family bound rec at total le so_far =
    let k : count - i ≡ 0 = omega arith in
    let one : with_prefix prefix (rows_from (count - i) family bound rec at) ≡ Ok (prefix, at) = rw k (ap (λ xs. Ok (xs, at)) (append-nil prefix)) in
    sym so_far ∙ one

-- a row among rows that are sound
pub sound_at : (rows : List HeldRow) (i : ℕ) (d : HeldRow) → AllByRecursion IsSoundRow (all_seen rows) → i < length rows → IsSoundRow (seen (get_or rows i d))
sound_at [] i d sound lt = absurd (omega arith)
sound_at (row ∷ rows) zero d sound lt = sound.0
sound_at (row ∷ rows) (suc i) d sound lt = sound_at rows i d sound.1 (omega arith)

-- the coding of rows, once all are written
pub rows_written : (rows : List HeldRow) (i : ℕ) (before : List ℕ) → length rows ≤ i
    → (before ++ u64_bytes (length rows)) ++ flat_map (λ row. row_bytes (seen row)) (take i rows) ≡ before ++ counted_bytes row_bytes (all_seen rows)
rows_written rows i before le =
    let all : (before ++ u64_bytes (length rows)) ++ flat_map (λ row. row_bytes (seen row)) rows ≡ before ++ counted_bytes row_bytes (all_seen rows) =
    rw (length-map rows seen, flat_map-map row_bytes seen rows) (append_assoc before (u64_bytes (length rows)) (flat_map (λ row. row_bytes (seen row)) rows)) in
    ap (λ (items : List HeldRow). (before ++ u64_bytes (length rows)) ++ flat_map (λ row. row_bytes (seen row)) items) (take_all i rows le) ∙ all

-- ---- stores

pub stores_go_on : (prefix : List Store) (count i : ℕ) (rec : List ℕ) (at : ℕ) (store : Store) (next : ℕ) (total : Result (List Store × ℕ) ℕ)
    → i < count → store_at prefix rec at ≡ Ok (store, next)
    → with_prefix prefix (stores_from (count - i) prefix rec at) ≡ total → with_prefix (prefix ++ store ∷ []) (stores_from (count - (i + 1)) (prefix ++ store ∷ []) rec next) ≡ total
unfolding stores_from
stores_go_on prefix count i rec at store next total lt h so_far =
    let k : count - i ≡ suc (count - (i + 1)) = omega arith in
    let one : with_prefix prefix (stores_from (count - i) prefix rec at) ≡ with_prefix (prefix ++ store ∷ []) (stores_from (count - (i + 1)) (prefix ++ store ∷ []) rec next) =
    rw (k, h) (regroup prefix store (stores_from (count - (i + 1)) (prefix ++ store ∷ []) rec next)) in
    sym one ∙ so_far

pub stores_end : (fault : RecordFault) (prefix : List Store) (count i : ℕ) (rec : List ℕ) (at : ℕ) (total : Result (List Store × ℕ) ℕ)
    → i < count → Fails fault (store_at prefix rec at) → with_prefix prefix (stores_from (count - i) prefix rec at) ≡ total → Fails fault total
unfolding stores_from
stores_end (faults.Version n) prefix count i rec at total lt h so_far = h
stores_end faults.OutOfMemory prefix count i rec at total lt h so_far = tt
stores_end (faults.Bad offset) prefix count i rec at total lt h so_far =
    let k : count - i ≡ suc (count - (i + 1)) = omega arith in
    let one : with_prefix prefix (stores_from (count - i) prefix rec at) ≡ Err offset = rw (k, h) refl in
    sym so_far ∙ one

pub stores_done : (prefix : List Store) (count i : ℕ) (rec : List ℕ) (at : ℕ) (total : Result (List Store × ℕ) ℕ)
    → count ≤ i → with_prefix prefix (stores_from (count - i) prefix rec at) ≡ total → total ≡ Ok (prefix, at)
unfolding stores_from
stores_done prefix count i rec at total le so_far =
    let k : count - i ≡ 0 = omega arith in
    let one : with_prefix prefix (stores_from (count - i) prefix rec at) ≡ Ok (prefix, at) = rw k (ap (λ xs. Ok (xs, at)) (append-nil prefix)) in
    sym so_far ∙ one
