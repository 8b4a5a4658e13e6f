-- Transfers that wait, and rows that are told to a client, stand in rising id.
use Rattle.std.proofs.Common.{◌≡◌, ℕ, zero, suc, add-one, ◌+◌, ◌<◌, ◌⊎◌, inl, inr, Bool, true, false, cond, List, [], ◌∷◌, ◌++◌, length, get_or, Option, None, Some, refl, sym, ap, ◌∙◌, subst, append_assoc, arith}
use Rattle.std.specs.List.{AllByRecursion, flat_map}
use Rattle.std.specs.List.Sorted.{IsStrictlyIncreasing}
use Rattle.ofx_types.specs.declared.number.ObjectId.{ObjectId}
use Rattle.ofx_types.specs.declared.transfer.TransferRow.{TransferRow}
use Rattle.ofx_types.specs.declared.transfer.Change.{Change}
use Rattle.ofx_types.specs.declared.transfer.Change.TheVariants.{NewTransfer, SetTransfer, DropTransfer, NewModel, SetModel, DropModel, NewMail}
use Rattle.ofx_types.specs.declared.recurring.ModelRow.{ModelRow}
use Rattle.bank_model.specs.declared.entry.Entry.{Entry}
use Rattle.bank_model.specs.Ledger.{row_of}
use Rattle.bank_model.specs.Models.{model_of, is_model_dropped}
use Rattle.bank_model.specs.Judging.{is_cancelled}
use Rattle.bank_model.specs.Objects.{belongs_to, history_of}
use Rattle.bank_model.specs.Sync.{current_transfer, current_model, current_in, present}
use Rattle.bank_invariants.specs.Pending.{ids_of}
use Rattle.bank_invariants.specs.Rising.{id_reported, ids_reported}
use Rattle.bank_invariants.proofs.RowLemmas.{model_of-named}
use Rattle.bank_invariants.proofs.NextLemmas.{row_of-named}
use Rattle.bank_invariants.proofs.SoundStateLemmas.{AreLawfulAt}
use Rattle.bank_invariants.proofs.PendingLemmas.{IsNewAt, AreNewAt, new_after, Rise}

-- ---- ids that rise

-- Each id is below those after it.
abbrev AreRising : List ℕ → Type 0
AreRising [] = Unit {0}
AreRising (id ∷ ids) = AllByRecursion (λ (other : ℕ). id < other) ids × AreRising ids

rise_at : (ids : List ℕ) → AreRising ids → (k : ℕ) → suc k < length ids → get_or ids k 0 < get_or ids (suc k) 0
rise_at [] rise k below = absurd (omega arith)
rise_at (id ∷ []) rise k below = absurd (omega arith)
rise_at (id ∷ other ∷ ids) rise zero below = rise.0.0
rise_at (id ∷ other ∷ ids) rise (suc k) below = rise_at (other ∷ ids) rise.1 k (omega arith)

increasing : (ids : List ℕ) → AreRising ids → IsStrictlyIncreasing ids
increasing ids rise k below = subst (λ (n : ℕ). get_or ids k 0 < get_or ids n 0) (sym (add-one k)) (rise_at ids rise k (omega arith))

-- ---- transfers that wait

above_rows : (id : ℕ) (rows : List TransferRow) → AllByRecursion (λ (other : TransferRow). id < other.id) rows → AllByRecursion (λ (other : ℕ). id < other) (ids_of rows)
above_rows id [] all = tt
above_rows id (row ∷ rows) all = (all.0, above_rows id rows all.1)

rising_rows : (rows : List TransferRow) → Rise rows → AreRising (ids_of rows)
rising_rows [] rise = tt
rising_rows (row ∷ rows) rise = (above_rows row.id rows rise.0, rising_rows rows rise.1)

pub rows_increase : (rows : List TransferRow) → Rise rows → IsStrictlyIncreasing (ids_of rows)
rows_increase rows rise = increasing (ids_of rows) (rising_rows rows rise)

-- ---- rows that are told

-- An entry tells the id of what it made, or none.
abbrev ReportsAt : ℕ → List ℕ → Type 0
ReportsAt count ids = (ids ≡ []) ⊎ (ids ≡ (count + 1) ∷ [])

reported_transfer : (all : List Entry) (count id : ℕ) (found : Option TransferRow) → row_of id all ≡ found → id ≡ count + 1 → ReportsAt count (ids_reported (current_transfer found))
reported_transfer all count id None is made = inl refl
reported_transfer all count id (Some row) is made = by_code (is_cancelled row.code)
  where
    by_code : (cancelled : Bool) → ReportsAt count (ids_reported (cond cancelled [] (NewTransfer row ∷ [])))
    by_code true = inl refl
    by_code false = inr (ap (λ (n : ℕ). n ∷ []) (row_of-named id all row is ∙ made))

reported_model : (all : List Entry) (count id : ℕ) (cancelled : Bool) (found : Option ModelRow) → model_of id all ≡ found → id ≡ count + 1 → ReportsAt count (ids_reported (current_model cancelled found))
reported_model all count id cancelled None is made = inl refl
reported_model all count id true (Some row) is made = inl refl
reported_model all count id false (Some row) is made = inr (ap (λ (n : ℕ). n ∷ []) (model_of-named id all row is ∙ made))

reported_at : (all : List Entry) (count : ℕ) (change : Change) → IsNewAt count change → ReportsAt count (ids_reported (current_in all change))
reported_at all count (NewTransfer row) made = reported_transfer all count row.id (row_of row.id all) refl made
reported_at all count (SetTransfer row) made = inl refl
reported_at all count (DropTransfer id) made = inl refl
reported_at all count (NewModel row) made = reported_model all count row.id (is_model_dropped row.id all) (model_of row.id all) refl made
reported_at all count (SetModel row also) made = inl refl
reported_at all count (DropModel id also) made = inl refl
reported_at all count (NewMail mail) made = inl refl

above : (count : ℕ) (ids : List ℕ) → AllByRecursion (λ (id : ℕ). count + 1 < id) ids → AllByRecursion (λ (id : ℕ). count < id) ids
above count [] all = tt
above count (id ∷ ids) all = (let here = all.0 in omega arith, above count ids all.1)

abbrev RiseAbove : ℕ → List ℕ → Type 0
RiseAbove count ids = AllByRecursion (λ (id : ℕ). count < id) ids × AreRising ids

rise_higher : (count : ℕ) (ids : List ℕ) → RiseAbove (count + 1) ids → RiseAbove count ids
rise_higher count ids rise = (above count ids rise.0, rise.1)

rise_with : (count : ℕ) (first ids : List ℕ) → ReportsAt count first → RiseAbove (count + 1) ids → RiseAbove count (first ++ ids)
rise_with count first ids (inl none) rise = subst (λ (l : List ℕ). RiseAbove count (l ++ ids)) (sym none) (rise_higher count ids rise)
rise_with count first ids (inr one) rise = subst (λ (l : List ℕ). RiseAbove count (l ++ ids)) (sym one) ((omega arith, above count ids rise.0), (rise.0, rise.1))

abbrev reported_in : List Entry → List Entry → List Change
reported_in all entries = flat_map (λ (entry : Entry). current_in all entry.change) entries

reported_both : (first last : List Change) → ids_reported (first ++ last) ≡ ids_reported first ++ ids_reported last
reported_both [] last = refl
reported_both (change ∷ first) last = ap (λ (ids : List ℕ). id_reported change ++ ids) (reported_both first last) ∙ sym (append_assoc (id_reported change) (ids_reported first) (ids_reported last))

reported_rise : (all : List Entry) (object : ObjectId) (count : ℕ) (entries : List Entry) → AreNewAt count entries → RiseAbove count (ids_reported (reported_in all (history_of object entries)))
unfolding history_of
reported_rise all object count [] made = (tt, tt)
reported_rise all object count (entry ∷ entries) made =
    let rest = reported_rise all object (count + 1) entries made.1 in
    elim (belongs_to object entry) as (λ b. RiseAbove count (ids_reported (reported_in all (cond b (entry ∷ history_of object entries) (history_of object entries))))) [
      | true ↦ subst (RiseAbove count) (sym (reported_both (current_in all entry.change) (reported_in all (history_of object entries)))) (rise_with count (ids_reported (current_in all entry.change)) _ (reported_at all count entry.change made.0) rest)
      | false ↦ rise_higher count _ rest
    ]

pub current_increases : (entries : List Entry) (object : ObjectId) → AreLawfulAt entries → IsStrictlyIncreasing (ids_reported (present object entries))
unfolding present
current_increases entries object lawful = increasing _ (reported_rise entries object 0 entries (new_after [] entries lawful)).1
