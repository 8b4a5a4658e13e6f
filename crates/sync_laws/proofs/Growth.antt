-- The rows of transfers and of recurring transfers in a history: none at first, and after one entry more.
use Rattle.std.proofs.Common.{◌≡◌, ℕ, true, false, cond, eqb, List, [], ◌∷◌, ◌++◌, Option, None, Some, refl, ◌∙◌}
use Rattle.ofx_types.specs.declared.transfer.Change.{Change}
use Rattle.ofx_types.specs.declared.transfer.Change.TheVariants.{NewTransfer, SetTransfer, DropTransfer, NewModel, SetModel, DropModel, NewMail}
use Rattle.ofx_types.specs.declared.recurring.ModelRow.{ModelRow}
use Rattle.bank_model.specs.declared.entry.Entry.{Entry}
use Rattle.bank_model.specs.Ledger.{last_row, is_dropped, row_of}
use Rattle.bank_model.specs.Models.{model_in, if_model_named, or_model_before, model_of, is_model_dropped}
use Rattle.bank_recur.proofs.GrowthLemmas as growth

-- ---- transfers

pub row_of-none : (id : ℕ) → row_of id [] ≡ None
unfolding row_of last_row
row_of-none id = refl

pub is_dropped-none : (id : ℕ) → is_dropped id [] ≡ false
unfolding is_dropped
is_dropped-none id = refl

-- ---- recurring transfers

-- the row of a recurring transfer after a change, from its row before
abbrev pub model_after : ℕ → Option ModelRow → Change → Option ModelRow
model_after id before (NewTransfer row) = before
model_after id before (SetTransfer row) = before
model_after id before (DropTransfer gone) = before
model_after id before (NewModel row) = cond (eqb row.id id) (Some row) before
model_after id before (SetModel row pending) = cond (eqb row.id id) (Some row) before
model_after id before (DropModel gone pending) = before
model_after id before (NewMail mail) = before

given_model : (id : ℕ) (before : Option ModelRow) (row : ModelRow) → or_model_before before (if_model_named id (Some row)) ≡ cond (eqb row.id id) (Some row) before
given_model id before row = elim (eqb row.id id) as (λ named. or_model_before before (cond named (Some row) None) ≡ cond named (Some row) before) [
  | true ↦ refl
  | false ↦ refl
]

changed_model : (id : ℕ) (before : Option ModelRow) (change : Change) → or_model_before before (if_model_named id (model_in change)) ≡ model_after id before change
changed_model id before (NewTransfer row) = refl
changed_model id before (SetTransfer row) = refl
changed_model id before (DropTransfer gone) = refl
changed_model id before (NewModel row) = given_model id before row
changed_model id before (SetModel row pending) = given_model id before row
changed_model id before (DropModel gone pending) = refl
changed_model id before (NewMail mail) = refl

pub model_of-push : (id : ℕ) (entries : List Entry) (entry : Entry) → model_of id (entries ++ entry ∷ []) ≡ model_after id (model_of id entries) entry.change
model_of-push id entries entry = growth.model_of-push id entries entry ∙ changed_model id (model_of id entries) entry.change

pub model_of-none : (id : ℕ) → model_of id [] ≡ None
unfolding model_of
model_of-none id = refl

pub is_model_dropped-none : (id : ℕ) → is_model_dropped id [] ≡ false
unfolding is_model_dropped
is_model_dropped-none id = refl
