-- What contracts see of the recurring transfers of a bank, and the list of entries that they stand for.
use Rattle.std.specs.Prelude.{◌≡◌, ℕ, Bool, false, true, ◌==◌, List, [], ◌∷◌, map, Option, None, Some, is_some}
use Rattle.std.specs.Option.{option_map}
use Rattle.std.specs.List.{find, flat_map, position, IsDistinct}
use Rattle.std.specs.Map.{lookup}
use Rattle.ofx_types.specs.declared.recurring.ModelRow.{ModelRow}
use Rattle.ofx_types.specs.declared.transfer.Change.{Change}
use Rattle.ofx_types.specs.declared.transfer.Change.TheVariants.{NewTransfer, SetTransfer, DropTransfer, NewModel, SetModel, DropModel, NewMail}
use Rattle.bank_model.specs.declared.entry.Entry.{Entry}
use Rattle.bank_model.specs.Models.{model_of, is_model_dropped, next_occurrence}

-- A recurring transfer: its row, whether it is cancelled, and the occurrence of its next transfer in the series.
pub record Series : Type 0 where
  pub row : ModelRow
  pub cancelled : Bool
  pub occurrence : ℕ

-- The recurring transfers in the order in which they were made, and for how many more there is room.
pub record ModelsView : Type 0 where
  pub series : List Series
  pub room : ℕ

abbrev pub series_found : ℕ → List Series → Option Series
series_found id series = find (λ (one : Series). one.row.id == id) series

-- the row of a recurring transfer, where there is one
abbrev pub row_found : ℕ → List Series → Option ModelRow
row_found id series = option_map (λ (one : Series). one.row) (series_found id series)

abbrev pub is_cancelled_series : Option Series → Bool
is_cancelled_series None = false
is_cancelled_series (Some series) = series.cancelled

abbrev pub cancelled_found : ℕ → List Series → Bool
cancelled_found id series = is_cancelled_series (series_found id series)

abbrev pub occurrence_in_series : Option Series → ℕ
occurrence_in_series None = 0
occurrence_in_series (Some series) = series.occurrence

-- the occurrence of the next transfer of the recurring transfer with this id, or 0 where there is none
abbrev pub occurrence_found : ℕ → List Series → ℕ
occurrence_found id series = occurrence_in_series (series_found id series)

abbrev pub ids_of : List Series → List ℕ
ids_of series = map (λ (one : Series). one.row.id) series

-- No two recurring transfers have one id.
abbrev pub IsOnce : List Series → Type 0
IsOnce series = IsDistinct (λ (a b : ℕ). a == b) (ids_of series)

-- Each id has the index of the first one with it, and other numbers have none.
abbrev pub HasIndices : List (ℕ × ℕ) → List ℕ → Type 0
HasIndices indices ids = (id : ℕ) → lookup (λ k. id == k) indices ≡ position (λ k. id == k) ids

-- the ids of the recurring transfers that entries made, in their order
abbrev pub id_made : Change → List ℕ
id_made (NewTransfer row) = []
id_made (SetTransfer row) = []
id_made (DropTransfer id) = []
id_made (NewModel row) = row.id ∷ []
id_made (SetModel row pending) = []
id_made (DropModel id pending) = []
id_made (NewMail mail) = []

abbrev pub ids_made : List Entry → List ℕ
ids_made entries = flat_map (λ (entry : Entry). id_made entry.change) entries

-- The recurring transfers stand for a list of entries, in the order in which these made them. The entries give the row of
-- each, say whether it is cancelled, and give the occurrence of its next transfer.
pub record Represents (models : ModelsView) (entries : List Entry) : Type 0 where
  pub rows : (id : ℕ) → row_found id models.series ≡ model_of id entries
  pub dropped : (id : ℕ) → cancelled_found id models.series ≡ is_model_dropped id entries
  pub occurrences : (id : ℕ) → is_some (row_found id models.series) ≡ true → occurrence_found id models.series ≡ next_occurrence id entries
  pub order : ids_of models.series ≡ ids_made entries

-- The row that a change after a list of entries gives: that of a recurring transfer whose id is new, or the one that a
-- recurring transfer has from now on.
abbrev pub GivesModel : List Entry → Change → ModelRow → Type 0
GivesModel entries (NewTransfer given) row = ⊥
GivesModel entries (SetTransfer given) row = ⊥
GivesModel entries (DropTransfer id) row = ⊥
GivesModel entries (NewModel given) row = (given ≡ row) × (model_of row.id entries ≡ None)
GivesModel entries (SetModel given pending) row = (given ≡ row) × (is_some (model_of row.id entries) ≡ true)
GivesModel entries (DropModel id pending) row = ⊥
GivesModel entries (NewMail mail) row = ⊥

-- The change cancels the recurring transfer of this id, which the entries have.
abbrev pub Cancels : List Entry → Change → ℕ → Type 0
Cancels entries (NewTransfer given) id = ⊥
Cancels entries (SetTransfer given) id = ⊥
Cancels entries (DropTransfer dropped) id = ⊥
Cancels entries (NewModel given) id = ⊥
Cancels entries (SetModel given pending) id = ⊥
Cancels entries (DropModel dropped pending) id = (dropped ≡ id) × (is_some (model_of id entries) ≡ true)
Cancels entries (NewMail mail) id = ⊥

-- The change is a new transfer that the recurring transfer of this id made.
abbrev pub IsMadeBy : List Entry → Change → ℕ → Type 0
IsMadeBy entries (NewTransfer row) id = (row.model ≡ id) × (is_some (model_of id entries) ≡ true)
IsMadeBy entries (SetTransfer given) id = ⊥
IsMadeBy entries (DropTransfer dropped) id = ⊥
IsMadeBy entries (NewModel given) id = ⊥
IsMadeBy entries (SetModel given pending) id = ⊥
IsMadeBy entries (DropModel dropped pending) id = ⊥
IsMadeBy entries (NewMail mail) id = ⊥

-- The change leaves recurring transfers as they are: it is one of a transfer that no recurring transfer makes now, or a mail.
abbrev pub LeavesModels : List Entry → Change → Type 0
LeavesModels entries (NewTransfer row) = model_of row.model entries ≡ None
LeavesModels entries (SetTransfer row) = Unit {0}
LeavesModels entries (DropTransfer id) = Unit {0}
LeavesModels entries (NewModel row) = ⊥
LeavesModels entries (SetModel row pending) = ⊥
LeavesModels entries (DropModel id pending) = ⊥
LeavesModels entries (NewMail mail) = Unit {0}
