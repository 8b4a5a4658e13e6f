-- The dates of the transfers that a recurring transfer has made.
use Rattle.std.specs.Prelude.{◌≢◌, ℕ, ◌<◌, ◌==◌, if◌then◌else◌, List, [], ◌∷◌, length, slice_index_or}
use Rattle.std.specs.List.{flat_map}
use Rattle.ofx_types.specs.declared.number.Day.{Day}
use Rattle.ofx_types.specs.declared.transfer.Change.{Change}
use Rattle.ofx_types.specs.declared.transfer.Change.TheVariants.{NewTransfer, SetTransfer, DropTransfer, NewModel, SetModel, DropModel, NewMail}
use Rattle.bank_model.specs.declared.entry.Entry.{Entry}
use Rattle.bank_model.specs.Models.{since_anew}

-- the date for which a recurring transfer made a transfer, where the change is one that it made
abbrev pub date_made : ℕ → Change → List Day
date_made id (NewTransfer row) = if row.model == id then row.due ∷ [] else []
date_made id (SetTransfer row) = []
date_made id (DropTransfer dropped) = []
date_made id (NewModel row) = []
date_made id (SetModel row pending) = []
date_made id (DropModel dropped pending) = []
date_made id (NewMail mail) = []

-- The dates for which it made transfers since it last began anew, the latest first.
abbrev pub dates_made : ℕ → List Entry → List Day
dates_made id entries = flat_map (λ (entry : Entry). date_made id entry.change) (since_anew id entries)

-- No date occurs twice.
abbrev pub AreOwnDates : List Day → Type 0
AreOwnDates dates = (j k : ℕ) (d : Day) → j < k → k < length dates → slice_index_or dates j d ≢ slice_index_or dates k d
