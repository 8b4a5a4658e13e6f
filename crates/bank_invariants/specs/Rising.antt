-- The ids of rows that are reported to a client.
use Rattle.std.specs.Prelude.{ℕ, List, [], ◌∷◌}
use Rattle.std.specs.List.{flat_map}
use Rattle.ofx_types.specs.declared.transfer.Change.{Change}
use Rattle.ofx_types.specs.declared.transfer.Change.TheVariants.{NewTransfer, SetTransfer, DropTransfer, NewModel, SetModel, DropModel, NewMail}

-- The id of a transfer or a recurring transfer that is reported as if it were new. A mail has none.
abbrev pub id_reported : Change → List ℕ
id_reported (NewTransfer row) = row.id ∷ []
id_reported (SetTransfer row) = []
id_reported (DropTransfer id) = []
id_reported (NewModel row) = row.id ∷ []
id_reported (SetModel row pending) = []
id_reported (DropModel id pending) = []
id_reported (NewMail mail) = []

abbrev pub ids_reported : List Change → List ℕ
ids_reported changes = flat_map id_reported changes
