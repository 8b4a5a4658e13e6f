-- The rows of a client as the bank's rules see them, and their order.
use Rattle.std.specs.Prelude.{◌≡◌, ℕ, suc, Bool, true, false, ◌&&◌, nat_le, List, [], ◌∷◌, map, Option, None, Some}
use Rattle.ofx_types.specs.SyncForm.{object_family}
use Rattle.ofx_types.specs.declared.transfer.Family.{Family}
use Rattle.ofx_types.specs.declared.transfer.Family.TheVariants.{Intra, RecIntra, BankMail, Mail}
use Rattle.bank_model.specs.Stores as model
use Rattle.bank_model.specs.Stores.{transfer_row, model_row, mail_row, id_of, Store}
use Rattle.client_store.specs.declared.row.Row.{Row}
use Rattle.client_store.specs.declared.row.Row.TheVariants as variants

-- ---- rows

abbrev pub seen : Row → model.Row
seen (variants.Transfer row) = transfer_row row
seen (variants.Model row) = model_row row
seen (variants.Mail row) = mail_row row

abbrev pub all_seen : List Row → List model.Row
all_seen rows = map seen rows

-- ---- which rows an object has, and in which order

-- An object of transfers has transfers alone, one of recurring transfers has these, and one of mail has mails.
abbrev pub is_of : Family → model.Row → Bool
is_of Intra (transfer_row row) = true
is_of RecIntra (model_row row) = true
is_of BankMail (mail_row row) = true
is_of Mail (mail_row row) = true
is_of family row = false

-- An id is no less than a bound. A mail has none, and may come after any other.
abbrev pub is_from : ℕ → Option ℕ → Bool
is_from bound None = true
is_from bound (Some own) = nat_le bound own

-- the least id that may come after a row with this id; the bound stays where it has none
abbrev pub bound_after : ℕ → Option ℕ → ℕ
bound_after bound None = bound
bound_after bound (Some own) = suc own

-- A row may come after others: it is of the family, and its id is no less than the bound.
abbrev pub may_follow : Family → ℕ → model.Row → Bool
may_follow family bound row = is_of family row && is_from bound (id_of row)

-- The rows are all of the family, and their ids rise from the bound on.
abbrev pub IsRising : Family → ℕ → List model.Row → Type 0
IsRising family bound [] = Unit {0}
IsRising family bound (row ∷ more) =
    (may_follow family bound row ≡ true) × IsRising family (bound_after bound (id_of row)) more

-- The rows of a store are of its object's family, in rising id.
abbrev pub IsInOrder : Store → Type 0
IsInOrder store = IsRising (object_family store.name) 0 store.rows
