-- Keys in order, each once, and the keys by which the rows of transfers are listed.
use Rattle.std.specs.Prelude.{◌≡◌, ℕ, Bool, false, List, Option, None, Some}
use Rattle.std.specs.List.{list_any}
use Rattle.std.specs.List.Sorted.{IsStrictlySortedBy}
use Rattle.std.specs.Ordering.{eq_by_cmp}
use Rattle.std.specs.declared.cmp.Ordering.{Ordering}
use Rattle.ofx_types.specs.declared.transfer.TransferRow.{TransferRow}

-- whether a key is among others
abbrev pub has : {K : Type 0} → (K → K → Ordering) → List K → K → Bool
has R keys key = list_any (eq_by_cmp R key) keys

-- whether a key is that of a row
abbrev pub is_key : {K : Type 0} → (K → K → Ordering) → (TransferRow → K) → K → Option TransferRow → Bool
is_key R key_of key None = false
is_key R key_of key (Some row) = eq_by_cmp R key (key_of row)

-- Keys list the rows that are found by their ids: they are in order, and each is the key of the row found by its id.
pub record Lists {K : Type 0} (R : K → K → Ordering) (id_of : K → ℕ) (key_of : TransferRow → K) (keys : List K) (found : ℕ → Option TransferRow) : Type 0 where
  pub sorted : IsStrictlySortedBy R keys
  pub are : (key : K) → has R keys key ≡ is_key R key_of key (found (id_of key))
