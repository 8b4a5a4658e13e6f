-- Entries that a bank may add, one after another.
use Rattle.std.specs.Prelude.{◌≡◌, true, ◌==◌, List, [], ◌∷◌, ◌++◌, None}
use Rattle.std.specs.List.{IsDistinct}
use Rattle.ofx_types.specs.declared.transfer.Change.{Change}
use Rattle.ofx_types.specs.declared.transfer.Change.TheVariants.{NewTransfer, SetTransfer, DropTransfer, NewModel, SetModel, DropModel, NewMail}
use Rattle.bank_model.specs.declared.entry.Entry.{Entry}
use Rattle.bank_model.specs.Ledger.{Posting, row_of, moved}
use Rattle.bank_transfers.specs.TransfersView.{waits}

-- A new transfer has no row before. A transfer is set or cancelled only while it waits.
abbrev pub IsLawful : List Entry → Change → Type 0
IsLawful entries (NewTransfer row) = row_of row.id entries ≡ None
IsLawful entries (SetTransfer row) = waits (row_of row.id entries) ≡ true
IsLawful entries (DropTransfer id) = waits (row_of id entries) ≡ true
IsLawful entries (NewModel row) = Unit {0}
IsLawful entries (SetModel row pending) = Unit {0}
IsLawful entries (DropModel id pending) = Unit {0}
IsLawful entries (NewMail mail) = Unit {0}

-- Each entry is lawful after those before it.
abbrev pub AreLawfulAfter : List Entry → List Entry → Type 0
AreLawfulAfter before [] = Unit {0}
AreLawfulAfter before (entry ∷ more) = IsLawful before entry.change × AreLawfulAfter (before ++ entry ∷ []) more

abbrev pub AreLawful : List Entry → Type 0
AreLawful entries = AreLawfulAfter [] entries

-- No two postings are of one transfer.
abbrev pub PostsOnce : List Entry → Type 0
PostsOnce entries = IsDistinct (λ (posting other : Posting). posting.row.id == other.row.id) (moved entries)
