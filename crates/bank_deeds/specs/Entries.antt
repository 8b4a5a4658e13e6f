-- Entries by their parts, and the reply to a deed whose first entry it is.
use Rattle.std.specs.Prelude.{ℕ, List, Option}
use Rattle.std.specs.Option.{option_map}
use Rattle.ofx_types.specs.declared.number.ObjectId.{ObjectId}
use Rattle.ofx_types.specs.declared.transfer.Change.{Change}
use Rattle.ofx_types.specs.declared.transfer.Deed.{Deed}
use Rattle.ofx_types.specs.declared.transfer.DeedReply.{DeedReply}
use Rattle.ofx_types.specs.DeedForm.{family_of}
use Rattle.bank_model.specs.declared.entry.Entry.{Entry}

abbrev pub entry_with : ℕ → ObjectId → List ℕ → Change → Entry
entry_with number object trnuid change = record { number = number; object = object; trnuid = trnuid; change = change }

abbrev pub reported_of : List ℕ → Deed → Option Entry → DeedReply
reported_of trnuid deed entry = record { trnuid = trnuid; family = family_of deed; code = 0; change = option_map Entry.change entry }
