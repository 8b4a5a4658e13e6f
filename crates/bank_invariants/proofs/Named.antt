-- The accounts that an event names are accounts of the setup.
use Rattle.std.proofs.Common.{◌≡◌, ℕ, ◌<◌, Bool, List, [], ◌∷◌, length, position, nat_lt, not, Option, None, Some, IfSome, arith, refl}
use Rattle.std.specs.Option.{option_map}
use Rattle.std.specs.List.{All, AllByRecursion, flat_map, prefix_len}
use Rattle.std.proofs.lemmas.Option.{cond_some}
use Rattle.std.proofs.lemmas.Bool.{ltb-true}
use Rattle.std.proofs.lemmas.List.Elements.{All-from_recursion, All-append}
use Rattle.ofx_types.specs.AccountForm.{same_account}
use Rattle.ofx_types.specs.declared.account.AcctName.{AcctName}
use Rattle.ofx_types.specs.declared.number.AcctId.{AcctId}
use Rattle.ofx_types.specs.declared.request.Ask.{Ask}
use Rattle.ofx_types.specs.declared.request.Ask.TheVariants as asks
use Rattle.ofx_types.specs.declared.sync.ObjectName.{ObjectName}
use Rattle.ofx_types.specs.declared.sync.ObjectName.TheVariants as objects
use Rattle.ofx_types.specs.declared.transfer.Deed.{Deed}
use Rattle.ofx_types.specs.declared.transfer.Deed.TheVariants.{Transfer, ModifyTransfer, CancelTransfer, Model, ModifyModel, CancelModel, BankMail, Mail}
use Rattle.ofx_types.specs.declared.transfer.TransferRow.{TransferRow}
use Rattle.bank_model.specs.declared.setup.Setup.{Setup}
use Rattle.bank_model.specs.declared.setup.AccountLine.{AccountLine}
use Rattle.bank_model.specs.declared.event.State.{State}
use Rattle.bank_model.specs.declared.event.Event.{Event}
use Rattle.bank_model.specs.declared.event.Event.TheVariants.{File, Post, Spawn, Letter}
use Rattle.bank_model.specs.SetupLookups.{account_of}
use Rattle.bank_model.specs.Ledger.{row_of}
use Rattle.bank_model.specs.Rules.{named, named_by, named_by_deed, named_by_pair, named_by_object, named_by_row}

-- a place that is found is one of the list's
pub found_within : {X : Type 0} (test : X → Bool) (xs : List X) (index : ℕ) → position test xs ≡ Some index → index < length xs
found_within test xs index e =
    let parts = cond_some (nat_lt (prefix_len (λ x. not (test x)) xs) (length xs)) (prefix_len (λ x. not (test x)) xs) index e in
    omega (arith, parts.1, ltb-true _ _ parts.0)

-- the account of a place
abbrev pub numbered : ℕ → AcctId
numbered index = record { 0 = index }

-- an account of the setup, where there is one
abbrev IsWithin : ℕ → Option AcctId → Type 0
IsWithin count entry = IfSome entry (λ (number : AcctId). number.0 < count)

entry_within : (count : ℕ) (found : Option ℕ) → ((index : ℕ) → found ≡ Some index → index < count) → IsWithin count (option_map numbered found)
entry_within count None within = tt
entry_within count (Some index) within = within index refl

name_within : (setup : Setup) (name : AcctName) → IsWithin (length setup.accounts) (account_of setup name)
name_within setup name =
    let is_named : AccountLine → Bool = λ line. same_account line.name name in
    entry_within (length setup.accounts) (position is_named setup.accounts) (found_within is_named setup.accounts)

-- both accounts of a transfer
both_within : (setup : Setup) (from to : AcctName) → AllByRecursion (IsWithin (length setup.accounts)) (account_of setup from ∷ account_of setup to ∷ [])
both_within setup from to = (name_within setup from, (name_within setup to, tt))

deed_within : (setup : Setup) (deed : Deed) → AllByRecursion (IsWithin (length setup.accounts)) (named_by_deed setup deed)
deed_within setup (Transfer info) = both_within setup info.from info.to
deed_within setup (ModifyTransfer id info) = both_within setup info.from info.to
deed_within setup (CancelTransfer id) = tt
deed_within setup (Model recur info) = both_within setup info.from info.to
deed_within setup (ModifyModel id recur info pending) = both_within setup info.from info.to
deed_within setup (CancelModel id pending) = tt
deed_within setup (BankMail account mail) = (name_within setup account, tt)
deed_within setup (Mail mail) = tt

object_within : (setup : Setup) (object : ObjectName) → AllByRecursion (IsWithin (length setup.accounts)) (named_by_object setup object)
object_within setup (objects.Intra account) = (name_within setup account, tt)
object_within setup (objects.RecIntra account) = (name_within setup account, tt)
object_within setup (objects.BankMail account) = (name_within setup account, tt)
object_within setup objects.Mail = tt

deeds_within : (setup : Setup) (deeds : List (List ℕ × Deed)) → All (IsWithin (length setup.accounts)) (flat_map (named_by_pair setup) deeds)
deeds_within setup [] = All-from_recursion (IsWithin (length setup.accounts)) [] tt
deeds_within setup (deed ∷ deeds) =
    All-append (IsWithin (length setup.accounts)) (named_by_deed setup deed.1) (flat_map (named_by_pair setup) deeds) (All-from_recursion (IsWithin (length setup.accounts)) (named_by_deed setup deed.1) (deed_within setup deed.1)) (deeds_within setup deeds)

ask_within : (setup : Setup) (ask : Ask) → All (IsWithin (length setup.accounts)) (named_by setup ask)
ask_within setup (asks.Statement trnuid name period) = All-from_recursion (IsWithin (length setup.accounts)) (account_of setup name ∷ []) (name_within setup name, tt)
ask_within setup (asks.One trnuid deed) = All-from_recursion (IsWithin (length setup.accounts)) (named_by_deed setup deed) (deed_within setup deed)
ask_within setup (asks.Sync sync) =
    All-append (IsWithin (length setup.accounts)) (named_by_object setup sync.object) (flat_map (named_by_pair setup) sync.deeds) (All-from_recursion (IsWithin (length setup.accounts)) (named_by_object setup sync.object) (object_within setup sync.object)) (deeds_within setup sync.deeds)

asks_within : (setup : Setup) (list : List Ask) → All (IsWithin (length setup.accounts)) (flat_map (named_by setup) list)
asks_within setup [] = All-from_recursion (IsWithin (length setup.accounts)) [] tt
asks_within setup (ask ∷ more) =
    All-append (IsWithin (length setup.accounts)) (named_by setup ask) (flat_map (named_by setup) more) (ask_within setup ask) (asks_within setup more)

row_within : (setup : Setup) (row : Option TransferRow) → All (IsWithin (length setup.accounts)) (named_by_row setup row)
row_within setup None = All-from_recursion (IsWithin (length setup.accounts)) [] tt
row_within setup (Some row) =
    All-from_recursion (IsWithin (length setup.accounts)) (account_of setup row.from ∷ account_of setup row.to ∷ []) (both_within setup row.from row.to)

-- Every account that an event names is one of the setup's.
pub named_within : (setup : Setup) (state : State) (event : Event) → All (IsWithin (length setup.accounts)) (named setup state event)
named_within setup state (File user file) = asks_within setup file.asks
named_within setup state (Post id) = row_within setup (row_of id state.entries)
named_within setup state (Spawn id index) = All-from_recursion (IsWithin (length setup.accounts)) [] tt
named_within setup state (Letter user subject body) = All-from_recursion (IsWithin (length setup.accounts)) [] tt
