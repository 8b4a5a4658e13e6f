-- Each entry of a history that is in order is in an object of its family.
use Rattle.std.proofs.Common.{◌≡◌, ℕ, inl, inr, Bool, true, false, cond, eqb, List, [], ◌∷◌, ◌++◌, Option, None, Some, refl, ap, subst, arith}
use Rattle.std.specs.List.{AllByRecursion}
use Rattle.std.proofs.lemmas.Bool.{eqb-true}
use Rattle.ofx_types.specs.declared.number.AcctId.{AcctId}
use Rattle.ofx_types.specs.declared.number.ObjectId.{ObjectId}
use Rattle.ofx_types.specs.declared.recurring.ModelRow.{ModelRow}
use Rattle.ofx_types.specs.declared.transfer.Change.{Change}
use Rattle.ofx_types.specs.declared.transfer.Change.TheVariants.{NewTransfer, SetTransfer, DropTransfer, NewModel, SetModel, DropModel, NewMail}
use Rattle.ofx_types.specs.declared.transfer.Family.{Family}
use Rattle.ofx_types.specs.declared.transfer.Family.TheVariants as families
use Rattle.bank_model.specs.declared.entry.Entry.{Entry}
use Rattle.bank_model.specs.declared.setup.Setup.{Setup}
use Rattle.bank_model.specs.SetupLookups.{account_of}
use Rattle.bank_model.specs.Models.{model_of}
use Rattle.bank_model.specs.Deeds.{intra_of, recurring_of, object_of, model_object_of}
use Rattle.bank_model.specs.Objects.{history_of}
use Rattle.sync_laws.specs.ObjectFamilies.{IsObjectOf, mail_family}
use Rattle.sync_laws.specs.Histories.{MaySay, Follows, AllFollow}
use Rattle.sync_laws.proofs.Positions.{one_family}
use Rattle.sync_laws.proofs.Numbers.{follow_both}
use Rattle.sync_laws.proofs.Rows.{IsIn}
use Rattle.sync_laws.proofs.Acts.{Act, made_id, ids_made, in_either}
use Rattle.sync_laws.proofs.TransferRows.{act_transfer, transfers_known, waits_home}
use Rattle.sync_laws.proofs.ModelRows as models
use Rattle.sync_laws.proofs.ModelRows.{act_model, models_known, goes_home}

-- what a change is of
abbrev pub family_in : Change → Family
family_in (NewTransfer row) = families.Intra
family_in (SetTransfer row) = families.Intra
family_in (DropTransfer id) = families.Intra
family_in (NewModel row) = families.RecIntra
family_in (SetModel row also) = families.RecIntra
family_in (DropModel id also) = families.RecIntra
family_in (NewMail mail) = mail_family mail.about

abbrev pub IsPlaced : Setup → Entry → Type 0
IsPlaced setup entry = IsObjectOf setup (family_in entry.change) entry.object.0

-- ---- an object in which something was made

abbrev MakesIn : Setup → Family → (Change → Act) → Type 0
MakesIn setup family act =
    (before : List Entry) (object : ObjectId) (change : Change) (j : ℕ) → MaySay setup before object change → IsIn j (made_id (act change)) → IsObjectOf setup family object.0

transfers_made : (setup : Setup) → MakesIn setup families.Intra act_transfer
transfers_made setup before object (NewTransfer row) j says is = says.3
transfers_made setup before object (SetTransfer row) j says is = absurd is
transfers_made setup before object (DropTransfer id) j says is = absurd is
transfers_made setup before object (NewModel row) j says is = absurd is
transfers_made setup before object (SetModel row also) j says is = absurd is
transfers_made setup before object (DropModel id also) j says is = absurd is
transfers_made setup before object (NewMail mail) j says is = absurd is

models_made : (setup : Setup) → MakesIn setup families.RecIntra act_model
models_made setup before object (NewTransfer row) j says is = absurd is
models_made setup before object (SetTransfer row) j says is = absurd is
models_made setup before object (DropTransfer id) j says is = absurd is
models_made setup before object (NewModel row) j says is = says.2
models_made setup before object (SetModel row also) j says is = absurd is
models_made setup before object (DropModel id also) j says is = absurd is
models_made setup before object (NewMail mail) j says is = absurd is

made_index : (setup : Setup) (family : Family) (act : Change → Act) (object : ObjectId) → MakesIn setup family act → (before entries : List Entry) → AllFollow setup before entries → (j : ℕ) → IsIn j (ids_made act (history_of object entries)) → IsObjectOf setup family object.0
unfolding history_of
made_index setup family act object makes before [] all j is = absurd is
made_index setup family act object makes before (entry ∷ more) all j is =
    by_object (made_index setup family act object makes (before ++ entry ∷ []) more all.1 j) (eqb entry.object.0 object.0) refl is
  where
    by_object : (IsIn j (ids_made act (history_of object more)) → IsObjectOf setup family object.0) → (own : Bool) → eqb entry.object.0 object.0 ≡ own → IsIn j (ids_made act (cond own (entry ∷ history_of object more) (history_of object more))) → IsObjectOf setup family object.0
    by_object rest true same here = (elim (in_either j (made_id (act entry.change)) (ids_made act (history_of object more)) here) as (λ either. IsObjectOf setup family object.0) [
      | inl new ↦ subst (IsObjectOf setup family) (eqb-true entry.object.0 object.0 same) (makes before entry.object entry.change j all.0.says new)
      | inr old ↦ rest old
    ])
    by_object rest false same here = rest here

-- ---- the source of a recurring transfer

index_of_source : (setup : Setup) (found : Option AcctId) → IsObjectOf setup families.RecIntra (recurring_of found).0 → IsObjectOf setup families.Intra (intra_of found).0
index_of_source setup None index = absurd (let is = index.2 in omega arith)
index_of_source setup (Some account) index = (account.0, (let is = index.2 in let below = index.1 in omega arith), refl)

-- it is an account of the setup
pub source_index : (setup : Setup) (entries : List Entry) (id : ℕ) (row : ModelRow) → AllFollow setup [] entries → model_of id entries ≡ Some row → IsObjectOf setup families.Intra (object_of setup row.from).0
source_index setup entries id row all found =
    index_of_source setup (account_of setup row.from)
    (made_index setup families.RecIntra act_model (model_object_of setup row.from) (models_made setup) [] entries all id
    ((models_known setup entries all).holds.there (model_object_of setup row.from) id (ap (models.home_of setup) found)))

-- ---- any entry

says_index : (setup : Setup) (before : List Entry) (object : ObjectId) (change : Change) → AllFollow setup [] before → MaySay setup before object change → IsObjectOf setup (family_in change) object.0
says_index setup before object (NewTransfer row) all says = says.3
says_index setup before object (SetTransfer row) all says =
    made_index setup families.Intra act_transfer object (transfers_made setup) [] before all row.id
    ((transfers_known setup before all).holds.there object row.id (waits_home setup before object row.id says.0))
says_index setup before object (DropTransfer id) all says =
    made_index setup families.Intra act_transfer object (transfers_made setup) [] before all id
    ((transfers_known setup before all).holds.there object id (waits_home setup before object id says))
says_index setup before object (NewModel row) all says = says.2
says_index setup before object (SetModel row also) all says =
    made_index setup families.RecIntra act_model object (models_made setup) [] before all row.id
    ((models_known setup before all).holds.there object row.id (goes_home setup before object row.id says.0))
says_index setup before object (DropModel id also) all says =
    made_index setup families.RecIntra act_model object (models_made setup) [] before all id
    ((models_known setup before all).holds.there object id (goes_home setup before object id says))
says_index setup before object (NewMail mail) all says = says

pub follows_placed : (setup : Setup) (before : List Entry) (entry : Entry) → AllFollow setup [] before → Follows setup before entry → IsPlaced setup entry
follows_placed setup before entry all follows = says_index setup before entry.object entry.change all follows.says

pub all_placed : (setup : Setup) (before entries : List Entry) → AllFollow setup [] before → AllFollow setup before entries → AllByRecursion (IsPlaced setup) entries
all_placed setup before [] first all = tt
all_placed setup before (entry ∷ more) first all =
    (follows_placed setup before entry first all.0, all_placed setup (before ++ entry ∷ []) more (follow_both setup [] before (entry ∷ []) first (all.0, tt)) all.1)

-- an entry of an object is of the object's family
pub family_here : (setup : Setup) (family : Family) (object : ObjectId) (entry : Entry) → IsObjectOf setup family object.0 → IsPlaced setup entry → eqb entry.object.0 object.0 ≡ true → family_in entry.change ≡ family
family_here setup family object entry index located same =
    one_family setup (family_in entry.change) family object.0
    (subst (IsObjectOf setup (family_in entry.change)) (eqb-true entry.object.0 object.0 same) located) index

pub history_family : (setup : Setup) (family : Family) (object : ObjectId) → IsObjectOf setup family object.0 → (entries : List Entry) → AllByRecursion (IsPlaced setup) entries → AllByRecursion (λ (entry : Entry). family_in entry.change ≡ family) (history_of object entries)
unfolding history_of
history_family setup family object index [] all = tt
history_family setup family object index (entry ∷ more) all =
    by_object (history_family setup family object index more all.1) (eqb entry.object.0 object.0) refl
  where
    by_object : AllByRecursion (λ (e : Entry). family_in e.change ≡ family) (history_of object more) → (own : Bool) → eqb entry.object.0 object.0 ≡ own → AllByRecursion (λ (e : Entry). family_in e.change ≡ family) (cond own (entry ∷ history_of object more) (history_of object more))
    by_object rest true same = (family_here setup family object entry index all.0 same, rest)
    by_object rest false same = rest
