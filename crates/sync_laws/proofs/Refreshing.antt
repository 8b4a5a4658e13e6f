-- What there is now, put one after another, makes the same rows as the whole history.
use Rattle.std.proofs.Common.{◌≡◌, ℕ, Bool, true, false, cond, List, [], ◌∷◌, ◌++◌, fold, Option, None, Some, refl, sym, ap, ◌∙◌}
use Rattle.std.specs.List.{flat_map}
use Rattle.std.proofs.lemmas.List.Sums.{fold-append}
use Rattle.ofx_types.specs.declared.number.ObjectId.{ObjectId}
use Rattle.ofx_types.specs.declared.transfer.TransferRow.{TransferRow}
use Rattle.ofx_types.specs.declared.recurring.ModelRow.{ModelRow}
use Rattle.ofx_types.specs.declared.transfer.Change.{Change}
use Rattle.ofx_types.specs.declared.transfer.Change.TheVariants.{NewTransfer, SetTransfer, DropTransfer, NewModel, SetModel, DropModel, NewMail}
use Rattle.ofx_types.specs.declared.transfer.Family.{Family}
use Rattle.ofx_types.specs.declared.transfer.Family.TheVariants as families
use Rattle.bank_model.specs.declared.entry.Entry.{Entry}
use Rattle.bank_model.specs.declared.setup.Setup.{Setup}
use Rattle.bank_model.specs.Ledger.{row_of}
use Rattle.bank_model.specs.Models.{model_of, is_model_dropped}
use Rattle.bank_model.specs.Judging.{is_cancelled}
use Rattle.bank_model.specs.Objects.{history_of}
use Rattle.bank_model.specs.Sync.{current_transfer, current_model, current_in, present}
use Rattle.bank_model.specs.Stores.{Row, transfer_row, model_row, put, changed}
use Rattle.sync_laws.specs.Histories.{AllFollow}
use Rattle.bank_transfers.proofs.GrowthLemmas.{HasId, row_of-id}
use Rattle.bank_invariants.proofs.RowLemmas.{IsModelNamed, model_of-id}
use Rattle.sync_laws.proofs.Changes.{fold_entries}
use Rattle.sync_laws.proofs.Rows.{put_found, stood, held_looked}
use Rattle.sync_laws.proofs.Acts.{made_id, ids_made}
use Rattle.sync_laws.proofs.TransferRows as transfers
use Rattle.sync_laws.proofs.ModelRows as models

-- what is left of some entries, put one after another
abbrev reported : Family → List Entry → List Row → List Entry → List Row
reported family all rows entries = fold (changed family) rows (flat_map (λ (entry : Entry). current_in all entry.change) entries)

-- ---- nothing is told to a family of another's rows

leave_transfer : (family : Family) (rows : List Row) (found : Option TransferRow) → ((row : TransferRow) → changed family rows (NewTransfer row) ≡ rows) → fold (changed family) rows (current_transfer found) ≡ rows
leave_transfer family rows None leaves = refl
leave_transfer family rows (Some row) leaves = unless (is_cancelled row.code)
  where
    unless : (cancelled : Bool) → fold (changed family) rows (cond cancelled [] (NewTransfer row ∷ [])) ≡ rows
    unless true = refl
    unless false = leaves row

leave_model : (family : Family) (rows : List Row) (dropped : Bool) (found : Option ModelRow) → ((row : ModelRow) → changed family rows (NewModel row) ≡ rows) → fold (changed family) rows (current_model dropped found) ≡ rows
leave_model family rows dropped None leaves = refl
leave_model family rows true (Some row) leaves = refl
leave_model family rows false (Some row) leaves = leaves row

-- ---- transfers

put_transfer : (rows : List Row) (id : ℕ) (found : Option TransferRow) → HasId id found → fold (changed families.Intra) rows (current_transfer found) ≡ put_found id (transfers.found_of found) rows
unfolding changed
put_transfer rows id None has = refl
put_transfer rows id (Some row) has = unless (is_cancelled row.code)
  where
    unless : (cancelled : Bool) → fold (changed families.Intra) rows (cond cancelled [] (NewTransfer row ∷ [])) ≡ put_found id (cond cancelled None (Some (transfer_row row))) rows
    unless true = refl
    unless false = ap (λ (n : ℕ). put n (transfer_row row) rows) has

transfer_one : (all : List Entry) (rows : List Row) (change : Change) → fold (changed families.Intra) rows (current_in all change) ≡ stood (transfers.transfer_found all) rows (made_id (transfers.act_transfer change))
unfolding changed
transfer_one all rows (NewTransfer row) = put_transfer rows row.id (row_of row.id all) (row_of-id row.id all)
transfer_one all rows (SetTransfer row) = refl
transfer_one all rows (DropTransfer id) = refl
transfer_one all rows (NewModel row) = leave_model families.Intra rows (is_model_dropped row.id all) (model_of row.id all) (λ held. refl)
transfer_one all rows (SetModel row also) = refl
transfer_one all rows (DropModel id also) = refl
transfer_one all rows (NewMail mail) = refl

-- ---- recurring transfers

put_model : (rows : List Row) (id : ℕ) (dropped : Bool) (found : Option ModelRow) → IsModelNamed id found → fold (changed families.RecIntra) rows (current_model dropped found) ≡ put_found id (models.found_of dropped found) rows
unfolding changed
put_model rows id dropped None has = refl
put_model rows id true (Some row) has = refl
put_model rows id false (Some row) has = ap (λ (n : ℕ). put n (model_row row) rows) has

model_one : (all : List Entry) (rows : List Row) (change : Change) → fold (changed families.RecIntra) rows (current_in all change) ≡ stood (models.model_found all) rows (made_id (models.act_model change))
unfolding changed
model_one all rows (NewTransfer row) = leave_transfer families.RecIntra rows (row_of row.id all) (λ held. refl)
model_one all rows (SetTransfer row) = refl
model_one all rows (DropTransfer id) = refl
model_one all rows (NewModel row) = put_model rows row.id (is_model_dropped row.id all) (model_of row.id all) (model_of-id row.id all)
model_one all rows (SetModel row also) = refl
model_one all rows (DropModel id also) = refl
model_one all rows (NewMail mail) = refl

-- ---- mail

-- a family that has rows of mail alone
record IsOfMail (family : Family) : Type 0 where
  transfers_leave : (rows : List Row) (row : TransferRow) → changed family rows (NewTransfer row) ≡ rows
  models_leave : (rows : List Row) (row : ModelRow) → changed family rows (NewModel row) ≡ rows
  sets : (rows : List Row) (row : TransferRow) → changed family rows (SetTransfer row) ≡ rows
  drops : (rows : List Row) (id : ℕ) → changed family rows (DropTransfer id) ≡ rows
  model_sets : (rows : List Row) (row : ModelRow) (also : Bool) → changed family rows (SetModel row also) ≡ rows
  model_drops : (rows : List Row) (id : ℕ) (also : Bool) → changed family rows (DropModel id also) ≡ rows

mail_one : (family : Family) (all : List Entry) (rows : List Row) (change : Change) → IsOfMail family → fold (changed family) rows (current_in all change) ≡ changed family rows change
mail_one family all rows (NewTransfer row) mail = leave_transfer family rows (row_of row.id all) (mail.transfers_leave rows) ∙ sym (mail.transfers_leave rows row)
mail_one family all rows (SetTransfer row) mail = sym (mail.sets rows row)
mail_one family all rows (DropTransfer id) mail = sym (mail.drops rows id)
mail_one family all rows (NewModel row) mail = leave_model family rows (is_model_dropped row.id all) (model_of row.id all) (mail.models_leave rows) ∙ sym (mail.models_leave rows row)
mail_one family all rows (SetModel row also) mail = sym (mail.model_sets rows row also)
mail_one family all rows (DropModel id also) mail = sym (mail.model_drops rows id also)
mail_one family all rows (NewMail row) mail = refl

mail_all : (family : Family) (all : List Entry) (rows : List Row) (entries : List Entry) → IsOfMail family → reported family all rows entries ≡ fold_entries family rows entries
mail_all family all rows [] mail = refl
mail_all family all rows (entry ∷ entries) mail =
    fold-append (changed family) rows (current_in all entry.change) (flat_map (λ (e : Entry). current_in all e.change) entries)
    ∙ ap (λ held. reported family all held entries) (mail_one family all rows entry.change mail)
    ∙ mail_all family all (changed family rows entry.change) entries mail

letters : IsOfMail families.BankMail
unfolding changed
letters = record { transfers_leave = λ rows row. refl; models_leave = λ rows row. refl; sets = λ rows row. refl; drops = λ rows id. refl; model_sets = λ rows row also. refl; model_drops = λ rows id also. refl }

mails : IsOfMail families.Mail
unfolding changed
mails = record { transfers_leave = λ rows row. refl; models_leave = λ rows row. refl; sets = λ rows row. refl; drops = λ rows id. refl; model_sets = λ rows row also. refl; model_drops = λ rows id also. refl }

-- ---- one entry after another

stood-append : (found : ℕ → Option Row) (rows : List Row) (xs ys : List ℕ) → stood found rows (xs ++ ys) ≡ stood found (stood found rows xs) ys
stood-append found rows xs ys = fold-append (λ (held : List Row) (j : ℕ). put_found j (found j) held) rows xs ys

transfer_all : (all : List Entry) (rows : List Row) (entries : List Entry) → reported families.Intra all rows entries ≡ stood (transfers.transfer_found all) rows (ids_made transfers.act_transfer entries)
transfer_all all rows [] = refl
transfer_all all rows (entry ∷ entries) =
    fold-append (changed families.Intra) rows (current_in all entry.change) (flat_map (λ (e : Entry). current_in all e.change) entries)
    ∙ ap (λ held. reported families.Intra all held entries) (transfer_one all rows entry.change)
    ∙ transfer_all all (stood (transfers.transfer_found all) rows (made_id (transfers.act_transfer entry.change))) entries
    ∙ sym (stood-append (transfers.transfer_found all) rows (made_id (transfers.act_transfer entry.change)) (ids_made transfers.act_transfer entries))

model_all : (all : List Entry) (rows : List Row) (entries : List Entry) → reported families.RecIntra all rows entries ≡ stood (models.model_found all) rows (ids_made models.act_model entries)
model_all all rows [] = refl
model_all all rows (entry ∷ entries) =
    fold-append (changed families.RecIntra) rows (current_in all entry.change) (flat_map (λ (e : Entry). current_in all e.change) entries)
    ∙ ap (λ held. reported families.RecIntra all held entries) (model_one all rows entry.change)
    ∙ model_all all (stood (models.model_found all) rows (made_id (models.act_model entry.change))) entries
    ∙ sym (stood-append (models.model_found all) rows (made_id (models.act_model entry.change)) (ids_made models.act_model entries))

-- What there is now makes the rows that the whole history makes.
pub current_is_all : (setup : Setup) (family : Family) (object : ObjectId) (entries : List Entry) → AllFollow setup [] entries → fold (changed family) [] (present object entries) ≡ fold_entries family [] (history_of object entries)
unfolding present
current_is_all setup families.Intra object entries all =
    let known = transfers.transfers_known setup entries all in
    transfer_all entries [] (history_of object entries)
    ∙ held_looked (transfers.transfer_found entries) (ids_made transfers.act_transfer (history_of object entries)) (transfers.transfer_has entries) (known.holds.rise object)
    ∙ sym (known.rows object)
current_is_all setup families.RecIntra object entries all =
    let known = models.models_known setup entries all in
    model_all entries [] (history_of object entries)
    ∙ held_looked (models.model_found entries) (ids_made models.act_model (history_of object entries)) (models.model_has entries) (known.holds.rise object)
    ∙ sym (known.rows object)
current_is_all setup families.BankMail object entries all = mail_all families.BankMail entries [] (history_of object entries) letters
current_is_all setup families.Mail object entries all = mail_all families.Mail entries [] (history_of object entries) mails
