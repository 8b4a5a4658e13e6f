-- The rows of a store stay within their bounds and in their order, whatever changes a reply brings.
use Rattle.std.proofs.Common.{◌≡◌, ℕ, ◌≤◌, Bool, true, false, not, cond, eqb, List, [], ◌∷◌, ◌++◌, fold, filter, Option, None, Some, is_some, refl, sym, ap, ◌∙◌, subst, arith}
use Rattle.std.specs.Option.{IfSome, option_to_list}
use Rattle.std.specs.List.{AllByRecursion, flat_map}
use Rattle.ofx_types.specs.declared.transfer.Family.{Family}
use Rattle.ofx_types.specs.declared.transfer.Family.TheVariants.{Intra, RecIntra, BankMail, Mail}
use Rattle.ofx_types.specs.declared.transfer.TransferRow.{TransferRow}
use Rattle.ofx_types.specs.declared.recurring.ModelRow.{ModelRow}
use Rattle.ofx_types.specs.declared.mail.MailRow.{MailRow}
use Rattle.ofx_types.specs.declared.transfer.Change.{Change}
use Rattle.ofx_types.specs.declared.transfer.Change.TheVariants.{NewTransfer, SetTransfer, DropTransfer, NewModel, SetModel, DropModel, NewMail}
use Rattle.ofx_types.specs.declared.transfer.DeedReply.{DeedReply}
use Rattle.bank_model.specs.Sound.{IsId}
use Rattle.bank_model.specs.Stores.{Row, transfer_row, model_row, mail_row, has_id, is_below, put, remove_row, with_model, model_if_named, model_among, changed, change_done, applied}
use Rattle.client_store.specs.RowForm.{is_of, IsRising, bound_after}
use Rattle.client_store.proofs.Ordered.{put_rising, out_rising, follows}
use Rattle.bank_model.specs.Stores.{id_of}
use Rattle.client_saved.specs.Bounds.{IsSoundRow, IsSoundTransfer, IsSoundModel, IsSoundMailRow}
use Rattle.client_core.specs.ReportLines.{IsSoundChange, IsSoundDeedReply}
use Rattle.bank_model.proofs.Lists.{all_append, all_filtered, all_flat}

-- rows that a store of the family may have
pub record AreRows (family : Family) (rows : List Row) : Type 0 where
  pub order : IsRising family 0 rows
  pub sound : AllByRecursion IsSoundRow rows

put_all : (id : ℕ) (row : Row) (rows : List Row) → IsSoundRow row → AllByRecursion IsSoundRow rows → AllByRecursion IsSoundRow (put id row rows)
unfolding put
put_all id row [] here all = (here, tt)
put_all id row (first ∷ more) here all =
    elim (has_id id first) as (λ b. AllByRecursion IsSoundRow (cond b (row ∷ more) (cond (is_below id first) (first ∷ put id row more) (row ∷ first ∷ more)))) [
      | true ↦ (here, all.1)
      | false ↦ elim (is_below id first) as (λ b. AllByRecursion IsSoundRow (cond b (first ∷ put id row more) (row ∷ first ∷ more))) [
        | true ↦ (all.0, put_all id row more here all.1)
        | false ↦ (here, all)
      ]
    ]

out_all : (id : ℕ) (rows : List Row) → AllByRecursion IsSoundRow rows → AllByRecursion IsSoundRow (remove_row id rows)
out_all id rows all = all_filtered IsSoundRow (λ (row : Row). not (has_id id row)) rows all

-- ---- the recurring transfer that made a row

named_few : (id found : ℕ) (row : Row) → IsSoundRow row → IsId found → IsId (model_if_named id found row)
named_few id found (transfer_row row) is few = elim (eqb row.id id) as (λ b. IsId (cond b row.model found)) [ true ↦ is.model | false ↦ few ]
named_few id found (model_row row) is few = few
named_few id found (mail_row row) is few = few

among_few : (id found : ℕ) (rows : List Row) → AllByRecursion IsSoundRow rows → IsId found → IsId (fold (model_if_named id) found rows)
among_few id found [] all few = few
among_few id found (row ∷ more) all few = among_few id (model_if_named id found row) more all.1 (named_few id found row all.0 few)

made_sound : (made_by : ℕ) (row : TransferRow) → IsId made_by → IsSoundTransfer row → IsSoundTransfer (with_model made_by row)
made_sound made_by row few is = record {
  id = is.id;
  model = few;
  from = is.from;
  to = is.to;
  amount = is.amount;
  due = is.due;
  stamp = is.stamp;
}

-- ---- what is done to rows

put_rows : (family : Family) (id : ℕ) (row : Row) (rows : List Row) → is_of family row ≡ true → id_of row ≡ Some id → IsSoundRow row
    → AreRows family rows → AreRows family (put id row rows)
put_rows family id row rows kind named here are = record {
  order = put_rising family id row kind named 0 rows (omega arith) are.order;
  sound = put_all id row rows here are.sound;
}

out_rows : (family : Family) (id : ℕ) (rows : List Row) → AreRows family rows → AreRows family (remove_row id rows)
out_rows family id rows are = record { order = out_rising family 0 id rows are.order; sound = out_all id rows are.sound }

last_rising : (family : Family) (bound : ℕ) (rows : List Row) (row : MailRow) → is_of family (mail_row row) ≡ true → IsRising family bound rows
    → IsRising family bound (rows ++ mail_row row ∷ [])
last_rising family bound [] row kind rising = (follows family bound (mail_row row) kind refl, tt)
last_rising family bound (first ∷ more) row kind rising = (rising.0, last_rising family (bound_after bound (id_of first)) more row kind rising.1)

last_rows : (family : Family) (rows : List Row) (row : MailRow) → is_of family (mail_row row) ≡ true → IsSoundMailRow row → AreRows family rows
    → AreRows family (rows ++ mail_row row ∷ [])
last_rows family rows row kind here are = record {
  order = last_rising family 0 rows row kind are.order;
  sound = all_append IsSoundRow rows (mail_row row ∷ []) are.sound (here, tt);
}

if_rows : (family : Family) (b : Bool) (xs ys : List Row) → AreRows family xs → AreRows family ys → AreRows family (cond b xs ys)
if_rows family true xs ys first second = first
if_rows family false xs ys first second = second

changed_rows : (family : Family) (rows : List Row) (change : Change) → IsSoundChange change → AreRows family rows → AreRows family (changed family rows change)
unfolding changed
changed_rows Intra rows (NewTransfer row) is are = put_rows Intra row.id (transfer_row row) rows refl refl is are
changed_rows Intra rows (SetTransfer row) is are =
    put_rows Intra row.id (transfer_row (with_model (model_among row.id rows) row)) rows refl refl
    (made_sound (model_among row.id rows) row (among_few row.id 0 rows are.sound (omega arith)) is) are
changed_rows Intra rows (DropTransfer id) is are = out_rows Intra id rows are
changed_rows Intra rows (NewModel row) is are = are
changed_rows Intra rows (SetModel row pending) is are = are
changed_rows Intra rows (DropModel id pending) is are = are
changed_rows Intra rows (NewMail row) is are = are
changed_rows RecIntra rows (NewTransfer row) is are = are
changed_rows RecIntra rows (SetTransfer row) is are = are
changed_rows RecIntra rows (DropTransfer id) is are = are
changed_rows RecIntra rows (NewModel row) is are = put_rows RecIntra row.id (model_row row) rows refl refl is are
changed_rows RecIntra rows (SetModel row pending) is are = put_rows RecIntra row.id (model_row row) rows refl refl is are
changed_rows RecIntra rows (DropModel id pending) is are = out_rows RecIntra id rows are
changed_rows RecIntra rows (NewMail row) is are = are
changed_rows BankMail rows (NewTransfer row) is are = are
changed_rows BankMail rows (SetTransfer row) is are = are
changed_rows BankMail rows (DropTransfer id) is are = are
changed_rows BankMail rows (NewModel row) is are = are
changed_rows BankMail rows (SetModel row pending) is are = are
changed_rows BankMail rows (DropModel id pending) is are = are
changed_rows BankMail rows (NewMail row) is are =
    if_rows BankMail (is_some row.about) (rows ++ mail_row row ∷ []) rows (last_rows BankMail rows row refl is are) are
changed_rows Mail rows (NewTransfer row) is are = are
changed_rows Mail rows (SetTransfer row) is are = are
changed_rows Mail rows (DropTransfer id) is are = are
changed_rows Mail rows (NewModel row) is are = are
changed_rows Mail rows (SetModel row pending) is are = are
changed_rows Mail rows (DropModel id pending) is are = are
changed_rows Mail rows (NewMail row) is are =
    if_rows Mail (is_some row.about) rows (rows ++ mail_row row ∷ []) are (last_rows Mail rows row refl is are)

all_changed : (family : Family) (rows : List Row) (changes : List Change) → AllByRecursion IsSoundChange changes → AreRows family rows
    → AreRows family (fold (changed family) rows changes)
all_changed family rows [] all are = are
all_changed family rows (change ∷ more) all are =
    all_changed family (changed family rows change) more all.1 (changed_rows family rows change all.0 are)

-- ---- what a reply brings

done_sound : (reply : DeedReply) → IsSoundDeedReply reply → AllByRecursion IsSoundChange (change_done reply)
done_sound reply is = elim (eqb reply.code 0) as (λ b. AllByRecursion IsSoundChange (cond b (option_to_list reply.change) [])) [
  | true ↦ listed reply.change is
  | false ↦ tt
]
  where
    listed : (change : Option Change) → IfSome change IsSoundChange → AllByRecursion IsSoundChange (option_to_list change)
    listed None none = tt
    listed (Some change) one = (one, tt)

pub applied_rows : (family : Family) (rows : List Row) (replies : List DeedReply) → AllByRecursion IsSoundDeedReply replies → AreRows family rows
    → AreRows family (applied family rows replies)
applied_rows family rows replies all are =
    all_changed family rows (flat_map change_done replies) (all_flat IsSoundDeedReply IsSoundChange change_done replies done_sound all) are
