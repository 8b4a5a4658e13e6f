-- Sound answers to deeds read back as they were written, a changed transfer with model 0.
use Rattle.std.proofs.Common.{◌≡◌, ◌≢◌, ℕ, inl, inr, Bool, true, false, not, ◌&&◌, nat_eq, filter, List, codes, Option, None, Some, ◌⊎◌, refl, ap, subst, arith}
use Rattle.std.proofs.lemmas.Grind.{common_steps}
use Rattle.std.specs.Fmt.{decimal}
use Rattle.std.specs.Option.{option_map}
use Rattle.ofx_types.specs.FormWords.{is_absent, IsOnly, IsOnlyOf}
use Rattle.ofx_types.specs.Nodes.{Item}
use Rattle.ofx_types.specs.TagNames.{is_one_of}
use Rattle.ofx_types.specs.TransferForm.{info_of, code_word, IsProcessing, IsRow}
use Rattle.ofx_types.specs.RecurringForm.{first_info, IsModelRow}
use Rattle.ofx_types.specs.DeedForm.{reply_name, replies_in, IsChange, IsChangeByCode, IsDeedReplyNamed}
use Rattle.ofx_types.specs.Wire.{without_model, wire_change, wire}
use Rattle.ofx_types.specs.declared.number.Moment.{Moment}
use Rattle.ofx_types.specs.declared.recurring.ModelRow.{ModelRow}
use Rattle.ofx_types.specs.declared.transfer.XferCode.{XferCode}
use Rattle.ofx_types.specs.declared.transfer.XferCode.TheVariants.{Cancelled}
use Rattle.ofx_types.specs.declared.transfer.TransferRow.{TransferRow}
use Rattle.ofx_types.specs.declared.transfer.Change.{Change}
use Rattle.ofx_types.specs.declared.transfer.Change.TheVariants.{NewTransfer, SetTransfer, DropTransfer, NewModel, SetModel, DropModel, NewMail}
use Rattle.ofx_types.specs.declared.transfer.Family.{Family}
use Rattle.ofx_types.specs.declared.transfer.Family.TheVariants.{Intra, RecIntra, BankMail, Mail}
use Rattle.ofx_tree.specs.Documents.{leaf_item, branch_item}
use Rattle.ofx_tree.proofs.FormLaws.{moment_in_found}
use Rattle.ofx_tree.proofs.DocumentItems.{children_of_branch, named_of_branch, value_of_leaf}
use Rattle.ofx_tree.proofs.Leaves.{moment_of_leaf, is_flag_of_leaf}
use Rattle.msg_parts.specs.DeedDocuments.{info_documents, recur_documents, processing_documents, set_documents, first_documents, change_name, change_documents, deed_reply_documents}
use Rattle.msg_parts.specs.SoundParts.{IsSoundMoment, family_of_change}
use Rattle.msg_parts.proofs.Lawful.{named}
use Rattle.msg_parts.proofs.PrintedDeeds.{new_with}
use Rattle.msg_parts.proofs.Transactions.{reply_item, trnuid_holds, status_holds}
use Rattle.msg_deed.specs.DeedsReadBack.{DeedRepliesReadBack}
use Rattle.msg_deed.specs.SoundDeeds.{IsId, IsSoundRow, IsSoundModelRow, IsSoundChange, IsSoundChangeByCode}
use Rattle.msg_deed.proofs.DeedReplies.{reply_again}
use Rattle.msg_deed.proofs.Lawful.{code_leaf, processing_lawful, new_lawful, set_lawful, first_lawful, change_lawful, deed_reply_lawful}
use Rattle.msg_deed.proofs.DeedsBack.{is_id_of_leaf, info_holds, recur_holds}

-- ---- how far a transfer is

processing_holds : (offset index : ℕ) (parent : Item) (code : XferCode) (stamp : Moment) → code ≢ Cancelled → IsSoundMoment stamp →
    IsOnly (codes "XFERPRCSTS") parent (branch_item offset index (codes "XFERPRCSTS") (processing_documents code stamp)) → IsProcessing parent code stamp
processing_holds offset index parent code stamp reported m only =
    let inner = processing_documents code stamp in
    let lawful = processing_lawful 0 code stamp m in
    let item = branch_item offset index (codes "XFERPRCSTS") inner in
    record {
      xferprcsts = item;
      has_xferprcsts = only;
      word = _;
      has_word = named_of_branch offset index 0 (codes "XFERPRCSTS") (codes "XFERPRCCODE") inner lawful;
      is_word = (value_of_leaf 0 0 (codes "XFERPRCCODE") (code_word code) (code_leaf code)).0;
      is_reported = reported;
      has_stamp = moment_in_found (codes "DTXFERPRC") item stamp (moment_of_leaf (codes "DTXFERPRC") stamp _ _ item (named (codes "DTXFERPRC") refl refl) m (named_of_branch offset index 0 (codes "XFERPRCSTS") (codes "DTXFERPRC") inner lawful));
    }

-- ---- rows

-- what INTRARS and INTRAMODRS share
row_holds : (first one second two third three : ℕ) (reply : Item) (row : TransferRow) → IsSoundRow row
    → IsOnly (codes "SRVRTID") reply (leaf_item first one (codes "SRVRTID") (decimal row.id))
    → IsOnly (codes "XFERINFO") reply (branch_item second two (codes "XFERINFO") (info_documents (info_of row)))
    → IsOnly (codes "XFERPRCSTS") reply (branch_item third three (codes "XFERPRCSTS") (processing_documents row.code row.stamp))
    → IsRow reply row
row_holds first one second two third three reply row r id info processing = record {
  id = is_id_of_leaf (codes "SRVRTID") row.id first one reply (named (codes "SRVRTID") refl refl) r.id id;
  info = (_, info, info_holds second two (info_of row) r.info);
  processing = processing_holds third three reply row.code row.stamp r.reported r.stamp processing;
}

new_holds : (offset index : ℕ) (is_none : Bool) (row : TransferRow) → nat_eq row.model 0 ≡ is_none → IsSoundRow row → IsId row.model →
    IsChange (branch_item offset index (codes "INTRARS") (new_with is_none row)) (NewTransfer row)
new_holds offset index true row none r m =
    let inner = new_with true row in
    let lawful = new_lawful 2 true row (omega arith) r m in
    let item = branch_item offset index (codes "INTRARS") inner in
    let holds = row_holds _ _ _ _ _ _ item row r
    (named_of_branch offset index 2 (codes "INTRARS") (codes "SRVRTID") inner lawful)
    (named_of_branch offset index 2 (codes "INTRARS") (codes "XFERINFO") inner lawful)
    (named_of_branch offset index 2 (codes "INTRARS") (codes "XFERPRCSTS") inner lawful) in
    let zero : row.model ≡ 0 = grind (arith, common_steps, none) in
    (refl, holds, inl (named_of_branch offset index 2 (codes "INTRARS") (codes "RECSRVRTID") inner lawful, zero))
new_holds offset index false row some r m =
    let inner = new_with false row in
    let lawful = new_lawful 2 false row (omega arith) r m in
    let item = branch_item offset index (codes "INTRARS") inner in
    let holds = row_holds _ _ _ _ _ _ item row r
    (named_of_branch offset index 2 (codes "INTRARS") (codes "SRVRTID") inner lawful)
    (named_of_branch offset index 2 (codes "INTRARS") (codes "XFERINFO") inner lawful)
    (named_of_branch offset index 2 (codes "INTRARS") (codes "XFERPRCSTS") inner lawful) in
    (refl, holds, inr (is_id_of_leaf (codes "RECSRVRTID") row.model _ _ item (named (codes "RECSRVRTID") refl refl) m (named_of_branch offset index 2 (codes "INTRARS") (codes "RECSRVRTID") inner lawful)))

set_holds : (offset index : ℕ) (row : TransferRow) → IsSoundRow row →
    IsChange (branch_item offset index (codes "INTRAMODRS") (set_documents row)) (SetTransfer (without_model row))
set_holds offset index row r =
    let inner = set_documents row in
    let lawful = set_lawful 2 row (omega arith) r in
    let item = branch_item offset index (codes "INTRAMODRS") inner in
    let holds = row_holds _ _ _ _ _ _ item row r
    (named_of_branch offset index 2 (codes "INTRAMODRS") (codes "SRVRTID") inner lawful)
    (named_of_branch offset index 2 (codes "INTRAMODRS") (codes "XFERINFO") inner lawful)
    (named_of_branch offset index 2 (codes "INTRAMODRS") (codes "XFERPRCSTS") inner lawful) in
    (refl, record { id = holds.id; info = holds.info; processing = holds.processing }, refl)

-- ---- rows of recurring transfers

model_holds : (first one second two third three : ℕ) (reply : Item) (row : ModelRow) → IsSoundModelRow row
    → IsOnly (codes "RECSRVRTID") reply (leaf_item first one (codes "RECSRVRTID") (decimal row.id))
    → IsOnly (codes "RECURRINST") reply (branch_item second two (codes "RECURRINST") (recur_documents row.recur))
    → IsOnly (codes "INTRARS") reply (branch_item third three (codes "INTRARS") (first_documents row))
    → IsModelRow reply row
model_holds first one second two third three reply row r id recur intrars =
    let inner = first_documents row in
    let lawful = first_lawful 2 row (omega arith) r in
    let item = branch_item third three (codes "INTRARS") inner in
    record {
      id = is_id_of_leaf (codes "RECSRVRTID") row.id first one reply (named (codes "RECSRVRTID") refl refl) r.id id;
      recur = (_, recur, recur_holds second two row.recur r.recur);
      is_first = record {
        intrars = item;
        has_intrars = intrars;
        id = row.id;
        has_id = is_id_of_leaf (codes "SRVRTID") row.id _ _ item (named (codes "SRVRTID") refl refl) r.id (named_of_branch third three 2 (codes "INTRARS") (codes "SRVRTID") inner lawful);
        has_info = (_, named_of_branch third three 2 (codes "INTRARS") (codes "XFERINFO") inner lawful, info_holds _ _ (first_info row) r.info);
        model = row.id;
        has_model = inr (is_id_of_leaf (codes "RECSRVRTID") row.id _ _ item (named (codes "RECSRVRTID") refl refl) r.id (named_of_branch third three 2 (codes "INTRARS") (codes "RECSRVRTID") inner lawful));
      };
    }

-- ---- changes

change_holds : (offset index : ℕ) (change : Change) → IsSoundChange change → IsChange (branch_item offset index (change_name change) (change_documents change)) (wire_change change)
change_holds offset index (NewTransfer row) c = new_holds offset index (nat_eq row.model 0) row refl c.0 c.1
change_holds offset index (SetTransfer row) c = set_holds offset index row c
change_holds offset index (DropTransfer id) c =
    let inner = change_documents (DropTransfer id) in
    let lawful = change_lawful 3 (DropTransfer id) (omega arith) c in
    let item = branch_item offset index (codes "INTRACANRS") inner in
    (refl, is_id_of_leaf (codes "SRVRTID") id _ _ item (named (codes "SRVRTID") refl refl) c (named_of_branch offset index 3 (codes "INTRACANRS") (codes "SRVRTID") inner lawful))
change_holds offset index (NewModel row) c =
    let inner = change_documents (NewModel row) in
    let lawful = change_lawful 3 (NewModel row) (omega arith) c in
    let item = branch_item offset index (codes "RECINTRARS") inner in (
      refl,
      model_holds _ _ _ _ _ _ item row c
          (named_of_branch offset index 3 (codes "RECINTRARS") (codes "RECSRVRTID") inner lawful)
          (named_of_branch offset index 3 (codes "RECINTRARS") (codes "RECURRINST") inner lawful)
          (named_of_branch offset index 3 (codes "RECINTRARS") (codes "INTRARS") inner lawful),
    )
change_holds offset index (SetModel row pending) c =
    let inner = change_documents (SetModel row pending) in
    let lawful = change_lawful 3 (SetModel row pending) (omega arith) c in
    let item = branch_item offset index (codes "RECINTRAMODRS") inner in (
      refl,
      model_holds _ _ _ _ _ _ item row c
          (named_of_branch offset index 3 (codes "RECINTRAMODRS") (codes "RECSRVRTID") inner lawful)
          (named_of_branch offset index 3 (codes "RECINTRAMODRS") (codes "RECURRINST") inner lawful)
          (named_of_branch offset index 3 (codes "RECINTRAMODRS") (codes "INTRARS") inner lawful),
      is_flag_of_leaf (codes "MODPENDING") pending _ _ item (named (codes "MODPENDING") refl refl) (named_of_branch offset index 3 (codes "RECINTRAMODRS") (codes "MODPENDING") inner lawful),
    )
change_holds offset index (DropModel id pending) c =
    let inner = change_documents (DropModel id pending) in
    let lawful = change_lawful 3 (DropModel id pending) (omega arith) c in
    let item = branch_item offset index (codes "RECINTRACANRS") inner in (
      refl,
      is_id_of_leaf (codes "RECSRVRTID") id _ _ item (named (codes "RECSRVRTID") refl refl) c (named_of_branch offset index 3 (codes "RECINTRACANRS") (codes "RECSRVRTID") inner lawful),
      is_flag_of_leaf (codes "CANPENDING") pending _ _ item (named (codes "CANPENDING") refl refl) (named_of_branch offset index 3 (codes "RECINTRACANRS") (codes "CANPENDING") inner lawful),
    )
change_holds offset index (NewMail row) c = absurd c

-- ---- the transaction

-- those with the name of a reply
abbrev replies_among : Family → List Item → List Item
replies_among family items = filter (λ child. is_one_of (replies_in family) child.node.name && not (is_absent child.node)) items

-- what is reported of a change in the transaction of a family
abbrev Told : ℕ → ℕ → List ℕ → ℕ → Change → Family → Type 0
Told offset index trnuid code change family =
    (reply : Item) × IsOnlyOf (replies_in family) (reply_item offset index trnuid code family (Some change)) reply × IsChange reply (wire_change change)

only_reply : (offset index : ℕ) (trnuid : List ℕ) (code : ℕ) (change : Change) → IsSoundChange change → Told offset index trnuid code change (family_of_change change)
only_reply offset index trnuid code (NewTransfer row) c =
    (_, ap (replies_among Intra) (children_of_branch offset index (codes "INTRATRNRS") (deed_reply_documents trnuid code (Some (NewTransfer row)))), change_holds _ _ (NewTransfer row) c)
only_reply offset index trnuid code (SetTransfer row) c =
    (_, ap (replies_among Intra) (children_of_branch offset index (codes "INTRATRNRS") (deed_reply_documents trnuid code (Some (SetTransfer row)))), change_holds _ _ (SetTransfer row) c)
only_reply offset index trnuid code (DropTransfer id) c =
    (_, ap (replies_among Intra) (children_of_branch offset index (codes "INTRATRNRS") (deed_reply_documents trnuid code (Some (DropTransfer id)))), change_holds _ _ (DropTransfer id) c)
only_reply offset index trnuid code (NewModel row) c =
    (_, ap (replies_among RecIntra) (children_of_branch offset index (codes "RECINTRATRNRS") (deed_reply_documents trnuid code (Some (NewModel row)))), change_holds _ _ (NewModel row) c)
only_reply offset index trnuid code (SetModel row pending) c =
    (_, ap (replies_among RecIntra) (children_of_branch offset index (codes "RECINTRATRNRS") (deed_reply_documents trnuid code (Some (SetModel row pending)))), change_holds _ _ (SetModel row pending) c)
only_reply offset index trnuid code (DropModel id pending) c =
    (_, ap (replies_among RecIntra) (children_of_branch offset index (codes "RECINTRATRNRS") (deed_reply_documents trnuid code (Some (DropModel id pending)))), change_holds _ _ (DropModel id pending) c)
only_reply offset index trnuid code (NewMail row) c = absurd c

change_by_code_holds : (offset index : ℕ) (trnuid : List ℕ) (code : ℕ) (family : Family) (change : Option Change) → IsSoundChangeByCode code family change →
    IsChangeByCode code family (reply_item offset index trnuid code family change) (option_map wire_change change)
change_by_code_holds offset index trnuid code family None c = c
change_by_code_holds offset index trnuid code family (Some change) c =
    (c.0, subst (Told offset index trnuid code change) c.1 (only_reply offset index trnuid code change c.2))

is_named : (family : Family) (transaction : Item) → (family ≡ Intra) ⊎ (family ≡ RecIntra) → transaction.node.name ≡ reply_name family → IsDeedReplyNamed transaction family
is_named Intra transaction is name = name
is_named RecIntra transaction is name = name
is_named BankMail transaction (inl h) name = cc
is_named BankMail transaction (inr h) name = cc
is_named Mail transaction (inl h) name = cc
is_named Mail transaction (inr h) name = cc

pub deed_replies_back : DeedRepliesReadBack
deed_replies_back offset index reply r =
    let item = reply_item offset index reply.trnuid reply.code reply.family reply.change in
    let lawful = deed_reply_lawful 4 reply (omega arith) r in
    reply_again item (wire reply) (record {
      is_named = is_named reply.family item r.is_family refl;
      has_trnuid = trnuid_holds offset index 4 reply r.is_uid lawful;
      has_status = status_holds offset index 4 reply r.is_code lawful;
      is_change = change_by_code_holds offset index reply.trnuid reply.code reply.family reply.change r.is_change;
    })
