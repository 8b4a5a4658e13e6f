-- Sound deeds read back as they were written.
use Rattle.std.proofs.Common.{◌≡◌, ℕ, ◌≤◌, false, not, ◌&&◌, filter, List, [], length, codes, Option, None, Some, refl, sym, ap, arith}
use Rattle.std.proofs.lemmas.Fmt.{length-decimal-le}
use Rattle.std.specs.Fmt.{decimal}
use Rattle.std.specs.Prelude.{unwrap_or}
use Rattle.std.specs.Str.{bytes_eq}
use Rattle.ofx_types.specs.Calendar.{midnight}
use Rattle.ofx_types.specs.FormWords.{has_name, is_absent, named, IsOnly, IsOnlyOf, IsIdIn}
use Rattle.ofx_types.specs.Nodes.{Item}
use Rattle.ofx_types.specs.TagNames.{is_one_of}
use Rattle.ofx_types.specs.TransferForm.{IsMaybeDue, IsXferInfo, HasXferInfo}
use Rattle.ofx_types.specs.RecurringForm.{freq_word, IsRecur}
use Rattle.ofx_types.specs.DeedForm.{family_of, requests_in, IsDeedRequest}
use Rattle.ofx_types.specs.declared.account.AcctName.{AcctName}
use Rattle.ofx_types.specs.declared.number.Cents.{Cents}
use Rattle.ofx_types.specs.declared.number.Day.{Day}
use Rattle.ofx_types.specs.declared.number.Moment.{Moment}
use Rattle.ofx_types.specs.declared.recurring.Freq.{Freq}
use Rattle.ofx_types.specs.declared.recurring.Recur.{Recur}
use Rattle.ofx_types.specs.declared.transfer.XferInfo.{XferInfo}
use Rattle.ofx_types.specs.declared.transfer.Deed.{Deed}
use Rattle.ofx_types.specs.declared.transfer.Deed.TheVariants.{Transfer, ModifyTransfer, CancelTransfer, Model, ModifyModel, CancelModel}
use Rattle.ofx_types.specs.declared.transfer.Family.{Family}
use Rattle.ofx_types.specs.declared.transfer.Family.TheVariants.{Intra, RecIntra}
use Rattle.ofx_types.specs.declared.transfer.Deed.TheVariants as deeds
use Rattle.ofx_types.proofs.Days.{day_of-midnight, IsMoment-midnight}
use Rattle.ofx_values.proofs.PrintedLemmas.{number_printed}
use Rattle.ofx_tree.specs.PrintedForm.{IsElementName}
use Rattle.ofx_tree.specs.Documents.{leaf_item, branch_item, items_of}
use Rattle.ofx_tree.proofs.FormLaws.{text_in_found, amount_in_found, moment_in_found, number_in_found}
use Rattle.ofx_tree.proofs.DocumentItems.{children_of_branch, named_of_branch, value_of_leaf}
use Rattle.ofx_tree.proofs.Leaves.{text_of_leaf, amount_of_leaf, moment_of_leaf, number_of_leaf, is_flag_of_leaf}
use Rattle.msg_parts.specs.DeedDocuments.{due_document, info_documents, recur_documents, each_documents, asked_name, request_documents, deed_documents}
use Rattle.msg_parts.proofs.PartLaws.{account_found}
use Rattle.msg_parts.proofs.ReadBack.{account_back}
use Rattle.msg_parts.proofs.Transactions.{only_in_prefix, deed_item, own_trnuid_holds}
use Rattle.msg_parts.proofs.Lawful as lawful
use Rattle.msg_deed.specs.DeedsReadBack.{DeedsReadBack}
use Rattle.msg_deed.specs.SoundDeeds.{IsId, IsSoundInfo, IsSoundRecur, IsSoundDeed}
use Rattle.msg_deed.specs.DeedSteps.{info_with}
use Rattle.msg_deed.proofs.Deeds.{deed_again}
use Rattle.msg_deed.proofs.Lawful.{id_leaf, freq_leaf, info_lawful, recur_lawful, each_lawful, request_lawful, deed_lawful}

-- What is printed of an id is read as that id.
pub is_id_of_leaf : (name : List ℕ) (id offset index : ℕ) (parent : Item) → IsElementName name → IsId id →
    IsOnly name parent (leaf_item offset index name (decimal id)) → IsIdIn name parent id
is_id_of_leaf name id offset index parent named h only =
    let short : length (decimal id) ≤ 64 = omega (arith, length-decimal-le 20 id (omega arith) (omega arith) (omega (arith, h))) in
    record {
      text = decimal id;
      has_text = text_in_found name 64 parent (decimal id) (text_of_leaf name (decimal id) 64 offset index parent (id_leaf name id named h) short only);
      is_id = sym (ap (λ (read : Option ℕ). unwrap_or read 0) (number_printed 10 id (omega arith) (omega (arith, h)) (omega (arith, h))));
    }

-- ---- what is said of a transfer

other_due : (name : List ℕ) → bytes_eq (codes "DTDUE") name ≡ false → (due : Option Day) (offset index : ℕ) →
    filter (λ item. has_name name item) (items_of offset index (due_document due)) ≡ []
other_due name other None offset index = refl
other_due name other (Some day) offset index = rw other refl

due_holds : (offset index : ℕ) (from to : AcctName) (amount : Cents) (due : Option Day) → IsSoundInfo (info_with from to amount due) →
    IsMaybeDue (branch_item offset index (codes "XFERINFO") (info_documents (info_with from to amount due))) due
due_holds offset index from to amount None i =
    let info = info_with from to amount None in
    named_of_branch offset index 1 (codes "XFERINFO") (codes "DTDUE") (info_documents info) (info_lawful 1 info (omega arith) i)
due_holds offset index from to amount (Some day) i =
    let info = info_with from to amount (Some day) in
    let item = branch_item offset index (codes "XFERINFO") (info_documents info) in
    let only = named_of_branch offset index 1 (codes "XFERINFO") (codes "DTDUE") (info_documents info) (info_lawful 1 info (omega arith) i) in
    let at : Moment = record { 0 = midnight day.0 } in
    (at, moment_in_found (codes "DTDUE") item at (moment_of_leaf (codes "DTDUE") at _ _ item (lawful.named (codes "DTDUE") refl refl) (IsMoment-midnight day.0 i.due) only), day_of-midnight day.0)

pub info_holds : (offset index : ℕ) (info : XferInfo) → IsSoundInfo info →
    IsXferInfo (branch_item offset index (codes "XFERINFO") (info_documents info)) info
info_holds offset index info i =
    let inner = info_documents info in
    let item = branch_item offset index (codes "XFERINFO") inner in
    let sound = info_lawful 1 info (omega arith) i in
    let from = only_in_prefix (codes "BANKACCTFROM") item _ (due_document info.due) _ _ (other_due (codes "BANKACCTFROM") refl info.due _ _) (named_of_branch offset index 1 (codes "XFERINFO") (codes "BANKACCTFROM") inner sound) in
    let to = only_in_prefix (codes "BANKACCTTO") item _ (due_document info.due) _ _ (other_due (codes "BANKACCTTO") refl info.due _ _) (named_of_branch offset index 1 (codes "XFERINFO") (codes "BANKACCTTO") inner sound) in
    let amount = only_in_prefix (codes "TRNAMT") item _ (due_document info.due) _ _ (other_due (codes "TRNAMT") refl info.due _ _) (named_of_branch offset index 1 (codes "XFERINFO") (codes "TRNAMT") inner sound) in
    record {
      bankacctfrom = _;
      has_from = from;
      is_from = account_found _ info.from (account_back _ _ (codes "BANKACCTFROM") info.from i.from);
      bankacctto = _;
      has_to = to;
      is_to = account_found _ info.to (account_back _ _ (codes "BANKACCTTO") info.to i.to);
      amount = amount_in_found (codes "TRNAMT") item info.amount (amount_of_leaf (codes "TRNAMT") info.amount _ _ item (lawful.named (codes "TRNAMT") refl refl) i.amount amount);
      due = due_holds offset index info.from info.to info.amount info.due (record { from = i.from; to = i.to; amount = i.amount; due = i.due });
    }

-- ---- how a transfer recurs

abbrev recur_with : Option ℕ → Freq → Recur
recur_with count freq = record { count = count; freq = freq }

recur_is : (offset index : ℕ) (count : Option ℕ) (freq : Freq) → IsSoundRecur (recur_with count freq) →
    IsRecur (branch_item offset index (codes "RECURRINST") (recur_documents (recur_with count freq))) (recur_with count freq)
recur_is offset index None freq r =
    let inner = recur_documents (recur_with None freq) in
    let sound = recur_lawful 0 (recur_with None freq) r in
    record {
      count = named_of_branch offset index 0 (codes "RECURRINST") (codes "NINSTS") inner sound;
      word = _;
      has_word = named_of_branch offset index 0 (codes "RECURRINST") (codes "FREQ") inner sound;
      is_word = (value_of_leaf 0 0 (codes "FREQ") (freq_word freq) (freq_leaf freq)).0;
    }
recur_is offset index (Some count) freq r =
    let inner = recur_documents (recur_with (Some count) freq) in
    let sound = recur_lawful 0 (recur_with (Some count) freq) r in
    let item = branch_item offset index (codes "RECURRINST") inner in
    let small : count ≤ 999 = r.1 in
    let only = named_of_branch offset index 0 (codes "RECURRINST") (codes "NINSTS") inner sound in
    record {
      count = (number_in_found (codes "NINSTS") 3 item count (number_of_leaf (codes "NINSTS") 3 count _ _ item (lawful.named (codes "NINSTS") refl refl) (omega arith) (omega arith) (omega arith) only), r.0);
      word = _;
      has_word = named_of_branch offset index 0 (codes "RECURRINST") (codes "FREQ") inner sound;
      is_word = (value_of_leaf 0 0 (codes "FREQ") (freq_word freq) (freq_leaf freq)).0;
    }

pub recur_holds : (offset index : ℕ) (recur : Recur) → IsSoundRecur recur →
    IsRecur (branch_item offset index (codes "RECURRINST") (recur_documents recur)) recur
recur_holds offset index recur r = recur_is offset index recur.count recur.freq r

each_holds : (offset index : ℕ) (info : XferInfo) → IsSoundInfo info → HasXferInfo (branch_item offset index (codes "INTRARQ") (each_documents info)) info
each_holds offset index info i =
    (_, named_of_branch offset index 2 (codes "INTRARQ") (codes "XFERINFO") (each_documents info) (each_lawful 2 info (omega arith) i), info_holds _ _ info i)

-- ---- the six requests

request_holds : (offset index : ℕ) (deed : Deed) → IsSoundDeed deed → IsDeedRequest (branch_item offset index (asked_name deed) (request_documents deed)) deed
request_holds offset index (Transfer info) d = (refl, each_holds offset index info d)
request_holds offset index (ModifyTransfer id info) d =
    let inner = request_documents (ModifyTransfer id info) in
    let sound = request_lawful 3 (ModifyTransfer id info) (omega arith) d in
    let item = branch_item offset index (codes "INTRAMODRQ") inner in (
      refl,
      is_id_of_leaf (codes "SRVRTID") id _ _ item (lawful.named (codes "SRVRTID") refl refl) d.0 (named_of_branch offset index 3 (codes "INTRAMODRQ") (codes "SRVRTID") inner sound),
      (_, named_of_branch offset index 3 (codes "INTRAMODRQ") (codes "XFERINFO") inner sound, info_holds _ _ info d.1),
    )
request_holds offset index (CancelTransfer id) d =
    let inner = request_documents (CancelTransfer id) in
    let sound = request_lawful 3 (CancelTransfer id) (omega arith) d in
    let item = branch_item offset index (codes "INTRACANRQ") inner in
    (refl, is_id_of_leaf (codes "SRVRTID") id _ _ item (lawful.named (codes "SRVRTID") refl refl) d (named_of_branch offset index 3 (codes "INTRACANRQ") (codes "SRVRTID") inner sound))
request_holds offset index (Model recur info) d =
    let inner = request_documents (Model recur info) in
    let sound = request_lawful 3 (Model recur info) (omega arith) d in (
      refl,
      (_, named_of_branch offset index 3 (codes "RECINTRARQ") (codes "RECURRINST") inner sound, recur_holds _ _ recur d.0),
      (_, named_of_branch offset index 3 (codes "RECINTRARQ") (codes "INTRARQ") inner sound, each_holds _ _ info d.1),
    )
request_holds offset index (ModifyModel id recur info pending) d =
    let inner = request_documents (ModifyModel id recur info pending) in
    let sound = request_lawful 3 (ModifyModel id recur info pending) (omega arith) d in
    let item = branch_item offset index (codes "RECINTRAMODRQ") inner in (
      refl,
      is_id_of_leaf (codes "RECSRVRTID") id _ _ item (lawful.named (codes "RECSRVRTID") refl refl) d.0 (named_of_branch offset index 3 (codes "RECINTRAMODRQ") (codes "RECSRVRTID") inner sound),
      (_, named_of_branch offset index 3 (codes "RECINTRAMODRQ") (codes "RECURRINST") inner sound, recur_holds _ _ recur d.1),
      (_, named_of_branch offset index 3 (codes "RECINTRAMODRQ") (codes "INTRARQ") inner sound, each_holds _ _ info d.2),
      is_flag_of_leaf (codes "MODPENDING") pending _ _ item (lawful.named (codes "MODPENDING") refl refl) (named_of_branch offset index 3 (codes "RECINTRAMODRQ") (codes "MODPENDING") inner sound),
    )
request_holds offset index (CancelModel id pending) d =
    let inner = request_documents (CancelModel id pending) in
    let sound = request_lawful 3 (CancelModel id pending) (omega arith) d in
    let item = branch_item offset index (codes "RECINTRACANRQ") inner in (
      refl,
      is_id_of_leaf (codes "RECSRVRTID") id _ _ item (lawful.named (codes "RECSRVRTID") refl refl) d (named_of_branch offset index 3 (codes "RECINTRACANRQ") (codes "RECSRVRTID") inner sound),
      is_flag_of_leaf (codes "CANPENDING") pending _ _ item (lawful.named (codes "CANPENDING") refl refl) (named_of_branch offset index 3 (codes "RECINTRACANRQ") (codes "CANPENDING") inner sound),
    )
request_holds offset index (deeds.BankMail account mail) d = absurd d
request_holds offset index (deeds.Mail mail) d = absurd d

-- ---- the transaction

-- those with the name of a request
abbrev requests_among : Family → List Item → List Item
requests_among family items = filter (λ child. is_one_of (requests_in family) child.node.name && not (is_absent child.node)) items

only_request : (offset index : ℕ) (trnuid : List ℕ) (deed : Deed) → IsSoundDeed deed →
    (request : Item) × IsOnlyOf (requests_in (family_of deed)) (deed_item offset index trnuid deed) request × IsDeedRequest request deed
only_request offset index trnuid (Transfer info) d =
    (_, ap (requests_among Intra) (children_of_branch offset index (codes "INTRATRNRQ") (deed_documents trnuid (Transfer info))), request_holds _ _ (Transfer info) d)
only_request offset index trnuid (ModifyTransfer id info) d =
    (_, ap (requests_among Intra) (children_of_branch offset index (codes "INTRATRNRQ") (deed_documents trnuid (ModifyTransfer id info))), request_holds _ _ (ModifyTransfer id info) d)
only_request offset index trnuid (CancelTransfer id) d =
    (_, ap (requests_among Intra) (children_of_branch offset index (codes "INTRATRNRQ") (deed_documents trnuid (CancelTransfer id))), request_holds _ _ (CancelTransfer id) d)
only_request offset index trnuid (Model recur info) d =
    (_, ap (requests_among RecIntra) (children_of_branch offset index (codes "RECINTRATRNRQ") (deed_documents trnuid (Model recur info))), request_holds _ _ (Model recur info) d)
only_request offset index trnuid (ModifyModel id recur info pending) d =
    (_, ap (requests_among RecIntra) (children_of_branch offset index (codes "RECINTRATRNRQ") (deed_documents trnuid (ModifyModel id recur info pending))), request_holds _ _ (ModifyModel id recur info pending) d)
only_request offset index trnuid (CancelModel id pending) d =
    (_, ap (requests_among RecIntra) (children_of_branch offset index (codes "RECINTRATRNRQ") (deed_documents trnuid (CancelModel id pending))), request_holds _ _ (CancelModel id pending) d)
only_request offset index trnuid (deeds.BankMail account mail) d = absurd d
only_request offset index trnuid (deeds.Mail mail) d = absurd d

pub deeds_back : DeedsReadBack
deeds_back offset index trnuid deed d =
    let item = deed_item offset index trnuid deed in
    let request = only_request offset index trnuid deed d.is_deed in
    deed_again item trnuid deed (record {
      is_named = refl;
      has_trnuid = own_trnuid_holds offset index 4 trnuid deed d.is_uid d.is_own (deed_lawful 4 trnuid deed (omega arith) d);
      request = request.0;
      has_request = request.1;
      is_request = request.2;
    })
