-- The printed form of deeds and of the answers to them.
use Rattle.std.specs.Prelude.{ℕ, Bool, List, [], ◌++◌, codes, Option, None, Some}
use Rattle.std.specs.Fmt.{decimal}
use Rattle.ofx_types.specs.Sheet.{element, aggregate}
use Rattle.ofx_types.specs.FormWords.{flag_word}
use Rattle.ofx_types.specs.CommonText.{status}
use Rattle.ofx_types.specs.TransferForm.{info_of}
use Rattle.ofx_types.specs.RecurringForm.{freq_word, first_info}
use Rattle.ofx_types.specs.DeedForm.{family_of, request_name, reply_name}
use Rattle.ofx_types.specs.PrintedMail.{bank_mail_text, plain_mail_text, mail_row_text}
use Rattle.ofx_types.specs.TransferText.{info_text, id_text, processing_text, model_text}
use Rattle.ofx_types.specs.declared.recurring.Recur.{Recur}
use Rattle.ofx_types.specs.declared.recurring.ModelRow.{ModelRow}
use Rattle.ofx_types.specs.declared.transfer.XferInfo.{XferInfo}
use Rattle.ofx_types.specs.declared.transfer.Deed.{Deed}
use Rattle.ofx_types.specs.declared.transfer.Deed.TheVariants.{Transfer, ModifyTransfer, CancelTransfer, Model, ModifyModel, CancelModel, BankMail, Mail}
use Rattle.ofx_types.specs.declared.transfer.Change.{Change}
use Rattle.ofx_types.specs.declared.transfer.Change.TheVariants.{NewTransfer, SetTransfer, DropTransfer, NewModel, SetModel, DropModel, NewMail}
use Rattle.ofx_types.specs.declared.transfer.DeedReply.{DeedReply}

-- ---- how a transfer recurs

-- NINSTS is written where there is a count.
unfoldable pub count_text : Option ℕ → List ℕ
count_text None = []
count_text (Some count) = element (codes "NINSTS") (decimal count)

unfoldable pub recur_text : Recur → List ℕ
recur_text recur = aggregate (codes "RECURRINST") (count_text recur.count ++ element (codes "FREQ") (freq_word recur.freq))

-- a flag by its letter
abbrev pub flag_text : List ℕ → Bool → List ℕ
flag_text name flag = element name (flag_word flag)

-- ---- requests

-- what each transfer of a recurring one is like
unfoldable pub each_text : XferInfo → List ℕ
each_text info = aggregate (codes "INTRARQ") (info_text info)

unfoldable pub request_text : Deed → List ℕ
request_text (Transfer info) = aggregate (codes "INTRARQ") (info_text info)
request_text (ModifyTransfer id info) = aggregate (codes "INTRAMODRQ") (id_text (codes "SRVRTID") id ++ info_text info)
request_text (CancelTransfer id) = aggregate (codes "INTRACANRQ") (id_text (codes "SRVRTID") id)
request_text (Model recur info) = aggregate (codes "RECINTRARQ") (recur_text recur ++ each_text info)
request_text (ModifyModel id recur info pending) = aggregate (codes "RECINTRAMODRQ")
    (id_text (codes "RECSRVRTID") id ++ (recur_text recur ++ (each_text info ++ flag_text (codes "MODPENDING") pending)))
request_text (CancelModel id pending) = aggregate (codes "RECINTRACANRQ")
    (id_text (codes "RECSRVRTID") id ++ flag_text (codes "CANPENDING") pending)
request_text (BankMail account mail) = bank_mail_text account mail
request_text (Mail mail) = plain_mail_text mail

unfoldable pub deed_text : List ℕ → Deed → List ℕ
deed_text trnuid deed = aggregate (request_name (family_of deed)) (element (codes "TRNUID") trnuid ++ request_text deed)

-- ---- replies

-- The inner INTRARS has the number of the recurring transfer as both its ids, and its first day as DTDUE.
unfoldable pub first_text : ModelRow → List ℕ
first_text row = aggregate (codes "INTRARS")
    (element (codes "CURDEF") (codes "USD")
    ++ (id_text (codes "SRVRTID") row.id ++ (info_text (first_info row) ++ id_text (codes "RECSRVRTID") row.id)))

unfoldable pub model_row_text : ModelRow → List ℕ
model_row_text row = id_text (codes "RECSRVRTID") row.id ++ (recur_text row.recur ++ first_text row)

unfoldable pub change_text : Change → List ℕ
change_text (NewTransfer row) = aggregate (codes "INTRARS")
    (element (codes "CURDEF") (codes "USD")
    ++ (id_text (codes "SRVRTID") row.id
    ++ (info_text (info_of row) ++ (model_text row.model ++ processing_text row.code row.stamp))))
change_text (SetTransfer row) = aggregate (codes "INTRAMODRS")
    (id_text (codes "SRVRTID") row.id ++ (info_text (info_of row) ++ processing_text row.code row.stamp))
change_text (DropTransfer id) = aggregate (codes "INTRACANRS") (id_text (codes "SRVRTID") id)
change_text (NewModel row) = aggregate (codes "RECINTRARS") (model_row_text row)
change_text (SetModel row pending) =
    aggregate (codes "RECINTRAMODRS") (model_row_text row ++ flag_text (codes "MODPENDING") pending)
change_text (DropModel id pending) = aggregate (codes "RECINTRACANRS")
    (id_text (codes "RECSRVRTID") id ++ flag_text (codes "CANPENDING") pending)
change_text (NewMail row) = mail_row_text row

unfoldable pub maybe_change_text : Option Change → List ℕ
maybe_change_text None = []
maybe_change_text (Some change) = change_text change

unfoldable pub deed_reply_text : DeedReply → List ℕ
deed_reply_text reply = aggregate (reply_name reply.family)
    (element (codes "TRNUID") reply.trnuid ++ (status reply.code ++ maybe_change_text reply.change))
