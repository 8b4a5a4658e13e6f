-- How the forms of deeds and of the answers to them are read: the named children of each in order, and the first fault.
use Rattle.std.specs.Prelude.{ℕ, ◌==◌, List, codes, Option, None, Some, Result, Ok, Err, if◌then◌else◌}
use Rattle.ofx_types.specs.Nodes.{Item}
use Rattle.ofx_types.specs.FormWords.{has_name, ◌>>=◌, one_of, text_in}
use Rattle.ofx_types.specs.RequestReading.{trnuid_of}
use Rattle.ofx_types.specs.ReplyReading.{status_of}
use Rattle.ofx_types.specs.DeedForm.{requests_in, replies_in}
use Rattle.ofx_types.specs.TransferReading.{transfer_of, modify_of, cancel_of, new_of, set_of, drop_of}
use Rattle.ofx_types.specs.RecurringReading.{model_of, modify_model_of, cancel_model_of, new_model_of, set_model_of, drop_model_of}
use Rattle.ofx_types.specs.declared.fault.TreeFault.{TreeFault}
use Rattle.ofx_types.specs.declared.fault.TreeFault.TheVariants.{Value}
use Rattle.ofx_types.specs.declared.transfer.Deed.{Deed}
use Rattle.ofx_types.specs.declared.transfer.Change.{Change}
use Rattle.ofx_types.specs.declared.transfer.Family.{Family}
use Rattle.ofx_types.specs.declared.transfer.Family.TheVariants.{Intra, RecIntra}
use Rattle.ofx_types.specs.declared.transfer.DeedReply.{DeedReply}

-- ---- requests

-- The name of a transaction tells its family. One of another name is no deed's: the fault is at its own offset.
abbrev pub family_asked : Item → Result Family TreeFault
family_asked transaction =
    if has_name (codes "INTRATRNRQ") transaction then Ok Intra
    else (if has_name (codes "RECINTRATRNRQ") transaction then Ok RecIntra else Err (Value transaction.node.offset))

-- the one request in it
abbrev pub request_in : Item → Result Item TreeFault
request_in transaction = family_asked transaction >>= λ family. one_of (requests_in family) transaction

unfoldable pub request_of : Item → Result Deed TreeFault
request_of request =
    if has_name (codes "INTRARQ") request then transfer_of request
    else (if has_name (codes "INTRAMODRQ") request then modify_of request
    else (if has_name (codes "INTRACANRQ") request then cancel_of request
    else (if has_name (codes "RECINTRARQ") request then model_of request
    else (if has_name (codes "RECINTRAMODRQ") request then modify_model_of request else cancel_model_of request))))

unfoldable pub deed_of : Item → Result (List ℕ × Deed) TreeFault
deed_of transaction = do
  trnuid ← trnuid_of transaction
  request ← request_in transaction
  deed ← request_of request
  Ok (trnuid, deed)

-- ---- replies

abbrev pub family_reported : Item → Result Family TreeFault
family_reported transaction =
    if has_name (codes "INTRATRNRS") transaction then Ok Intra
    else (if has_name (codes "RECINTRATRNRS") transaction then Ok RecIntra else Err (Value transaction.node.offset))

abbrev pub reply_in : Item → Result Item TreeFault
reply_in transaction = family_reported transaction >>= λ family. one_of (replies_in family) transaction

unfoldable pub change_of : Item → Result Change TreeFault
change_of reply =
    if has_name (codes "INTRARS") reply then new_of reply
    else (if has_name (codes "INTRAMODRS") reply then set_of reply
    else (if has_name (codes "INTRACANRS") reply then drop_of reply
    else (if has_name (codes "RECINTRARS") reply then new_model_of reply
    else (if has_name (codes "RECINTRAMODRS") reply then set_model_of reply else drop_model_of reply))))

unfoldable pub change_by_code : ℕ → Item → Result (Option Change) TreeFault
change_by_code code transaction =
    if code == 0 then (reply_in transaction >>= λ reply. change_of reply >>= λ change. Ok (Some change)) else Ok None

unfoldable pub deed_reply_of : Item → Result DeedReply TreeFault
deed_reply_of transaction = do
  family ← family_reported transaction
  trnuid ← text_in (codes "TRNUID") 36 transaction
  code ← status_of transaction
  change ← change_by_code code transaction
  Ok (record { trnuid = trnuid; family = family; code = code; change = change })
