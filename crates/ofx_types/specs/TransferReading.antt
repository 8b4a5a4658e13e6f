-- How the parts of transfers are read: form by form, the named children of each in order, and the first fault.
use Rattle.std.specs.Prelude.{ℕ, List, codes, Option, None, Some, Result, Ok, Err, if◌then◌else◌}
use Rattle.std.specs.Str.{bytes_eq}
use Rattle.ofx_types.specs.Calendar.{day_of}
use Rattle.ofx_types.specs.ValueForm.{value_of}
use Rattle.ofx_types.specs.Nodes.{TagNode, Item}
use Rattle.ofx_types.specs.FormWords.{◌>>=◌, one, amount_in, moment_in, maybe_moment_in, id_in, maybe_id_in}
use Rattle.ofx_types.specs.RequestReading.{account_of}
use Rattle.ofx_types.specs.declared.fault.TreeFault.{TreeFault}
use Rattle.ofx_types.specs.declared.fault.TreeFault.TheVariants.{Missing, Value}
use Rattle.ofx_types.specs.declared.number.Day.{Day}
use Rattle.ofx_types.specs.declared.number.Moment.{Moment}
use Rattle.ofx_types.specs.declared.transfer.XferInfo.{XferInfo}
use Rattle.ofx_types.specs.declared.transfer.Deed.{Deed}
use Rattle.ofx_types.specs.declared.transfer.Deed.TheVariants.{Transfer, ModifyTransfer, CancelTransfer}
use Rattle.ofx_types.specs.declared.transfer.XferCode.{XferCode}
use Rattle.ofx_types.specs.declared.transfer.XferCode.TheVariants.{Waiting, Posted, NoFunds}
use Rattle.ofx_types.specs.declared.transfer.TransferRow.{TransferRow}
use Rattle.ofx_types.specs.declared.transfer.Change.{Change}
use Rattle.ofx_types.specs.declared.transfer.Change.TheVariants.{NewTransfer, SetTransfer, DropTransfer}

-- the day of a moment in GMT
abbrev pub due_of : Option Moment → Option Day
due_of None = None
due_of (Some moment) = Some (record { 0 = day_of moment.0 })

unfoldable pub info_of : Item → Result XferInfo TreeFault
info_of xferinfo = do
  bankacctfrom ← one (codes "BANKACCTFROM") xferinfo
  from ← account_of bankacctfrom
  bankacctto ← one (codes "BANKACCTTO") xferinfo
  to ← account_of bankacctto
  amount ← amount_in (codes "TRNAMT") xferinfo
  due ← maybe_moment_in (codes "DTDUE") xferinfo
  Ok (record { from = from; to = to; amount = amount; due = due_of due })

unfoldable pub info_in : Item → Result XferInfo TreeFault
info_in parent = one (codes "XFERINFO") parent >>= info_of

-- ---- requests

unfoldable pub transfer_of : Item → Result Deed TreeFault
transfer_of intrarq = info_in intrarq >>= λ info. Ok (Transfer info)

unfoldable pub modify_of : Item → Result Deed TreeFault
modify_of intramodrq = do
  id ← id_in (codes "SRVRTID") intramodrq
  info ← info_in intramodrq
  Ok (ModifyTransfer id info)

unfoldable pub cancel_of : Item → Result Deed TreeFault
cancel_of intracanrq = id_in (codes "SRVRTID") intracanrq >>= λ id. Ok (CancelTransfer id)

-- ---- replies

abbrev pub code_named : List ℕ → ℕ → Result XferCode TreeFault
code_named word offset =
    if bytes_eq word (codes "WILLPROCESSON") then Ok Waiting
    else (if bytes_eq word (codes "POSTEDON") then Ok Posted
    else (if bytes_eq word (codes "NOFUNDSON") then Ok NoFunds else Err (Value offset)))

abbrev pub code_at : TagNode → Result XferCode TreeFault
code_at node = code_named (value_of node.text) node.offset

unfoldable pub processing_of : Item → Result (XferCode × Moment) TreeFault
processing_of xferprcsts = do
  word ← one (codes "XFERPRCCODE") xferprcsts
  code ← code_at word.node
  stamp ← moment_in (codes "DTXFERPRC") xferprcsts
  Ok (code, stamp)

unfoldable pub processing_in : Item → Result (XferCode × Moment) TreeFault
processing_in parent = one (codes "XFERPRCSTS") parent >>= processing_of

-- A reply must have the due day: a missing one is a fault at this offset.
abbrev pub day_or : ℕ → Option Day → Result Day TreeFault
day_or offset None = Err (Missing offset)
day_or offset (Some day) = Ok day

pub record DueInfo : Type 0 where
  pub info : XferInfo
  pub due : Day

unfoldable pub due_info_of : Item → Result DueInfo TreeFault
due_info_of xferinfo = do
  info ← info_of xferinfo
  due ← day_or xferinfo.node.offset info.due
  Ok (record { info = info; due = due })

unfoldable pub due_info_in : Item → Result DueInfo TreeFault
due_info_in parent = one (codes "XFERINFO") parent >>= due_info_of

abbrev pub row_with : ℕ → ℕ → DueInfo → XferCode × Moment → TransferRow
row_with id model asked processing = record {
  id = id;
  model = model;
  from = asked.info.from;
  to = asked.info.to;
  amount = asked.info.amount;
  due = asked.due;
  code = processing.0;
  stamp = processing.1;
}

unfoldable pub new_of : Item → Result Change TreeFault
new_of intrars = do
  id ← id_in (codes "SRVRTID") intrars
  asked ← due_info_in intrars
  model ← maybe_id_in (codes "RECSRVRTID") intrars
  processing ← processing_in intrars
  Ok (NewTransfer (row_with id model asked processing))

unfoldable pub set_of : Item → Result Change TreeFault
set_of intramodrs = do
  id ← id_in (codes "SRVRTID") intramodrs
  asked ← due_info_in intramodrs
  processing ← processing_in intramodrs
  Ok (SetTransfer (row_with id 0 asked processing))

unfoldable pub drop_of : Item → Result Change TreeFault
drop_of intracanrs = id_in (codes "SRVRTID") intracanrs >>= λ id. Ok (DropTransfer id)
