-- The parts of which the forms of transfers inside the bank are made (OFX 1.6, "Intrabank Funds Transfer").
use Rattle.std.specs.Prelude.{◌≡◌, ◌≢◌, ℕ, List, [], ◌∷◌, codes, Option, None, Some}
use Rattle.ofx_types.specs.Calendar.{day_of}
use Rattle.ofx_types.specs.ValueForm.{value_of}
use Rattle.ofx_types.specs.Nodes.{Item}
use Rattle.ofx_types.specs.FormWords.{IsOnly, IsNone, IsAmountIn, IsMomentIn, IsIdIn}
use Rattle.ofx_types.specs.RequestForm.{IsAccount}
use Rattle.ofx_types.specs.declared.number.Day.{Day}
use Rattle.ofx_types.specs.declared.number.Moment.{Moment}
use Rattle.ofx_types.specs.declared.transfer.XferInfo.{XferInfo}
use Rattle.ofx_types.specs.declared.transfer.XferCode.{XferCode}
use Rattle.ofx_types.specs.declared.transfer.XferCode.TheVariants.{Waiting, Posted, NoFunds, Cancelled}
use Rattle.ofx_types.specs.declared.transfer.TransferRow.{TransferRow}

-- DTDUE may be missing. The day is that of the moment in GMT.
abbrev pub IsMaybeDue : Item → Option Day → Type 0
IsMaybeDue xferinfo None = IsNone (codes "DTDUE") xferinfo
IsMaybeDue xferinfo (Some day) = (moment : Moment) × IsMomentIn (codes "DTDUE") xferinfo moment × (day.0 ≡ day_of moment.0)

-- XFERINFO
pub record IsXferInfo (xferinfo : Item) (info : XferInfo) : Type 0 where
  pub bankacctfrom : Item
  pub has_from : IsOnly (codes "BANKACCTFROM") xferinfo bankacctfrom
  pub is_from : IsAccount bankacctfrom info.from
  pub bankacctto : Item
  pub has_to : IsOnly (codes "BANKACCTTO") xferinfo bankacctto
  pub is_to : IsAccount bankacctto info.to
  pub amount : IsAmountIn (codes "TRNAMT") xferinfo info.amount
  pub due : IsMaybeDue xferinfo info.due

abbrev pub HasXferInfo : Item → XferInfo → Type 0
HasXferInfo parent info = (xferinfo : Item) × IsOnly (codes "XFERINFO") parent xferinfo × IsXferInfo xferinfo info

-- ---- requests

abbrev pub transfer_requests : List (List ℕ)
transfer_requests = codes "INTRARQ" ∷ codes "INTRAMODRQ" ∷ codes "INTRACANRQ" ∷ []

-- ---- replies

-- the words of XFERPRCCODE; a cancelled transfer is reported by INTRACANRS, and its word is never read
abbrev pub code_word : XferCode → List ℕ
code_word Waiting = codes "WILLPROCESSON"
code_word Posted = codes "POSTEDON"
code_word NoFunds = codes "NOFUNDSON"
code_word Cancelled = codes "CANCELEDON"

-- XFERPRCSTS
pub record IsProcessing (parent : Item) (code : XferCode) (stamp : Moment) : Type 0 where
  pub xferprcsts : Item
  pub has_xferprcsts : IsOnly (codes "XFERPRCSTS") parent xferprcsts
  pub word : Item
  pub has_word : IsOnly (codes "XFERPRCCODE") xferprcsts word
  pub is_word : value_of word.node.text ≡ code_word code
  pub is_reported : code ≢ Cancelled
  pub has_stamp : IsMomentIn (codes "DTXFERPRC") xferprcsts stamp

-- what XFERINFO says of a row, which always has a due day
abbrev pub info_of : TransferRow → XferInfo
info_of row = record { from = row.from; to = row.to; amount = row.amount; due = Some row.due }

-- INTRARS. INTRAMODRS has the same without RECSRVRTID, and is read with model 0.
pub record IsRow (reply : Item) (row : TransferRow) : Type 0 where
  pub id : IsIdIn (codes "SRVRTID") reply row.id
  pub info : HasXferInfo reply (info_of row)
  pub processing : IsProcessing reply row.code row.stamp

abbrev pub transfer_replies : List (List ℕ)
transfer_replies = codes "INTRARS" ∷ codes "INTRAMODRS" ∷ codes "INTRACANRS" ∷ []
