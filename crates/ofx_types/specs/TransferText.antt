-- The printed form of the parts of transfers.
use Rattle.std.specs.Prelude.{ℕ, ◌==◌, List, [], ◌++◌, codes, Option, None, Some, if◌then◌else◌}
use Rattle.std.specs.Fmt.{decimal}
use Rattle.ofx_types.specs.Calendar.{midnight}
use Rattle.ofx_types.specs.Sheet.{element, aggregate}
use Rattle.ofx_types.specs.AmountForm.{amount_text}
use Rattle.ofx_types.specs.DateForm.{moment_text}
use Rattle.ofx_types.specs.AccountForm.{kind_word}
use Rattle.ofx_types.specs.CommonText.{account_from}
use Rattle.ofx_types.specs.TransferForm.{code_word}
use Rattle.ofx_types.specs.declared.account.AcctName.{AcctName}
use Rattle.ofx_types.specs.declared.number.Day.{Day}
use Rattle.ofx_types.specs.declared.number.Moment.{Moment}
use Rattle.ofx_types.specs.declared.transfer.XferInfo.{XferInfo}
use Rattle.ofx_types.specs.declared.transfer.XferCode.{XferCode}

unfoldable pub account_to : AcctName → List ℕ
account_to account = aggregate (codes "BANKACCTTO")
    (element (codes "BANKID") account.bank
    ++ (element (codes "ACCTID") account.number ++ element (codes "ACCTTYPE") (kind_word account.kind)))

-- A due day is written as its midnight in GMT.
unfoldable pub due_text : Option Day → List ℕ
due_text None = []
due_text (Some day) = element (codes "DTDUE") (moment_text (midnight day.0))

unfoldable pub info_text : XferInfo → List ℕ
info_text info = aggregate (codes "XFERINFO")
    (account_from info.from
    ++ (account_to info.to ++ (element (codes "TRNAMT") (amount_text info.amount.0) ++ due_text info.due)))

-- an id by its number
abbrev pub id_text : List ℕ → ℕ → List ℕ
id_text name id = element name (decimal id)

unfoldable pub processing_text : XferCode → Moment → List ℕ
processing_text code stamp = aggregate (codes "XFERPRCSTS")
    (element (codes "XFERPRCCODE") (code_word code) ++ element (codes "DTXFERPRC") (moment_text stamp.0))

-- The recurring transfer that made it, where one did.
unfoldable pub model_text : ℕ → List ℕ
model_text model = if model == 0 then [] else id_text (codes "RECSRVRTID") model
