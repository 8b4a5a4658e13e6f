-- How the forms of replies are read: form by form, the named children of each in order, and the first fault.
use Rattle.std.specs.Prelude.{ℕ, nat_le, ◌==◌, List, [], ◌∷◌, codes, Option, None, Some, Result, Ok, Err, if◌then◌else◌}
use Rattle.ofx_types.specs.Nodes.{Item, children}
use Rattle.ofx_types.specs.FormWords.{has_name, ◌>>=◌, one, maybe, text_in, amount_in, moment_in, number_in}
use Rattle.ofx_types.specs.RequestReading.{account_of}
use Rattle.ofx_types.specs.declared.fault.TreeFault.{TreeFault}
use Rattle.ofx_types.specs.declared.fault.TreeFault.TheVariants.{Value}
use Rattle.ofx_types.specs.declared.number.Cents.{Cents}
use Rattle.ofx_types.specs.declared.number.Moment.{Moment}
use Rattle.ofx_types.specs.declared.reply.StatementLine.{StatementLine}
use Rattle.ofx_types.specs.declared.reply.StatementList.{StatementList}
use Rattle.ofx_types.specs.declared.reply.StatementBody.{StatementBody}
use Rattle.ofx_types.specs.declared.reply.AskReply.{AskReply}
use Rattle.ofx_types.specs.declared.reply.AskReply.TheVariants.{Statement}

-- A code is at most 65,535.
abbrev pub bounded_code : ℕ → ℕ → Result ℕ TreeFault
bounded_code offset code = if nat_le code 65535 then Ok code else Err (Value offset)

unfoldable pub code_of : Item → Result ℕ TreeFault
code_of status = do
  code ← number_in (codes "CODE") 5 status
  child ← one (codes "CODE") status
  bounded_code child.node.offset code

unfoldable pub status_of : Item → Result ℕ TreeFault
status_of parent = one (codes "STATUS") parent >>= code_of

unfoldable pub signon_reply_of : Item → Result (ℕ × Moment) TreeFault
signon_reply_of sonrs = do
  code ← status_of sonrs
  moment ← moment_in (codes "DTSERVER") sonrs
  Ok (code, moment)

unfoldable pub line_of : Item → Result StatementLine TreeFault
line_of stmttrn = do
  posted ← moment_in (codes "DTPOSTED") stmttrn
  amount ← amount_in (codes "TRNAMT") stmttrn
  number ← number_in (codes "FITID") 10 stmttrn
  Ok (record { number = number; posted = posted; amount = amount })

-- the lines among the children of a list, in the order of the file
abbrev pub line_onto : StatementLine → List StatementLine → Result (List StatementLine) TreeFault
line_onto line lines = Ok (line ∷ lines)

unfoldable pub lines_of : List Item → Result (List StatementLine) TreeFault
lines_of [] = Ok []
lines_of (child ∷ more) =
    if has_name (codes "STMTTRN") child then (line_of child >>= λ line. lines_of more >>= line_onto line)
    else lines_of more

unfoldable pub list_of : Item → Result StatementList TreeFault
list_of banktranlist = do
  start ← moment_in (codes "DTSTART") banktranlist
  end ← moment_in (codes "DTEND") banktranlist
  lines ← lines_of (children banktranlist)
  Ok (record { start = start; end = end; lines = lines })

abbrev pub list_in : Option Item → Result (Option StatementList) TreeFault
list_in None = Ok None
list_in (Some banktranlist) = list_of banktranlist >>= λ list. Ok (Some list)

-- a balance and its moment
unfoldable pub balance_of : Item → Result (Cents × Moment) TreeFault
balance_of balance = do
  amount ← amount_in (codes "BALAMT") balance
  moment ← moment_in (codes "DTASOF") balance
  Ok (amount, moment)

unfoldable pub body_of : Item → Result StatementBody TreeFault
body_of stmtrs = do
  bankacctfrom ← one (codes "BANKACCTFROM") stmtrs
  account ← account_of bankacctfrom
  banktranlist ← maybe (codes "BANKTRANLIST") stmtrs
  list ← list_in banktranlist
  ledgerbal ← one (codes "LEDGERBAL") stmtrs
  ledger ← balance_of ledgerbal
  availbal ← one (codes "AVAILBAL") stmtrs
  available ← balance_of availbal
  Ok (record { account = account; list = list; ledger = ledger.0; available = available.0; moment = ledger.1 })

-- With code 0 there must be a statement. With any other code nothing more is looked at.
unfoldable pub body_by_code : ℕ → Item → Result (Option StatementBody) TreeFault
body_by_code code stmttrnrs =
    if code == 0 then (one (codes "STMTRS") stmttrnrs >>= λ stmtrs. body_of stmtrs >>= λ body. Ok (Some body))
    else Ok None

unfoldable pub statement_reply_of : Item → Result AskReply TreeFault
statement_reply_of stmttrnrs = do
  trnuid ← text_in (codes "TRNUID") 36 stmttrnrs
  code ← status_of stmttrnrs
  body ← body_by_code code stmttrnrs
  Ok (Statement trnuid code body)
