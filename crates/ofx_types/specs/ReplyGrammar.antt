-- The forms of replies: the answers to a signon and to a statement request (OFX 1.6, "Signon Response", "Statement
-- Response"). Children that aren't named here are skipped.
use Rattle.std.specs.Prelude.{◌≡◌, ◌≢◌, ℕ, ◌≤◌, List, filter, codes, Option, None, Some}
use Rattle.std.specs.List.{AllZip}
use Rattle.ofx_types.specs.Nodes.{Item, children}
use Rattle.ofx_types.specs.FormWords.{has_name, IsOnly, IsNone, IsTextIn, IsAmountIn, IsMomentIn, IsNumberIn}
use Rattle.ofx_types.specs.RequestForm.{IsAccount}
use Rattle.ofx_types.specs.declared.number.Cents.{Cents}
use Rattle.ofx_types.specs.declared.number.Moment.{Moment}
use Rattle.ofx_types.specs.declared.reply.StatementLine.{StatementLine}
use Rattle.ofx_types.specs.declared.reply.StatementList.{StatementList}
use Rattle.ofx_types.specs.declared.reply.StatementBody.{StatementBody}
use Rattle.ofx_types.specs.declared.reply.AskReply.{AskReply}
use Rattle.ofx_types.specs.declared.reply.AskReply.TheVariants.{Statement}

-- STATUS: its code has 1 to 5 digits and is at most 65,535.
pub record IsStatus (parent : Item) (code : ℕ) : Type 0 where
  pub status : Item
  pub has_status : IsOnly (codes "STATUS") parent status
  pub has_code : IsNumberIn (codes "CODE") 5 status code
  pub is_bounded : code ≤ 65535

-- SONRS
pub record IsSignonReply (sonrs : Item) (code : ℕ) (moment : Moment) : Type 0 where
  pub has_status : IsStatus sonrs code
  pub has_moment : IsMomentIn (codes "DTSERVER") sonrs moment

-- STMTTRN
pub record IsStatementLine (stmttrn : Item) (line : StatementLine) : Type 0 where
  pub posted : IsMomentIn (codes "DTPOSTED") stmttrn line.posted
  pub amount : IsAmountIn (codes "TRNAMT") stmttrn line.amount
  pub number : IsNumberIn (codes "FITID") 10 stmttrn line.number

-- BANKTRANLIST: its lines in the order of the file.
pub record IsStatementList (banktranlist : Item) (list : StatementList) : Type 0 where
  pub start : IsMomentIn (codes "DTSTART") banktranlist list.start
  pub end : IsMomentIn (codes "DTEND") banktranlist list.end
  pub lines : AllZip IsStatementLine (filter (has_name (codes "STMTTRN")) (children banktranlist)) list.lines

-- A statement may have a list.
abbrev pub IsMaybeList : Item → Option StatementList → Type 0
IsMaybeList stmtrs None = IsNone (codes "BANKTRANLIST") stmtrs
IsMaybeList stmtrs (Some list) =
    (banktranlist : Item) × IsOnly (codes "BANKTRANLIST") stmtrs banktranlist × IsStatementList banktranlist list

-- LEDGERBAL and AVAILBAL: an amount, and the moment at which the balance was so.
pub record IsBalance (name : List ℕ) (stmtrs : Item) (amount : Cents) (moment : Moment) : Type 0 where
  pub balance : Item
  pub has_balance : IsOnly name stmtrs balance
  pub has_amount : IsAmountIn (codes "BALAMT") balance amount
  pub has_moment : IsMomentIn (codes "DTASOF") balance moment

-- STMTRS. The moment of the statement is that of LEDGERBAL; AVAILBAL has a moment of its own, which isn't kept.
pub record IsStatementBody (stmtrs : Item) (body : StatementBody) : Type 0 where
  pub bankacctfrom : Item
  pub has_account : IsOnly (codes "BANKACCTFROM") stmtrs bankacctfrom
  pub is_account : IsAccount bankacctfrom body.account
  pub is_list : IsMaybeList stmtrs body.list
  pub is_ledger : IsBalance (codes "LEDGERBAL") stmtrs body.ledger body.moment
  pub other : Moment
  pub is_available : IsBalance (codes "AVAILBAL") stmtrs body.available other

-- With code 0 the answer has a statement. With any other code it has none, and whatever is there is skipped.
abbrev pub IsBodyByCode : ℕ → Item → Option StatementBody → Type 0
IsBodyByCode code stmttrnrs None = code ≢ 0
IsBodyByCode code stmttrnrs (Some body) =
    (code ≡ 0) × ((stmtrs : Item) × IsOnly (codes "STMTRS") stmttrnrs stmtrs × IsStatementBody stmtrs body)

-- STMTTRNRS
pub record IsStatementReply (stmttrnrs : Item) (reply : AskReply) : Type 0 where
  pub trnuid : List ℕ
  pub code : ℕ
  pub body : Option StatementBody
  pub has_trnuid : IsTextIn (codes "TRNUID") 36 stmttrnrs trnuid
  pub has_status : IsStatus stmttrnrs code
  pub is_body : IsBodyByCode code stmttrnrs body
  pub is_reply : reply ≡ Statement trnuid code body
