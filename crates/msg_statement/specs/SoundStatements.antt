-- Statements that read back as they were written: their values are within the limits of their elements.
use Rattle.std.specs.Prelude.{◌≢◌, ◌≡◌, ℕ, ◌<◌, ◌≤◌, ◌^◌, List, codes, Option, None, Some}
use Rattle.std.specs.List.{AllByRecursion}
use Rattle.std.specs.Option.{IfSome}
use Rattle.ofx_types.specs.declared.account.AcctName.{AcctName}
use Rattle.ofx_types.specs.declared.request.Period.{Period}
use Rattle.ofx_types.specs.declared.reply.StatementLine.{StatementLine}
use Rattle.ofx_types.specs.declared.reply.StatementList.{StatementList}
use Rattle.ofx_types.specs.declared.reply.StatementBody.{StatementBody}
use Rattle.msg_parts.specs.SoundParts.{IsTextWithin, IsSoundMoment, IsSoundAmount, IsSoundAccount}

pub record IsSoundPeriod (period : Period) : Type 0 where
  pub start : IfSome period.start IsSoundMoment
  pub end : IfSome period.end IsSoundMoment

-- No TRNUID of a request is `0`, which marks what the bank does by itself.
pub record IsSoundStatement (trnuid : List ℕ) (account : AcctName) (period : Option Period) : Type 0 where
  pub is_uid : IsTextWithin 36 trnuid
  pub is_own : trnuid ≢ codes "0"
  pub is_account : IsSoundAccount account
  pub is_period : IfSome period IsSoundPeriod

-- The number of a transaction has at most ten digits.
pub record IsSoundLine (line : StatementLine) : Type 0 where
  pub posted : IsSoundMoment line.posted
  pub amount : IsSoundAmount line.amount
  pub number : line.number < 10 ^ 10

pub record IsSoundList (list : StatementList) : Type 0 where
  pub start : IsSoundMoment list.start
  pub end : IsSoundMoment list.end
  pub lines : AllByRecursion IsSoundLine list.lines

pub record IsSoundBody (body : StatementBody) : Type 0 where
  pub account : IsSoundAccount body.account
  pub list : IfSome body.list IsSoundList
  pub ledger : IsSoundAmount body.ledger
  pub available : IsSoundAmount body.available
  pub moment : IsSoundMoment body.moment

-- A reply has a statement exactly where its code is 0.
abbrev pub IsSoundByCode : ℕ → Option StatementBody → Type 0
IsSoundByCode code None = code ≢ 0
IsSoundByCode code (Some body) = (code ≡ 0) × IsSoundBody body

pub record IsSoundReply (trnuid : List ℕ) (code : ℕ) (body : Option StatementBody) : Type 0 where
  pub is_uid : IsTextWithin 36 trnuid
  pub is_code : code ≤ 65535
  pub is_body : IsSoundByCode code body
