-- The forms of a request file: the signon and statement requests (OFX 1.6, "Signon Request", "Statement Request").
use Rattle.std.specs.Prelude.{◌≡◌, ◌≢◌, ℕ, List, codes, Option, None, Some}
use Rattle.ofx_types.specs.AccountForm.{kind_word}
use Rattle.ofx_types.specs.ValueForm.{value_of}
use Rattle.ofx_types.specs.Nodes.{Item}
use Rattle.ofx_types.specs.FormWords.{IsOnly, IsNone, IsTextIn, IsFlagIn, IsMaybeMomentIn}
use Rattle.ofx_types.specs.declared.account.AcctName.{AcctName}
use Rattle.ofx_types.specs.declared.request.Period.{Period}
use Rattle.ofx_types.specs.declared.request.Ask.{Ask}
use Rattle.ofx_types.specs.declared.request.Ask.TheVariants.{Statement}

-- SONRQ: who signs on. Its other children aren't looked at.
pub record IsSignon (sonrq : Item) (user pass : List ℕ) : Type 0 where
  pub has_user : IsTextIn (codes "USERID") 32 sonrq user
  pub has_pass : IsTextIn (codes "USERPASS") 64 sonrq pass

-- TRNUID, 1 to 36 bytes. `0` marks what the bank does by itself.
pub record IsTrnUidOf (wrapper : Item) (trnuid : List ℕ) : Type 0 where
  pub text : IsTextIn (codes "TRNUID") 36 wrapper trnuid
  pub is_own : trnuid ≢ codes "0"

-- BANKACCTFROM and BANKACCTTO
pub record IsAccount (aggregate : Item) (account : AcctName) : Type 0 where
  pub bank : IsTextIn (codes "BANKID") 32 aggregate account.bank
  pub number : IsTextIn (codes "ACCTID") 32 aggregate account.number
  pub kind : Item
  pub has_kind : IsOnly (codes "ACCTTYPE") aggregate kind
  pub is_kind : value_of kind.node.text ≡ kind_word account.kind

-- INCTRAN: the moments between which transactions are listed, and whether they are listed at all.
pub record IsPeriod (inctran : Item) (period : Period) : Type 0 where
  pub start : IsMaybeMomentIn (codes "DTSTART") inctran period.start
  pub end : IsMaybeMomentIn (codes "DTEND") inctran period.end
  pub include : IsFlagIn (codes "INCLUDE") inctran period.include

-- A statement request may have an INCTRAN.
abbrev pub IsMaybePeriod : Item → Option Period → Type 0
IsMaybePeriod stmtrq None = IsNone (codes "INCTRAN") stmtrq
IsMaybePeriod stmtrq (Some period) = (inctran : Item) × IsOnly (codes "INCTRAN") stmtrq inctran × IsPeriod inctran period

-- STMTTRNRQ
pub record IsStatement (stmttrnrq : Item) (ask : Ask) : Type 0 where
  pub trnuid : List ℕ
  pub account : AcctName
  pub period : Option Period
  pub has_trnuid : IsTrnUidOf stmttrnrq trnuid
  pub stmtrq : Item
  pub has_stmtrq : IsOnly (codes "STMTRQ") stmttrnrq stmtrq
  pub bankacctfrom : Item
  pub has_account : IsOnly (codes "BANKACCTFROM") stmtrq bankacctfrom
  pub is_account : IsAccount bankacctfrom account
  pub is_period : IsMaybePeriod stmtrq period
  pub is_statement : ask ≡ Statement trnuid account period
