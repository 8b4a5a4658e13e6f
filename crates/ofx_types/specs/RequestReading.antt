-- How the forms of a request file are read: form by form, the named children of each in order, and the first fault.
use Rattle.std.specs.Prelude.{ℕ, List, codes, Option, None, Some, Result, Ok, Err, if◌then◌else◌}
use Rattle.std.specs.Str.{bytes_eq}
use Rattle.ofx_types.specs.ValueForm.{value_of}
use Rattle.ofx_types.specs.Nodes.{TagNode, Item}
use Rattle.ofx_types.specs.FormWords.{◌>>=◌, one, maybe, text_in, flag_in, maybe_moment_in}
use Rattle.ofx_types.specs.declared.fault.TreeFault.{TreeFault}
use Rattle.ofx_types.specs.declared.fault.TreeFault.TheVariants.{Value}
use Rattle.ofx_types.specs.declared.account.AcctKind.{AcctKind}
use Rattle.ofx_types.specs.declared.account.AcctKind.TheVariants.{Checking, Savings, MoneyMarket, CreditLine}
use Rattle.ofx_types.specs.declared.account.AcctName.{AcctName}
use Rattle.ofx_types.specs.declared.request.Period.{Period}
use Rattle.ofx_types.specs.declared.request.Ask.{Ask}
use Rattle.ofx_types.specs.declared.request.Ask.TheVariants.{Statement}

-- who signs on: the name and the password
unfoldable pub signon_of : Item → Result (List ℕ × List ℕ) TreeFault
signon_of sonrq = do
  user ← text_in (codes "USERID") 32 sonrq
  pass ← text_in (codes "USERPASS") 64 sonrq
  Ok (user, pass)

abbrev pub kind_named : List ℕ → ℕ → Result AcctKind TreeFault
kind_named word offset =
    if bytes_eq word (codes "CHECKING") then Ok Checking
    else (if bytes_eq word (codes "SAVINGS") then Ok Savings
    else (if bytes_eq word (codes "MONEYMRKT") then Ok MoneyMarket
    else (if bytes_eq word (codes "CREDITLINE") then Ok CreditLine else Err (Value offset))))

abbrev pub kind_at : TagNode → Result AcctKind TreeFault
kind_at node = kind_named (value_of node.text) node.offset

unfoldable pub account_of : Item → Result AcctName TreeFault
account_of aggregate = do
  bank ← text_in (codes "BANKID") 32 aggregate
  number ← text_in (codes "ACCTID") 32 aggregate
  kind ← one (codes "ACCTTYPE") aggregate
  word ← kind_at kind.node
  Ok (record { bank = bank; number = number; kind = word })

-- `0` isn't let pass.
abbrev pub unless_zero : ℕ → List ℕ → Result (List ℕ) TreeFault
unless_zero offset trnuid = if bytes_eq trnuid (codes "0") then Err (Value offset) else Ok trnuid

unfoldable pub trnuid_of : Item → Result (List ℕ) TreeFault
trnuid_of wrapper = do
  text ← text_in (codes "TRNUID") 36 wrapper
  child ← one (codes "TRNUID") wrapper
  unless_zero child.node.offset text

unfoldable pub period_of : Item → Result Period TreeFault
period_of inctran = do
  start ← maybe_moment_in (codes "DTSTART") inctran
  end ← maybe_moment_in (codes "DTEND") inctran
  include ← flag_in (codes "INCLUDE") inctran
  Ok (record { start = start; end = end; include = include })

abbrev pub period_in : Option Item → Result (Option Period) TreeFault
period_in None = Ok None
period_in (Some inctran) = period_of inctran >>= λ period. Ok (Some period)

unfoldable pub statement_of : Item → Result Ask TreeFault
statement_of stmttrnrq = do
  trnuid ← trnuid_of stmttrnrq
  stmtrq ← one (codes "STMTRQ") stmttrnrq
  bankacctfrom ← one (codes "BANKACCTFROM") stmtrq
  account ← account_of bankacctfrom
  inctran ← maybe (codes "INCTRAN") stmtrq
  period ← period_in inctran
  Ok (Statement trnuid account period)
