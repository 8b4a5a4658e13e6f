-- What several printed forms share: a status, and an account.
use Rattle.std.specs.Prelude.{ℕ, ◌==◌, List, ◌++◌, codes, if◌then◌else◌}
use Rattle.std.specs.Fmt.{decimal}
use Rattle.ofx_types.specs.Sheet.{element, aggregate}
use Rattle.ofx_types.specs.AccountForm.{kind_word}
use Rattle.ofx_types.specs.declared.account.AcctName.{AcctName}

-- Code 0 is information, every other code an error.
unfoldable pub status : ℕ → List ℕ
status code = aggregate (codes "STATUS")
    (element (codes "CODE") (decimal code) ++ element (codes "SEVERITY") (if code == 0 then codes "INFO" else codes "ERROR"))

-- the account that a request or a reply is about
unfoldable pub account_from : AcctName → List ℕ
account_from account = aggregate (codes "BANKACCTFROM")
    (element (codes "BANKID") account.bank
    ++ (element (codes "ACCTID") account.number ++ element (codes "ACCTTYPE") (kind_word account.kind)))
