-- The steps in which TRNUIDs are read and accounts are written, each a part of its form.
use Rattle.std.specs.Prelude.{ℕ, ◌++◌, List, codes, Result, Ok, Err, if◌then◌else◌}
use Rattle.ofx_types.specs.FormWords.{is_text_within}
use Rattle.ofx_types.specs.Sheet.{element}
use Rattle.ofx_types.specs.AccountForm.{kind_word}
use Rattle.ofx_types.specs.declared.fault.TreeFault.{TreeFault}
use Rattle.ofx_types.specs.declared.fault.TreeFault.TheVariants.{Value}
use Rattle.ofx_types.specs.declared.account.AcctName.{AcctName}

-- The uid that the bytes at this offset are: 1 to 36 of them.
unfoldable pub trnuid_at : ℕ → List ℕ → Result (List ℕ) TreeFault
trnuid_at offset text = if is_text_within 36 text then Ok text else Err (Value offset)

-- what is in the aggregate of an account
abbrev pub account_parts : AcctName → List ℕ
account_parts account =
    element (codes "BANKID") account.bank
    ++ (element (codes "ACCTID") account.number ++ element (codes "ACCTTYPE") (kind_word account.kind))
