-- Which objects belong to which family.
use Rattle.std.specs.Prelude.{◌≡◌, ℕ, ◌+◌, ◌*◌, ◌<◌, ◌≤◌, length, Option, None, Some}
use Rattle.ofx_types.specs.declared.account.AcctName.{AcctName}
use Rattle.ofx_types.specs.declared.transfer.Family.{Family}
use Rattle.ofx_types.specs.declared.transfer.Family.TheVariants as families
use Rattle.bank_model.specs.declared.setup.Setup.{Setup}

-- Account a has its transfers at 3a, its recurring transfers at 3a + 1 and the mail about it at 3a + 2. After those of all
-- accounts come the users' other mails.
abbrev pub IsObjectOf : Setup → Family → ℕ → Type 0
IsObjectOf setup families.Intra index = (account : ℕ) × (account < length setup.accounts) × (index ≡ 3 * account)
IsObjectOf setup families.RecIntra index = (account : ℕ) × (account < length setup.accounts) × (index ≡ 3 * account + 1)
IsObjectOf setup families.BankMail index = (account : ℕ) × (account < length setup.accounts) × (index ≡ 3 * account + 2)
IsObjectOf setup families.Mail index = 3 * length setup.accounts ≤ index

-- A mail is about an account, or is other mail.
abbrev pub mail_family : Option AcctName → Family
mail_family (Some about) = families.BankMail
mail_family None = families.Mail
