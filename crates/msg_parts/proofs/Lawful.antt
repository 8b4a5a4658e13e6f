-- The documents of sound accounts and statuses are lawful, and so are the leaves and branches that messages share.
use Rattle.std.proofs.Common.{◌≡◌, ℕ, ◌-◌, ◌≤◌, Bool, true, false, cond, nat_eq, List, codes, refl, arith}
use Rattle.ofx_types.specs.AccountForm.{kind_word}
use Rattle.ofx_types.specs.TagNames.{is_name, is_one_of, element_names, aggregate_names}
use Rattle.ofx_types.specs.declared.account.AcctKind.{AcctKind}
use Rattle.ofx_types.specs.declared.account.AcctKind.TheVariants.{Checking, Savings, MoneyMarket, CreditLine}
use Rattle.ofx_types.specs.declared.account.AcctName.{AcctName}
use Rattle.ofx_tree.specs.PrintedForm.{IsElementName}
use Rattle.ofx_tree.specs.Documents.{AreLawful, IsLeaf, IsBranch}
use Rattle.ofx_tree.proofs.Leaves.{number_leaf}
use Rattle.msg_parts.specs.PartDocuments.{account_documents, status_documents, StatusesAreLawful}
use Rattle.msg_parts.specs.SoundParts.{IsTextWithin, IsSoundAccount}

-- ---- names and words

pub named : (name : List ℕ) → is_name name ≡ true → is_one_of aggregate_names name ≡ false → IsElementName name
named name n f = record { has_name = n; is_free = f }

pub is_branch : (name : List ℕ) → is_name name ≡ true → is_one_of element_names name ≡ false → is_one_of aggregate_names name ≡ true → IsBranch name
is_branch name n f k = record { has_name = record { has_name = n; is_free = f }; is_known = k }

pub text_leaf : (name : List ℕ) (most : ℕ) (text : List ℕ) → IsElementName name → IsTextWithin most text → IsLeaf name text
text_leaf name most text n t = record { has_name = n; is_text = t.is_text; is_there = t.is_there }

kind_leaf : (name : List ℕ) (kind : AcctKind) → IsElementName name → IsLeaf name (kind_word kind)
kind_leaf name Checking n = record { has_name = n; is_text = record { is_trimmed = refl; is_clean = refl; is_short = omega arith }; is_there = omega arith }
kind_leaf name Savings n = record { has_name = n; is_text = record { is_trimmed = refl; is_clean = refl; is_short = omega arith }; is_there = omega arith }
kind_leaf name MoneyMarket n = record { has_name = n; is_text = record { is_trimmed = refl; is_clean = refl; is_short = omega arith }; is_there = omega arith }
kind_leaf name CreditLine n = record { has_name = n; is_text = record { is_trimmed = refl; is_clean = refl; is_short = omega arith }; is_there = omega arith }

severity_leaf : (is_information : Bool) → IsLeaf (codes "SEVERITY") (cond is_information (codes "INFO") (codes "ERROR"))
severity_leaf true = record { has_name = named (codes "SEVERITY") refl refl; is_text = record { is_trimmed = refl; is_clean = refl; is_short = omega arith }; is_there = omega arith }
severity_leaf false = record { has_name = named (codes "SEVERITY") refl refl; is_text = record { is_trimmed = refl; is_clean = refl; is_short = omega arith }; is_there = omega arith }

pub currency_leaf : IsLeaf (codes "CURDEF") (codes "USD")
currency_leaf = record { has_name = named (codes "CURDEF") refl refl; is_text = record { is_trimmed = refl; is_clean = refl; is_short = omega arith }; is_there = omega arith }

-- ---- requests

pub account_lawful : (room : ℕ) (account : AcctName) → IsSoundAccount account → AreLawful room (account_documents account)
account_lawful room account a = (
  text_leaf (codes "BANKID") 32 account.bank (named (codes "BANKID") refl refl) a.bank,
  (
    text_leaf (codes "ACCTID") 32 account.number (named (codes "ACCTID") refl refl) a.number,
    (kind_leaf (codes "ACCTTYPE") account.kind (named (codes "ACCTTYPE") refl refl), tt),
  ),
)

-- ---- replies

pub status_lawful : (room code : ℕ) → code ≤ 65535 → AreLawful room (status_documents code)
status_lawful room code h =
    (number_leaf (codes "CODE") code (named (codes "CODE") refl refl) (omega arith), (severity_leaf (nat_eq code 0), tt))

pub statuses_lawful : StatusesAreLawful
statuses_lawful room code rest some h more = (is_branch (codes "STATUS") refl refl refl, some, status_lawful (room - 1) code h, more)
