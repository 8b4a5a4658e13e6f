-- The printed forms of accounts and statuses are those of their documents.
use Rattle.std.proofs.Common.{◌≡◌, ℕ, codes, refl, append-nil}
use Rattle.ofx_types.specs.CommonText as common
use Rattle.ofx_types.specs.Sheet as sheet
use Rattle.ofx_types.specs.declared.account.AcctName.{AcctName}
use Rattle.ofx_tree.specs.Documents.{printed}
use Rattle.msg_parts.specs.PartDocuments.{account_documents, status_documents, StatusesAreDocuments}

-- ---- requests

pub account_printed : (account : AcctName) → sheet.aggregate (codes "BANKACCTFROM") (printed (account_documents account)) ≡ common.account_from account
unfolding common.account_from
account_printed account = rw append-nil refl

-- ---- replies

pub status_printed : (code : ℕ) → sheet.aggregate (codes "STATUS") (printed (status_documents code)) ≡ common.status code
unfolding common.status
status_printed code = rw append-nil refl

pub statuses_printed : StatusesAreDocuments
statuses_printed code rest = rw (status_printed code) refl
