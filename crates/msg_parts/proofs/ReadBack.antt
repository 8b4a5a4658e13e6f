-- Sound accounts and statuses read back as they were written.
use Rattle.std.proofs.Common.{◌≡◌, ℕ, List, codes, Ok, ◌∙◌, refl, arith}
use Rattle.ofx_types.specs.AccountForm.{kind_word}
use Rattle.ofx_types.specs.RequestReading.{account_of}
use Rattle.ofx_types.specs.ReplyReading.{code_of}
use Rattle.ofx_types.specs.declared.account.AcctName.{AcctName}
use Rattle.ofx_tree.specs.Documents.{branch_item}
use Rattle.ofx_tree.proofs.FormLaws.{bind_to, one_again}
use Rattle.ofx_tree.proofs.DocumentItems.{named_of_branch, value_of_leaf}
use Rattle.ofx_tree.proofs.Leaves.{text_of_leaf, number_of_leaf}
use Rattle.msg_parts.specs.PartDocuments.{account_documents, status_documents, StatusesReadBack}
use Rattle.msg_parts.specs.SoundParts.{IsSoundAccount}
use Rattle.msg_parts.proofs.AccountLaws.{kind_again}
use Rattle.msg_parts.proofs.Lawful.{account_lawful, named, status_lawful}
use Rattle.msg_parts.proofs.Statuses.{bounded_again}

-- ---- accounts, in an aggregate of any name

pub account_back : (offset index : ℕ) (name : List ℕ) (account : AcctName) → IsSoundAccount account →
    account_of (branch_item offset index name (account_documents account)) ≡ Ok account
unfolding account_of
account_back offset index name account a =
    let inner = account_documents account in
    let lawful = account_lawful 0 account a in
    let item = branch_item offset index name inner in
    bind_to _ _ account.bank
    (text_of_leaf (codes "BANKID") account.bank 32 _ _ item lawful.0 a.bank.is_within (named_of_branch offset index 0 name (codes "BANKID") inner lawful))
    ∙ bind_to _ _ account.number
    (text_of_leaf (codes "ACCTID") account.number 32 _ _ item lawful.1.0 a.number.is_within (named_of_branch offset index 0 name (codes "ACCTID") inner lawful))
    ∙ bind_to _ _ _ (one_again (codes "ACCTTYPE") item _ (named_of_branch offset index 0 name (codes "ACCTTYPE") inner lawful))
    ∙ bind_to _ _ account.kind (kind_again _ _ account.kind (value_of_leaf 0 0 (codes "ACCTTYPE") (kind_word account.kind) lawful.1.1.0).0)

-- ---- status

pub statuses_back : StatusesReadBack
unfolding code_of
statuses_back offset index code h =
    let item = branch_item offset index (codes "STATUS") (status_documents code) in
    let only = named_of_branch offset index 0 (codes "STATUS") (codes "CODE") (status_documents code) (status_lawful 0 code h) in
    bind_to _ _ code (number_of_leaf (codes "CODE") 5 code _ _ item (named (codes "CODE") refl refl) (omega arith) (omega arith) (omega arith) only)
    ∙ bind_to _ _ _ (one_again (codes "CODE") item _ only)
    ∙ bounded_again _ code h
