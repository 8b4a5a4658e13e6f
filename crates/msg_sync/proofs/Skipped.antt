-- What is found among the items of documents is found past those that have other names.
use Rattle.std.proofs.Common.{◌≡◌, ℕ, ◌+◌, Bool, false, List, ◌∷◌, length, Result, codes, []}
use Rattle.ofx_types.specs.Sheet as sheet
use Rattle.ofx_types.specs.Nodes.{Item}
use Rattle.ofx_types.specs.declared.fault.TreeFault.{TreeFault}
use Rattle.ofx_types.specs.declared.account.AcctName.{AcctName}
use Rattle.ofx_types.specs.declared.transfer.Family.{Family}
use Rattle.ofx_types.specs.declared.transfer.Family.TheVariants as families
use Rattle.ofx_types.specs.declared.sync.ObjectName.{ObjectName}
use Rattle.ofx_types.specs.declared.sync.ObjectName.TheVariants.{Intra, RecIntra, BankMail, Mail}
use Rattle.ofx_types.specs.declared.sync.SyncKind.{SyncKind}
use Rattle.ofx_types.specs.declared.sync.SyncKind.TheVariants.{After, TokenOnly, Refresh}
use Rattle.ofx_tree.specs.Documents.{Documents, leaf, branch, printed, leaf_item, branch_item, items_of}
use Rattle.msg_parts.specs.PartDocuments.{account_documents}
use Rattle.msg_sync.specs.Listing.{forms_of}
use Rattle.msg_sync.specs.SyncsAsDocuments.{kind_document, plain_documents, object_document}
use Rattle.msg_sync.proofs.Forms.{wanted}

-- What holds of items holds with one more before whose name isn't wanted.
abbrev pub Skips : (List Item → Type 0) → (List ℕ → Bool) → Type 0
Skips Holds is_wanted = (item : Item) (items : List Item) → is_wanted item.node.name ≡ false → Holds items → Holds (item ∷ items)

-- It holds of the items of documents wherever they are printed.
abbrev pub Everywhere : (List Item → Type 0) → Documents → Type 0
Everywhere Holds documents = (offset index : ℕ) → Holds (items_of offset index documents)

pub wanted_skips : (is_wanted : List ℕ → Bool) (found : List Item) → Skips (λ items. wanted is_wanted items ≡ found) is_wanted
wanted_skips is_wanted found item items other h = rw other h

pub forms_skip : {M : Type 0} (read : Item → Result M TreeFault) (is_wanted : List ℕ → Bool) (forms : Result (List M) TreeFault) →
    Skips (λ items. forms_of read is_wanted items ≡ forms) is_wanted
unfolding forms_of
forms_skip read is_wanted forms item items other h = rw other h

-- No item is wanted.
abbrev pub IsNone : (List ℕ → Bool) → List Item → Type 0
IsNone is_wanted items = wanted is_wanted items ≡ []

-- ---- a leaf and a branch

pub leaf_skipped : (Holds : List Item → Type 0) (is_wanted : List ℕ → Bool) → Skips Holds is_wanted → (name value : List ℕ) (rest : Documents) →
    is_wanted name ≡ false → Everywhere Holds rest → Everywhere Holds (leaf name value rest)
leaf_skipped Holds is_wanted skips name value rest other h offset index =
    let next = offset + length (sheet.element name value) in
    skips (leaf_item offset index name value) (items_of next (index + 1) rest) other (h next (index + 1))

pub branch_skipped : (Holds : List Item → Type 0) (is_wanted : List ℕ → Bool) → Skips Holds is_wanted → (name : List ℕ) (inner rest : Documents) →
    is_wanted name ≡ false → Everywhere Holds rest → Everywhere Holds (branch name inner rest)
branch_skipped Holds is_wanted skips name inner rest other h offset index =
    let item = branch_item offset index name inner in
    let next = offset + length (sheet.aggregate name (printed inner)) in
    skips item (items_of next item.node.after rest) other (h next item.node.after)

-- ---- the parts of a synchronisation

-- The three kinds aren't wanted.
pub record IsNoKind (is_wanted : List ℕ → Bool) : Type 0 where
  pub token : is_wanted (codes "TOKEN") ≡ false
  pub only : is_wanted (codes "TOKENONLY") ≡ false
  pub refresh : is_wanted (codes "REFRESH") ≡ false

pub kind_skipped : (Holds : List Item → Type 0) (is_wanted : List ℕ → Bool) → Skips Holds is_wanted → IsNoKind is_wanted → (kind : SyncKind) (rest : Documents) →
    Everywhere Holds rest → Everywhere Holds (kind_document kind rest)
kind_skipped Holds is_wanted skips none (After token) rest h = leaf_skipped Holds is_wanted skips (codes "TOKEN") token rest none.token h
kind_skipped Holds is_wanted skips none TokenOnly rest h = leaf_skipped Holds is_wanted skips (codes "TOKENONLY") (codes "Y") rest none.only h
kind_skipped Holds is_wanted skips none Refresh rest h = leaf_skipped Holds is_wanted skips (codes "REFRESH") (codes "Y") rest none.refresh h

-- That there are to be no images and no HTML isn't wanted.
pub record IsNoPlain (is_wanted : List ℕ → Bool) : Type 0 where
  pub images : is_wanted (codes "INCIMAGES") ≡ false
  pub html : is_wanted (codes "USEHTML") ≡ false

two_skipped : (Holds : List Item → Type 0) (is_wanted : List ℕ → Bool) → Skips Holds is_wanted → IsNoPlain is_wanted → (rest : Documents) →
    Everywhere Holds rest → Everywhere Holds (leaf (codes "INCIMAGES") (codes "N") (leaf (codes "USEHTML") (codes "N") rest))
two_skipped Holds is_wanted skips none rest h =
    leaf_skipped Holds is_wanted skips (codes "INCIMAGES") (codes "N") (leaf (codes "USEHTML") (codes "N") rest) none.images
    (leaf_skipped Holds is_wanted skips (codes "USEHTML") (codes "N") rest none.html h)

pub plain_skipped : (Holds : List Item → Type 0) (is_wanted : List ℕ → Bool) → Skips Holds is_wanted → IsNoPlain is_wanted → (family : Family) (rest : Documents) →
    Everywhere Holds rest → Everywhere Holds (plain_documents family rest)
plain_skipped Holds is_wanted skips none families.Intra rest h = h
plain_skipped Holds is_wanted skips none families.RecIntra rest h = h
plain_skipped Holds is_wanted skips none families.BankMail rest h = two_skipped Holds is_wanted skips none rest h
plain_skipped Holds is_wanted skips none families.Mail rest h = two_skipped Holds is_wanted skips none rest h

account_skipped : (Holds : List Item → Type 0) (is_wanted : List ℕ → Bool) → Skips Holds is_wanted → is_wanted (codes "BANKACCTFROM") ≡ false →
    (account : AcctName) (rest : Documents) → Everywhere Holds rest → Everywhere Holds (branch (codes "BANKACCTFROM") (account_documents account) rest)
account_skipped Holds is_wanted skips other account rest h =
    branch_skipped Holds is_wanted skips (codes "BANKACCTFROM") (account_documents account) rest other h

pub object_skipped : (Holds : List Item → Type 0) (is_wanted : List ℕ → Bool) → Skips Holds is_wanted → is_wanted (codes "BANKACCTFROM") ≡ false →
    (object : ObjectName) (rest : Documents) → Everywhere Holds rest → Everywhere Holds (object_document object rest)
object_skipped Holds is_wanted skips other (Intra account) rest h = account_skipped Holds is_wanted skips other account rest h
object_skipped Holds is_wanted skips other (RecIntra account) rest h = account_skipped Holds is_wanted skips other account rest h
object_skipped Holds is_wanted skips other (BankMail account) rest h = account_skipped Holds is_wanted skips other account rest h
object_skipped Holds is_wanted skips other Mail rest h = h
