-- Accounts and statuses as documents of a sheet, that a status reads back as it was written, and what it is to read back
-- alone.
use Rattle.std.specs.Prelude.{◌≡◌, ℕ, ◌<◌, ◌≤◌, ◌==◌, List, ◌++◌, codes, Result, Ok, if◌then◌else◌}
use Rattle.std.specs.Fmt.{decimal}
use Rattle.ofx_types.specs.AccountForm.{kind_word}
use Rattle.ofx_types.specs.CommonText.{status}
use Rattle.ofx_types.specs.FormWords.{◌>>=◌, one}
use Rattle.ofx_types.specs.Nodes.{TagNode, Item, AreNodesOf, IsRoot}
use Rattle.ofx_types.specs.ReplyReading.{code_of}
use Rattle.ofx_types.specs.Sheet.{aggregate}
use Rattle.ofx_types.specs.TagForm.{IsWhite}
use Rattle.ofx_types.specs.declared.fault.TreeFault.{TreeFault}
use Rattle.ofx_types.specs.declared.account.AcctName.{AcctName}
use Rattle.ofx_tree.specs.Documents.{Documents, empty, leaf, branch, printed, AreLawful, branch_item}

-- ---- requests

-- what is in BANKACCTFROM
abbrev pub account_documents : AcctName → Documents
account_documents account =
    leaf (codes "BANKID") account.bank
    (leaf (codes "ACCTID") account.number (leaf (codes "ACCTTYPE") (kind_word account.kind) empty))

-- ---- replies

-- what is in STATUS
abbrev pub status_documents : ℕ → Documents
status_documents code =
    leaf (codes "CODE") (decimal code) (leaf (codes "SEVERITY") (if code == 0 then codes "INFO" else codes "ERROR") empty)

-- ---- they read back

-- The lines between the tags of OFX, after white space, make a body in which the one aggregate of this name is read as
-- this message.
abbrev pub IsReadAlone : {A : Type 0} → (name lines : List ℕ) → (Item → Result A TreeFault) → A → Type 0
IsReadAlone name lines read message =
    (white : List ℕ) → IsWhite white
    → (nodes : List TagNode) × (ofx : Item)
    × AreNodesOf (white ++ aggregate (codes "OFX") lines) nodes × IsRoot nodes ofx × ((one name ofx >>= read) ≡ Ok message)

-- What is written of a status are its documents, which are lawful and read back: a code is at most 65,535.
abbrev pub StatusesAreDocuments : Type 0
StatusesAreDocuments =
    (code : ℕ) (rest : Documents) → printed (branch (codes "STATUS") (status_documents code) rest) ≡ status code ++ printed rest

abbrev pub StatusesAreLawful : Type 0
StatusesAreLawful =
    (room code : ℕ) (rest : Documents) → 0 < room → code ≤ 65535 → AreLawful room rest
    → AreLawful room (branch (codes "STATUS") (status_documents code) rest)

abbrev pub StatusesReadBack : Type 0
StatusesReadBack =
    (offset index code : ℕ) → code ≤ 65535 → code_of (branch_item offset index (codes "STATUS") (status_documents code)) ≡ Ok code
