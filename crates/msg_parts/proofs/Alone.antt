-- A message that is written alone between the tags of OFX reads back.
use Rattle.std.proofs.Common.{◌≡◌, ℕ, ◌+◌, List, ◌∷◌, ◌++◌, length, codes, Result, Ok, refl, subst, ◌∙◌}
use Rattle.ofx_types.specs.FormWords.{one, IsOnly}
use Rattle.ofx_types.specs.Nodes.{Item, AreNodesOf}
use Rattle.ofx_types.specs.Sheet.{aggregate, start_line}
use Rattle.ofx_types.specs.declared.fault.TreeFault.{TreeFault}
use Rattle.ofx_types.proofs.Bytes.{bytes_eq_self}
use Rattle.ofx_tree.specs.Documents.{Documents, empty, branch, printed, AreLawful, branch_item}
use Rattle.ofx_tree.proofs.FormLaws.{bind_to, one_again}
use Rattle.ofx_tree.proofs.DocumentItems.{named_of_branch}
use Rattle.ofx_tree.proofs.DocumentTrees.{documents_of_body}
use Rattle.msg_parts.specs.PartDocuments.{IsReadAlone}

-- what is read of a branch wherever it is is read of a body that has nothing else
pub read_alone : {A : Type 0} (name lines : List ℕ) (inner : Documents) (read : Item → Result A TreeFault) (message : A) →
    printed (branch name inner empty) ≡ lines → AreLawful 15 (branch name inner empty) →
    ((offset index : ℕ) → read (branch_item offset index name inner) ≡ Ok message) → IsReadAlone name lines read message
read_alone name lines inner read message same lawful reads white blank =
    let documents = branch name inner empty in
    let ofx = branch_item (length white) 0 (codes "OFX") documents in
    let at : ℕ = length white + length (start_line (codes "OFX")) in
    let item = branch_item at 1 name inner in
    let only : IsOnly name ofx item = named_of_branch (length white) 0 15 (codes "OFX") name documents lawful ∙ rw (bytes_eq_self name) refl in
    let P : List ℕ → Type 0 = λ text. AreNodesOf (white ++ aggregate (codes "OFX") text) (ofx.node ∷ ofx.inner) in (
      ofx.node ∷ ofx.inner,
      ofx,
      subst P same (documents_of_body white documents blank lawful),
      (ofx.inner, refl, refl, refl),
      bind_to (one name ofx) read item (one_again name ofx item only) ∙ reads at 1,
    )
