-- What reading the tags of a body answers.
use Rattle.std.specs.Prelude.{◌≡◌, ℕ, List, None, Some, Result, Ok, Err}
use Rattle.ofx_types.specs.Nodes.{TagNode, AreNodesOf}
use Rattle.ofx_types.specs.TagFault.{tag_fault}
use Rattle.ofx_types.specs.declared.fault.TapeFault.{TapeFault}
use Rattle.ofx_types.specs.declared.fault.TapeFault.TheVariants.{Tag, Mismatch, Depth, Cut, OutOfMemory}

-- A refusal is the leftmost fault, or want of memory.
abbrev pub IsTapeRefusal : List ℕ → TapeFault → Type 0
IsTapeRefusal body (Tag at) = tag_fault body ≡ Some (Tag at)
IsTapeRefusal body (Mismatch at) = tag_fault body ≡ Some (Mismatch at)
IsTapeRefusal body (Depth at) = tag_fault body ≡ Some (Depth at)
IsTapeRefusal body (Cut at) = tag_fault body ≡ Some (Cut at)
IsTapeRefusal body OutOfMemory = Unit {0}

-- What is read are the nodes of the body, whose tags have no fault then.
pub record IsTape (body : List ℕ) (nodes : List TagNode) : Type 0 where
  pub are_nodes : AreNodesOf body nodes
  pub no_fault : tag_fault body ≡ None

abbrev pub IsTapeOf : List ℕ → Result (List TagNode) TapeFault → Type 0
IsTapeOf body (Ok nodes) = IsTape body nodes
IsTapeOf body (Err fault) = IsTapeRefusal body fault

-- A body with these nodes is read, unless memory is refused.
abbrev pub IsReadAs : List TagNode → Result (List TagNode) TapeFault → Type 0
IsReadAs nodes (Ok found) = found ≡ nodes
IsReadAs nodes (Err fault) = fault ≡ OutOfMemory

abbrev pub ReadsAll : List ℕ → Result (List TagNode) TapeFault → Type 0
ReadsAll body answer = (nodes : List TagNode) → AreNodesOf body nodes → IsReadAs nodes answer

-- No body has two lists of nodes, and one that has nodes has no fault.
abbrev pub TagsAreUnambiguous : Type 0
TagsAreUnambiguous = (body : List ℕ) (a b : List TagNode) → AreNodesOf body a → AreNodesOf body b → a ≡ b

abbrev pub SpelledTagsHaveNoFault : Type 0
SpelledTagsHaveNoFault = (body : List ℕ) (nodes : List TagNode) → AreNodesOf body nodes → tag_fault body ≡ None

-- One that has no fault has nodes.
abbrev pub FaultlessTagsAreSpelled : Type 0
FaultlessTagsAreSpelled = (body : List ℕ) → tag_fault body ≡ None → (nodes : List TagNode) × AreNodesOf body nodes
