-- A tape is told by its nodes alone, and is the only one of its body.
use Rattle.std.proofs.Common.{◌≡◌, ℕ, List, Some, Result, Ok, Err, refl}
use Rattle.ofx_types.specs.Nodes.{TagNode, AreNodesOf}
use Rattle.ofx_types.specs.TagFault.{tag_fault}
use Rattle.ofx_types.specs.declared.fault.TapeFault.{TapeFault}
use Rattle.ofx_types.specs.declared.fault.TapeFault.TheVariants.{Tag, Mismatch, Depth, Cut, OutOfMemory}
use Rattle.ofx_tape.specs.TapeOutcome.{IsTape, IsTapeOf, ReadsAll}
use Rattle.ofx_tape.proofs.FaultLaws.{spelled_has_no_fault}
use Rattle.ofx_tape.proofs.Unambiguous.{tags_are_unambiguous}

-- The nodes of a body make a tape, since its tags have no fault then.
pub tape_of_nodes : (body : List ℕ) (nodes : List TagNode) → AreNodesOf body nodes → IsTape body nodes
tape_of_nodes body nodes are = record { are_nodes = are; no_fault = spelled_has_no_fault body nodes are }

no_refusal : (body : List ℕ) (nodes : List TagNode) (fault : TapeFault) → AreNodesOf body nodes → tag_fault body ≡ Some fault → fault ≡ OutOfMemory
no_refusal body nodes fault are refused =
    let none = spelled_has_no_fault body nodes are in
    cc

-- What answers with the nodes of a body or with its fault reads each body that has nodes.
pub reads_all : (body : List ℕ) (answer : Result (List TagNode) TapeFault) → IsTapeOf body answer → ReadsAll body answer
reads_all body (Ok found) tape = λ nodes are. tags_are_unambiguous body found nodes tape.are_nodes are
reads_all body (Err (Tag at)) refused = λ nodes are. no_refusal body nodes (Tag at) are refused
reads_all body (Err (Mismatch at)) refused = λ nodes are. no_refusal body nodes (Mismatch at) are refused
reads_all body (Err (Depth at)) refused = λ nodes are. no_refusal body nodes (Depth at) are refused
reads_all body (Err (Cut at)) refused = λ nodes are. no_refusal body nodes (Cut at) are refused
reads_all body (Err OutOfMemory) refused = λ nodes are. refl
