-- The faults of the forms of a file have offsets in the body.
use Rattle.std.proofs.Common.{◌≡◌, ℕ, ◌+◌, List, [], ◌∷◌, length, Some, Result, Err, refl, sym, subst, arith}
use Rattle.ofx_types.specs.Nodes.{TagNode, Item, IsRoot}
use Rattle.ofx_types.specs.FileForm.{form_offset}
use Rattle.ofx_types.specs.declared.fault.TreeFault.{TreeFault}
use Rattle.ofx_types.specs.declared.fault.TreeFault.TheVariants as forms
use Rattle.ofx_tape.specs.Slices.{AreLocated, AreSlices}
use Rattle.ofx_tree.specs.Located.{HasOffset, Holds, Any, AreWithin, IsWithin}
use Rattle.ofx_file.specs.FaultOffsets.{IsFormWithin}

nodes_within : (from : ℕ) (body : List ℕ) (nodes : List TagNode) → AreLocated from body nodes → AreWithin (length body) nodes
nodes_within from body [] h = tt
nodes_within from body (n ∷ nodes) (suffix, sliced, more) =
    (omega (arith, sliced.inside), nodes_within (n.offset + length n.name + 2 + length n.text) body nodes more)

root_within : (most : ℕ) (nodes : List TagNode) (ofx : Item) → AreWithin most nodes → IsRoot nodes ofx → IsWithin most ofx
root_within most nodes ofx h (inner, is, first, same) =
    let P : List TagNode → Type 0 = λ ns. AreWithin most ns in
    let all : AreWithin most (ofx.node ∷ inner) = subst P is h in
    record { offset = all.0; inner = subst P (sym same) all.1 }

fault_located : {P : Type 0} (parts_of : Item → Result P TreeFault) → ((most : ℕ) (ofx : Item) → IsWithin most ofx → Holds most Any (parts_of ofx)) →
    (body : List ℕ) (nodes : List TagNode) (ofx : Item) (fault : TreeFault) → AreSlices body nodes → IsRoot nodes ofx → parts_of ofx ≡ Err fault → HasOffset (length body) fault
fault_located {P = P} parts_of offsets body nodes ofx fault slices root h =
    let Q : Result P TreeFault → Type 0 = λ r. Holds (length body) Any r in
    subst Q h (offsets (length body) ofx (root_within (length body) nodes ofx (nodes_within 0 body nodes slices.located) root))

is_within : (most : ℕ) (fault : TreeFault) → HasOffset most fault → IsFormWithin most fault
is_within most (forms.Missing at) h = h
is_within most (forms.Repeated at) h = h
is_within most (forms.Value at) h = h
is_within most forms.OutOfMemory h = tt

offset_of : (most : ℕ) (fault : TreeFault) → HasOffset most fault → (offset : ℕ) × (form_offset fault ≡ Some offset)
offset_of most (forms.Missing at) h = (at, refl)
offset_of most (forms.Repeated at) h = (at, refl)
offset_of most (forms.Value at) h = (at, refl)
offset_of most forms.OutOfMemory h = absurd h

-- the fault of a body's forms is in the body
pub form_fault_within : {P : Type 0} (parts_of : Item → Result P TreeFault) → ((most : ℕ) (ofx : Item) → IsWithin most ofx → Holds most Any (parts_of ofx)) →
    (body : List ℕ) (nodes : List TagNode) (ofx : Item) (fault : TreeFault) → AreSlices body nodes → IsRoot nodes ofx → parts_of ofx ≡ Err fault → IsFormWithin (length body) fault
form_fault_within parts_of offsets body nodes ofx fault slices root h = is_within (length body) fault (fault_located parts_of offsets body nodes ofx fault slices root h)

-- the fault of a body's forms has an offset
pub form_fault_offset : {P : Type 0} (parts_of : Item → Result P TreeFault) → ((most : ℕ) (ofx : Item) → IsWithin most ofx → Holds most Any (parts_of ofx)) →
    (body : List ℕ) (nodes : List TagNode) (ofx : Item) (fault : TreeFault) → AreSlices body nodes → IsRoot nodes ofx → parts_of ofx ≡ Err fault →
    (offset : ℕ) × (form_offset fault ≡ Some offset)
form_fault_offset parts_of offsets body nodes ofx fault slices root h = offset_of (length body) fault (fault_located parts_of offsets body nodes ofx fault slices root h)
