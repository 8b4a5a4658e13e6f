-- Bytes have one header, one body and one reading of it: what holds of requests and of replies alike.
use Rattle.std.proofs.Common.{◌≡◌, ℕ, ◌+◌, ◌⊎◌, inl, inr, List, ◌∷◌, drop, Option, None, Some, Result, Ok, Err, refl, sym, ap, subst, ◌∙◌}
use Rattle.ofx_types.specs.HeaderForm.{header_fault}
use Rattle.ofx_types.specs.TagFault.{tag_fault}
use Rattle.ofx_types.specs.Nodes.{TagNode, Item, AreNodesOf, IsRoot, nodes_from}
use Rattle.ofx_types.specs.FileForm.{HasBody, header_offset, tag_offset, form_offset, HasHeader, IsHeaderFault, IsSyntaxFault, IsFormFault, IsFaultIn, OneFaultOf}
use Rattle.ofx_types.specs.declared.fault.HeaderFault.{HeaderFault}
use Rattle.ofx_types.specs.declared.fault.TapeFault.{TapeFault}
use Rattle.ofx_types.specs.declared.fault.TreeFault.{TreeFault}
use Rattle.ofx_types.specs.declared.fault.FileFault.{FileFault}
use Rattle.ofx_types.specs.declared.fault.FileFault.TheVariants.{Header, Syntax, Form, OutOfMemory}
use Rattle.ofx_header.specs.HeaderLaws.{OneHeader, SpelledIsFaultless, FaultlessIsSpelled}
use Rattle.ofx_tape.specs.Slices.{NodesAreSlices}
use Rattle.ofx_tape.specs.TapeOutcome.{TagsAreUnambiguous, SpelledTagsHaveNoFault, FaultlessTagsAreSpelled}
use Rattle.ofx_tree.specs.Located.{IsWithin, Holds, Any}
use Rattle.ofx_tree.proofs.FormLaws.{one_value}
use Rattle.ofx_file.proofs.FormOffsets.{form_fault_offset}
use Rattle.ofx_file.proofs.TagOffsets.{tag_fault_offset}

-- the laws that the laws of files stand on
pub record Laws : Type 0 where
  pub headers : OneHeader
  pub header_faults : SpelledIsFaultless
  pub tags : TagsAreUnambiguous
  pub tag_faults : SpelledTagsHaveNoFault

none_some : {A B : Type 0} (o : Option A) (x : A) → o ≡ None → o ≡ Some x → B
none_some o x h i = cc

some_same : {A : Type 0} (o : Option A) (x y : A) → o ≡ Some x → o ≡ Some y → x ≡ y
some_same o x y h i = cc

ok_err : {A B : Type 0} (r : Result A TreeFault) (x : A) (e : TreeFault) → r ≡ Ok x → r ≡ Err e → B
ok_err r x e h i = cc

err_same : {A : Type 0} (r : Result A TreeFault) (x y : TreeFault) → r ≡ Err x → r ≡ Err y → x ≡ y
err_same r x y h i = cc

-- ---- the parts of a file

item_with : TagNode → ℕ → List TagNode → Item
item_with node first inner = record { node = node; first = first; inner = inner }

cons_same : (a b : TagNode) (xs ys : List TagNode) → a ∷ xs ≡ b ∷ ys → (a ≡ b) × (xs ≡ ys)
cons_same a b xs ys h = (cc, cc)

one_root : (nodes : List TagNode) (a b : Item) → IsRoot nodes a → IsRoot nodes b → a ≡ b
unfolding item_with
one_root nodes a b x y =
    let same = cons_same a.node b.node x.0 y.0 (sym x.1 ∙ y.1) in
    ap (λ n. item_with n a.first a.inner) same.0
    ∙ ap (λ f. item_with b.node f a.inner) (x.2 ∙ sym y.2)
    ∙ ap (λ i. item_with b.node b.first i) (x.3 ∙ same.1 ∙ sym y.3)

-- after headers of one size stands one body
pub one_body : Laws → (bytes : List ℕ) (m n : ℕ) (xs ys : List TagNode) (a b : Item) → m ≡ n → HasBody bytes m xs a → HasBody bytes n ys b → a ≡ b
one_body laws bytes m n xs ys a b size x y =
    let P : ℕ → Type 0 = λ k. AreNodesOf (drop k bytes) xs in
    let Q : List TagNode → Type 0 = λ nodes. IsRoot nodes a in
    let same = laws.tags (drop n bytes) xs ys (subst P size x.are_nodes) y.are_nodes in
    one_root ys a b (subst Q same x.is_root) y.is_root

one_size : Laws → (bytes : List ℕ) (m n : ℕ) → HasHeader bytes m → HasHeader bytes n → m ≡ n
one_size laws bytes m n x y = (laws.headers bytes x.version y.version x.older y.older x.newer y.newer m n x.spelled y.spelled).3

-- and its parts are read in one way
pub one_reading : {P : Type 0} → Laws → (parts_of : Item → Result P TreeFault) (bytes : List ℕ) (m n : ℕ) (xs ys : List TagNode) (a b : Item) (p q : P) → m ≡ n →
    HasBody bytes m xs a → HasBody bytes n ys b → parts_of a ≡ Ok p → parts_of b ≡ Ok q → p ≡ q
one_reading laws parts_of bytes m n xs ys a b p q size x y h i =
    one_value (parts_of a) p q h (ap parts_of (one_body laws bytes m n xs ys a b size x y) ∙ i)

-- ---- faults

no_header_fault : Laws → (bytes : List ℕ) (at size : ℕ) → HasHeader bytes size → IsHeaderFault bytes at → ⊥
no_header_fault laws bytes at size h f =
    none_some (header_fault bytes) f.0 (laws.header_faults bytes h.version h.older h.newer size h.spelled) f.1

no_syntax_fault : Laws → (bytes : List ℕ) (at size : ℕ) (nodes : List TagNode) (ofx : Item) → HasHeader bytes size → HasBody bytes size nodes ofx → IsSyntaxFault bytes at → ⊥
no_syntax_fault laws bytes at size nodes ofx h b f =
    let same = one_size laws bytes f.size size f.header h in
    none_some (tag_fault (drop size bytes)) f.fault (laws.tag_faults (drop size bytes) nodes b.are_nodes) (ap (λ n. tag_fault (drop n bytes)) (sym same) ∙ f.is_fault)

no_form_fault : {P : Type 0} → Laws → (parts_of : Item → Result P TreeFault) (bytes : List ℕ) (at size : ℕ) (nodes : List TagNode) (ofx : Item) (parts : P) →
    HasHeader bytes size → HasBody bytes size nodes ofx → parts_of ofx ≡ Ok parts → IsFormFault parts_of bytes at → ⊥
no_form_fault laws parts_of bytes at size nodes ofx parts h b r f =
    let same = one_body laws bytes f.size size f.nodes nodes f.ofx ofx (one_size laws bytes f.size size f.header h) f.body b in
    ok_err (parts_of ofx) parts f.fault r (ap parts_of (sym same) ∙ f.is_fault)

-- bytes whose parts are read have no fault
pub no_fault : {P : Type 0} → Laws → (parts_of : Item → Result P TreeFault) (bytes : List ℕ) (size : ℕ) (nodes : List TagNode) (ofx : Item) (parts : P) (fault : FileFault) →
    HasHeader bytes size → HasBody bytes size nodes ofx → parts_of ofx ≡ Ok parts → IsFaultIn parts_of bytes fault → ⊥
no_fault laws parts_of bytes size nodes ofx parts (Header at) h b r f = no_header_fault laws bytes at size h f
no_fault laws parts_of bytes size nodes ofx parts (Syntax at) h b r f = no_syntax_fault laws bytes at size nodes ofx h b f
no_fault laws parts_of bytes size nodes ofx parts (Form at) h b r f = no_form_fault laws parts_of bytes at size nodes ofx parts h b r f
no_fault laws parts_of bytes size nodes ofx parts OutOfMemory h b r f = f

one_header_offset : (bytes : List ℕ) (at to : ℕ) → IsHeaderFault bytes at → IsHeaderFault bytes to → at ≡ to
one_header_offset bytes at to x y = x.2 ∙ ap header_offset (some_same (header_fault bytes) x.0 y.0 x.1 y.1) ∙ sym y.2

sum_same : (a b c d : ℕ) → a ≡ b → c ≡ d → a + c ≡ b + d
sum_same a b c d h i = cc

one_syntax_offset : Laws → (bytes : List ℕ) (at to : ℕ) → IsSyntaxFault bytes at → IsSyntaxFault bytes to → at ≡ to
one_syntax_offset laws bytes at to x y =
    let size = one_size laws bytes x.size y.size x.header y.header in
    let fault = some_same (tag_fault (drop y.size bytes)) x.fault y.fault (ap (λ n. tag_fault (drop n bytes)) (sym size) ∙ x.is_fault) y.is_fault in
    let offset = some_same (tag_offset y.fault) x.offset y.offset (ap tag_offset (sym fault) ∙ x.has_offset) y.has_offset in
    x.at_is ∙ sum_same x.size y.size x.offset y.offset size offset ∙ sym y.at_is

one_form_offset : {P : Type 0} → Laws → (parts_of : Item → Result P TreeFault) (bytes : List ℕ) (at to : ℕ) → IsFormFault parts_of bytes at → IsFormFault parts_of bytes to → at ≡ to
one_form_offset laws parts_of bytes at to x y =
    let size = one_size laws bytes x.size y.size x.header y.header in
    let ofx = one_body laws bytes x.size y.size x.nodes y.nodes x.ofx y.ofx size x.body y.body in
    let fault = err_same (parts_of y.ofx) x.fault y.fault (ap parts_of (sym ofx) ∙ x.is_fault) y.is_fault in
    let offset = some_same (form_offset y.fault) x.offset y.offset (ap form_offset (sym fault) ∙ x.has_offset) y.has_offset in
    x.at_is ∙ sum_same x.size y.size x.offset y.offset size offset ∙ sym y.at_is

pub one_fault : {P : Type 0} → Laws → (parts_of : Item → Result P TreeFault) → OneFaultOf (IsFaultIn parts_of)
one_fault laws parts_of bytes (Header at) (Header to) x y = ap Header (one_header_offset bytes at to x y)
one_fault laws parts_of bytes (Header at) (Syntax to) x y = absurd (no_header_fault laws bytes at y.size y.header x)
one_fault laws parts_of bytes (Header at) (Form to) x y = absurd (no_header_fault laws bytes at y.size y.header x)
one_fault laws parts_of bytes (Syntax at) (Header to) x y = absurd (no_header_fault laws bytes to x.size x.header y)
one_fault laws parts_of bytes (Syntax at) (Syntax to) x y = ap Syntax (one_syntax_offset laws bytes at to x y)
one_fault laws parts_of bytes (Syntax at) (Form to) x y = absurd (no_syntax_fault laws bytes at y.size y.nodes y.ofx y.header y.body x)
one_fault laws parts_of bytes (Form at) (Header to) x y = absurd (no_header_fault laws bytes to x.size x.header y)
one_fault laws parts_of bytes (Form at) (Syntax to) x y = absurd (no_syntax_fault laws bytes to x.size x.nodes x.ofx x.header x.body y)
one_fault laws parts_of bytes (Form at) (Form to) x y = ap Form (one_form_offset laws parts_of bytes at to x y)
one_fault laws parts_of bytes (Header at) OutOfMemory x y = absurd y
one_fault laws parts_of bytes (Syntax at) OutOfMemory x y = absurd y
one_fault laws parts_of bytes (Form at) OutOfMemory x y = absurd y
one_fault laws parts_of bytes OutOfMemory b x y = absurd x

-- ---- any bytes are judged

-- the laws that any bytes are judged by
pub record Judges : Type 0 where
  pub headers : FaultlessIsSpelled
  pub tags : FaultlessTagsAreSpelled
  pub slices : NodesAreSlices

-- After a header stands a body whose parts are read.
pub record HasParts {P : Type 0} (parts_of : Item → Result P TreeFault) (bytes : List ℕ) : Type 0 where
  pub size : ℕ
  pub nodes : List TagNode
  pub ofx : Item
  pub parts : P
  pub header : HasHeader bytes size
  pub body : HasBody bytes size nodes ofx
  pub is_read : parts_of ofx ≡ Ok parts

abbrev IsJudged : {P : Type 0} → (Item → Result P TreeFault) → List ℕ → Type 0
IsJudged parts_of bytes = HasParts parts_of bytes ⊎ ((fault : FileFault) × IsFaultIn parts_of bytes fault)

abbrev item_of : TagNode → List TagNode → Item
item_of node inner = record { node = node; first = 1; inner = inner }

first_is_root : (nodes suffix : List TagNode) (node : TagNode) → nodes ≡ node ∷ suffix → (ofx : Item) × IsRoot nodes ofx
first_is_root nodes suffix node h = (item_of node suffix, (suffix, h, refl, refl))

-- the nodes of a body have OFX as their root
has_root : (body : List ℕ) (nodes : List TagNode) → AreNodesOf body nodes → (ofx : Item) × IsRoot nodes ofx
has_root body nodes are = first_is_root nodes _ _ (are.are ∙ ap (nodes_from 0) are.spelled.is_whole)

abbrev pub HaveOffsets : {P : Type 0} → (Item → Result P TreeFault) → Type 0
HaveOffsets parts_of = (most : ℕ) (ofx : Item) → IsWithin most ofx → Holds most Any (parts_of ofx)

by_forms : {P : Type 0} → Judges → (parts_of : Item → Result P TreeFault) → HaveOffsets parts_of → (bytes : List ℕ) (size : ℕ) (nodes : List TagNode) (ofx : Item) →
    HasHeader bytes size → HasBody bytes size nodes ofx → IsJudged parts_of bytes
by_forms {P = P} laws parts_of offsets bytes size nodes ofx header body = go (parts_of ofx) refl
  where
    go : (r : Result P TreeFault) → parts_of ofx ≡ r → IsJudged parts_of bytes
    go (Ok parts) h = inl (record { size = size; nodes = nodes; ofx = ofx; parts = parts; header = header; body = body; is_read = h })
    go (Err fault) h =
        let slices = laws.slices (drop size bytes) nodes body.are_nodes in
        let offset = form_fault_offset parts_of offsets (drop size bytes) nodes ofx fault slices body.is_root h in
        inr (
          Form (size + offset.0),
          record {
            size = size;
            nodes = nodes;
            ofx = ofx;
            fault = fault;
            offset = offset.0;
            header = header;
            body = body;
            is_fault = h;
            has_offset = offset.1;
            at_is = refl;
          },
        )

by_nodes : {P : Type 0} → Judges → (parts_of : Item → Result P TreeFault) → HaveOffsets parts_of → (bytes : List ℕ) (size : ℕ) (nodes : List TagNode) →
    HasHeader bytes size → AreNodesOf (drop size bytes) nodes → IsJudged parts_of bytes
by_nodes laws parts_of offsets bytes size nodes header are =
    let root = has_root (drop size bytes) nodes are in
    by_forms laws parts_of offsets bytes size nodes root.0 header (record { are_nodes = are; is_root = root.1 })

by_tags : {P : Type 0} → Judges → (parts_of : Item → Result P TreeFault) → HaveOffsets parts_of → (bytes : List ℕ) (size : ℕ) → HasHeader bytes size → IsJudged parts_of bytes
by_tags laws parts_of offsets bytes size header = go (tag_fault (drop size bytes)) refl
  where
    go : (found : Option TapeFault) → tag_fault (drop size bytes) ≡ found → IsJudged parts_of bytes
    go None h = let spelling = laws.tags (drop size bytes) h in by_nodes laws parts_of offsets bytes size spelling.0 header spelling.1
    go (Some fault) h =
        let offset = tag_fault_offset (drop size bytes) fault h in
        inr (
          Syntax (size + offset.0),
          record {
            size = size;
            fault = fault;
            offset = offset.0;
            header = header;
            is_fault = h;
            has_offset = offset.1;
            at_is = refl;
          },
        )

pub judged : {P : Type 0} → Judges → (parts_of : Item → Result P TreeFault) → HaveOffsets parts_of → (bytes : List ℕ) → IsJudged parts_of bytes
judged laws parts_of offsets bytes = go (header_fault bytes) refl
  where
    go : (found : Option HeaderFault) → header_fault bytes ≡ found → IsJudged parts_of bytes
    go None h = let header = laws.headers bytes h in by_tags laws parts_of offsets bytes header.0 header.1
    go (Some fault) h = inr (Header (header_offset fault), (fault, h, refl))
