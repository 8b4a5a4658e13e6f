-- Documents that are printed spell their tree.
use Rattle.std.proofs.Common.{◌≡◌, ℕ, ◌+◌, ◌-◌, true, false, nat_eq, List, [], ◌∷◌, ◌++◌, length, codes, Some, refl, sym, ap, ◌∙◌, append_assoc, append-nil, arith}
use Rattle.std.proofs.lemmas.Bool.{both_ways, false_from_ne_true}
use Rattle.std.proofs.lemmas.List.{length-append}
use Rattle.std.proofs.lemmas.Slice.Eq.{bytes_eq-Decides}
use Rattle.std.specs.Str.{bytes_eq}
use Rattle.std.specs.List.{starts_with}
use Rattle.ofx_types.specs.Sheet.{tag, ended, start_line, end_line}
use Rattle.ofx_types.specs.Sheet as sheet
use Rattle.ofx_types.specs.TagNames.{is_name, is_one_of, aggregate_names}
use Rattle.ofx_types.specs.TagForm.{nothing, end_tag}
use Rattle.ofx_types.specs.Nodes.{TagNode}
use Rattle.ofx_tape.proofs.Reading.{start_awaits, other_awaits}
use Rattle.ofx_tree.specs.PrintedForm.{IsElementName, written}
use Rattle.ofx_tree.specs.Documents.{Documents, empty, leaf, branch, printed, IsBranch, AreLawful, tree_of, ClosesNoElement, DocumentsReadBack, branch_item, BodiesHoldTheirDocuments}
use Rattle.ofx_tree.proofs.Printed.{elements, aggregates, bodies, element_line, aggregate_lines}

-- ---- no end tag of an element comes first

start_closes_none : (name more : List ℕ) → is_name name ≡ true → ClosesNoElement (tag name ++ more)
start_closes_none name more named other o = start_awaits (Some other) name more named

-- an element isn't named as an aggregate is
other_name : (name other : List ℕ) → IsBranch name → IsElementName other → bytes_eq other name ≡ false
other_name name other b o =
    false_from_ne_true (bytes_eq other name) (λ (same : bytes_eq other name ≡ true).
    both_ways (is_one_of aggregate_names other) o.is_free (ap (is_one_of aggregate_names) ((bytes_eq-Decides other name).0 same) ∙ b.is_known))

end_closes_none : (name more : List ℕ) → IsBranch name → ClosesNoElement (end_line name ++ more)
end_closes_none name more b other o =
    ap (λ bytes. starts_with nat_eq bytes (end_tag other)) (append_assoc (end_tag name) (ended []) more)
    ∙ other_awaits other name (ended [] ++ more) o.has_name b.has_name.has_name (other_name name other b o)

documents_close_none : (room : ℕ) (documents : Documents) (more : List ℕ) → AreLawful room documents → ClosesNoElement more → ClosesNoElement (printed documents ++ more)
documents_close_none room empty more lawful none = none
documents_close_none room (leaf name value suffix) more lawful none =
    rw (append_assoc, element_line name value (printed suffix ++ more) lawful.0.is_there)
    (start_closes_none name (written value ++ (printed suffix ++ more)) lawful.0.has_name.has_name)
documents_close_none room (branch name inner suffix) more lawful none =
    rw (append_assoc, aggregate_lines name (printed inner) (printed suffix ++ more))
    (start_closes_none name (ended [] ++ (printed inner ++ (end_line name ++ (printed suffix ++ more)))) lawful.0.has_name.has_name)

-- ---- the tree

-- the offset after printed bytes
located_after : (size offset : ℕ) (bytes more : List ℕ) → offset + length (bytes ++ more) ≡ size → offset + length bytes + length more ≡ size
located_after size offset bytes more at = omega (arith, length-append bytes more)

opened : (name inner more : List ℕ) → start_line name ++ (inner ++ (end_line name ++ more)) ≡ sheet.aggregate name inner ++ more
unfolding sheet.aggregate
opened name inner more = simp append_assoc

pub documents_spell : DocumentsReadBack
documents_spell size room offset empty more rest next lawful none at spells = spells
documents_spell size room offset (leaf name value suffix) more rest next lawful none at spells =
    let split : (sheet.element name value ++ printed suffix) ++ more ≡ sheet.element name value ++ (printed suffix ++ more) = append_assoc (sheet.element name value) (printed suffix) more in
    let located : offset + length (sheet.element name value ++ (printed suffix ++ more)) ≡ size = ap (λ (bytes : List ℕ). offset + length bytes) (sym split) ∙ at in
    let further = documents_spell size room (offset + length (sheet.element name value)) suffix more rest next lawful.1 none
    (located_after size offset (sheet.element name value) (printed suffix ++ more) located) spells in
    rw split (elements size room offset name value (printed suffix ++ more) rest _ lawful.0.has_name lawful.0.is_text lawful.0.is_there
    (documents_close_none room suffix more lawful.1 none name lawful.0.has_name) located further).0
documents_spell size room offset (branch name inner suffix) more rest next lawful none at spells =
    let lines = sheet.aggregate name (printed inner) in
    let end = end_line name ++ (printed suffix ++ more) in
    let split : (lines ++ printed suffix) ++ more ≡ lines ++ (printed suffix ++ more) = append_assoc lines (printed suffix) more in
    let located : offset + length (lines ++ (printed suffix ++ more)) ≡ size = ap (λ (bytes : List ℕ). offset + length bytes) (sym split) ∙ at in
    let further = documents_spell size room (offset + length lines) suffix more rest next lawful.3 none
    (located_after size offset lines (printed suffix ++ more) located) spells in
    let inside = documents_spell size (room - 1) (offset + length (start_line name)) inner end end nothing lawful.2
    (end_closes_none name (printed suffix ++ more) lawful.0)
    (located_after size offset (start_line name) (printed inner ++ end) (ap (λ (bytes : List ℕ). offset + length bytes) (opened name (printed inner) (printed suffix ++ more)) ∙ located)) refl in
    rw split (aggregates size room offset name (printed inner) (printed suffix ++ more) rest _ _ lawful.0.has_name lawful.1 located inside further)

-- ---- bodies

inner_located : (white name inner : List ℕ) → length white + length (start_line name) + length (inner ++ end_line name) ≡ length (white ++ sheet.aggregate name inner)
unfolding sheet.aggregate
inner_located white name inner =
    omega (arith, length-append white (start_line name ++ (inner ++ end_line name)), length-append (start_line name) (inner ++ end_line name))

ofx_is_branch : IsBranch (codes "OFX")
ofx_is_branch = record { has_name = record { has_name = refl; is_free = refl }; is_known = refl }

pub documents_of_body : BodiesHoldTheirDocuments
documents_of_body white inner blank lawful =
    let name = codes "OFX" in
    let ofx = branch_item (length white) 0 name inner in
    let offset = length white + length (start_line name) in
    let within = tree_of offset inner nothing in
    let inside = documents_spell (length (white ++ sheet.aggregate name (printed inner))) 15 offset inner (end_line name) (end_line name) nothing lawful
    (end_closes_none name [] ofx_is_branch) (inner_located white name (printed inner)) refl in
    record {
      tree = tree_of (length white) (branch name inner empty) nothing;
      spelled = bodies white (printed inner) within blank inside;
      are = ap (λ (nodes : List TagNode). ofx.node ∷ nodes) (sym (append-nil ofx.inner));
    }
