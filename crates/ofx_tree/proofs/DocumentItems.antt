-- The items of documents: their children by name, and their values.
use Rattle.std.proofs.Common.{◌≡◌, ℕ, ◌+◌, ◌-◌, min, Bool, true, false, cond, not, ◌&&◌, List, [], ◌∷◌, ◌++◌, length, drop, filter, refl, sym, ap, ◌∙◌, arith}
use Rattle.std.proofs.lemmas.List.{length-append, take_at, drop_at}
use Rattle.ofx_types.specs.Sheet.{ended, start_line}
use Rattle.ofx_types.specs.Sheet as sheet
use Rattle.ofx_types.specs.TagForm.{nothing}
use Rattle.ofx_types.specs.Nodes.{TagNode, Item, nodes_from, items_from}
use Rattle.ofx_types.specs.TagNames.{is_one_of}
use Rattle.ofx_types.specs.FormWords.{has_name, is_absent, named_one_of}
use Rattle.ofx_types.specs.MessageForm.{is_named_one_of}
use Rattle.ofx_tree.specs.Documents.{Documents, empty, leaf, branch, printed, AreLawful, tree_of, leaf_item, branch_item, items_of, BranchesHoldTheirDocuments, DocumentsAreFound, LeavesHaveTheirValues}
use Rattle.ofx_tree.proofs.Items.{first_of}
use Rattle.ofx_tree.proofs.Written.{value_of-written, written_black}

-- ---- children

-- an item with the nodes in it, before other nodes
whole_item : (index : ℕ) (node : TagNode) (within more : List TagNode) → node.after ≡ index + 1 + length within
    → items_from index index (node ∷ (within ++ more))
    ≡ record { node = node; first = index + 1; inner = within } ∷ items_from node.after node.after more
whole_item index node within more after =
    let end = index + 1 + length within in
    let size : length within ≡ min (node.after - (index + 1)) (length (within ++ more)) = omega (arith, length-append within more) in
    let item : List TagNode → Item = λ nodes. record { node = node; first = index + 1; inner = nodes } in
    first_of index (length within) node (within ++ more) size
    ∙ ap (λ (nodes : List TagNode). item nodes ∷ items_from end end (drop (length within) (within ++ more))) (take_at within more (length within) refl)
    ∙ ap (λ (nodes : List TagNode). item within ∷ items_from end end nodes) (drop_at within more (length within) refl)
    ∙ ap (λ (i : ℕ). item within ∷ items_from i i more) (sym after)

items_are : (offset index : ℕ) (documents : Documents) → items_from index index (nodes_from index (tree_of offset documents nothing)) ≡ items_of offset index documents
unfolding items_from
items_are offset index empty = refl
items_are offset index (leaf name value suffix) =
    let item = leaf_item offset index name value in
    let next = offset + length (sheet.element name value) in
    whole_item index item.node [] (nodes_from (index + 1) (tree_of next suffix nothing)) (omega arith)
    ∙ ap (λ (items : List Item). item ∷ items) (items_are next (index + 1) suffix)
items_are offset index (branch name inner suffix) =
    let item = branch_item offset index name inner in
    let next = offset + length (sheet.aggregate name (printed inner)) in
    whole_item index item.node item.inner (nodes_from item.node.after (tree_of next suffix nothing)) refl
    ∙ ap (λ (items : List Item). item ∷ items) (items_are next item.node.after suffix)

pub children_of_branch : BranchesHoldTheirDocuments
children_of_branch offset index name inner = items_are (offset + length (start_line name)) (index + 1) inner

-- ---- values

pub value_of_leaf : LeavesHaveTheirValues
value_of_leaf offset index name value is =
    (value_of-written value is.is_text.is_trimmed is.is_there, written_black value is.is_text.is_trimmed is.is_there)

-- ---- names

holds_as_named : (named absent : Bool) → absent ≡ false → (named && not absent) ≡ named
holds_as_named true absent h = rw h refl
holds_as_named false absent h = refl

abbrev found : (Item → Bool) → List Item → List Item
found test items = filter (λ item. test item && not (is_absent item.node)) items

one_more : (test : Item → Bool) (item : Item) (items : List Item) → is_absent item.node ≡ false → found test items ≡ filter test items → found test (item ∷ items) ≡ filter test (item ∷ items)
one_more test item items there again =
    ap (λ (b : Bool). cond b (item ∷ found test items) (found test items)) (holds_as_named (test item) (is_absent item.node) there)
    ∙ ap (λ (more : List Item). cond (test item) (item ∷ more) more) again

items_hold : (offset index room : ℕ) (test : Item → Bool) (documents : Documents) → AreLawful room documents → found test (items_of offset index documents) ≡ filter test (items_of offset index documents)
items_hold offset index room test empty lawful = refl
items_hold offset index room test (leaf other value suffix) lawful =
    let next = offset + length (sheet.element other value) in
    one_more test (leaf_item offset index other value) (items_of next (index + 1) suffix) (value_of_leaf offset index other value lawful.0).1
    (items_hold next (index + 1) room test suffix lawful.1)
items_hold offset index room test (branch other inner suffix) lawful =
    let item = branch_item offset index other inner in
    let next = offset + length (sheet.aggregate other (printed inner)) in
    one_more test item (items_of next item.node.after suffix) refl (items_hold next item.node.after room test suffix lawful.3)

pub named_of_branch : DocumentsAreFound
named_of_branch offset index room own name inner lawful =
    ap (found (has_name name)) (children_of_branch offset index own inner)
    ∙ items_hold (offset + length (start_line own)) (index + 1) room (has_name name) inner lawful

-- the same of several names
pub named_one_of_branch : (offset index room : ℕ) (own : List ℕ) (names : List (List ℕ)) (inner : Documents) → AreLawful room inner
    → named_one_of names (branch_item offset index own inner)
    ≡ filter (λ item. is_one_of names item.node.name) (items_of (offset + length (start_line own)) (index + 1) inner)
named_one_of_branch offset index room own names inner lawful =
    ap (found (is_named_one_of names)) (children_of_branch offset index own inner)
    ∙ items_hold (offset + length (start_line own)) (index + 1) room (is_named_one_of names) inner lawful
