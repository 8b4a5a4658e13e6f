-- Documents: what a sheet writes, as leaves and branches, and the tree and the items that they read back as.
use Rattle.std.specs.Prelude.{◌≡◌, ℕ, ◌+◌, ◌-◌, ◌<◌, true, false, nat_eq, List, [], ◌∷◌, ◌++◌, length, filter, codes}
use Rattle.std.specs.List.{starts_with}
use Rattle.ofx_types.specs.TextRules.{IsText}
use Rattle.ofx_types.specs.ValueForm.{value_of}
use Rattle.ofx_types.specs.Sheet.{ended, start_line}
use Rattle.ofx_types.specs.Sheet as sheet
use Rattle.ofx_types.specs.TagNames.{is_one_of, aggregate_names}
use Rattle.ofx_types.specs.TagForm.{Tree, nothing, element, aggregate, Spells, IsWhite, end_tag}
use Rattle.ofx_types.specs.Nodes.{Item, nodes_from, children, AreNodesOf}
use Rattle.ofx_types.specs.FormWords.{has_name, is_absent, named}
use Rattle.ofx_tree.specs.PrintedForm.{IsElementName, IsAggregateName, written}

-- Documents in order. A leaf has a name and a value, a branch a name and documents in it.
pub data Documents : Type 0 where
  empty : Documents
  leaf : (name value : List ℕ) (suffix : Documents) → Documents
  branch : (name : List ℕ) (inner suffix : Documents) → Documents

-- A leaf is printed as an element, a branch as an aggregate.
abbrev pub printed : Documents → List ℕ
printed empty = []
printed (leaf name value suffix) = sheet.element name value ++ printed suffix
printed (branch name inner suffix) = sheet.aggregate name (printed inner) ++ printed suffix

-- A leaf has a name that isn't always an aggregate's, and its value is a text of 1 byte or more.
pub record IsLeaf (name value : List ℕ) : Type 0 where
  pub has_name : IsElementName name
  pub is_text : IsText value
  pub is_there : 0 < length value

-- A branch has one of the names that are always aggregates.
pub record IsBranch (name : List ℕ) : Type 0 where
  pub has_name : IsAggregateName name
  pub is_known : is_one_of aggregate_names name ≡ true

-- All of them are such leaves and branches, and at most so many branches are nested in each other.
abbrev pub AreLawful : ℕ → Documents → Type 0
AreLawful room empty = Unit {0}
AreLawful room (leaf name value suffix) = IsLeaf name value × AreLawful room suffix
AreLawful room (branch name inner suffix) =
    IsBranch name × (0 < room) × AreLawful (room - 1) inner × AreLawful room suffix

-- ---- what they spell

-- The tree of documents that are printed at an offset, with the next tree after it.
abbrev pub tree_of : ℕ → Documents → Tree → Tree
tree_of offset empty next = next
tree_of offset (leaf name value suffix) next =
    element offset name (written value) (tree_of (offset + length (sheet.element name value)) suffix next)
tree_of offset (branch name inner suffix) next =
    aggregate offset name (ended []) (tree_of (offset + length (start_line name)) inner nothing)
    (tree_of (offset + length (sheet.aggregate name (printed inner))) suffix next)

-- The bytes begin with no end tag of an element.
abbrev pub ClosesNoElement : List ℕ → Type 0
ClosesNoElement bytes = (name : List ℕ) → IsElementName name → starts_with nat_eq bytes (end_tag name) ≡ false

-- Documents that are printed before more bytes spell their tree before what those bytes spell.
abbrev pub DocumentsReadBack : Type 0
DocumentsReadBack =
    (size room offset : ℕ) (documents : Documents) (more rest : List ℕ) (next : Tree)
    → AreLawful room documents → ClosesNoElement more
    → offset + length (printed documents ++ more) ≡ size
    → Spells size room more next rest
    → Spells size room (printed documents ++ more) (tree_of offset documents next) rest

-- ---- their items

-- The item of a leaf that is printed at an offset. Its node has this index.
abbrev pub leaf_item : ℕ → ℕ → List ℕ → List ℕ → Item
leaf_item offset index name value = record {
  node = record { is_element = true; name = name; text = written value; offset = offset; after = index + 1 };
  first = index + 1;
  inner = [];
}

-- The item of a branch that is printed at an offset. Its node has this index.
abbrev pub branch_item : ℕ → ℕ → List ℕ → Documents → Item
branch_item offset index name inner =
    let nodes = nodes_from (index + 1) (tree_of (offset + length (start_line name)) inner nothing) in
    record {
      node = record { is_element = false; name = name; text = ended []; offset = offset; after = index + 1 + length nodes };
      first = index + 1;
      inner = nodes;
    }

-- The items of documents that are printed at an offset. The first of their nodes has this index.
abbrev pub items_of : ℕ → ℕ → Documents → List Item
items_of offset index empty = []
items_of offset index (leaf name value suffix) =
    leaf_item offset index name value ∷ items_of (offset + length (sheet.element name value)) (index + 1) suffix
items_of offset index (branch name inner suffix) =
    let item = branch_item offset index name inner in
    item ∷ items_of (offset + length (sheet.aggregate name (printed inner))) item.node.after suffix

-- The children of a branch are the items of its documents.
abbrev pub BranchesHoldTheirDocuments : Type 0
BranchesHoldTheirDocuments =
    (offset index : ℕ) (name : List ℕ) (inner : Documents)
    → children (branch_item offset index name inner) ≡ items_of (offset + length (start_line name)) (index + 1) inner

-- None of them is absent: those that a name finds are all that have it.
abbrev pub DocumentsAreFound : Type 0
DocumentsAreFound =
    (offset index room : ℕ) (own name : List ℕ) (inner : Documents) → AreLawful room inner
    → named name (branch_item offset index own inner)
    ≡ filter (λ item. has_name name item) (items_of (offset + length (start_line own)) (index + 1) inner)

-- A leaf's item stands for its value.
abbrev pub LeavesHaveTheirValues : Type 0
LeavesHaveTheirValues =
    (offset index : ℕ) (name value : List ℕ) → IsLeaf name value
    → let item = leaf_item offset index name value in
    (value_of item.node.text ≡ value) × (is_absent item.node ≡ false)

-- Documents between the tags of OFX are the body's nodes: the first one is that of the branch OFX, with the others in it.
abbrev pub BodiesHoldTheirDocuments : Type 0
BodiesHoldTheirDocuments =
    (white : List ℕ) (inner : Documents) → IsWhite white → AreLawful 15 inner
    → let ofx = branch_item (length white) 0 (codes "OFX") inner in
    AreNodesOf (white ++ sheet.aggregate (codes "OFX") (printed inner)) (ofx.node ∷ ofx.inner)
