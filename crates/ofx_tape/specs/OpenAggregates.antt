-- What holds between two tags while a body is read from the left.
use Rattle.std.specs.Prelude.{◌≡◌, ℕ, ◌+◌, ◌-◌, ◌<◌, Bool, true, false, not, List, [], ◌∷◌, ◌++◌, length, drop, map, codes, Option, None, Some}
use Rattle.std.specs.List.{list_all, before_first, position_or_len}
use Rattle.ofx_types.specs.Sheet.{tag}
use Rattle.ofx_types.specs.TagNames.{is_name, is_element}
use Rattle.ofx_types.specs.TagForm.{IsWhite, is_value_byte, Tree, nothing, element, aggregate, Spells}
use Rattle.ofx_types.specs.Nodes.{TagNode, nodes_from}
use Rattle.ofx_types.specs.TagFault.{is_open, pieces_after, first_fault, tag_fault}

-- nothing is left, or a `<` comes next
abbrev pub is_at_tag : List ℕ → Bool
is_at_tag [] = true
is_at_tag (b ∷ bytes) = is_open b

-- the bytes up to the first one that doesn't pass a test, and that byte with what is after it
abbrev pub prefix_of : (ℕ → Bool) → List ℕ → List ℕ
prefix_of passes bytes = before_first (λ b. not (passes b)) bytes

abbrev pub after_prefix : (ℕ → Bool) → List ℕ → List ℕ
after_prefix passes bytes = drop (position_or_len (λ b. not (passes b)) bytes) bytes

-- one forest after another
abbrev pub join : Tree → Tree → Tree
join nothing later = later
join (element offset name text suffix) later = element offset name text (join suffix later)
join (aggregate offset name text inner suffix) later = aggregate offset name text inner (join suffix later)

-- An open aggregate: the offset of its start tag, its name, the text after that tag, and what comes before it in its parent.
pub record Frame : Type 0 where
  pub offset : ℕ
  pub name : List ℕ
  pub text : List ℕ
  pub before : Tree

-- The bytes begin with the start tag of an aggregate and the text after it.
pub record Begins (size : ℕ) (bytes : List ℕ) (offset : ℕ) (name text within : List ℕ) : Type 0 where
  pub has_name : is_name name ≡ true
  pub is_one : is_element name text ≡ false
  pub is_white : IsWhite text
  pub located : offset + length bytes ≡ size
  pub split : bytes ≡ tag name ++ (text ++ within)

-- how many more aggregates may be opened in each other
abbrev pub room_in : List Frame → ℕ
room_in frames = 16 - length frames

-- From the start on, up to the rest, the bytes spell the open aggregates, the innermost first, and what is in the innermost so far.
abbrev pub Holds : ℕ → List ℕ → List Frame → Tree → List ℕ → Type 0
Holds size start [] built rest = Spells size 16 start built rest
Holds size start (f ∷ outer) built rest =
    (bytes within : List ℕ) × Holds size start outer f.before bytes × Begins size bytes f.offset f.name f.text within
    × (length outer < 16) × Spells size (room_in (f ∷ outer)) within built rest

-- the names of the open aggregates
abbrev pub names_in : List Frame → List (List ℕ)
names_in frames = map (λ f. f.name) frames

-- The bytes begin with the start tag of an element and its value.
pub record BeginsElement (size : ℕ) (bytes : List ℕ) (offset : ℕ) (name text rest : List ℕ) : Type 0 where
  pub has_name : is_name name ≡ true
  pub is_one : is_element name text ≡ true
  pub is_value : list_all is_value_byte text ≡ true
  pub located : offset + length bytes ≡ size
  pub split : bytes ≡ tag name ++ (text ++ rest)

-- What is built so far ends in an element of this name, whose start tag and value end before the rest.
pub record Waits (size : ℕ) (start : List ℕ) (frames : List Frame) (name : List ℕ) (built : Tree) (rest : List ℕ) : Type 0 where
  pub before : Tree
  pub bytes : List ℕ
  pub offset : ℕ
  pub text : List ℕ
  pub is_built : built ≡ join before (element offset name text nothing)
  pub holds : Holds size start frames before bytes
  pub begins : BeginsElement size bytes offset name text rest

abbrev pub HoldsAfter : ℕ → List ℕ → List Frame → Option (List ℕ) → Tree → List ℕ → Type 0
HoldsAfter size start frames None built rest = Holds size start frames built rest
HoldsAfter size start frames (Some name) built rest = Waits size start frames name built rest

-- The node of an open aggregate, whose index after its last inner node isn't known yet.
abbrev pub open_node : ℕ → Frame → TagNode
open_node unknown f = record { is_element = false; name = f.name; text = f.text; offset = f.offset; after = unknown }

abbrev pub nodes_after : List TagNode → Tree → List TagNode
nodes_after nodes built = nodes ++ nodes_from (length nodes) built

abbrev pub open_nodes : ℕ → List Frame → List TagNode
open_nodes unknown [] = []
open_nodes unknown (f ∷ outer) = nodes_after (open_nodes unknown outer) f.before ++ open_node unknown f ∷ []

abbrev pub built_nodes : ℕ → List Frame → Tree → List TagNode
built_nodes unknown frames built = nodes_after (open_nodes unknown frames) built

-- the indices of the open aggregates' nodes
abbrev pub open_indices : ℕ → List Frame → List ℕ
open_indices unknown [] = []
open_indices unknown (f ∷ outer) = length (built_nodes unknown outer f.before) ∷ open_indices unknown outer

-- OFX is the outermost aggregate, and nothing comes before it.
abbrev pub AreInOfx : List Frame → Type 0
AreInOfx [] = Unit {0}
AreInOfx (f ∷ []) = (f.name ≡ codes "OFX") × (f.before ≡ nothing)
AreInOfx (f ∷ g ∷ outer) = AreInOfx (g ∷ outer)

-- What is at the outermost level: nothing before OFX, and OFX alone after it.
abbrev pub IsOutermost : List Frame → Bool → Tree → Type 0
IsOutermost [] false built = built ≡ nothing
IsOutermost [] true built = (offset : ℕ) × (text : List ℕ) × (inner : Tree) × (built ≡ aggregate offset (codes "OFX") text inner nothing)
IsOutermost (f ∷ outer) ended built = (ended ≡ false) × AreInOfx (f ∷ outer)

-- A body read up to the rest: its nodes so far, the names and the indices of those still open, the innermost first, whether
-- OFX has ended, and the element just before, where its end tag may still come.
pub record IsReading (body : List ℕ) (unknown : ℕ) (nodes : List TagNode) (names : List (List ℕ)) (indices : List ℕ) (ended : Bool) (before : Option (List ℕ)) (rest : List ℕ) : Type 0 where
  pub white : List ℕ
  pub start : List ℕ
  pub frames : List Frame
  pub built : Tree
  pub is_white : IsWhite white
  pub split : body ≡ white ++ start
  pub holds : HoldsAfter (length body) start frames before built rest
  pub outermost : IsOutermost frames ended built
  pub names_are : names ≡ names_in frames
  pub indices_are : indices ≡ open_indices unknown frames
  pub nodes_are : nodes ≡ built_nodes unknown frames built
  pub same_fault : first_fault (length body) (record { open_names = names; has_ended = ended; element = before }) (pieces_after (length body) rest) ≡ tag_fault body
