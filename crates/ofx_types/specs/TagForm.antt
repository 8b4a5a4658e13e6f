-- The tags of a body: elements, whose end tags may be left out, and aggregates (OFX 1.6, "SGML Basics").
use Rattle.std.specs.Prelude.{◌≡◌, ℕ, ◌+◌, ◌-◌, ◌<◌, ◌⊎◌, Bool, true, false, not, ◌||◌, ◌==◌, nat_eq, List, [], ◌∷◌, ◌++◌, length, codes}
use Rattle.std.specs.List.{list_all, starts_with}
use Rattle.ofx_types.specs.TextRules.{is_white, is_refused_in_text}
use Rattle.ofx_types.specs.Sheet.{tag}
use Rattle.ofx_types.specs.TagNames.{is_name, is_element}

-- `</`, the name, `>`
abbrev pub end_tag : List ℕ → List ℕ
end_tag name = tag (47 ∷ name)

abbrev pub IsWhite : List ℕ → Type 0
IsWhite text = list_all is_white text ≡ true

-- A value ends before the next `<`, and no control byte but tab, LF and CR is in it.
abbrev pub is_value_byte : ℕ → Bool
is_value_byte b = not ((b == 60) || is_refused_in_text b)

-- Elements and aggregates in order. Each has the offset of its start tag, its name, and the text between that tag and the
-- next `<`, which is an element's value; an aggregate has besides what is in it.
pub data Tree : Type 0 where
  nothing : Tree
  element : (offset : ℕ) (name text : List ℕ) (suffix : Tree) → Tree
  aggregate : (offset : ℕ) (name text : List ℕ) (inner suffix : Tree) → Tree

-- An end tag of the same name right after an element's value belongs to the element, with the white space after it.
-- Where no such end tag is there, the element has none.
abbrev pub Closes : List ℕ → List ℕ → List ℕ → Type 0
Closes name closing more =
    ((white : List ℕ) × IsWhite white × (closing ≡ end_tag name ++ white))
    ⊎ ((closing ≡ []) × (starts_with nat_eq more (end_tag name) ≡ false))

-- An element of this name and value, with what closes it before more bytes.
pub record IsElement (name text closing more : List ℕ) : Type 0 where
  pub has_name : is_name name ≡ true
  pub is_one : is_element name text ≡ true
  pub is_value : list_all is_value_byte text ≡ true
  pub closes : Closes name closing more

-- Only white space is between the tags of aggregates.
pub record IsAggregate (name text white : List ℕ) : Type 0 where
  pub has_name : is_name name ≡ true
  pub is_one : is_element name text ≡ false
  pub is_white : IsWhite text
  pub is_white_after : IsWhite white

-- The bytes, which are the end of a body of this size, spell these elements and aggregates and go on with the rest. So
-- many aggregates may be opened in each other. The offset of a tag is the number of bytes before it.
abbrev pub Spells : ℕ → ℕ → List ℕ → Tree → List ℕ → Type 0
Spells size room bytes nothing rest = bytes ≡ rest
Spells size room bytes (element offset name text suffix) rest =
    (closing more : List ℕ) × IsElement name text closing more
    × (offset + length bytes ≡ size)
    × (bytes ≡ tag name ++ (text ++ (closing ++ more)))
    × Spells size room more suffix rest
Spells size room bytes (aggregate offset name text inner suffix) rest =
    (within white more : List ℕ) × IsAggregate name text white
    × (0 < room)
    × (offset + length bytes ≡ size)
    × (bytes ≡ tag name ++ (text ++ within))
    × Spells size (room - 1) within inner (end_tag name ++ (white ++ more))
    × Spells size room more suffix rest

-- A body is the aggregate OFX with white space before and after. At most 16 aggregates are open at once, OFX among them.
pub record SpellsBody (body : List ℕ) (tree : Tree) : Type 0 where
  pub white : List ℕ
  pub offset : ℕ
  pub text : List ℕ
  pub inner : Tree
  pub rest : List ℕ
  pub is_white : IsWhite white
  pub spelled : body ≡ white ++ rest
  pub is_whole : tree ≡ aggregate offset (codes "OFX") text inner nothing
  pub spells : Spells (length body) 16 rest tree []
