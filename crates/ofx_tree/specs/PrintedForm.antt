-- What a sheet writes is text of tags, and reads back as what was written.
use Rattle.std.specs.Prelude.{◌≡◌, ℕ, ◌+◌, ◌-◌, ◌<◌, true, false, nat_eq, List, [], ◌++◌, length, codes}
use Rattle.std.specs.List.{starts_with}
use Rattle.ofx_types.specs.TextRules.{IsText}
use Rattle.ofx_types.specs.ValueForm.{value_of}
use Rattle.ofx_types.specs.Sheet.{ended, escaped, end_line}
use Rattle.ofx_types.specs.Sheet as sheet
use Rattle.ofx_types.specs.TagNames.{is_name, is_one_of, element_names, aggregate_names}
use Rattle.ofx_types.specs.TagForm.{Tree, nothing, Spells, SpellsBody, IsWhite, end_tag}
use Rattle.ofx_types.specs.TagForm as tags

-- An element may have any name that isn't always an aggregate's, and an aggregate any that isn't always an element's.
pub record IsElementName (name : List ℕ) : Type 0 where
  pub has_name : is_name name ≡ true
  pub is_free : is_one_of aggregate_names name ≡ false

pub record IsAggregateName (name : List ℕ) : Type 0 where
  pub has_name : is_name name ≡ true
  pub is_free : is_one_of element_names name ≡ false

-- What follows an element's start tag, up to the next line.
abbrev pub written : List ℕ → List ℕ
written value = ended (escaped value)

-- A text of 1 byte or more that is written as an element reads back as an element with that value, unless the next line
-- begins with the end tag of its name.
abbrev pub ElementsReadBack : Type 0
ElementsReadBack =
    (size room offset : ℕ) (name value more rest : List ℕ) (suffix : Tree)
    → IsElementName name → IsText value → 0 < length value
    → starts_with nat_eq more (end_tag name) ≡ false
    → offset + length (sheet.element name value ++ more) ≡ size
    → Spells size room more suffix rest
    → Spells size room (sheet.element name value ++ more) (tags.element offset name (written value) suffix) rest
    × (value_of (written value) ≡ value)

-- What is written between a start tag and its end tag reads back as an aggregate of what is there there.
abbrev pub AggregatesReadBack : Type 0
AggregatesReadBack =
    (size room offset : ℕ) (name inner more rest : List ℕ) (within suffix : Tree)
    → IsAggregateName name → 0 < room
    → offset + length (sheet.aggregate name inner ++ more) ≡ size
    → Spells size (room - 1) (inner ++ (end_line name ++ more)) within (end_line name ++ more)
    → Spells size room more suffix rest
    → Spells size room (sheet.aggregate name inner ++ more) (tags.aggregate offset name (ended []) within suffix) rest

-- What is written between the tags of OFX reads back as a body. White space may come first, as the empty line of a
-- header does.
abbrev pub BodiesReadBack : Type 0
BodiesReadBack =
    (white inner : List ℕ) (within : Tree)
    → IsWhite white
    → Spells (length (white ++ sheet.aggregate (codes "OFX") inner)) 15 (inner ++ end_line (codes "OFX")) within (end_line (codes "OFX"))
    → SpellsBody (white ++ sheet.aggregate (codes "OFX") inner)
    (tags.aggregate (length white) (codes "OFX") (ended []) within nothing)
