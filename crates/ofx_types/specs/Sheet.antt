-- The printed form of a file: each start tag, each element and each end tag on a line of its own.
use Rattle.std.specs.Prelude.{ℕ, ◌==◌, List, [], ◌∷◌, ◌++◌, length, codes, Option, None, Some, if◌then◌else◌}
use Rattle.std.specs.List.{flat_map}
use Rattle.std.specs.Fmt.{decimal}

-- Each line ends in CRLF.
abbrev pub ended : List ℕ → List ℕ
ended text = text ++ 13 ∷ 10 ∷ []

-- `&`, `<` and `>` are escaped in a value.
abbrev pub escaped_byte : ℕ → List ℕ
escaped_byte b =
    if b == 38 then codes "&amp;" else (if b == 60 then codes "&lt;" else (if b == 62 then codes "&gt;" else b ∷ []))

abbrev pub escaped : List ℕ → List ℕ
escaped value = flat_map escaped_byte value

-- `<`, the name, `>`
abbrev pub tag : List ℕ → List ℕ
tag name = 60 ∷ (name ++ 62 ∷ [])

abbrev pub start_line : List ℕ → List ℕ
start_line name = ended (tag name)

abbrev pub end_line : List ℕ → List ℕ
end_line name = ended (tag (47 ∷ name))

-- An element is its start tag and its value; its end tag is left out. An empty value isn't written.
unfoldable pub element : List ℕ → List ℕ → List ℕ
element name value = if length value == 0 then [] else ended (tag name ++ escaped value)

-- An aggregate is its start tag, what is in it, and its end tag.
unfoldable pub aggregate : List ℕ → List ℕ → List ℕ
aggregate name inner = start_line name ++ (inner ++ end_line name)

-- An aggregate that is written only where something is in it.
unfoldable pub aggregate_of_some : List ℕ → List ℕ → List ℕ
aggregate_of_some name inner = if length inner == 0 then [] else aggregate name inner

-- a line of the header
abbrev pub header_line : List ℕ → List ℕ → List ℕ
header_line name value = ended (name ++ 58 ∷ value)

-- `NONE` stands for no uid.
abbrev pub uid_text : Option (List ℕ) → List ℕ
uid_text None = codes "NONE"
uid_text (Some uid) = uid

-- The nine lines of a header, and an empty one.
unfoldable pub header_text : ℕ → Option (List ℕ) → Option (List ℕ) → List ℕ
header_text version older newer =
    header_line (codes "OFXHEADER") (codes "100")
    ++ (header_line (codes "DATA") (codes "OFXSGML")
    ++ (header_line (codes "VERSION") (decimal version)
    ++ (header_line (codes "SECURITY") (codes "NONE")
    ++ (header_line (codes "ENCODING") (codes "USASCII")
    ++ (header_line (codes "CHARSET") (codes "1252")
    ++ (header_line (codes "COMPRESSION") (codes "NONE")
    ++ (header_line (codes "OLDFILEUID") (uid_text older)
    ++ (header_line (codes "NEWFILEUID") (uid_text newer)
    ++ ended []))))))))
