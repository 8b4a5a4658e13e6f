-- The header of a file: nine lines, each a tag, a colon and a value (OFX 1.6, "Open Financial Exchange Headers").
use Rattle.std.specs.Prelude.{◌≡◌, ℕ, ◌+◌, Bool, true, not, ◌||◌, ◌==◌, nat_eq, List, [], ◌∷◌, ◌++◌, length, drop, codes, Option, None, Some, is_none, if◌then◌else◌}
use Rattle.std.specs.List.{before_first, list_any, list_all, starts_with}
use Rattle.std.specs.Str.{bytes_eq}
use Rattle.std.specs.Fmt.{decimal}
use Rattle.ofx_types.specs.TextRules.{trimmed}
use Rattle.ofx_types.specs.TextOutcome.{file_uid_fault}
use Rattle.ofx_types.specs.declared.fault.HeaderFault.{HeaderFault}
use Rattle.ofx_types.specs.declared.fault.HeaderFault.TheVariants.{Line, Value, Cut}

abbrev pub is_line_feed : ℕ → Bool
is_line_feed b = b == 10

-- A line is its tag, a colon and a value, and ends at its LF. White space at either end of the value is dropped, and a
-- CR before the LF with it.
pub record IsHeaderLine (tag value line : List ℕ) : Type 0 where
  pub raw : List ℕ
  pub spelled : line ≡ tag ++ 58 ∷ (raw ++ 10 ∷ [])
  pub on_line : list_all (λ b. not (is_line_feed b)) raw ≡ true
  pub meant : value ≡ trimmed raw

-- The versions of the format.
abbrev pub is_version : ℕ → Bool
is_version version = (version == 102) || (version == 103) || (version == 151) || (version == 160)

-- The character sets that are let pass; the bytes are the same in all of them.
abbrev pub is_charset : List ℕ → Bool
is_charset value = bytes_eq value (codes "1252") || bytes_eq value (codes "ISO-8859-1") || bytes_eq value (codes "NONE")

-- `NONE` stands for no uid, and a uid of 1 to 36 bytes for itself.
abbrev pub IsUidValue : List ℕ → Option (List ℕ) → Type 0
IsUidValue value None = value ≡ codes "NONE"
IsUidValue value (Some uid) = (value ≡ uid) × (file_uid_fault uid ≡ None)

-- The bytes begin with a header of these values, of this number of bytes: nine lines in this order. The body is what
-- comes after them.
pub record SpellsHeader (bytes : List ℕ) (version : ℕ) (older newer : Option (List ℕ)) (size : ℕ) : Type 0 where
  pub line_1 : List ℕ
  pub line_2 : List ℕ
  pub line_3 : List ℕ
  pub line_4 : List ℕ
  pub line_5 : List ℕ
  pub line_6 : List ℕ
  pub line_7 : List ℕ
  pub line_8 : List ℕ
  pub line_9 : List ℕ
  pub charset : List ℕ
  pub older_value : List ℕ
  pub newer_value : List ℕ
  pub body : List ℕ
  pub spelled : bytes ≡ line_1 ++ (line_2 ++ (line_3 ++ (line_4 ++ (line_5 ++ (line_6 ++ (line_7 ++ (line_8 ++ (line_9 ++ body))))))))
  pub size_is : size + length body ≡ length bytes
  pub format : IsHeaderLine (codes "OFXHEADER") (codes "100") line_1
  pub content : IsHeaderLine (codes "DATA") (codes "OFXSGML") line_2
  pub has_version : IsHeaderLine (codes "VERSION") (decimal version) line_3
  pub is_known : is_version version ≡ true
  pub security : IsHeaderLine (codes "SECURITY") (codes "NONE") line_4
  pub encoding : IsHeaderLine (codes "ENCODING") (codes "USASCII") line_5
  pub has_charset : IsHeaderLine (codes "CHARSET") charset line_6
  pub is_let_pass : is_charset charset ≡ true
  pub compression : IsHeaderLine (codes "COMPRESSION") (codes "NONE") line_7
  pub has_older : IsHeaderLine (codes "OLDFILEUID") older_value line_8
  pub is_older : IsUidValue older_value older
  pub has_newer : IsHeaderLine (codes "NEWFILEUID") newer_value line_9
  pub is_newer : IsUidValue newer_value newer

-- A line of the header as it must be: its tag, and which values it may have.
pub record HeaderRule : Type 0 where
  pub tag : List ℕ
  pub allows : List ℕ → Bool

abbrev pub rule : List ℕ → (List ℕ → Bool) → HeaderRule
rule tag allows = record { tag = tag; allows = allows }

-- A line that has one value.
abbrev pub fixed : List ℕ → List ℕ → HeaderRule
fixed tag value = rule tag (λ given. bytes_eq given value)

abbrev pub is_version_text : List ℕ → Bool
is_version_text value =
    bytes_eq value (codes "102") || bytes_eq value (codes "103") || bytes_eq value (codes "151") || bytes_eq value (codes "160")

-- `NONE`, or a uid that has no fault
abbrev pub is_uid_value : List ℕ → Bool
is_uid_value value = bytes_eq value (codes "NONE") || is_none (file_uid_fault value)

abbrev pub header_rules : List HeaderRule
header_rules =
    fixed (codes "OFXHEADER") (codes "100") ∷ fixed (codes "DATA") (codes "OFXSGML")
    ∷ rule (codes "VERSION") is_version_text ∷ fixed (codes "SECURITY") (codes "NONE")
    ∷ fixed (codes "ENCODING") (codes "USASCII") ∷ rule (codes "CHARSET") is_charset
    ∷ fixed (codes "COMPRESSION") (codes "NONE") ∷ rule (codes "OLDFILEUID") is_uid_value
    ∷ rule (codes "NEWFILEUID") is_uid_value ∷ []

-- the value of a line that begins with this tag and a colon
abbrev pub value_after : List ℕ → List ℕ → List ℕ
value_after tag line = trimmed (drop (length tag + 1) line)

-- What is wrong with a whole line of this number, without its LF, which begins at this offset: it hasn't its tag, and
-- otherwise its value isn't allowed.
unfoldable pub line_fault : HeaderRule → ℕ → ℕ → List ℕ → Option HeaderFault
line_fault r number at line =
    if starts_with nat_eq line (r.tag ++ 58 ∷ []) then (if r.allows (value_after r.tag line) then None else Some (Value number at))
    else Some (Line number at)

-- The first bad line among the lines still to come, of which the first begins at this offset. A line is judged where it
-- ends in the bytes; where it doesn't, the header is cut.
abbrev pub or_else : Option HeaderFault → Option HeaderFault → Option HeaderFault
or_else None later = later
or_else (Some fault) later = Some fault

unfoldable pub fault_from : List HeaderRule → ℕ → ℕ → List ℕ → Option HeaderFault
fault_from [] number at bytes = None
fault_from (r ∷ rules) number at bytes =
    let line = before_first is_line_feed bytes in
    if list_any is_line_feed bytes
    then or_else (line_fault r number at line) (fault_from rules (number + 1) (at + length line + 1) (drop (length line + 1) bytes))
    else Some (Cut (at + length bytes))

-- Why the bytes begin with no header: the first bad line, or the end of a header that is cut.
abbrev pub header_fault : List ℕ → Option HeaderFault
header_fault bytes = fault_from header_rules 1 0 bytes
