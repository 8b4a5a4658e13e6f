-- What holds of headers.
use Rattle.std.specs.Prelude.{◌≡◌, ℕ, ◌-◌, ◌≤◌, true, List, ◌++◌, length, drop, Option, None, IfSome}
use Rattle.ofx_types.specs.TextRules.{IsFileUid}
use Rattle.ofx_types.specs.Sheet.{header_text}
use Rattle.ofx_types.specs.HeaderForm.{SpellsHeader, header_fault, is_version}
use Rattle.ofx_types.specs.FileForm.{HasHeader}

-- No bytes begin with two headers.
abbrev pub OneHeader : Type 0
OneHeader =
    (bytes : List ℕ) (v w : ℕ) (o p n q : Option (List ℕ)) (s t : ℕ) → SpellsHeader bytes v o n s → SpellsHeader bytes w p q t →
    (v ≡ w) × (o ≡ p) × (n ≡ q) × (s ≡ t)

-- Bytes that begin with a header have no fault, and bytes without a fault begin with one.
abbrev pub SpelledIsFaultless : Type 0
SpelledIsFaultless = (bytes : List ℕ) (version : ℕ) (older newer : Option (List ℕ)) (size : ℕ) → SpellsHeader bytes version older newer size → header_fault bytes ≡ None

abbrev pub FaultlessIsSpelled : Type 0
FaultlessIsSpelled = (bytes : List ℕ) → header_fault bytes ≡ None → (size : ℕ) × HasHeader bytes size

-- The body is what follows the header's bytes.
abbrev pub BodyIsAfter : Type 0
BodyIsAfter =
    (bytes : List ℕ) (version : ℕ) (older newer : Option (List ℕ)) (size : ℕ) (spelled : SpellsHeader bytes version older newer size) →
    (size ≤ length bytes) × (drop size bytes ≡ spelled.body)

-- What is written is spelled so, whatever follows. The empty line at its end isn't one of the nine.
abbrev pub WrittenIsSpelled : Type 0
WrittenIsSpelled =
    (version : ℕ) (older newer : Option (List ℕ)) (body : List ℕ) → is_version version ≡ true → IfSome older IsFileUid → IfSome newer IsFileUid →
    let text = header_text version older newer in
    SpellsHeader (text ++ body) version older newer (length text - 2)
