-- How a header is read: one line after another, each by its tag and by what its value stands for.
use Rattle.std.specs.Prelude.{◌≡◌, ℕ, ◌+◌, nat_eq, List, length, take, drop, position, codes, Option, None, Some, is_none, Result, Ok, Err, if◌then◌else◌}
use Rattle.std.specs.List.{starts_with}
use Rattle.std.specs.Str.{bytes_eq}
pub use Rattle.ofx_types.specs.InOrder.{◌>>=◌}
use Rattle.ofx_types.specs.TextRules.{trimmed}
use Rattle.ofx_types.specs.TextOutcome.{file_uid_fault}
use Rattle.ofx_types.specs.HeaderForm.{is_line_feed, is_charset}
use Rattle.ofx_types.specs.declared.fault.HeaderFault.{HeaderFault}
use Rattle.ofx_types.specs.declared.fault.HeaderFault.TheVariants.{Line, Value, Cut}
use Rattle.ofx_header.specs.declared.values.Header.{Header}

-- What a function returned, seen by view, is what reading gives.
abbrev pub ReadsHeader : {X Y : Type 0} → (X → Y) → Result X HeaderFault → Result Y HeaderFault → Type 0
ReadsHeader view (Ok x) read = read ≡ Ok (view x)
ReadsHeader view (Err fault) read = read ≡ Err fault

-- The bytes after the mark, which is a tag and its colon, on the line that begins at this offset and whose LF is so
-- far after it; and the offset after the line.
abbrev pub after_mark : ℕ → List ℕ → List ℕ → ℕ → Option ℕ → Result (List ℕ × ℕ) HeaderFault
after_mark number mark bytes at None = Err (Cut (length bytes))
after_mark number mark bytes at (Some size) =
    let line = take size (drop at bytes) in
    if starts_with nat_eq line mark then Ok (drop (length mark) line, at + size + 1) else Err (Line number at)

unfoldable pub raw_at : ℕ → List ℕ → List ℕ → ℕ → Result (List ℕ × ℕ) HeaderFault
raw_at number mark bytes at = after_mark number mark bytes at (position is_line_feed (drop at bytes))

-- what an allowed value stands for, and the offset after its line
abbrev pub if_allowed : {A : Type 0} → ℕ → ℕ → ℕ → Option A → Result (A × ℕ) HeaderFault
if_allowed number at next None = Err (Value number at)
if_allowed number at next (Some x) = Ok (x, next)

-- a line with this number and mark, whose value stands for something
unfoldable pub line_at : {A : Type 0} → (List ℕ → Option A) → ℕ → List ℕ → List ℕ → ℕ → Result (A × ℕ) HeaderFault
line_at meaning number mark bytes at =
    raw_at number mark bytes at >>= λ raw. if_allowed number at raw.1 (meaning (trimmed raw.0))

-- What values stand for. A value that is fixed, or one of some that are allowed, stands for nothing more.
abbrev pub fixed_in : List ℕ → List ℕ → Option (Unit {0})
fixed_in value given = if bytes_eq given value then Some tt else None

abbrev pub charset_in : List ℕ → Option (Unit {0})
charset_in given = if is_charset given then Some tt else None

abbrev pub version_in : List ℕ → Option ℕ
version_in given =
    if bytes_eq given (codes "102") then Some 102
    else (if bytes_eq given (codes "103") then Some 103
    else (if bytes_eq given (codes "151") then Some 151
    else (if bytes_eq given (codes "160") then Some 160 else None)))

-- `NONE` stands for no uid, and a value that has no fault as a uid stands for itself.
abbrev pub uid_in : List ℕ → Option (Option (List ℕ))
uid_in given =
    if bytes_eq given (codes "NONE") then Some None
    else (if is_none (file_uid_fault given) then Some (Some given) else None)

-- what a header says, and its number of bytes
pub record HeaderParts : Type 0 where
  pub version : ℕ
  pub older : Option (List ℕ)
  pub newer : Option (List ℕ)
  pub size : ℕ

abbrev pub parts_of : Header → ℕ → HeaderParts
parts_of header size = record { version = header.version; older = header.older; newer = header.newer; size = size }

-- the four lines that say how the bytes are written, and the offset after them
unfoldable pub writing_at : List ℕ → ℕ → Result ℕ HeaderFault
writing_at bytes at =
    line_at (fixed_in (codes "NONE")) 4 (codes "SECURITY:") bytes at >>= λ security.
    line_at (fixed_in (codes "USASCII")) 5 (codes "ENCODING:") bytes security.1 >>= λ encoding.
    line_at charset_in 6 (codes "CHARSET:") bytes encoding.1 >>= λ charset.
    line_at (fixed_in (codes "NONE")) 7 (codes "COMPRESSION:") bytes charset.1 >>= λ compression.
    Ok compression.1

unfoldable pub header_at : List ℕ → Result HeaderParts HeaderFault
header_at bytes =
    line_at (fixed_in (codes "100")) 1 (codes "OFXHEADER:") bytes 0 >>= λ format.
    line_at (fixed_in (codes "OFXSGML")) 2 (codes "DATA:") bytes format.1 >>= λ content.
    line_at version_in 3 (codes "VERSION:") bytes content.1 >>= λ version.
    writing_at bytes version.1 >>= λ written.
    line_at uid_in 8 (codes "OLDFILEUID:") bytes written >>= λ older.
    line_at uid_in 9 (codes "NEWFILEUID:") bytes older.1 >>= λ newer.
    Ok (record { version = version.0; older = older.0; newer = newer.0; size = newer.1 })
