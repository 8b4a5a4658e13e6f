-- The saved text of a register, version 1: one list of bytes for each register.
use Rattle.std.specs.Prelude.{ℕ, List, ◌∷◌, ◌++◌, length}
use Rattle.std.specs.List.{flat_map}
use Rattle.record_fields.specs.FieldCoding.{u32_bytes, u64_bytes, i64_bytes, moment_bytes, acct_bytes}
use Rattle.file_register.specs.declared.line.Line.{Line}

-- A line is its account, its FITID, the moment at which it was posted, and its amount in cents.
unfoldable pub line_bytes : Line → List ℕ
line_bytes line = acct_bytes line.account ++ u64_bytes line.fitid ++ moment_bytes line.posted ++ i64_bytes line.amount.0

-- A saved text is the version of the coding, the number of lines in four bytes, and the lines. Nothing follows.
unfoldable pub register_text : List Line → List ℕ
register_text lines = 1 ∷ u32_bytes (length lines) ++ flat_map line_bytes lines
