-- Values within the limits of their elements.
use Rattle.std.specs.Prelude.{ℕ, ◌<◌, ◌≤◌, List, length}
use Rattle.std.specs.Option.{IfSome}
use Rattle.ofx_types.specs.TextRules.{IsText}
use Rattle.ofx_types.specs.declared.recurring.Recur.{Recur}
use Rattle.ofx_types.specs.declared.sync.SyncKind.{SyncKind}
use Rattle.ofx_types.specs.declared.sync.SyncKind.TheVariants.{After, TokenOnly, Refresh}

-- a text of 1 byte up to the limit
pub record IsTextWithin (most : ℕ) (text : List ℕ) : Type 0 where
  pub is_text : IsText text
  pub is_there : 0 < length text
  pub is_within : length text ≤ most

-- An id has at most ten digits.
abbrev pub IsId : ℕ → Type 0
IsId id = id ≤ 9999999999

-- A series has 1 to 999 transfers, or no end.
abbrev pub IsSoundRecur : Recur → Type 0
IsSoundRecur recur = IfSome recur.count (λ (count : ℕ). (0 < count) × (count ≤ 999))

-- A token is a text of 1 to 64 bytes.
abbrev pub IsSoundKind : SyncKind → Type 0
IsSoundKind (After token) = IsTextWithin 64 token
IsSoundKind TokenOnly = Unit {0}
IsSoundKind Refresh = Unit {0}
