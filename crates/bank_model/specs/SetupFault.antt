-- The fault of a setup: the number of its first line, from 1, without a form or past a limit.
use Rattle.std.specs.Prelude.{◌≡◌, ℕ, ◌+◌, ◌<◌, ◌≤◌, ◌⊎◌, ◌==◌, List, [], ◌∷◌, ◌++◌, length, take}
use Rattle.std.specs.List.{slice_split}
use Rattle.std.specs.Str.Lines.{strip_carriage_return}
use Rattle.bank_model.specs.declared.setup.Setup.{Setup}
use Rattle.bank_model.specs.SetupForm.{lines_of, AreLines, KeepsLineLimits, kept}

-- The lines among the parts between LFs: all but the last part, which no LF ends. One CR before the LF belongs to the
-- line's end.
abbrev pub ended_lines : List (List ℕ) → List (List ℕ)
ended_lines [] = []
ended_lines (part ∷ []) = []
ended_lines (part ∷ next ∷ parts) = strip_carriage_return part ∷ ended_lines (next ∷ parts)

unfoldable pub lines_in : List ℕ → List (List ℕ)
lines_in bytes = ended_lines (slice_split (λ b. b == 10) bytes)

-- The lines of a setup that end within its first 262,144 bytes.
abbrev pub lines_within : List ℕ → List (List ℕ)
lines_within bytes = lines_in (take 262144 bytes)

-- The lines are the first ones of a setup, each in its form and within its limits.
pub record BeginSetup (lines : List (List ℕ)) : Type 0 where
  pub setup : Setup
  pub limits : KeepsLineLimits setup
  pub more : List (List ℕ)
  pub begin : lines_of setup ≡ lines ++ more

-- The bytes are all lines of the setup, each in its form and within its limits.
pub record AreLinesOf (bytes : List ℕ) (setup : Setup) : Type 0 where
  pub small : length bytes ≤ 262144
  pub limits : KeepsLineLimits setup
  pub lines : AreLines bytes (lines_of setup)

-- Line k has no form or is past a limit: the lines before it are the first ones of a setup, and with it they aren't.
pub record IsWrongAt (lines : List (List ℕ)) (k : ℕ) : Type 0 where
  pub before : List (List ℕ)
  pub line : List ℕ
  pub suffix : List (List ℕ)
  pub split : lines ≡ before ++ line ∷ suffix
  pub number : k ≡ length before + 1
  pub begun : BeginSetup before
  pub wrong : BeginSetup (before ++ line ∷ []) → ⊥

-- None of these lines is wrong, and k is the line after them: it is missing, or no LF ends it, or it holds byte
-- 262,145.
pub record IsLackingAt (bytes : List ℕ) (k : ℕ) : Type 0 where
  pub number : k ≡ length (lines_within bytes) + 1
  pub begun : BeginSetup (lines_within bytes)
  pub lacking : (setup : Setup) → AreLinesOf bytes setup → ⊥

-- No line is missing, and the window times the objects is past its limit: this is judged at the last line.
pub record IsTooWideAt (bytes : List ℕ) (k : ℕ) : Type 0 where
  pub setup : Setup
  pub whole : AreLinesOf bytes setup
  pub wide : 1000000 < kept setup
  pub number : k ≡ length (lines_of setup)

-- A setup's fault is at line k.
unfoldable pub IsSetupFault : List ℕ → ℕ → Type 0
IsSetupFault bytes k = IsWrongAt (lines_within bytes) k ⊎ (IsLackingAt bytes k ⊎ IsTooWideAt bytes k)
