-- The lines of a file that a register doesn't have, gathered one after another.
use Rattle.std.specs.Prelude.{◌≡◌, ◌≢◌, ℕ, ◌<◌, ◌≤◌, List, ◌++◌, length, slice_index_or, Contains, ◌⊎◌, Result, Ok, Err}
use Rattle.std.specs.declared.cmp.Ordering.TheVariants.{Equal}
use Rattle.file_register.specs.Order.{line_cmp, Clash}
use Rattle.file_register.specs.Registers.{put_line, IsRising, HasNoClash, HaveSameMembers}
use Rattle.file_register.specs.Importing.{IsFirstClash}
use Rattle.file_register.specs.declared.line.Line.{Line}
use Rattle.file_register.specs.declared.import.ImportFault.{ImportFault}
use Rattle.file_register.specs.declared.import.ImportFault.TheVariants as faults

-- No line of the list is of the line's account and FITID.
abbrev pub IsNewTo : List Line → Line → Type 0
IsNewTo lines line = (other : Line) → Contains lines other → line_cmp line other ≢ Equal

-- The line that is there is of the same account and FITID.
pub record IsFoundAt (lines : List Line) (line : Line) (at : ℕ) : Type 0 where
  pub within : at < length lines
  pub tied : (d : Line) → line_cmp (slice_index_or lines at d) line ≡ Equal

-- This line of the list is of the same account and FITID.
pub record IsFound (lines : List Line) (line found : Line) : Type 0 where
  pub is_there : Contains lines found
  pub tied : line_cmp found line ≡ Equal

-- Lines of one account and FITID agree where they have one moment and one amount.
abbrev pub IsAlike : Line → Line → Type 0
IsAlike kept line = (kept.posted.0 ≡ line.posted.0) × (kept.amount.0 ≡ line.amount.0)

-- A line agrees with the one that is kept, or clashes with it.
abbrev pub Agrees : Line → Line → Result (Unit {0}) ImportFault → Type 0
Agrees kept line (Ok done) = IsAlike kept line
Agrees kept line (Err (faults.Clash one other)) = (one ≡ kept) × (other ≡ line) × (IsAlike kept line → ⊥)
Agrees kept line (Err faults.OutOfMemory) = Unit {0}
Agrees kept line (Err (faults.Signon code)) = ⊥
Agrees kept line (Err faults.Full) = ⊥

-- The new lines have what the lines so far add to the old ones.
pub record Gathered (old lines fresh : List Line) : Type 0 where
  pub same : HaveSameMembers (old ++ lines) (old ++ fresh)
  pub clean : HasNoClash (old ++ lines)
  pub rising : IsRising fresh
  pub apart : (line : Line) → Contains fresh line → IsNewTo old line
  pub few : length fresh ≤ length lines

-- One line more is there already, or goes among the new ones.
pub record Adds (old fresh : List Line) (line : Line) (after : List Line) : Type 0 where
  pub is_new : IsNewTo (old ++ fresh) line
  pub after_is : after ≡ put_line fresh line

abbrev pub AddsOne : List Line → List Line → Line → List Line → Type 0
AddsOne old fresh line after = (Contains (old ++ fresh) line × (after ≡ fresh)) ⊎ Adds old fresh line after

-- The line clashes with one that is there.
pub record ClashesWith (old fresh : List Line) (line kept other : Line) : Type 0 where
  pub other_is : other ≡ line
  pub is_there : Contains (old ++ fresh) kept
  pub clash : Clash kept line

abbrev pub TakesLine : List Line → List Line → Line → Result (Unit {0}) ImportFault → List Line → Type 0
TakesLine old fresh line (Ok done) after = AddsOne old fresh line after
TakesLine old fresh line (Err (faults.Clash kept other)) after = ClashesWith old fresh line kept other
TakesLine old fresh line (Err faults.OutOfMemory) after = Unit {0}
TakesLine old fresh line (Err (faults.Signon code)) after = ⊥
TakesLine old fresh line (Err faults.Full) after = ⊥

-- A file whose lines aren't gathered has a first clash, unless memory was refused.
abbrev pub StopsAt : List Line → List Line → ImportFault → Type 0
StopsAt old lines (faults.Clash kept other) = IsFirstClash old lines kept other
StopsAt old lines faults.OutOfMemory = Unit {0}
StopsAt old lines (faults.Signon code) = ⊥
StopsAt old lines faults.Full = ⊥
