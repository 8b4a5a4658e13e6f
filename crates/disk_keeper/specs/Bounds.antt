-- The bounds of gates within a file, also one whose history isn't known.
use Rattle.std.specs.Prelude.{◌≡◌, ℕ, ◌+◌, ◌<◌, ◌≤◌, ◌^◌}
use Rattle.disk_keeper.specs.declared.reading.Gate.{Gate}
use Rattle.disk_keeper.specs.declared.reading.Found.{Found}
use Rattle.disk_keeper.specs.declared.reading.Found.TheVariants.{End, NoMark, Past}
use Rattle.disk_keeper.specs.declared.reading.ScanStep.{ScanStep}
use Rattle.disk_keeper.specs.declared.reading.ScanStep.TheVariants.{Next, Last, Cut}

-- A gate has its offset within the file, after the mark and at least one byte for each record.
pub record IsWithin (gate : Gate) (size : ℕ) : Type 0 where
  pub offset : gate.offset < size
  pub most : gate.offset < 2 ^ 63
  pub few : gate.records + 8 ≤ gate.offset

abbrev pub StepsWithin : Gate → ℕ → ScanStep → Type 0
StepsWithin gate size (Next next) = (next.offset ≤ size) × (gate.offset < next.offset) × (next.records + 8 ≤ next.offset)
StepsWithin gate size Last = Unit {0}
StepsWithin gate size Cut = Unit {0}

abbrev pub FoundWithin : ℕ → Found → Type 0
FoundWithin size (End gate) = IsWithin gate size
FoundWithin size NoMark = Unit {0}
FoundWithin size (Past number) = Unit {0}
