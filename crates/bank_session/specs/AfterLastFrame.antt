-- What follows the last frame that a run answers.
use Rattle.std.specs.Prelude.{◌≡◌, ◌≢◌, ℕ, List, [], Option, Result, Ok, Err}
use Rattle.std.specs.Option.{IfSome}
use Rattle.std.specs.Io.KnownBytes.{Keeps, IsAtEnd, prepend_known}
use Rattle.ofx_ports.specs.Faults.{Rose}
use Rattle.bank_opening.specs.declared.stop.Stop.{Stop}
use Rattle.bank_opening.specs.declared.stop.Stop.TheVariants as stops

-- The input ends, or it goes on at this offset, or a read failed.
abbrev pub AfterLastFrame : Option (List ℕ) → ℕ → List ℕ → Option (List ℕ) → ℕ → ℕ → Result (Unit {0}) Stop → Type 0
AfterLastFrame coming offset ahead left reads reads' (Ok done) = Keeps coming (prepend_known ahead left) × IsAtEnd (prepend_known ahead left)
AfterLastFrame coming offset ahead left reads reads' (Err (stops.Frame at)) = (at ≡ offset) × Keeps coming (prepend_known ahead left) × IfSome (prepend_known ahead left) (λ rest. rest ≢ [])
AfterLastFrame coming offset ahead left reads reads' (Err stops.ReadFailed) = Keeps coming (prepend_known ahead left) × Rose reads reads'
AfterLastFrame coming offset ahead left reads reads' (Err stops.NoMemory) = ⊥
AfterLastFrame coming offset ahead left reads reads' (Err stops.WriteFailed) = ⊥
AfterLastFrame coming offset ahead left reads reads' (Err stops.KeeperFailed) = ⊥
AfterLastFrame coming offset ahead left reads reads' (Err (stops.Records fault)) = ⊥
AfterLastFrame coming offset ahead left reads reads' (Err stops.Usage) = ⊥
AfterLastFrame coming offset ahead left reads reads' (Err (stops.Setup line)) = ⊥
AfterLastFrame coming offset ahead left reads reads' (Err (stops.Letter fault)) = ⊥
