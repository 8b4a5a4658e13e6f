-- The setup of a run, from all the bytes that its source has left.
use Rattle.std.specs.Prelude.{ℕ, List, Option}
use Rattle.std.specs.Option.{IfSome}
use Rattle.ofx_ports.specs.Faults.{Rose}
use Rattle.bank_model.specs.SetupForm.{SpellsSetup}
use Rattle.bank_model.specs.SetupFault.{IsSetupFault}
use Rattle.bank_model.specs.declared.setup.Setup.{Setup}
use Rattle.bank_opening.specs.declared.stop.Stop.{Stop}
use Rattle.bank_opening.specs.declared.stop.Stop.TheVariants as stops

-- Where the bytes are known they spell the setup.
abbrev pub IsSetupOf : Option (List ℕ) → Setup → Type 0
IsSetupOf left setup = IfSome left (λ all. SpellsSetup all setup)

-- Where the bytes are known they spell no setup, and their fault is at this line.
abbrev pub IsNoSetup : Option (List ℕ) → ℕ → Type 0
IsNoSetup left line = IfSome left (λ all. ((setup : Setup) → SpellsSetup all setup → ⊥) × IsSetupFault all line)

-- Without a setup a run stops because the bytes spell none, because a read failed, or for want of memory.
abbrev pub StopsSetup : Option (List ℕ) → ℕ → ℕ → Stop → Type 0
StopsSetup left before now (stops.Setup line) = IsNoSetup left line
StopsSetup left before now stops.ReadFailed = Rose before now
StopsSetup left before now stops.NoMemory = Unit {0}
StopsSetup left before now stops.Usage = ⊥
StopsSetup left before now (stops.Frame offset) = ⊥
StopsSetup left before now stops.WriteFailed = ⊥
StopsSetup left before now stops.KeeperFailed = ⊥
StopsSetup left before now (stops.Records fault) = ⊥
StopsSetup left before now (stops.Letter fault) = ⊥
