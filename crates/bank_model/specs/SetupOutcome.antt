-- What reading a setup answers, and why one is refused.
use Rattle.std.specs.Prelude.{◌≡◌, ◌⊎◌, ℕ, List, Result, Err}
use Rattle.bank_model.specs.declared.setup.Setup.{Setup}
use Rattle.bank_model.specs.declared.setup.SetupFault.{SetupFault}
use Rattle.bank_model.specs.declared.setup.SetupFault.TheVariants.{SetupLine, OutOfMemory}
use Rattle.bank_model.specs.SetupForm.{SpellsSetup}
use Rattle.bank_model.specs.SetupFault.{IsSetupFault}

-- A line is at fault only where the bytes spell no setup. Memory may be refused without a cause.
abbrev pub IsRefusalOf : List ℕ → SetupFault → Type 0
IsRefusalOf bytes (SetupLine k) = (setup : Setup) → SpellsSetup bytes setup → ⊥
IsRefusalOf bytes OutOfMemory = Unit {0}

-- The line that is named is that of the setup's fault.
abbrev pub NamesFaultOf : List ℕ → SetupFault → Type 0
NamesFaultOf bytes (SetupLine k) = IsSetupFault bytes k
NamesFaultOf bytes OutOfMemory = Unit {0}

-- The answer is this one, unless memory was refused.
unfoldable pub Answers : Result Setup SetupFault → Result Setup SetupFault → Type 0
Answers result answer = (result ≡ answer) ⊎ (result ≡ Err OutOfMemory)
