-- No bytes spell two setups.
use Rattle.std.proofs.Common.{◌≡◌, ℕ, List}
use Rattle.bank_model.specs.SetupForm.{SpellsSetup}
use Rattle.bank_model.specs.declared.setup.Setup.{Setup}

abbrev pub OneSetup : Type 0
OneSetup = (bytes : List ℕ) (a b : Setup) → SpellsSetup bytes a → SpellsSetup bytes b → a ≡ b
