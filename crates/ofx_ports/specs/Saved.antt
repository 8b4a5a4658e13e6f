-- What a save does to the text that is kept.
use Rattle.std.specs.Prelude.{◌≡◌, ℕ, List, ⊤, ◌⊎◌, Option, None, Some, Result, Ok, Err}
use Rattle.ofx_ports.specs.Known.{Stays}
use Rattle.ofx_ports.specs.declared.fault.PutFault.{PutFault}
use Rattle.ofx_ports.specs.declared.fault.PutFault.TheVariants.{Failed, OutOfMemory}

-- A text that is known is this one from now on.
abbrev pub Becomes : Option (List ℕ) → Option (List ℕ) → List ℕ → Type 0
Becomes None new text = ⊤
Becomes (Some old) None text = ⊥
Becomes (Some old) (Some new) text = new ≡ text

-- A text that was saved is stored. After a save that failed it or the old one is stored, and after want of memory the old
-- one is.
abbrev pub Saved : Option (List ℕ) → Option (List ℕ) → List ℕ → Result (Unit {0}) PutFault → Type 0
Saved old new text (Ok done) = Becomes old new text
Saved old new text (Err Failed) = Stays old new ⊎ Becomes old new text
Saved old new text (Err OutOfMemory) = Stays old new
