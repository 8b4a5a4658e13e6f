-- The laws of the form of a status: it holds exactly where reading gives it, and its faults have offsets.
use Rattle.std.specs.Prelude.{◌≡◌, ◌↔◌, ℕ, Ok}
use Rattle.ofx_types.specs.Nodes.{Item}
use Rattle.ofx_types.specs.ReplyGrammar.{IsStatus}
use Rattle.ofx_types.specs.ReplyReading.{status_of}
use Rattle.ofx_tree.specs.Located.{Holds, Any, IsWithin}

-- A code is in an item's STATUS exactly where reading gives it.
abbrev pub StatusesAreFound : Type 0
StatusesAreFound = (parent : Item) (code : ℕ) → IsStatus parent code ↔ (status_of parent ≡ Ok code)

-- The first fault of an item's STATUS occurs at most where the item's last node does.
abbrev pub StatusFaultsHaveOffsets : Type 0
StatusFaultsHaveOffsets = (most : ℕ) (parent : Item) → IsWithin most parent → Holds most Any (status_of parent)
