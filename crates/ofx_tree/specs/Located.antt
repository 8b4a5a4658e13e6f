-- The offsets of the faults of forms.
use Rattle.std.specs.Prelude.{ℕ, ◌≤◌, List, Result, MatchResult}
use Rattle.std.specs.List.{AllByRecursion}
use Rattle.ofx_types.specs.Nodes.{TagNode, Item}
use Rattle.ofx_types.specs.declared.fault.TreeFault.{TreeFault}
use Rattle.ofx_types.specs.declared.fault.TreeFault.TheVariants.{Missing, Repeated, Value, OutOfMemory}

-- A fault has an offset, which is at most this one. Reading forms wants no memory.
abbrev pub HasOffset : ℕ → TreeFault → Type 0
HasOffset most (Missing at) = at ≤ most
HasOffset most (Repeated at) = at ≤ most
HasOffset most (Value at) = at ≤ most
HasOffset most OutOfMemory = ⊥

-- What is read has the property, or the fault occurs at most at this offset.
abbrev pub Holds : {A : Type 0} → ℕ → (A → Type 0) → Result A TreeFault → Type 0
Holds most P r = MatchResult r P (HasOffset most)

abbrev pub Any : {A : Type 0} → A → Type 0
Any {A} x = Unit {0}

-- Each of these nodes occurs at most at this offset.
abbrev pub AreWithin : ℕ → List TagNode → Type 0
AreWithin most nodes = AllByRecursion (λ (n : TagNode). n.offset ≤ most) nodes

-- The item and all that is in it do.
pub record IsWithin (most : ℕ) (item : Item) : Type 0 where
  pub offset : item.node.offset ≤ most
  pub inner : AreWithin most item.inner
