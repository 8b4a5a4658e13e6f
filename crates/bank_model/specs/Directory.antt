-- An order in which the items of a list are found by their keys.
use Rattle.std.specs.Prelude.{◌≡◌, ℕ, ◌<◌, ◌≤◌, List, length, slice_index, slice_index_or, Contains, Option, Some, None}
use Rattle.std.specs.declared.cmp.Ordering.{Ordering}
use Rattle.std.specs.declared.cmp.Ordering.TheVariants.{Less, Equal, Greater}

-- The order lists the indices of all items, and the items' keys rise along it.
pub record IsOrderOf {X K : Type 0} (key : X → K) (R : K → K → Ordering) (items : List X) (indices : List ℕ) : Type 0 where
  pub known : (j : ℕ) → j < length indices → slice_index indices j < length items
  pub whole : (index : ℕ) → index < length items → Contains indices index
  pub rising : (i j : ℕ) (d : X) → i < j → j < length indices
      → R (key (slice_index_or items (slice_index indices i) d)) (key (slice_index_or items (slice_index indices j) d)) ≡ Less

-- how the item at an index compares with a key; where there is none it is greater than any
abbrev pub compared : {X K : Type 0} → (X → K) → (K → K → Ordering) → K → Option X → Ordering
compared key R k None = Greater
compared key R k (Some x) = R (key x) k

-- The index of an item under that key is at this position of the order.
pub record IsFound {X K : Type 0} (key : X → K) (R : K → K → Ordering) (items : List X) (indices : List ℕ) (k : K) (at : ℕ) : Type 0 where
  pub within : at < length indices
  pub same : (d : X) → R (key (slice_index_or items (slice_index indices at) d)) k ≡ Equal

-- No item is under that key, and the index of one would go at this position of the order.
pub record IsGap {X K : Type 0} (key : X → K) (R : K → K → Ordering) (items : List X) (indices : List ℕ) (k : K) (at : ℕ) : Type 0 where
  pub within : at ≤ length indices
  pub before : (j : ℕ) (d : X) → j < at → R (key (slice_index_or items (slice_index indices j) d)) k ≡ Less
  pub suffix : (j : ℕ) (d : X) → at ≤ j → j < length indices → R (key (slice_index_or items (slice_index indices j) d)) k ≡ Greater
