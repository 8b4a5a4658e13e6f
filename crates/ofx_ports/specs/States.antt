-- What the memory forms hold.
use Rattle.std.specs.Prelude.{ℕ, ◌-◌, Bool, true, false, ◌==◌, List, [], ◌∷◌, length, Option, None, Some}
use Rattle.std.specs.List.{list_any}
use Rattle.ofx_ports.specs.Calls.{Calls, one_more}
use Rattle.ofx_types.specs.declared.number.Moment.{Moment}

pub record SourceState : Type 0 where
  -- the bytes that reads will give
  pub left : List ℕ
  -- the greatest number of bytes that a read gives
  pub most : ℕ
  pub calls : Calls

pub record SinkState : Type 0 where
  -- the bytes written so far
  pub held : List ℕ
  -- the greatest number of bytes that it can hold
  pub room : ℕ
  -- the greatest number of bytes that a write takes
  pub most : ℕ
  pub calls : Calls

pub record KeeperState : Type 0 where
  -- the records that are stored, oldest first
  pub records : List (List ℕ)
  -- whether the record of an append that failed landed, where this is to be settled
  pub landed : Option Bool
  -- the numbers of the failing appends whose record lands
  pub landing : List ℕ
  pub calls : Calls

-- whether the record of the next call lands where that call is an append that fails
abbrev pub lands_next : KeeperState → Bool
lands_next keeper = list_any (λ number. number == one_more keeper.calls.made) keeper.landing

-- the number of records, without one that landed and is to be settled
abbrev pub settled_size : List (List ℕ) → Option Bool → ℕ
settled_size records None = length records
settled_size records (Some false) = length records
settled_size records (Some true) = length records - 1

pub record StoreState : Type 0 where
  -- the text that is there, empty where nothing was saved
  pub text : List ℕ
  -- the numbers of the failing saves whose text lands
  pub landing : List ℕ
  pub calls : Calls

-- whether the text of the next call lands where that call is a save that fails
abbrev pub text_lands_next : StoreState → Bool
text_lands_next store = list_any (λ number. number == one_more store.calls.made) store.landing

pub record ClockState : Type 0 where
  -- the answers to come, of which the last stays for ever
  pub coming : List Moment
  -- the answers given, in order
  pub given : List Moment

-- what a clock answers after its next answer: the rest of its list, of which the last moment stays for ever
abbrev pub later_moments : List Moment → List Moment
later_moments [] = []
later_moments (m ∷ []) = m ∷ []
later_moments (m ∷ n ∷ ms) = n ∷ ms

pub record LinkState : Type 0 where
  -- what the peer sends
  pub incoming : SourceState
  -- what it takes
  pub outgoing : SinkState

pub record DoorState : Type 0 where
  -- the links that it will give
  pub coming : List LinkState
  -- the links that it gave, in order, as they were then
  pub given : List LinkState
  -- the links that it took back, in order
  pub back : List LinkState
  -- how often it answered that it is closed
  pub closings : ℕ
  pub calls : Calls
