-- What the ports tell that a run is handed.
use Rattle.std.specs.Prelude.{ℕ, List, Option}

pub record PortsView : Type 0 where
  -- the bytes that reads will give
  pub left : Option (List ℕ)
  pub read_faults : ℕ
  -- the text that is saved
  pub saved : Option (List ℕ)
  pub store_faults : ℕ
  -- the bytes that were printed
  pub held : Option (List ℕ)
  pub write_faults : ℕ

abbrev pub ports_view : Option (List ℕ) → ℕ → Option (List ℕ) → ℕ → Option (List ℕ) → ℕ → PortsView
ports_view left reads saved stores held writes =
    record { left = left; read_faults = reads; saved = saved; store_faults = stores; held = held; write_faults = writes }
