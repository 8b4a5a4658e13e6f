-- What the ports tell that a run is handed.
use Rattle.std.specs.Prelude.{ℕ, List, Option}
use Rattle.ofx_types.specs.declared.number.Moment.{Moment}

pub record LinkView : Type 0 where
  -- the bytes that the bank will send
  pub left : Option (List ℕ)
  -- the bytes that were sent to it
  pub sent : Option (List ℕ)
  pub read_faults : ℕ
  pub write_faults : ℕ

pub record StoreView : Type 0 where
  -- the text that is there
  pub text : Option (List ℕ)
  pub faults : ℕ

pub record OutView : Type 0 where
  -- the bytes that were printed
  pub held : Option (List ℕ)
  pub faults : ℕ

pub record PortsView : Type 0 where
  pub link : LinkView
  pub store : StoreView
  -- the answers that the clock has given
  pub shown : Option (List Moment)
  pub out : OutView
