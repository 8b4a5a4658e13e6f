-- What a command finds and leaves at the ports that are handed in.
use Rattle.std.specs.Prelude.{ℕ, Bool, List, Option}
use Rattle.ofx_types.specs.declared.number.Moment.{Moment}

-- The bytes that its setup and its input have left, those that its output holds, the records that its keeper has, the answers
-- that its clock has given, the four counts of faults, and whether an append of the keeper is to be settled.
pub record PortsView : Type 0 where
  pub setup_left : Option (List ℕ)
  pub setup_faults : ℕ
  pub input_left : Option (List ℕ)
  pub input_faults : ℕ
  pub held : Option (List ℕ)
  pub out_faults : ℕ
  pub records : Option (List (List ℕ))
  pub keeper_faults : ℕ
  pub shown : Option (List Moment)
  pub unsettled : Bool

abbrev pub ports_view : Option (List ℕ) → ℕ → Option (List ℕ) → ℕ → Option (List ℕ) → ℕ → Option (List (List ℕ)) → ℕ → Option (List Moment) → Bool → PortsView
ports_view setup_left setup_faults input_left input_faults held out_faults records keeper_faults shown unsettled = record {
  setup_left = setup_left;
  setup_faults = setup_faults;
  input_left = input_left;
  input_faults = input_faults;
  held = held;
  out_faults = out_faults;
  records = records;
  keeper_faults = keeper_faults;
  shown = shown;
  unsettled = unsettled;
}
