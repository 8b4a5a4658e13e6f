-- What several calls in a row do to a count of faults.
use Rattle.std.proofs.Common.{ℕ, ◌≤◌, arith}
use Rattle.ofx_ports.specs.Faults.{Rose}

-- a count that rose in the last of two calls rose in both together
pub Rose-later : (before mid now : ℕ) → before ≤ mid → Rose mid now → Rose before now
Rose-later before mid now low rose = grind arith
