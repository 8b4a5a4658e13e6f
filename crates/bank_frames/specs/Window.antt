-- The part of a buffer that is in use.
use Rattle.std.specs.Prelude.{ℕ, ◌-◌, ◌≤◌, List, length, take, drop}
use Rattle.bank_frames.specs.declared.ahead.Window.{Window}

-- the bytes between the two offsets
abbrev pub in_use : Window → List ℕ → List ℕ
in_use window buffer = take (window.end - window.start) (drop window.start buffer)

-- Both offsets lie in the buffer, in order.
pub record IsWindowOf (window : Window) (buffer : List ℕ) : Type 0 where
  pub ordered : window.start ≤ window.end
  pub within : window.end ≤ length buffer
