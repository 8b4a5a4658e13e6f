-- What is seen of a file on a real disk.
use Rattle.std.specs.Prelude.{ℕ}

pub record FileState : Type 0 where
  -- the number of its bytes
  pub size : ℕ
  -- how many of its calls failed
  pub faults : ℕ
