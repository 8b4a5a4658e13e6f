-- Numbers drawn from a seed.
use Rattle.std.specs.Prelude.{ℕ, ◌+◌, ◌*◌, ◌/◌, ◌%◌, ◌^◌}

-- the state after a draw
unfoldable pub next : ℕ → ℕ
next state = (state * 6364136223846793005 + 1442695040888963407) % 2 ^ 64

-- the number that is drawn, below `most`
unfoldable pub draw : ℕ → ℕ → ℕ
draw most state = (next state / 2 ^ 33) % most
