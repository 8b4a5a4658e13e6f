-- The answers that a clock has given.
use Rattle.std.specs.Prelude.{List, [], ◌∷◌, ◌++◌}
use Rattle.ofx_types.specs.declared.number.Moment.{Moment}
use Rattle.ofx_ports.specs.declared.memory.clock.ClockTrace.{ClockTrace, Start, After'}

-- the answers in order, the first one first
abbrev pub answers : ClockTrace → List Moment
answers Start = []
answers (After' shape before moment) = answers before ++ moment ∷ []
