-- Bounds of what arguments say.
use Rattle.std.specs.Option.{IfSome}
use Rattle.std.specs.Prelude.{Option}
use Rattle.ofx_types.specs.Calendar.{IsMoment}
use Rattle.ofx_types.specs.declared.number.Moment.{Moment}

-- The moment of a run's frames lies in the years 1900 to 9999, where the arguments name one.
abbrev pub IsLawful : Option Moment → Type 0
IsLawful at = IfSome at (λ moment. IsMoment moment.0)
