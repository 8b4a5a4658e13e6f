-- Where the way back from a posting goes on.
use Rattle.std.specs.Prelude.{ℕ, Bool, not, ◌||◌, if◌then◌else◌, int_lt, Option}
use Rattle.ofx_types.specs.declared.number.Moment.{Moment}
use Rattle.bank_model.specs.Ledger.{is_before_end}
use Rattle.bank_transfers.specs.declared.skip_link.SkipLink.{SkipLink}

abbrev pub earliest : Moment → Moment → Moment
earliest moment other = if int_lt other.0 moment.0 then other else moment

abbrev pub latest : Moment → Moment → Moment
latest moment other = if int_lt moment.0 other.0 then other else moment

-- All moments from a link's least stamp to its greatest are before a period, or after it.
abbrev pub is_outside : SkipLink → Moment → Option Moment → Bool
is_outside link start end = int_lt link.greatest.0 start.0 || not (is_before_end end link.least.0)

abbrev pub next : SkipLink → Moment → Option Moment → ℕ
next link start end = if is_outside link start end then link.skip else link.before
