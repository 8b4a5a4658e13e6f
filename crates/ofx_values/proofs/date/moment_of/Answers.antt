use Rattle.std.proofs.Common.{arith, sym, ◌∙◌}
use Rattle.std.proofs.lemmas.Bool.{true≢false}
use Rattle.jiff_core.proofs.SignedLemmas.{signed_casts}
use Rattle.ofx_values.proofs.MomentLemmas.{lawful_some, lawful_none}
use Rattle.ofx_values.proofs.date.moment_of.Goals as goal

pub returns-then-is_in_calendar : goal.returns-then-is_in_calendar
returns-then-is_in_calendar c = lawful_some _ _ (omega (arith, signed_casts)) (c.is_in_calendar.ensures.within.0 c.if-is_in_calendar.true)

pub returns-else-is_in_calendar : goal.returns-else-is_in_calendar
returns-else-is_in_calendar c = lawful_none _ (λ h.
    let known = c.is_in_calendar.ensures.within.1 (omega (arith, signed_casts, h.0), omega (arith, signed_casts, h.1)) in
    absurd (true≢false (sym known ∙ c.if-is_in_calendar.false)))
