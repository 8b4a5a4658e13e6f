-- The moment that is read is the one that is spelled, what is spelled is read, and what is printed is spelled so.
use Rattle.std.proofs.Common.{◌≡◌, ℕ, List, ◌++◌, Some, None, sym, ap, subst, ◌∙◌, ℤ, pos, ◌+ℤ◌, ◌-ℤ◌}
use Rattle.ofx_types.specs.TextRules.{trimmed}
use Rattle.ofx_types.specs.Calendar.{IsMoment, civil_of, midnight}
use Rattle.ofx_types.specs.DateForm.{date_text, IsDate}
use Rattle.ofx_types.specs.ValueReading.{◌>>=◌}
use Rattle.ofx_types.specs.DateReading.{day_at, time_at, zone_at, lawful, moment_at}
use Rattle.ofx_values.proofs.PartLemmas.{bind_some, some_is}
use Rattle.ofx_values.proofs.DayLemmas.{day_takes, day_again}
use Rattle.ofx_values.proofs.TimeLemmas.{time_takes, time_again}
use Rattle.ofx_values.proofs.ZoneLemmas.{zone_takes, zone_again, zone_timeless}
use Rattle.ofx_values.proofs.MomentLemmas.{lawful_some, lawful_takes}

pub date_takes : (raw : List ℕ) (m : ℤ) → moment_at (trimmed raw) ≡ Some m → IsDate raw m
unfolding moment_at
date_takes raw m e =
    let text = trimmed raw in
    let d = bind_some (day_at text) (λ day. time_at day.1 >>= λ time. zone_at time.1 >>= λ offset. lawful (midnight day.0 +ℤ pos time.0 -ℤ offset)) m e in
    let t = bind_some (time_at d.0.1) (λ time. zone_at time.1 >>= λ offset. lawful (midnight d.0.0 +ℤ pos time.0 -ℤ offset)) m d.2 in
    let z = bind_some (zone_at t.0.1) (λ offset. lawful (midnight d.0.0 +ℤ pos t.0.0 -ℤ offset)) m t.2 in
    let day = day_takes text d.0 d.1 in
    let time = time_takes d.0.1 t.0 t.1 in
    let is = lawful_takes (midnight d.0.0 +ℤ pos t.0.0 -ℤ z.0) m z.2 in
    record {
      day = d.0.0;
      time = time.0;
      zone = t.0.1;
      seconds = t.0.0;
      offset = z.0;
      is_day = day.0;
      spelled = day.1 ∙ ap (λ (s : List ℕ). date_text (civil_of d.0.0) ++ s) time.2;
      is_time = time.1;
      is_zone = zone_takes t.0.1 z.0 z.1;
      meant = sym is.0;
      is_moment = subst IsMoment is.0 is.1;
    }

pub date_again : (raw : List ℕ) (m : ℤ) → IsDate raw m → moment_at (trimmed raw) ≡ Some m
unfolding moment_at
date_again raw m d =
    rw (d.spelled, day_again d.day (d.time ++ d.zone) d.is_day, time_again d.time d.zone d.seconds d.is_time (zone_timeless d.zone d.offset d.is_zone), zone_again d.zone d.offset d.is_zone) (lawful_some _ m (sym d.meant) d.is_moment)

-- where nothing is read, nothing is spelled
pub date_none : (raw : List ℕ) → moment_at (trimmed raw) ≡ None → (m : ℤ) → IsDate raw m → ⊥
date_none raw none m d = let same : moment_at (trimmed raw) ≡ Some m = date_again raw m d in cc

pub date_once : (raw : List ℕ) (a b : ℤ) → IsDate raw a → IsDate raw b → a ≡ b
date_once raw a b x y = some_is a b (sym (date_again raw a x) ∙ date_again raw b y)
