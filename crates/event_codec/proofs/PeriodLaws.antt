-- A period that is read is the one that was written.
use Rattle.std.proofs.Common.{ℕ, ◌++◌, Option, refl, subst}
use Rattle.std.specs.Prelude.{IfSome}
use Rattle.ofx_types.specs.Calendar.{IsMoment}
use Rattle.ofx_types.specs.declared.number.Moment.{Moment}
use Rattle.ofx_types.specs.declared.request.Period.{Period}
use Rattle.bank_model.specs.Sound.{IsSoundPeriod}
use Rattle.record_fields.specs.FieldCoding.{moment_bytes, flag_bytes, optional_bytes}
use Rattle.event_codec.specs.Coding.{period_bytes}
use Rattle.record_fields.specs.FieldReading.{optional_at, moment_at}
use Rattle.event_codec.specs.AskReading.{period_at}
use Rattle.record_fields.specs.Fields.{IsCodedAt, IsField}
use Rattle.record_fields.proofs.Steps.{ok_is, joined, apart, step}
use Rattle.record_fields.proofs.NumberLaws.{optional_field, flag_field}
use Rattle.record_fields.proofs.BoundedLaws.{moment_field}

abbrev IsMaybeMoment : Option Moment → Type 0
IsMaybeMoment o = IfSome o (λ (at : Moment). IsMoment at.0)

optional_moment : IsField (optional_at moment_at) (optional_bytes moment_bytes) IsMaybeMoment
optional_moment = optional_field moment_field

pub period_field : IsField period_at period_bytes IsSoundPeriod
unfolding period_at period_bytes
period_field = record {
  holds = λ rec at found bytes le e.
      let a = step optional_moment rec at _ found bytes le e in
      let b = step optional_moment rec a.next _ found bytes a.holds.within a.rest in
      let c = step flag_field rec b.next _ found bytes b.holds.within b.rest in
      let made : Period × ℕ = (record { start = a.value; end = b.value; include = c.value }, c.next) in
      subst (λ (f : Period × ℕ). IsCodedAt rec at (period_bytes f.0) f.1 × IsSoundPeriod f.0) {x = made} (ok_is made found c.rest) (joined (joined a.holds b.holds) c.holds, (a.fits, b.fits));
  again = λ rec at x next le p fits.
      let c = apart rec at (optional_bytes moment_bytes x.start ++ optional_bytes moment_bytes x.end) (flag_bytes x.include) next le p in
      let b = apart rec at (optional_bytes moment_bytes x.start) (optional_bytes moment_bytes x.end) c.mid le c.first in
      rw (optional_moment.again rec at x.start b.mid le b.first fits.0, optional_moment.again rec b.mid x.end c.mid b.first.within b.second fits.1, flag_field.again rec c.mid x.include next c.first.within c.second tt) refl;
}
