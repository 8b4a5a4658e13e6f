-- A number within its bounds that is read is the number that was written.
use Rattle.std.proofs.Common.{◌≡◌, ℕ, ◌^◌, ◌<◌, ◌≤◌, true, leb, ◌&&◌, ℤ, pos, negsuc, List, Ok, refl, subst, arith}
use Rattle.std.specs.Prelude.{FitsSigned, unsigned_abs, int_le}
use Rattle.std.specs.Int.{w16, w32, w64}
use Rattle.std.proofs.lemmas.Bool.{leb-true, le-leb, and_parts}
use Rattle.std.proofs.lemmas.Int.{ints}
use Rattle.ofx_types.specs.Calendar.{IsMoment, IsDay}
use Rattle.ofx_types.specs.declared.number.Moment.{Moment}
use Rattle.ofx_types.specs.declared.number.Day.{Day}
use Rattle.ofx_types.specs.declared.number.Cents.{Cents}
use Rattle.ofx_types.proofs.Numbers.{le_from, le_holds}
use Rattle.bank_model.specs.Sound.{IsId}
use Rattle.record_fields.specs.FieldCoding.{u16_bytes, u32_bytes, u64_bytes, i32_bytes, i64_bytes, moment_bytes, day_bytes}
use Rattle.record_fields.specs.FieldReading.{u16_at, u32_at, u64_at, i32_at, i64_at, id_at, amount_at, moment_at, day_at, count_at, is_moment, is_day}
use Rattle.record_fields.specs.Fields.{IsCodedAt, IsField}
use Rattle.record_fields.proofs.Steps.{pass_ok, ok_is, step}
use Rattle.record_fields.proofs.NumberLaws.{number_field, signed_field, wide16, wide32, wide64}

pub u16_field : IsField u16_at u16_bytes (λ n. n < 2 ^ 16)
u16_field = number_field w16 (2 ^ 16) wide16

pub u32_field : IsField u32_at u32_bytes (λ n. n < 2 ^ 32)
u32_field = number_field w32 (2 ^ 32) wide32

pub u64_field : IsField u64_at u64_bytes (λ n. n < 2 ^ 64)
u64_field = number_field w64 (2 ^ 64) wide64

pub i32_field : IsField i32_at i32_bytes (FitsSigned w32)
i32_field = signed_field w32 (2 ^ 32) wide32

pub i64_field : IsField i64_at i64_bytes (FitsSigned w64)
i64_field = signed_field w64 (2 ^ 64) wide64

pub id_field : IsField id_at u64_bytes IsId
unfolding id_at
id_field = record {
  holds = λ rec at found bytes le e.
      let s = step u64_field rec at _ found bytes le e in
      let g = pass_ok (leb s.value 9999999999) at (Ok (s.value, s.next)) found s.rest in
      let small : s.value ≤ 9999999999 = leb-true _ _ g.0 in
      subst (λ (f : ℕ × ℕ). IsCodedAt rec at (u64_bytes f.0) f.1 × IsId f.0) (ok_is (s.value, s.next) found g.1) (s.holds, small);
  again = λ rec at id next le p fits.
      let small : leb id 9999999999 ≡ true = le-leb _ _ fits in
      rw (u64_field.again rec at id next le p (omega arith), small) refl;
}

pub count_field : IsField count_at u16_bytes (λ n. (0 < n) × (n ≤ 999))
unfolding count_at
count_field = record {
  holds = λ rec at found bytes le e.
      let s = step u16_field rec at _ found bytes le e in
      let g = pass_ok (leb 1 s.value && leb s.value 999) at (Ok (s.value, s.next)) found s.rest in
      let b = and_parts (leb 1 s.value) (leb s.value 999) g.0 in
      let low : 1 ≤ s.value = leb-true _ _ b.0 in
      let high : s.value ≤ 999 = leb-true _ _ b.1 in
      subst (λ (f : ℕ × ℕ). IsCodedAt rec at (u16_bytes f.0) f.1 × ((0 < f.0) × (f.0 ≤ 999))) (ok_is (s.value, s.next) found g.1) (s.holds, (omega arith, high));
  again = λ rec at n next le p fits.
      let low : leb 1 n ≡ true = le-leb _ _ (omega (arith, fits.0)) in
      let high : leb n 999 ≡ true = le-leb _ _ fits.1 in
      rw (u16_field.again rec at n next le p (omega (arith, fits.1)), low, high) refl;
}

abbrev IsAmount : Cents → Type 0
IsAmount cents = unsigned_abs cents.0 ≤ 9999999999999

abbrev amount_bytes : Cents → List ℕ
amount_bytes cents = i64_bytes cents.0

amount_fits : (z : ℤ) → unsigned_abs z ≤ 9999999999999 → FitsSigned w64 z
amount_fits (pos n) h = record { sfits = omega arith }
amount_fits (negsuc n) h = record { sfits = omega arith }

pub amount_field : IsField amount_at (λ cents. i64_bytes cents.0) (λ cents. unsigned_abs cents.0 ≤ 9999999999999)
unfolding amount_at
amount_field = record {
  holds = λ rec at found bytes le e.
      let s = step i64_field rec at _ found bytes le e in
      let made : Cents × ℕ = (record { 0 = s.value }, s.next) in
      let g = pass_ok (leb (unsigned_abs s.value) 9999999999999) at (Ok made) found s.rest in
      let small : unsigned_abs s.value ≤ 9999999999999 = leb-true _ _ g.0 in
      subst (λ (f : Cents × ℕ). IsCodedAt rec at (amount_bytes f.0) f.1 × IsAmount f.0) (ok_is made found g.1) (s.holds, small);
  again = λ rec at cents next le p fits.
      let small : leb (unsigned_abs cents.0) 9999999999999 ≡ true = le-leb _ _ fits in
      rw (i64_field.again rec at cents.0 next le p (amount_fits cents.0 fits), small) refl;
}

moment_fits : (z : ℤ) → IsMoment z → FitsSigned w64 z
moment_fits (pos n) h = record { sfits = omega (arith, ints, h.0, h.1) }
moment_fits (negsuc n) h = record { sfits = omega (arith, ints, h.0, h.1) }

day_fits : (z : ℤ) → IsDay z → FitsSigned w32 z
day_fits (pos n) h = record { sfits = omega (arith, ints, h.0, h.1) }
day_fits (negsuc n) h = record { sfits = omega (arith, ints, h.0, h.1) }

pub moment_is : (z : ℤ) → is_moment z ≡ true → IsMoment z
moment_is z h = let b = and_parts (int_le (negsuc 2208988799) z) (int_le z (pos 253402300799)) h in (le_holds _ _ b.0, le_holds _ _ b.1)

pub is_moment-true : (z : ℤ) → IsMoment z → is_moment z ≡ true
is_moment-true z h = rw (le_from (negsuc 2208988799) z h.0, le_from z (pos 253402300799) h.1) refl

day_is : (z : ℤ) → is_day z ≡ true → IsDay z
day_is z h = let b = and_parts (int_le (negsuc 25566) z) (int_le z (pos 2932896)) h in (le_holds _ _ b.0, le_holds _ _ b.1)

is_day-true : (z : ℤ) → IsDay z → is_day z ≡ true
is_day-true z h = rw (le_from (negsuc 25566) z h.0, le_from z (pos 2932896) h.1) refl

pub moment_field : IsField moment_at moment_bytes (λ (at : Moment). IsMoment at.0)
unfolding moment_at
moment_field = record {
  holds = λ rec at found bytes le e.
      let s = step i64_field rec at _ found bytes le e in
      let made : Moment × ℕ = (record { 0 = s.value }, s.next) in
      let g = pass_ok (is_moment s.value) at (Ok made) found s.rest in
      subst (λ (f : Moment × ℕ). IsCodedAt rec at (moment_bytes f.0) f.1 × IsMoment f.0.0) (ok_is made found g.1) (s.holds, moment_is s.value g.0);
  again = λ rec at moment next le p fits.
      rw (i64_field.again rec at moment.0 next le p (moment_fits moment.0 fits), is_moment-true moment.0 fits) refl;
}

pub day_field : IsField day_at day_bytes (λ (day : Day). IsDay day.0)
unfolding day_at
day_field = record {
  holds = λ rec at found bytes le e.
      let s = step i32_field rec at _ found bytes le e in
      let made : Day × ℕ = (record { 0 = s.value }, s.next) in
      let g = pass_ok (is_day s.value) at (Ok made) found s.rest in
      subst (λ (f : Day × ℕ). IsCodedAt rec at (day_bytes f.0) f.1 × IsDay f.0.0) (ok_is made found g.1) (s.holds, day_is s.value g.0);
  again = λ rec at day next le p fits.
      rw (i32_field.again rec at day.0 next le p (day_fits day.0 fits), is_day-true day.0 fits) refl;
}
