-- A number that is read is the number that was written.
use Rattle.std.proofs.Common.{◌≡◌, ℕ, ◌+◌, ◌-◌, ◌^◌, ◌<◌, ◌≤◌, Bool, true, false, cond, ltb, List, [], ◌∷◌, ◌++◌, length, get_or, take, drop, Option, None, Some, Result, Ok, Err, refl, sym, ap, subst, ◌∙◌, arith, inl, inr, add-one, add-zero, drop-cons}
use Rattle.std.proofs.Common.{ℤ, Fits, nat_eq, slice_get}
use Rattle.std.specs.Prelude.{IfSome, FitsSigned}
use Rattle.std.specs.Int.{Width, w16, w32, w64, byte_len, from_be_bytes, to_be_bytes, cast_signed, cast_unsigned}
use Rattle.std.proofs.Math.Facts.{sfits_to_z, Fits-of_z, of_z-to_z, to_z-of_z}
use Rattle.std.proofs.lemmas.Bool.{cases_lt, ltb-false, ltb-true, lt-ltb, le-ltb, eqb-true}
use Rattle.std.proofs.lemmas.List.{take_at, take-append-drop, drop-drop, length-append, length-drop, length-take, get_or-drop, get_or-take, get_or_past}
use Rattle.std.proofs.lemmas.Nat.{be_bytes_2, be_bytes_4, be_bytes_8, from_be_bytes-to_be_bytes_2, from_be_bytes-to_be_bytes_4, from_be_bytes-to_be_bytes_8}
use Rattle.ofx_types.proofs.Bytes.{went}
use Rattle.record_fields.specs.FieldReading.{◌>>=◌, u8_at, bytes_at, number_at, signed_at, flag_at, choice_at, chosen, optional_at}
use Rattle.record_fields.specs.FieldCoding.{u8_bytes, flag_bytes, optional_bytes}
use Rattle.record_fields.specs.Fields.{IsBytes, IsCodedAt, IsField}
use Rattle.record_fields.proofs.Steps.{bind_ok, guard_ok, pass_ok, chosen_ok, ok_is, holds_then, apart, step, IsBytes-drop}

IsBytes-take : (n : ℕ) (bytes : List ℕ) → IsBytes bytes → IsBytes (take n bytes)
IsBytes-take n bytes h i =
    elim (cases_lt i n) [
      | inl lt ↦ rw (get_or-take n bytes i 0 lt) (h i)
      | inr le ↦ rw (get_or_past (take n bytes) i 0 (omega (arith, length-take n bytes))) (omega arith)
    ]

-- ---- bytes

pub record Cut (rec : List ℕ) (size start : ℕ) (found : List ℕ × ℕ) : Type 0 where
  pub holds : IsCodedAt rec start found.0 found.1
  pub sized : length found.0 ≡ size
  pub bytes : IsBytes found.0

pub bytes_hold : (size : ℕ) (rec : List ℕ) (at start : ℕ) (found : List ℕ × ℕ) → IsBytes rec → bytes_at size rec at start ≡ Ok found → Cut rec size start found
unfolding bytes_at
bytes_hold size rec at start found fits e =
    let g = guard_ok (ltb (length rec) (start + size)) at (Ok (take ((start + size) - start) (drop start rec), start + size)) found e in
    let room : start + size ≤ length rec = ltb-false _ _ g.0 in
    let count : (start + size) - start ≡ size = omega arith in
    let made : List ℕ × ℕ = (take size (drop start rec), start + size) in
    let is_made : made ≡ found = ap (λ (n : ℕ). (take n (drop start rec), start + size)) (sym count) ∙ ok_is _ found g.1 in
    let whole : Cut rec size start made = record {
      holds = record { parts = sym (take-append-drop size (drop start rec)) ∙ ap (λ (t : List ℕ). take size (drop start rec) ++ t) (drop-drop size start rec); within = room };
      sized = omega (arith, length-take size (drop start rec), length-drop start rec);
      bytes = IsBytes-take size (drop start rec) (IsBytes-drop start rec fits);
    } in
    subst (Cut rec size start) is_made whole

-- where bytes stand, the next place is that many bytes on
pub next_is : (rec : List ℕ) (at : ℕ) (bytes : List ℕ) (next : ℕ) → at ≤ length rec → IsCodedAt rec at bytes next → next ≡ at + length bytes
next_is rec at bytes next le p =
    let lengths : length rec - at ≡ length bytes + (length rec - next) = sym (length-drop at rec) ∙ ap length p.parts ∙ length-append bytes (drop next rec) ∙ ap (λ (n : ℕ). length bytes + n) (length-drop next rec) in
    let within = p.within in
    omega arith

pub bytes_again : (size : ℕ) (rec : List ℕ) (at start : ℕ) (bytes : List ℕ) (next : ℕ) → start ≤ length rec → IsCodedAt rec start bytes next → length bytes ≡ size → bytes_at size rec at start ≡ Ok (bytes, next)
unfolding bytes_at
bytes_again size rec at start bytes next le p sized =
    let n-is = next_is rec start bytes next le p in
    let within = p.within in
    let room : ltb (length rec) (start + size) ≡ false = le-ltb _ _ (omega arith) in
    let count : (start + size) - start ≡ size = omega arith in
    let end : start + size ≡ next = omega arith in
    let cut : take size (drop start rec) ≡ bytes = ap (take size) p.parts ∙ take_at bytes (drop next rec) size sized in
    rw (room, count, cut, end) refl

-- ---- one byte

pub u8_field : IsField u8_at u8_bytes (λ n. n < 256)
unfolding u8_at
u8_field = record {
  holds = λ rec at found fits le e.
      let g = pass_ok (ltb at (length rec)) at (Ok (get_or rec at 0, at + 1)) found e in
      let lt : at < length rec = ltb-true _ _ g.0 in
      let made : ℕ × ℕ = (get_or rec at 0, at + 1) in
      let whole : IsCodedAt rec at (get_or rec at 0 ∷ []) (at + 1) = record { parts = rw (add-one) (drop-cons rec at 0 lt); within = omega arith } in
      subst (λ (f : ℕ × ℕ). IsCodedAt rec at (f.0 ∷ []) f.1 × (f.0 < 256)) (ok_is made found g.1) (whole, fits at);
  again = λ rec at n next le p small.
      let n-is = next_is rec at (n ∷ []) next le p in
      let within = p.within in
      let lt : at < length rec = omega arith in
      let room : ltb at (length rec) ≡ true = lt-ltb _ _ lt in
      let value : get_or rec at 0 ≡ n = ap (λ (i : ℕ). get_or rec i 0) (sym (add-zero at)) ∙ sym (get_or-drop at rec 0 0) ∙ ap (λ (t : List ℕ). get_or t 0 0) p.parts in
      rw (room, value, n-is) refl;
}

-- ---- several bytes

pub record IsWide (w : Width) (limit : ℕ) : Type 0 where
  pub len : (n : ℕ) → length (to_be_bytes w n) ≡ byte_len w
  pub back : (bytes : List ℕ) → length bytes ≡ byte_len w → IsBytes bytes → to_be_bytes w (from_be_bytes w bytes) ≡ bytes
  pub again : (n : ℕ) → n < limit → from_be_bytes w (to_be_bytes w n) ≡ n
  pub below : (bytes : List ℕ) → IsBytes bytes → from_be_bytes w bytes < limit
  pub fits : (n : ℕ) → n < limit → Fits w n
  pub unsigned : (z : ℤ) → FitsSigned w z → cast_unsigned w z < limit

pub wide16 : IsWide w16 (2 ^ 16)
wide16 = record {
  len = λ n. refl;
  back = λ bytes len fits. be_bytes_2 bytes _ len fits refl;
  again = λ n lt. from_be_bytes-to_be_bytes_2 n lt;
  below = λ bytes fits. omega (arith, fits 0, fits 1);
  fits = λ n lt. record { fits = lt };
  unsigned = λ z fits. (Fits-of_z fits).fits;
}

pub wide32 : IsWide w32 (2 ^ 32)
wide32 = record {
  len = λ n. refl;
  back = λ bytes len fits. be_bytes_4 bytes _ len fits refl;
  again = λ n lt. from_be_bytes-to_be_bytes_4 n lt;
  below = λ bytes fits. omega (arith, fits 0, fits 1, fits 2, fits 3);
  fits = λ n lt. record { fits = lt };
  unsigned = λ z fits. (Fits-of_z fits).fits;
}

pub wide64 : IsWide w64 (2 ^ 64)
wide64 = record {
  len = λ n. refl;
  back = λ bytes len fits. be_bytes_8 bytes _ len fits refl;
  again = λ n lt. from_be_bytes-to_be_bytes_8 n lt;
  below = λ bytes fits. omega (arith, fits 0, fits 1, fits 2, fits 3, fits 4, fits 5, fits 6, fits 7);
  fits = λ n lt. record { fits = lt };
  unsigned = λ z fits. (Fits-of_z fits).fits;
}

pub number_field : (w : Width) (limit : ℕ) → IsWide w limit → IsField (number_at w) (to_be_bytes w) (λ n. n < limit)
unfolding number_at
number_field w limit wide = record {
  holds = λ rec at found fits le e.
      let b = bind_ok (bytes_at (byte_len w) rec at at) (λ bytes. Ok (from_be_bytes w bytes.0, bytes.1)) found e in
      let cut = bytes_hold (byte_len w) rec at at b.0 fits b.1 in
      let made : ℕ × ℕ = (from_be_bytes w b.0.0, b.0.1) in
      let text : to_be_bytes w (from_be_bytes w b.0.0) ≡ b.0.0 = wide.back b.0.0 cut.sized cut.bytes in
      let whole : IsCodedAt rec at (to_be_bytes w (from_be_bytes w b.0.0)) b.0.1 = subst (λ (t : List ℕ). IsCodedAt rec at t b.0.1) (sym text) cut.holds in
      subst (λ (f : ℕ × ℕ). IsCodedAt rec at (to_be_bytes w f.0) f.1 × (f.0 < limit)) (ok_is made found b.2) (whole, wide.below b.0.0 cut.bytes);
  again = λ rec at n next le p small. rw (bytes_again (byte_len w) rec at at (to_be_bytes w n) next le p (wide.len n), wide.again n small) refl;
}

pub signed_field : (w : Width) (limit : ℕ) → IsWide w limit → IsField (signed_at w) (λ z. to_be_bytes w (cast_unsigned w z)) (FitsSigned w)
unfolding signed_at
signed_field w limit wide = record {
  holds = λ rec at found bytes le e.
      let s = step (number_field w limit wide) rec at (λ n. Ok (cast_signed w n.0, n.1)) found bytes le e in
      let made : ℤ × ℕ = (cast_signed w s.value, s.next) in
      let back : cast_unsigned w (cast_signed w s.value) ≡ s.value = of_z-to_z (wide.fits s.value s.fits) in
      let whole : IsCodedAt rec at (to_be_bytes w (cast_unsigned w (cast_signed w s.value))) s.next = subst (λ (n : ℕ). IsCodedAt rec at (to_be_bytes w n) s.next) (sym back) s.holds in
      subst (λ (f : ℤ × ℕ). IsCodedAt rec at (to_be_bytes w (cast_unsigned w f.0)) f.1 × FitsSigned w f.0) (ok_is made found s.rest) (whole, sfits_to_z (wide.fits s.value s.fits));
  again = λ rec at z next le p fits.
      let back : cast_signed w (cast_unsigned w z) ≡ z = to_z-of_z fits in
      rw ((number_field w limit wide).again rec at (cast_unsigned w z) next le p (wide.unsigned z fits), back) refl;
}

-- ---- flags and choices

flag_went : (rec : List ℕ) (at n next : ℕ) (found : Bool × ℕ) → IsCodedAt rec at (n ∷ []) next → cond (nat_eq n 0) (Ok (false, next)) (cond (nat_eq n 1) (Ok (true, next)) (Err at)) ≡ Ok found → IsCodedAt rec at (flag_bytes found.0) found.1 × Unit {0}
flag_went rec at n next found p e =
    elim (went (nat_eq n 0) (Ok (false, next)) (cond (nat_eq n 1) (Ok (true, next)) (Err at)) (Ok found) e) [
      | inl h ↦
          let zero_is : n ≡ 0 = eqb-true _ _ h.0 in
          let whole : IsCodedAt rec at (0 ∷ []) next = subst (λ (k : ℕ). IsCodedAt rec at (k ∷ []) next) zero_is p in
          subst (λ (f : Bool × ℕ). IsCodedAt rec at (flag_bytes f.0) f.1 × Unit {0}) (ok_is (false, next) found h.1) (whole, tt)
      | inr h ↦
          let g = pass_ok (nat_eq n 1) at (Ok (true, next)) found h.1 in
          let one_is : n ≡ 1 = eqb-true _ _ g.0 in
          let whole : IsCodedAt rec at (1 ∷ []) next = subst (λ (k : ℕ). IsCodedAt rec at (k ∷ []) next) one_is p in
          subst (λ (f : Bool × ℕ). IsCodedAt rec at (flag_bytes f.0) f.1 × Unit {0}) (ok_is (true, next) found g.1) (whole, tt)
    ]

flag_again : (rec : List ℕ) (at : ℕ) (flag : Bool) (next : ℕ) → at ≤ length rec → IsCodedAt rec at (flag_bytes flag) next → flag_at rec at ≡ Ok (flag, next)
unfolding flag_at
flag_again rec at false next le p = rw (u8_field.again rec at 0 next le p (omega arith)) refl
flag_again rec at true next le p = rw (u8_field.again rec at 1 next le p (omega arith)) refl

pub flag_field : IsField flag_at flag_bytes (λ flag. Unit {0})
unfolding flag_at
flag_field = record {
  holds = λ rec at found bytes le e.
      let s = step u8_field rec at (λ n. cond (nat_eq n.0 0) (Ok (false, n.1)) (cond (nat_eq n.0 1) (Ok (true, n.1)) (Err at))) found bytes le e in
      flag_went rec at s.value s.next found s.holds s.rest;
  again = λ rec at flag next le p fits. flag_again rec at flag next le p;
}

-- how the cases of a choice are numbered
pub record IsNumbering {A : Type 0} (cases : List A) (number : A → ℕ) : Type 0 where
  pub there : (x : A) → slice_get cases (number x) ≡ Some x
  pub back : (n : ℕ) (x : A) → slice_get cases n ≡ Some x → number x ≡ n
  pub small : (x : A) → number x < 256

pub choice_field : {A : Type 0} (cases : List A) (number : A → ℕ) → IsNumbering cases number → IsField (choice_at cases) (λ x. number x ∷ []) (λ x. Unit {0})
unfolding choice_at
choice_field {A} cases number numbered = record {
  holds = λ rec at found bytes le e.
      let s = step u8_field rec at (λ n. chosen at n.1 (slice_get cases n.0)) found bytes le e in
      let c = chosen_ok at s.next (slice_get cases s.value) found s.rest in
      let whole : IsCodedAt rec at (number c.0 ∷ []) s.next = subst (λ (k : ℕ). IsCodedAt rec at (k ∷ []) s.next) (sym (numbered.back s.value c.0 c.1)) s.holds in
      subst (λ (f : A × ℕ). IsCodedAt rec at (number f.0 ∷ []) f.1 × Unit {0}) (sym c.2) (whole, tt);
  again = λ rec at x next le p fits. rw (u8_field.again rec at (number x) next le p (numbered.small x), numbered.there x) refl;
}

-- ---- what may be absent

optional_went : {A : Type 0} {read : List ℕ → ℕ → Result (A × ℕ) ℕ} {coding : A → List ℕ} {Bounds : A → Type 0} (field : IsField read coding Bounds) (rec : List ℕ) (at : ℕ) (flag : Bool) (next : ℕ) (found : Option A × ℕ)
    → IsBytes rec → IsCodedAt rec at (flag_bytes flag) next → cond flag (read rec next >>= λ x. Ok (Some x.0, x.1)) (Ok (None, next)) ≡ Ok found
    → IsCodedAt rec at (optional_bytes coding found.0) found.1 × IfSome found.0 Bounds
optional_went {A} {read} {coding} {Bounds} field rec at false next found bytes p e =
    let made : Option A × ℕ = (None, next) in
    subst (λ (f : Option A × ℕ). IsCodedAt rec at (optional_bytes coding f.0) f.1 × IfSome f.0 Bounds) (ok_is made found e) (p, tt)
optional_went {A} {read} {coding} {Bounds} field rec at true next found bytes p e =
    let s = step field rec next (λ x. Ok (Some x.0, x.1)) found bytes p.within e in
    let made : Option A × ℕ = (Some s.value, s.next) in
    subst (λ (f : Option A × ℕ). IsCodedAt rec at (optional_bytes coding f.0) f.1 × IfSome f.0 Bounds) (ok_is made found s.rest) (holds_then rec at (1 ∷ []) next (coding s.value) s.next p s.holds, s.fits)

optional_again : {A : Type 0} {read : List ℕ → ℕ → Result (A × ℕ) ℕ} {coding : A → List ℕ} {Bounds : A → Type 0} (field : IsField read coding Bounds) (rec : List ℕ) (at : ℕ) (value : Option A) (next : ℕ)
    → at ≤ length rec → IsCodedAt rec at (optional_bytes coding value) next → IfSome value Bounds → optional_at read rec at ≡ Ok (value, next)
unfolding optional_at
optional_again {A} {read} {coding} {Bounds} field rec at None next le p fits = rw (flag_again rec at false next le p) refl
optional_again {A} {read} {coding} {Bounds} field rec at (Some x) next le p fits =
    let a = apart rec at (1 ∷ []) (coding x) next le p in
    rw (flag_again rec at true a.mid le a.first, field.again rec a.mid x next a.first.within a.second fits) refl

pub optional_field : {A : Type 0} {read : List ℕ → ℕ → Result (A × ℕ) ℕ} {coding : A → List ℕ} {Bounds : A → Type 0} → IsField read coding Bounds → IsField (optional_at read) (optional_bytes coding) (λ o. IfSome o Bounds)
unfolding optional_at
optional_field {A} {read} {coding} {Bounds} field = record {
  holds = λ rec at found bytes le e.
      let s = step flag_field rec at (λ there. cond there.0 (read rec there.1 >>= λ x. Ok (Some x.0, x.1)) (Ok (None, there.1))) found bytes le e in
      optional_went field rec at s.value s.next found bytes s.holds s.rest;
  again = λ rec at value next le p fits. optional_again field rec at value next le p fits;
}
