-- Bytes that are read after those before, and how the first line of a frame ends.
use Rattle.std.proofs.Common.{◌≡◌, ◌≢◌, ℕ, ◌≤◌, ◌+◌, ◌-◌, inl, inr, List, [], ◌∷◌, ◌++◌, length, slice_get, Option, None, Some, arith, refl, sym, ap, subst, ◌∙◌, append_assoc, length-append}
use Rattle.std.specs.Io.KnownBytes.{Keeps, Consumes, prepend_known}
use Rattle.std.proofs.lemmas.Bool.{cases_lt}
use Rattle.std.proofs.lemmas.List.{get_or_at, get_or_append_left}
use Rattle.std.proofs.lemmas.Option.{slice_get-get_or}
use Rattle.bank_frames.specs.Reads.{ReadsMore}
use Rattle.register_run.specs.Heads.{HasNoLineEnd, IsLine}

-- no byte is lost
pub keeps_more : (a b c : Option (List ℕ)) (old bytes : List ℕ) → Keeps a (prepend_known old b) → Consumes b c bytes → Keeps a (prepend_known (old ++ bytes) c)
keeps_more None b c old bytes h k = tt
keeps_more (Some xs) None c old bytes h k = absurd h
keeps_more (Some xs) (Some ys) None old bytes h k = absurd k
keeps_more (Some xs) (Some ys) (Some zs) old bytes h k = append_assoc old bytes zs ∙ (ap (λ (l : List ℕ). old ++ l) (sym k) ∙ h)

pub keeps_read : (a b c : Option (List ℕ)) (old new : List ℕ) (count : ℕ) → Keeps a (prepend_known old b) → ReadsMore old new b c count → Keeps a (prepend_known new c)
keeps_read a b c old new count h more = subst (λ (l : List ℕ). Keeps a (prepend_known l c)) (sym more.ahead) (keeps_more a b c old more.bytes h more.consumed)

-- ---- one byte

no_bytes : (bytes : List ℕ) → length bytes ≡ 0 → bytes ≡ []
no_bytes [] e = refl
no_bytes (b ∷ bytes) e = absurd (omega (arith, e))

pub record IsOne (bytes : List ℕ) : Type 0 where
  pub byte : ℕ
  pub is : bytes ≡ byte ∷ []

one_byte : (bytes : List ℕ) (count : ℕ) → length bytes ≡ count → count ≤ 1 → count ≢ 0 → IsOne bytes
one_byte [] count e few some = absurd (some (sym e))
one_byte (b ∷ []) count e few some = record { byte = b; is = refl }
one_byte (b ∷ (d ∷ bytes)) count e few some = absurd (omega (arith, e, few))

last_is : (prefix : List ℕ) (b : ℕ) → slice_get (prefix ++ b ∷ []) (length (prefix ++ b ∷ []) - 1) ≡ Some b
last_is prefix b =
    let offset : length (prefix ++ b ∷ []) - 1 ≡ length prefix = omega (arith, length-append prefix (b ∷ [])) in
    rw offset (slice_get-get_or (prefix ++ b ∷ []) (length prefix) 0 (omega (arith, length-append prefix (b ∷ []))) ∙ ap Some (get_or_at prefix b [] 0 (length prefix) refl))

grown : (old new : List ℕ) (b c : Option (List ℕ)) (count : ℕ) (more : ReadsMore old new b c count) (one : IsOne more.bytes) → new ≡ old ++ one.byte ∷ []
grown old new b c count more one = more.ahead ∙ ap (λ (l : List ℕ). old ++ l) one.is

abbrev byte_of : ℕ → Option ℕ
byte_of b = Some b

-- its LF is read
pub line_ended : (old new : List ℕ) (b c : Option (List ℕ)) (count : ℕ) → ReadsMore old new b c count → count ≤ 1 → count ≢ 0 → HasNoLineEnd old
    → slice_get new (length new - 1) ≡ Some 10 → IsLine new
line_ended old new b c count more few some clean last =
    let one = one_byte more.bytes count more.counted few some in
    let is : new ≡ old ++ one.byte ∷ [] = grown old new b c count more one in
    let both : byte_of one.byte ≡ byte_of 10 = sym (last_is old one.byte) ∙ (ap (λ (l : List ℕ). slice_get l (length l - 1)) (sym is) ∙ last) in
    let ten : one.byte ≡ 10 = cc in
    record { line = old; ended = is ∙ ap (λ (d : ℕ). old ++ d ∷ []) ten; clean = clean }

-- another byte of the line is
pub line_goes_on : (old new : List ℕ) (b c : Option (List ℕ)) (count : ℕ) → ReadsMore old new b c count → count ≤ 1 → count ≢ 0 → HasNoLineEnd old
    → (slice_get new (length new - 1) ≡ Some 10 → ⊥) → HasNoLineEnd new × (length new ≡ length old + 1)
line_goes_on old new b c count more few some clean other =
    let one = one_byte more.bytes count more.counted few some in
    let is : new ≡ old ++ one.byte ∷ [] = grown old new b c count more one in
    let not_ten : one.byte ≢ 10 = λ ten. other (ap (λ (l : List ℕ). slice_get l (length l - 1)) is ∙ (last_is old one.byte ∙ ap byte_of ten)) in
    (subst HasNoLineEnd (sym is) (with_one one.byte not_ten), ap length is ∙ length-append old (one.byte ∷ []))
  where
    with_one : (d : ℕ) → d ≢ 10 → HasNoLineEnd (old ++ d ∷ [])
    with_one d not k lt e = elim (cases_lt k (length old)) [
      | inl below ↦ clean k below (sym (get_or_append_left old (d ∷ []) 0 k below) ∙ e)
      | inr from ↦
          let last : k ≡ length old = omega (arith, length-append old (d ∷ [])) in
          not (sym (get_or_at old d [] 0 k (sym last)) ∙ e)
    ]
