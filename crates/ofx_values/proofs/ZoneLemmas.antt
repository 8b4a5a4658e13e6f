-- The zone that is read is the one that is spelled, and what is spelled is read.
use Rattle.std.proofs.Common.{◌≡◌, ◌≢◌, ℕ, ◌+◌, ◌-◌, ◌*◌, ◌/◌, ◌%◌, ◌<◌, ◌≤◌, Bool, true, false, cond, eqb, List, [], ◌∷◌, ◌++◌, length, get_or, take, Some, None, refl, sym, ap, subst, ◌∙◌, inl, inr, arith, append_assoc, ℤ, pos}
use Rattle.std.specs.Char.{is_ascii_digit}
use Rattle.std.proofs.lemmas.Bool.{and_parts, and_from, cond-true, cond-false, cond_both, eqb-true, eq-eqb, ne_eqb, leb-true, le-leb}
use Rattle.std.proofs.lemmas.List.{take_more, take_all, take_at, get_or_at, length-append}
use Rattle.std.proofs.lemmas.Option.{cond_some}
use Rattle.ofx_types.specs.Digits.{signed, two_digits}
use Rattle.ofx_types.specs.DateForm.{IsHours, IsPart, IsName, IsBracketed, IsZone}
use Rattle.ofx_types.specs.ValueReading.{◌>>=◌, sign_at}
use Rattle.ofx_types.specs.DateReading.{hours_after, hours_at, tenths_after, tenths_at, part_at, is_name, offset_seconds, offset_at, before_bracket, zone_at, is_timeless}
use Rattle.ofx_values.proofs.PartLemmas.{after_prefix, bind_some, some_is, digit_in, digit_from, pair_is, IsUnsigned, sign_takes, sign_again}

-- no digit is here
abbrev IsDigitless : List ℕ → Type 0
IsDigitless text = is_ascii_digit (get_or text 0 0) ≡ false

-- ---- whole hours

hours_take : (text : List ℕ) (x : ℕ × List ℕ) → hours_at text ≡ Some x → (prefix : List ℕ) × IsHours prefix x.0 × (text ≡ prefix ++ x.1)
unfolding hours_at
hours_take [] x e = absurd cc
hours_take (a ∷ []) x e =
    let g = cond_some _ _ _ e in
    let d = digit_in a g.0 in
    subst (λ (x : ℕ × List ℕ). (prefix : List ℕ) × IsHours prefix x.0 × (a ∷ [] ≡ prefix ++ x.1)) g.1 (a ∷ [], inl (omega arith, ap (λ (k : ℕ). k ∷ []) (omega arith)), refl)
hours_take (a ∷ b ∷ rest) x e =
    let g = cond_some _ _ _ e in
    let d = digit_in a g.0 in
    subst (λ (x : ℕ × List ℕ). (prefix : List ℕ) × IsHours prefix x.0 × (a ∷ b ∷ rest ≡ prefix ++ x.1)) g.1
    (cond_both {A = ℕ × List ℕ} (is_ascii_digit b) (10 * (a - 48) + (b - 48), rest) (a - 48, b ∷ rest) (λ x. (prefix : List ℕ) × IsHours prefix x.0 × (a ∷ b ∷ rest ≡ prefix ++ x.1))
    (λ two. let is = pair_is a b d (digit_in b two) in (two_digits (10 * (a - 48) + (b - 48)), inr (is.0, refl), ap (λ (t : List ℕ). t ++ rest) is.1))
    (λ one. (a ∷ [], inl (omega arith, ap (λ (k : ℕ). k ∷ []) (omega arith)), refl)))

hours_after_none : (h : ℕ) (rest : List ℕ) → IsDigitless rest → hours_after h rest ≡ (h, rest)
hours_after_none h [] none = refl
hours_after_none h (b ∷ rest) none = cond-false _ _ _ none

hours_again : (prefix rest : List ℕ) (h : ℕ) → IsHours prefix h → IsDigitless rest → hours_at (prefix ++ rest) ≡ Some (h, rest)
unfolding hours_at
hours_again prefix rest h (inl (small, e)) none =
    let back : 48 + h - 48 ≡ h = omega arith in
    rw e (cond-true _ _ _ (digit_from h small) ∙ ap Some (ap (λ (k : ℕ). hours_after k rest) back ∙ hours_after_none h rest none))
hours_again prefix rest h (inr (small, e)) none =
    let value : 10 * (48 + h / 10 - 48) + (48 + h % 10 - 48) ≡ h = omega arith in
    rw e (cond-true _ _ _ (digit_from (h / 10) (omega arith)) ∙ ap Some (cond-true _ _ _ (digit_from (h % 10) (omega arith)) ∙ ap (λ (k : ℕ). (k, rest)) value))

-- ---- parts of an hour

abbrev HasPart : List ℕ → ℕ × List ℕ → Type 0
HasPart text x = (prefix : List ℕ) × IsPart (46 ∷ prefix) x.0 × (text ≡ prefix ++ x.1)

tenths_take : (text : List ℕ) (x : ℕ × List ℕ) → tenths_at text ≡ Some x → HasPart text x
unfolding tenths_at
tenths_take [] x e = absurd cc
tenths_take (a ∷ []) x e =
    let g = cond_some _ _ _ e in
    let d = digit_in a g.0 in
    subst (HasPart (a ∷ [])) g.1 (a ∷ [], inr (inl (a - 48, omega arith, ap (λ (k : ℕ). 46 ∷ k ∷ []) (omega arith), refl)), refl)
tenths_take (a ∷ b ∷ rest) x e =
    let g = cond_some _ _ _ e in
    let d = digit_in a g.0 in
    subst (HasPart (a ∷ b ∷ rest)) g.1
    (cond_both {A = ℕ × List ℕ} (is_ascii_digit b) (10 * (a - 48) + (b - 48), rest) (10 * (a - 48), b ∷ rest) (HasPart (a ∷ b ∷ rest))
    (λ two. let is = pair_is a b d (digit_in b two) in (two_digits (10 * (a - 48) + (b - 48)), inr (inr (is.0, refl)), ap (λ (t : List ℕ). t ++ rest) is.1))
    (λ one. (a ∷ [], inr (inl (a - 48, omega arith, ap (λ (k : ℕ). 46 ∷ k ∷ []) (omega arith), refl)), refl)))

part_takes : (text : List ℕ) (x : ℕ × List ℕ) → part_at text ≡ Some x → (prefix : List ℕ) × IsPart prefix x.0 × (text ≡ prefix ++ x.1)
unfolding part_at
part_takes [] x e =
    subst (λ (x : ℕ × List ℕ). (prefix : List ℕ) × IsPart prefix x.0 × ([] ≡ prefix ++ x.1)) (some_is (0, []) x e) ([], inl (refl, refl), refl)
part_takes (b ∷ rest) x e =
    cond_both (eqb b 46) (tenths_at rest) (Some (0, b ∷ rest)) (λ o. o ≡ Some x → (prefix : List ℕ) × IsPart prefix x.0 × (b ∷ rest ≡ prefix ++ x.1))
    (λ point taken. let t = tenths_take rest x taken in (46 ∷ t.0, t.1, ap (λ (k : ℕ). k ∷ rest) (eqb-true b 46 point) ∙ ap (λ (s : List ℕ). 46 ∷ s) t.2))
    (λ none same. subst (λ (x : ℕ × List ℕ). (prefix : List ℕ) × IsPart prefix x.0 × (b ∷ rest ≡ prefix ++ x.1)) (some_is (0, b ∷ rest) x same) ([], inl (refl, refl), refl)) e

tenths_after_none : (t : ℕ) (rest : List ℕ) → IsDigitless rest → tenths_after t rest ≡ (10 * t, rest)
tenths_after_none t [] none = refl
tenths_after_none t (b ∷ rest) none = cond-false _ _ _ none

one_tenth : (t : ℕ) (rest : List ℕ) → t < 10 → IsDigitless rest → tenths_at ((48 + t) ∷ rest) ≡ Some (10 * t, rest)
unfolding tenths_at
one_tenth t rest small none =
    let back : 48 + t - 48 ≡ t = omega arith in
    cond-true _ _ _ (digit_from t small) ∙ ap Some (ap (λ (k : ℕ). tenths_after k rest) back ∙ tenths_after_none t rest none)

two_tenths : (p : ℕ) (rest : List ℕ) → p < 100 → tenths_at (two_digits p ++ rest) ≡ Some (p, rest)
unfolding tenths_at
two_tenths p rest small =
    let value : 10 * (48 + p / 10 - 48) + (48 + p % 10 - 48) ≡ p = omega arith in
    cond-true _ _ _ (digit_from (p / 10) (omega arith)) ∙ ap Some (cond-true _ _ _ (digit_from (p % 10) (omega arith)) ∙ ap (λ (k : ℕ). (k, rest)) value)

no_part : (rest : List ℕ) → get_or rest 0 0 ≢ 46 → part_at rest ≡ Some (0, rest)
unfolding part_at
no_part [] h = refl
no_part (b ∷ rest) h = cond-false _ _ _ (ne_eqb b 46 h)

part_again : (prefix rest : List ℕ) (p : ℕ) → IsPart prefix p → IsDigitless rest → get_or rest 0 0 ≢ 46 → part_at (prefix ++ rest) ≡ Some (p, rest)
unfolding part_at
part_again prefix rest p (inl (none, zero_part)) digitless pointless = rw (none, zero_part) (no_part rest pointless)
part_again prefix rest p (inr (inl (t, small, e, value))) digitless pointless = rw (e, value) (one_tenth t rest small digitless)
part_again prefix rest p (inr (inr (small, e))) digitless pointless = rw e (two_tenths p rest small)

-- ---- names

name_is : (text : List ℕ) → is_name text ≡ true → IsName text
unfolding is_name
name_is [] e = inl refl
name_is (b ∷ name) e =
    let both = and_parts _ _ e in
    let first = and_parts _ _ both.0 in
    inr (name, ap (λ (k : ℕ). k ∷ name) (eqb-true b 58 first.0), leb-true (length name) 32 first.1, both.1)

name_from : (text : List ℕ) → IsName text → is_name text ≡ true
unfolding is_name
name_from text (inl none) = rw none refl
name_from text (inr (name, e, short, bytes)) = rw e (and_from _ _ (le-leb (length name) 32 short) bytes)

name_digitless : (text : List ℕ) → IsName text → IsDigitless text
name_digitless text (inl none) = rw none refl
name_digitless text (inr (name, e, _, _)) = rw e refl

name_pointless : (text : List ℕ) → IsName text → get_or text 0 0 ≢ 46
name_pointless text (inl none) h =
    let first : get_or text 0 0 ≡ 0 = ap (λ (t : List ℕ). get_or t 0 0) none in absurd (omega arith)
name_pointless text (inr (name, e, _, _)) h =
    let first : get_or text 0 0 ≡ 58 = ap (λ (t : List ℕ). get_or t 0 0) e in absurd (omega arith)

part_digitless : (part name : List ℕ) (p : ℕ) → IsPart part p → IsName name → IsDigitless (part ++ name)
part_digitless part name p (inl (none, _)) n = rw none (name_digitless name n)
part_digitless part name p (inr (inl (t, _, e, _))) n = rw e refl
part_digitless part name p (inr (inr (_, e))) n = rw e refl

hours_unsigned : (hours rest : List ℕ) (h : ℕ) → IsHours hours h → IsUnsigned (hours ++ rest)
hours_unsigned hours rest h (inl (small, e)) = rw e (record { no_plus = λ q. absurd (omega arith); no_minus = λ q. absurd (omega arith) })
hours_unsigned hours rest h (inr (small, e)) = rw e (record { no_plus = λ q. absurd (omega arith); no_minus = λ q. absurd (omega arith) })

-- ---- the offset between the brackets

seconds_take : (negative : Bool) (h p : ℕ) (z : ℤ) → offset_seconds negative h p ≡ Some z → (p % 5 ≡ 0) × (100 * h + p ≤ cond negative 1200 1400) × (z ≡ signed negative (3600 * h + 36 * p))
unfolding offset_seconds
seconds_take negative h p z e =
    let g = cond_some _ _ _ e in
    let both = and_parts _ _ g.0 in
    (eqb-true (p % 5) 0 both.0, leb-true (100 * h + p) (cond negative 1200 1400) both.1, sym g.1)

seconds_again : (negative : Bool) (h p : ℕ) (z : ℤ) → p % 5 ≡ 0 → 100 * h + p ≤ cond negative 1200 1400 → z ≡ signed negative (3600 * h + 36 * p) → offset_seconds negative h p ≡ Some z
unfolding offset_seconds
seconds_again negative h p z fifth most e =
    cond-true _ _ _ (and_from _ _ (eq-eqb (p % 5) 0 fifth) (le-leb (100 * h + p) (cond negative 1200 1400) most)) ∙ ap Some (sym e)

-- what is between the brackets of a zone, with its closing bracket
bracketed : (prefix rest sign hours part name : List ℕ) → rest ≡ prefix ++ 93 ∷ [] → prefix ≡ sign ++ (hours ++ (part ++ name)) → 91 ∷ rest ≡ 91 ∷ sign ++ (hours ++ (part ++ (name ++ 93 ∷ [])))
bracketed prefix rest sign hours part name e f = rw (e, f) (ap (λ (t : List ℕ). 91 ∷ t) (simp append_assoc))

offset_takes : (prefix rest : List ℕ) (z : ℤ) → rest ≡ prefix ++ 93 ∷ [] → offset_at prefix ≡ Some z → IsBracketed (91 ∷ rest) z
unfolding offset_at
offset_takes prefix rest z whole e =
    let s = sign_at prefix in
    let h = bind_some (hours_at s.1) (λ hour. part_at hour.1 >>= λ part. cond (is_name part.1) (offset_seconds s.0 hour.0 part.0) None) z e in
    let p = bind_some (part_at h.0.1) (λ part. cond (is_name part.1) (offset_seconds s.0 h.0.0 part.0) None) z h.2 in
    let ts = sign_takes prefix in
    let th = hours_take s.1 h.0 h.1 in
    let tp = part_takes h.0.1 p.0 p.1 in
    let named : (is_name p.0.1 ≡ true) × (offset_seconds s.0 h.0.0 p.0.0 ≡ Some z) =
    cond_both (is_name p.0.1) (offset_seconds s.0 h.0.0 p.0.0) None (λ o. o ≡ Some z → (is_name p.0.1 ≡ true) × (offset_seconds s.0 h.0.0 p.0.0 ≡ Some z)) (λ yes taken. (yes, taken)) (λ no none. absurd cc) p.2 in
    let is = seconds_take s.0 h.0.0 p.0.0 z named.1 in
    let parts : prefix ≡ ts.0 ++ (th.0 ++ (tp.0 ++ p.0.1)) =
    after_prefix prefix ts.0 s.1 th.0 (tp.0 ++ p.0.1) ts.2 (after_prefix s.1 th.0 h.0.1 tp.0 p.0.1 th.2 tp.2) in
    record {
      sign = ts.0;
      hours = th.0;
      part = tp.0;
      name = p.0.1;
      negative = s.0;
      hour = h.0.0;
      hundredth = p.0.0;
      spelled = bracketed prefix rest ts.0 th.0 tp.0 p.0.1 whole parts;
      is_sign = ts.1;
      is_hours = th.1;
      is_part = tp.1;
      is_name = name_is p.0.1 named.0;
      is_twentieth = is.0;
      is_bounded = is.1;
      meant = is.2;
    }

offset_again : (text : List ℕ) (z : ℤ) (b : IsBracketed text z) → offset_at (b.sign ++ (b.hours ++ (b.part ++ b.name))) ≡ Some z
unfolding offset_at
offset_again text z b =
    let unsigned = hours_unsigned b.hours (b.part ++ b.name) b.hour b.is_hours in
    let s = sign_again b.sign (b.hours ++ (b.part ++ b.name)) b.negative b.is_sign unsigned in
    let h = hours_again b.hours (b.part ++ b.name) b.hour b.is_hours (part_digitless b.part b.name b.hundredth b.is_part b.is_name) in
    let p = part_again b.part b.name b.hundredth b.is_part (name_digitless b.name b.is_name) (name_pointless b.name b.is_name) in
    rw (s, h, p, name_from b.name b.is_name) (seconds_again b.negative b.hour b.hundredth z b.is_twentieth b.is_bounded b.meant)

-- ---- the brackets

last_is : (text : List ℕ) → 0 < length text → text ≡ take (length text - 1) text ++ get_or text (length text - 1) 0 ∷ []
last_is text h =
    let whole : length text - 1 + 1 ≡ length text = omega arith in
    sym (take_all (length text) text (omega arith)) ∙ sym (ap (λ (n : ℕ). take n text) whole) ∙ take_more text (length text - 1) 0 (omega arith)

bracket_takes : (text prefix : List ℕ) → before_bracket text ≡ Some prefix → text ≡ prefix ++ 93 ∷ []
unfolding before_bracket
bracket_takes [] prefix e = absurd cc
bracket_takes (b ∷ rest) prefix e =
    let g = cond_some _ _ _ e in
    let last : get_or (b ∷ rest) (length (b ∷ rest) - 1) 0 ≡ 93 = eqb-true _ 93 g.0 in
    last_is (b ∷ rest) (omega arith) ∙ rw (last, g.1) refl

bracket_again : (prefix : List ℕ) → before_bracket (prefix ++ 93 ∷ []) ≡ Some prefix
unfolding before_bracket
bracket_again prefix =
    let size : length (prefix ++ 93 ∷ []) - 1 ≡ length prefix = omega (arith, length-append prefix (93 ∷ [])) in
    rw size (cond-true _ _ _ (eq-eqb _ 93 (get_or_at prefix 93 [] 0 (length prefix) refl)) ∙ ap Some (take_at prefix (93 ∷ []) (length prefix) refl))

pub zone_takes : (text : List ℕ) (z : ℤ) → zone_at text ≡ Some z → IsZone text z
unfolding zone_at
zone_takes [] z e = inl (refl, sym (some_is (pos 0) z e))
zone_takes (b ∷ rest) z e =
    cond_both (eqb b 91) (before_bracket rest >>= offset_at) None (λ o. o ≡ Some z → IsZone (b ∷ rest) z)
    (λ opens taken. let f = bind_some (before_bracket rest) offset_at z taken in
    let is : b ≡ 91 = eqb-true b 91 opens in
    rw is (inr (offset_takes f.0 rest z (bracket_takes rest f.0 f.1) f.2)))
    (λ no none. absurd cc) e

pub zone_again : (text : List ℕ) (z : ℤ) → IsZone text z → zone_at text ≡ Some z
unfolding zone_at
zone_again text z (inl (none, zero_offset)) = rw (none, zero_offset) refl
zone_again text z (inr b) =
    let inner = b.sign ++ (b.hours ++ (b.part ++ b.name)) in
    let whole : text ≡ 91 ∷ (inner ++ 93 ∷ []) = b.spelled ∙ ap (λ (t : List ℕ). 91 ∷ t) (simp append_assoc) in
    rw (whole, bracket_again inner) (offset_again text z b)

-- no time of day stands where a zone or nothing stands
pub zone_timeless : (text : List ℕ) (z : ℤ) → IsZone text z → is_timeless text ≡ true
zone_timeless text z (inl (none, _)) = rw none refl
zone_timeless text z (inr b) = rw b.spelled refl
