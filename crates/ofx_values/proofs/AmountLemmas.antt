-- The amount that is read is the one that is spelled, what is spelled is read, and what is printed is spelled so.
use Rattle.std.proofs.Common.{◌≡◌, ℕ, ◌+◌, ◌<◌, ◌≤◌, true, false, eqb, List, [], ◌∷◌, ◌++◌, length, get_or, drop, Some, None, refl, sym, ap, subst, ◌∙◌, inl, inr, arith, ℤ}
use Rattle.std.specs.Prelude.{nat_le}
use Rattle.std.specs.Char.{is_ascii_digit}
use Rattle.std.specs.List.{list_all}
use Rattle.std.proofs.lemmas.Bool.{and_parts, and_from, or_cases, cond-true, leb-true, le-leb, ltb-true, lt-ltb, eqb-true}
use Rattle.std.proofs.lemmas.List.{drop_at}
use Rattle.std.proofs.lemmas.Option.{cond_some}
use Rattle.ofx_types.specs.TextRules.{trimmed}
use Rattle.ofx_types.specs.Digits.{signed}
use Rattle.ofx_types.specs.AmountForm.{IsAmount, IsFractionPart}
use Rattle.ofx_types.specs.ValueReading.{◌>>=◌, sign_at}
use Rattle.ofx_types.specs.AmountReading.{prefix_digits, after_digits, after_mark, total, is_counted, magnitude_of, magnitude_at, amount_at}
use Rattle.ofx_values.proofs.PartLemmas.{bind_some, some_is, guarded, digit_in, IsUnsigned, sign_takes, sign_again}
use Rattle.ofx_values.proofs.DigitLemmas.{prefix_all, prefix_split, prefix_again}

mark_takes : (text digits : List ℕ) → after_mark text ≡ Some digits → IsFractionPart text digits × (list_all is_ascii_digit digits ≡ true)
unfolding after_mark
mark_takes [] digits e =
    let none : [] ≡ digits = some_is [] digits e in (inl (refl, sym none), rw (← none) refl)
mark_takes (b ∷ rest) digits e =
    let g = cond_some _ _ _ e in
    let both = and_parts _ _ g.0 in
    let marked : IsFractionPart (b ∷ rest) rest = elim (or_cases _ _ both.0) [
      | inl point ↦ inr (inl (ap (λ (k : ℕ). k ∷ rest) (eqb-true b 46 point)))
      | inr comma ↦ inr (inr (ap (λ (k : ℕ). k ∷ rest) (eqb-true b 44 comma)))
    ] in
    subst (λ (digits : List ℕ). IsFractionPart (b ∷ rest) digits × (list_all is_ascii_digit digits ≡ true)) g.1 (marked, both.1)

mark_again : (text digits : List ℕ) → IsFractionPart text digits → list_all is_ascii_digit digits ≡ true → after_mark text ≡ Some digits
unfolding after_mark
mark_again text digits (inl (none, no_digits)) all = rw (none, no_digits) refl
mark_again text digits (inr (inl point)) all = rw point (cond-true _ _ _ (and_from _ _ refl all))
mark_again text digits (inr (inr comma)) all = rw comma (cond-true _ _ _ (and_from _ _ refl all))

-- what is counted, by its parts
pub record Counted (dollars suffix : List ℕ) : Type 0 where
  pub something : 0 < length dollars + length suffix
  pub whole : list_all (λ b. eqb b 48) (drop 2 suffix) ≡ true
  pub bounded : total dollars suffix ≤ 9999999999999

counted_is : (dollars suffix : List ℕ) → is_counted dollars suffix ≡ true → Counted dollars suffix
counted_is dollars suffix e =
    let both = and_parts _ _ e in
    let first = and_parts _ _ both.0 in
    record { something = ltb-true 0 _ first.0; whole = first.1; bounded = leb-true (total dollars suffix) 9999999999999 both.1 }

counted_from : (dollars suffix : List ℕ) → Counted dollars suffix → is_counted dollars suffix ≡ true
counted_from dollars suffix c =
    and_from _ _ (and_from _ _ (lt-ltb 0 _ c.something) c.whole) (le-leb (total dollars suffix) 9999999999999 c.bounded)

-- no digit stands where a mark or nothing stands
fraction_digitless : (text digits : List ℕ) → IsFractionPart text digits → is_ascii_digit (get_or text 0 0) ≡ false
fraction_digitless text digits (inl (none, _)) = rw none refl
fraction_digitless text digits (inr (inl point)) = rw point refl
fraction_digitless text digits (inr (inr comma)) = rw comma refl

-- and no sign there
fraction_unsigned : (text digits : List ℕ) → IsFractionPart text digits → IsUnsigned text
fraction_unsigned text digits (inl (none, _)) =
    rw none (record { no_plus = λ q. absurd (omega arith); no_minus = λ q. absurd (omega arith) })
fraction_unsigned text digits (inr (inl point)) =
    rw point (record { no_plus = λ q. absurd (omega arith); no_minus = λ q. absurd (omega arith) })
fraction_unsigned text digits (inr (inr comma)) =
    rw comma (record { no_plus = λ q. absurd (omega arith); no_minus = λ q. absurd (omega arith) })

digits_unsigned : (dollars text digits : List ℕ) → list_all is_ascii_digit dollars ≡ true → IsFractionPart text digits → IsUnsigned (dollars ++ text)
digits_unsigned [] text digits all f = fraction_unsigned text digits f
digits_unsigned (d ∷ dollars) text digits all f =
    let is = digit_in d (and_parts _ _ all).0 in
    record { no_plus = λ q. absurd (omega (arith, is)); no_minus = λ q. absurd (omega (arith, is)) }

pub amount_takes : (raw : List ℕ) (c : ℤ) → amount_at (trimmed raw) ≡ Some c → IsAmount raw c
unfolding amount_at magnitude_at magnitude_of
amount_takes raw c e =
    let text = trimmed raw in
    let s = sign_at text in
    let short = guarded (nat_le (length text) 32) (magnitude_at s.1 >>= λ magnitude. Some (signed s.0 magnitude)) c e in
    let m = bind_some (magnitude_at s.1) (λ magnitude. Some (signed s.0 magnitude)) c short.1 in
    let b = bind_some (after_mark (after_digits s.1)) (λ suffix. magnitude_of (prefix_digits s.1) suffix) m.0 m.1 in
    let n = cond_some (is_counted (prefix_digits s.1) b.0) (total (prefix_digits s.1) b.0) m.0 b.2 in
    let signs = sign_takes text in
    let marks = mark_takes (after_digits s.1) b.0 b.1 in
    let counted = counted_is (prefix_digits s.1) b.0 n.0 in
    record {
      sign = signs.0;
      negative = s.0;
      dollars = prefix_digits s.1;
      fraction = after_digits s.1;
      suffix = b.0;
      spelled = signs.2 ∙ ap (λ (t : List ℕ). signs.0 ++ t) (prefix_split s.1);
      is_sign = signs.1;
      is_fraction = marks.0;
      are_dollars = prefix_all s.1;
      are_cents = marks.1;
      is_something = counted.something;
      is_short = leb-true (length text) 32 short.0;
      is_whole_cents = counted.whole;
      is_bounded = counted.bounded;
      meant = sym (some_is _ c m.2) ∙ ap (signed s.0) (sym n.1);
    }

magnitude_again : (dollars fraction suffix : List ℕ) → IsFractionPart fraction suffix → list_all is_ascii_digit dollars ≡ true → list_all is_ascii_digit suffix ≡ true → Counted dollars suffix → magnitude_at (dollars ++ fraction) ≡ Some (total dollars suffix)
unfolding magnitude_at magnitude_of
magnitude_again dollars fraction suffix f all cents counted =
    let prefix = prefix_again dollars fraction all (fraction_digitless fraction suffix f) in
    let rest : after_digits (dollars ++ fraction) ≡ fraction =
    ap (λ (t : List ℕ). drop (length t) (dollars ++ fraction)) prefix ∙ drop_at dollars fraction (length dollars) refl in
    rw (rest, prefix, mark_again fraction suffix f cents) (cond-true _ _ _ (counted_from dollars suffix counted))

pub amount_again : (raw : List ℕ) (c : ℤ) → IsAmount raw c → amount_at (trimmed raw) ≡ Some c
unfolding amount_at
amount_again raw c a =
    let counted : Counted a.dollars a.suffix = record { something = a.is_something; whole = a.is_whole_cents; bounded = a.is_bounded } in
    let signs = ap sign_at a.spelled ∙ sign_again a.sign (a.dollars ++ a.fraction) a.negative a.is_sign (digits_unsigned a.dollars a.fraction a.suffix a.are_dollars a.is_fraction) in
    let magnitude = magnitude_again a.dollars a.fraction a.suffix a.is_fraction a.are_dollars a.are_cents counted in
    cond-true _ _ _ (le-leb (length (trimmed raw)) 32 a.is_short) ∙ rw (signs, magnitude) (ap Some (sym a.meant))

-- where nothing is read, nothing is spelled
pub amount_none : (raw : List ℕ) → amount_at (trimmed raw) ≡ None → (c : ℤ) → IsAmount raw c → ⊥
amount_none raw none c a = let same : amount_at (trimmed raw) ≡ Some c = amount_again raw c a in cc

pub amount_once : (raw : List ℕ) (a b : ℤ) → IsAmount raw a → IsAmount raw b → a ≡ b
amount_once raw a b x y = some_is a b (sym (amount_again raw a x) ∙ amount_again raw b y)
