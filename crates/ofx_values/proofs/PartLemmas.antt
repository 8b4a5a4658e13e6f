-- A part that is read is the part that is spelled, and what is spelled is read.
use Rattle.std.proofs.Common.{◌≡◌, ℕ, ◌+◌, ◌-◌, ◌*◌, ◌/◌, ◌%◌, ◌<◌, ◌≢◌, get_or, eqb, cond, Bool, true, false, List, [], ◌∷◌, ◌++◌, Option, Some, None, refl, ap, subst, ◌∙◌, inl, inr, arith}
use Rattle.std.proofs.lemmas.Bool.{and_parts, and_from, cond-true, cond-false, cond_both, eqb-true, ne_eqb}
use Rattle.std.proofs.lemmas.Bool.Decides.{nat_tests}
use Rattle.std.proofs.lemmas.Option.{cond_some}
use Rattle.std.specs.Char.{is_ascii_digit}
use Rattle.std.specs.Int.{IsInRange}
use Rattle.ofx_types.specs.Digits.{IsSign, two_digits}
use Rattle.ofx_types.specs.ValueReading.{◌>>=◌, pair_at, sign_at}

-- the value of a step that did not fail
pub bind_some : {A B : Type 0} (o : Option A) (f : A → Option B) (y : B) → (o >>= f) ≡ Some y → (x : A) × (o ≡ Some x) × (f x ≡ Some y)
bind_some (Some x) f y e = (x, refl, e)
bind_some None f y e = absurd cc

abbrev done : {A : Type 0} → A → Option A
done x = Some x

pub some_is : {A : Type 0} (x y : A) → done x ≡ done y → x ≡ y
some_is x y e = cc

-- a front, and another one after it
pub after_prefix : (a x b y c : List ℕ) → a ≡ x ++ b → b ≡ y ++ c → a ≡ x ++ (y ++ c)
after_prefix a x b y c p q = p ∙ ap (λ (t : List ℕ). x ++ t) q

pub digit_in : (b : ℕ) → is_ascii_digit b ≡ true → IsInRange 48 57 b
digit_in b e = grind (arith, nat_tests)

pub digit_from : (n : ℕ) → n < 10 → is_ascii_digit (48 + n) ≡ true
digit_from n h = grind (arith, nat_tests)

-- two digits are a number below 100 and spell it
pub pair_is : (a b : ℕ) → IsInRange 48 57 a → IsInRange 48 57 b → (10 * (a - 48) + (b - 48) < 100) × (a ∷ b ∷ [] ≡ two_digits (10 * (a - 48) + (b - 48)))
pair_is a b h k =
    let n = 10 * (a - 48) + (b - 48) in
    let tens : a ≡ 48 + n / 10 = omega arith in
    let units : b ≡ 48 + n % 10 = omega arith in
    (omega arith, ap (λ (x : ℕ). x ∷ b ∷ []) tens ∙ ap (λ (x : ℕ). (48 + n / 10) ∷ x ∷ []) units)

pub pair_takes : (text : List ℕ) (x : ℕ × List ℕ) → pair_at text ≡ Some x → (x.0 < 100) × (text ≡ two_digits x.0 ++ x.1)
unfolding pair_at
pair_takes [] x e = absurd cc
pair_takes (a ∷ []) x e = absurd cc
pair_takes (a ∷ b ∷ rest) x e =
    let h = cond_some _ _ _ e in
    let both = and_parts _ _ h.0 in
    let is = pair_is a b (digit_in a both.0) (digit_in b both.1) in
    subst (λ (x : ℕ × List ℕ). (x.0 < 100) × (a ∷ b ∷ rest ≡ two_digits x.0 ++ x.1)) h.1 (is.0, ap (λ (t : List ℕ). t ++ rest) is.1)

pub pair_again : (n : ℕ) (rest : List ℕ) → n < 100 → pair_at (two_digits n ++ rest) ≡ Some (n, rest)
unfolding pair_at
pair_again n rest h =
    let value : 10 * (48 + n / 10 - 48) + (48 + n % 10 - 48) ≡ n = omega arith in
    cond-true _ _ _ (and_from _ _ (digit_from (n / 10) (omega arith)) (digit_from (n % 10) (omega arith))) ∙ ap (λ (k : ℕ). Some (k, rest)) value

-- the byte at the start is no sign
pub record IsUnsigned (text : List ℕ) : Type 0 where
  pub no_plus : get_or text 0 0 ≢ 43
  pub no_minus : get_or text 0 0 ≢ 45

pub sign_takes : (text : List ℕ) → (prefix : List ℕ) × IsSign prefix (sign_at text).0 × (text ≡ prefix ++ (sign_at text).1)
unfolding sign_at
sign_takes [] = ([], inl (refl, refl), refl)
sign_takes (b ∷ rest) =
    let P : Bool × List ℕ → Type 0 = λ x. (prefix : List ℕ) × IsSign prefix x.0 × (b ∷ rest ≡ prefix ++ x.1) in
    cond_both (eqb b 45) _ _ P (λ e. (45 ∷ [], inr (inr (refl, refl)), ap (λ (k : ℕ). k ∷ rest) (eqb-true b 45 e)))
    (λ n. cond_both (eqb b 43) _ _ P (λ e. (43 ∷ [], inr (inl (refl, refl)), ap (λ (k : ℕ). k ∷ rest) (eqb-true b 43 e)))
    (λ m. ([], inl (refl, refl), refl)))

unsigned_again : (text : List ℕ) → IsUnsigned text → sign_at text ≡ (false, text)
unfolding sign_at
unsigned_again [] h = refl
unsigned_again (b ∷ rest) h =
    cond-false _ _ _ (ne_eqb b 45 h.no_minus) ∙ cond-false _ _ _ (ne_eqb b 43 h.no_plus)

plus_again : (rest : List ℕ) → sign_at (43 ∷ rest) ≡ (false, rest)
unfolding sign_at
plus_again rest = refl

minus_again : (rest : List ℕ) → sign_at (45 ∷ rest) ≡ (true, rest)
unfolding sign_at
minus_again rest = refl

pub sign_again : (prefix rest : List ℕ) (negative : Bool) → IsSign prefix negative → IsUnsigned rest → sign_at (prefix ++ rest) ≡ (negative, rest)
sign_again prefix rest negative (inl (none, same)) h = rw (none, same) (unsigned_again rest h)
sign_again prefix rest negative (inr (inl (plus, same))) h = rw (plus, same) (plus_again rest)
sign_again prefix rest negative (inr (inr (minus, same))) h = rw (minus, same) (minus_again rest)

-- a step after a test that did not fail
pub guarded : {A : Type 0} (b : Bool) (o : Option A) (y : A) → cond b o None ≡ Some y → (b ≡ true) × (o ≡ Some y)
guarded true o y e = (refl, e)
guarded false o y e = absurd cc
