-- The first byte that passes a test, by its place.
use Rattle.std.proofs.Common.{◌≡◌, ℕ, zero, suc, ◌+◌, ◌-◌, ◌<◌, ◌≤◌, Bool, true, false, cond, ltb, List, [], ◌∷◌, length, take, drop, Option, None, Some, refl, sym, ap, subst, ◌∙◌, arith, inl, inr}
use Rattle.std.specs.Prelude.{position}
use Rattle.std.specs.List.{position_or_len, before_first, after_first}
use Rattle.std.proofs.lemmas.Bool.{cases_Bool, ltb-false}
use Rattle.std.proofs.lemmas.List.{take_rest}

take-long : (xs : List ℕ) (n : ℕ) → length xs ≤ n → take n xs ≡ xs
take-long [] zero h = refl
take-long [] (suc n) h = refl
take-long (x ∷ xs) zero h = absurd (omega arith)
take-long (x ∷ xs) (suc n) h = ap (λ ys. x ∷ ys) (take-long xs n (omega arith))

drop-long : (xs : List ℕ) (n : ℕ) → length xs ≤ n → drop n xs ≡ []
drop-long [] zero h = refl
drop-long [] (suc n) h = refl
drop-long (x ∷ xs) zero h = absurd (omega arith)
drop-long (x ∷ xs) (suc n) h = drop-long xs n (omega arith)

some-is : {A : Type 0} (b : Bool) (x y : A) → Some y ≡ cond b (Some x) None → y ≡ x
some-is true x y e = cc
some-is false x y e = absurd cc

none-is : {A : Type 0} (b : Bool) (x : A) → None ≡ cond b (Some x) None → b ≡ false
none-is true x e = absurd cc
none-is false x e = refl

pub before-found : (test : ℕ → Bool) (text : List ℕ) (n : ℕ) → Some n ≡ position test text → take n text ≡ before_first test text
before-found test text n e = ap (λ m. take m text) (some-is (ltb (position_or_len test text) (length text)) (position_or_len test text) n e)

pub after-found : (test : ℕ → Bool) (text : List ℕ) (n : ℕ) → Some n ≡ position test text → take (length text - (n + 1)) (drop (n + 1) text) ≡ after_first test text
after-found test text n e = take_rest text (n + 1) ∙ ap (λ m. drop (m + 1) text) (some-is (ltb (position_or_len test text) (length text)) (position_or_len test text) n e)

past : (test : ℕ → Bool) (text : List ℕ) → None ≡ position test text → length text ≤ position_or_len test text
past test text e = ltb-false _ _ (none-is (ltb (position_or_len test text) (length text)) (position_or_len test text) e)

pub before-none : (test : ℕ → Bool) (text : List ℕ) → None ≡ position test text → text ≡ before_first test text
before-none test text e = sym (take-long text (position_or_len test text) (past test text e))

pub after-none : (test : ℕ → Bool) (text : List ℕ) → None ≡ position test text → [] ≡ after_first test text
after-none test text e = let p = past test text e in sym (drop-long text (position_or_len test text + 1) (omega arith))
