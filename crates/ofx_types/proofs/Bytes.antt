-- What tests of bytes say, and which way a test went.
use Rattle.std.proofs.Common.{◌≡◌, ◌≢◌, ℕ, ◌<◌, ◌⊎◌, inl, inr, Bool, true, false, cond, nat_eq, List, ◌++◌, length, take, drop, take-append-drop, Option, None, Some, is_none, refl, sym, ◌∙◌, append_assoc, arith}
use Rattle.std.specs.Str.{bytes_eq}
use Rattle.std.proofs.Math.Seq.{take-append_seam}
use Rattle.std.proofs.lemmas.Grind.{common_steps}
use Rattle.std.proofs.lemmas.Slice.Eq.{bytes_eq-Decides}

-- ---- equal bytes

pub bytes_eq_self : (bytes : List ℕ) → bytes_eq bytes bytes ≡ true
bytes_eq_self bytes = (bytes_eq-Decides bytes bytes).1 refl

pub bytes_eq_is : (a b : List ℕ) → bytes_eq a b ≡ true → a ≡ b
bytes_eq_is a b h = (bytes_eq-Decides a b).0 h

-- bytes that differ
pub bytes_eq_other : (a b : List ℕ) → (a ≢ b) → bytes_eq a b ≡ false
bytes_eq_other a b differ = by_cases (bytes_eq a b) refl
  where
    by_cases : (c : Bool) → bytes_eq a b ≡ c → c ≡ false
    by_cases true h = absurd (differ (bytes_eq_is a b h))
    by_cases false h = refl

-- ---- something and nothing

pub not_zero : (n : ℕ) → 0 < n → nat_eq n 0 ≡ false
not_zero n h = grind (arith, common_steps)

pub none_is : {A : Type 0} (o : Option A) → is_none o ≡ true → o ≡ None
none_is None h = refl
none_is (Some x) h = absurd cc

-- ---- fronts

-- what begins with the prefix of some bytes and more begins with that front
pub prefix_of_prefix : (xs more ys : List ℕ) → take (length (xs ++ more)) ys ≡ xs ++ more → take (length xs) ys ≡ xs
prefix_of_prefix xs more ys h =
    let suffix : List ℕ = drop (length (xs ++ more)) ys in
    let whole : ys ≡ (xs ++ more) ++ suffix = rw h at (sym (take-append-drop (length (xs ++ more)) ys)) in
    let parts : ys ≡ xs ++ (more ++ suffix) = whole ∙ append_assoc xs more suffix in
    rw parts (take-append_seam xs (more ++ suffix))

-- ---- choices

-- which way a test went
pub went : {A : Type 0} (b : Bool) (x y z : A) → cond b x y ≡ z → ((b ≡ true) × (x ≡ z)) ⊎ ((b ≡ false) × (y ≡ z))
went true x y z h = inl (refl, h)
went false x y z h = inr (refl, h)
