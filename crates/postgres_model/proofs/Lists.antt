-- Parts of lists, by where they begin.
use Rattle.std.proofs.Common.{◌≡◌, ℕ, zero, suc, ◌+◌, ◌<◌, ◌≤◌, List, [], ◌∷◌, ◌++◌, length, replicate, slice_get, Option, Some, None, refl, sym, ap, subst, ◌∙◌, append_assoc, append-nil, arith}
use Rattle.std.proofs.lemmas.List.{length-append}

-- The part is in the list, its first item under this number, counted from 1.
pub record IsAt {A : Type 0} (list : List A) (first : ℕ) (part : List A) : Type 0 where
  pub before : List A
  pub rest : List A
  pub parts : list ≡ before ++ (part ++ rest)
  pub offset : first ≡ suc (length before)

-- It still does when the list has grown.
pub at-grown : {A : Type 0} (list : List A) (first : ℕ) (part more : List A) → IsAt list first part → IsAt (list ++ more) first part
at-grown list first part more h = record {
  before = h.before;
  rest = h.rest ++ more;
  parts = ap (λ xs. xs ++ more) h.parts ∙ append_assoc h.before (part ++ h.rest) more ∙ ap (λ xs. h.before ++ xs) (append_assoc part h.rest more);
  offset = h.offset;
}

-- What a list grows by is at its end.
pub at-end : {A : Type 0} (list part : List A) → IsAt (list ++ part) (suc (length list)) part
at-end list part = record {
  before = list;
  rest = [];
  parts = ap (λ xs. list ++ xs) (sym (append-nil part));
  offset = refl;
}

pub get-append : {A : Type 0} (xs ys : List A) (i : ℕ) (x : A) → slice_get xs i ≡ Some x → slice_get (xs ++ ys) i ≡ Some x
get-append [] ys i x h = absurd cc
get-append (y ∷ xs) ys zero x h = h
get-append (y ∷ xs) ys (suc i) x h = get-append xs ys i x h

pub get-after : {A : Type 0} (xs ys : List A) (i : ℕ) → slice_get (xs ++ ys) (length xs + i) ≡ slice_get ys i
get-after [] ys i = subst (λ n. slice_get ys n ≡ slice_get ys i) (omega arith) refl
get-after (x ∷ xs) ys i =
    let e : suc (length xs + i) ≡ suc (length xs) + i = omega arith in
    subst (λ n. slice_get (x ∷ (xs ++ ys)) n ≡ slice_get ys i) e (get-after xs ys i)

pub get-before : {A : Type 0} (xs ys : List A) (i : ℕ) → i < length xs → slice_get (xs ++ ys) i ≡ slice_get xs i
get-before [] ys i h = absurd (omega arith)
get-before (x ∷ xs) ys zero h = refl
get-before (x ∷ xs) ys (suc i) h = get-before xs ys i (omega arith)

pub get-replicate : {A : Type 0} (n i : ℕ) (x : A) → i < n → slice_get (replicate n x) i ≡ Some x
get-replicate zero i x h = absurd (omega arith)
get-replicate (suc n) zero x h = refl
get-replicate (suc n) (suc i) x h = get-replicate n i x (omega arith)

-- An item of a part is an item of the list.
pub get-at : {A : Type 0} (list : List A) (first : ℕ) (part : List A) (i j : ℕ) → IsAt list first part → i < length part → suc j ≡ first + i → slice_get list j ≡ slice_get part i
get-at list first part i j h lt e =
    let here : j ≡ length h.before + i = omega (arith, h.offset) in
    subst (λ n. slice_get list n ≡ slice_get part i) (sym here)
    (ap (λ xs. slice_get xs (length h.before + i)) h.parts ∙ get-after h.before (part ++ h.rest) i ∙ get-before part h.rest i lt)

pub within : {A : Type 0} (list : List A) (first : ℕ) (part : List A) → IsAt list first part → first + length part ≤ suc (length list)
within list first part h =
    omega (arith, ap length h.parts, length-append h.before (part ++ h.rest), length-append part h.rest, h.offset)
