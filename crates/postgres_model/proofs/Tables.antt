-- Tables whose numbers go up from the first with no gap.
use Rattle.std.proofs.Common.{◌≡◌, ℕ, zero, suc, ◌+◌, ◌<◌, ◌≤◌, Bool, true, false, cond, eqb, List, [], ◌∷◌, ◌++◌, length, slice_get, Option, Some, None, refl, sym, ap, subst, ◌∙◌, append_assoc, append-nil, arith}
use Rattle.std.specs.Prelude.{is_some, ◌||◌}
use Rattle.std.proofs.lemmas.Bool.{eq-eqb, ne_eqb}
use Rattle.std.proofs.lemmas.Option.{slice_get_past}
use Rattle.std.proofs.lemmas.List.{length-append}
use Rattle.postgres_model.specs.Engine.{Row, record_at, found, fetched, numbered, is_taken}
use Rattle.postgres_model.proofs.Lists.{get-after}

pub record_at-numbered : (s j : ℕ) (recs : List (List ℕ)) → record_at (s + j) (numbered s recs) ≡ slice_get recs j
record_at-numbered s j [] = refl
record_at-numbered s zero (x ∷ xs) =
    let t : eqb s (s + 0) ≡ true = eq-eqb _ _ (omega arith) in rw t refl
record_at-numbered s (suc j) (x ∷ xs) =
    let t : eqb s (s + suc j) ≡ false = ne_eqb _ _ (λ e. omega arith) in
    let e : suc s + j ≡ s + suc j = omega arith in
    rw t (subst (λ n. record_at n (numbered (suc s) xs) ≡ slice_get xs j) e (record_at-numbered (suc s) j xs))

-- the record of a number of a table that begins with 1
pub record_at-table : (j : ℕ) (recs : List (List ℕ)) → record_at (suc j) (numbered 1 recs) ≡ slice_get recs j
record_at-table j recs =
    let e : 1 + j ≡ suc j = omega arith in
    subst (λ n. record_at n (numbered 1 recs) ≡ slice_get recs j) e (record_at-numbered 1 j recs)

pub record_at-past : (n : ℕ) (recs : List (List ℕ)) → length recs < n → record_at n (numbered 1 recs) ≡ None
record_at-past zero recs h = absurd (omega arith)
record_at-past (suc j) recs h = record_at-table j recs ∙ slice_get_past recs j (omega arith)

pub numbered-append : (s : ℕ) (xs ys : List (List ℕ)) → numbered s (xs ++ ys) ≡ numbered s xs ++ numbered (s + length xs) ys
numbered-append s [] ys = let e : s ≡ s + 0 = omega arith in ap (λ n. numbered n ys) e
numbered-append s (x ∷ xs) ys =
    let e : suc s + length xs ≡ s + suc (length xs) = omega arith in
    ap (λ rows. record { number = s; bytes = x } ∷ rows) (numbered-append (suc s) xs ys ∙ ap (λ n. numbered (suc s) xs ++ numbered n ys) e)

-- A group that is numbered from the next number on makes the table longer.
pub table-grown : (xs ys : List (List ℕ)) → numbered 1 xs ++ numbered (suc (length xs)) ys ≡ numbered 1 (xs ++ ys)
table-grown xs ys =
    let e : 1 + length xs ≡ suc (length xs) = omega arith in
    sym (numbered-append 1 xs ys ∙ ap (λ n. numbered 1 xs ++ numbered n ys) e)

pub free : (first : ℕ) (group recs : List (List ℕ)) → length recs < first → is_taken first group (numbered 1 recs) ≡ false
free first [] recs h = refl
free first (x ∷ group) recs h = rw (record_at-past first recs h) (free (suc first) group recs (omega arith))

pub fetched-end : (recs : List (List ℕ)) (first limit : ℕ) → length recs < first → fetched first limit (numbered 1 recs) ≡ []
fetched-end recs first zero h = refl
fetched-end recs first (suc limit) h = rw (record_at-past first recs h) refl

-- What is fetched from the next number after a front on is what comes after it.
pub fetched-rest : (prefix rest : List (List ℕ)) → fetched (suc (length prefix)) (length rest) (numbered 1 (prefix ++ rest)) ≡ rest
fetched-rest prefix [] = refl
fetched-rest prefix (x ∷ rest) =
    let same : (prefix ++ x ∷ []) ++ rest ≡ prefix ++ (x ∷ rest) = append_assoc prefix (x ∷ []) rest in
    let n : length (prefix ++ x ∷ []) ≡ suc (length prefix) = omega (arith, length-append prefix (x ∷ [])) in
    let first : record_at (suc (length prefix)) (numbered 1 (prefix ++ (x ∷ rest))) ≡ Some x =
    record_at-table (length prefix) (prefix ++ (x ∷ rest)) ∙ (let z : length prefix + 0 ≡ length prefix = omega arith in subst (λ m. slice_get (prefix ++ (x ∷ rest)) m ≡ Some x) z (get-after prefix (x ∷ rest) 0)) in
    let more : fetched (suc (suc (length prefix))) (length rest) (numbered 1 (prefix ++ (x ∷ rest))) ≡ rest =
    subst (λ xs. fetched (suc (suc (length prefix))) (length rest) (numbered 1 xs) ≡ rest) same
    (subst (λ m. fetched (suc m) (length rest) (numbered 1 ((prefix ++ x ∷ []) ++ rest)) ≡ rest) n (fetched-rest (prefix ++ x ∷ []) rest)) in
    rw (first, more) refl

pub fetched-whole : (recs : List (List ℕ)) → fetched 1 (length recs) (numbered 1 recs) ≡ recs
fetched-whole recs = fetched-rest [] recs

pub length-numbered : (s : ℕ) (recs : List (List ℕ)) → length (numbered s recs) ≡ length recs
length-numbered s [] = refl
length-numbered s (x ∷ recs) = ap suc (length-numbered (suc s) recs)
