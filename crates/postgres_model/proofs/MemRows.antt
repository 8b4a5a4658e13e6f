-- Groups of rows, one record after another.
use Rattle.std.proofs.Common.{◌≡◌, ℕ, zero, suc, ◌+◌, ◌-◌, ◌<◌, ◌≤◌, Bool, true, false, List, [], ◌∷◌, ◌++◌, length, get_or, take, drop, map, Option, None, Some, Bor, refl, sym, ap, subst, ◌∙◌, arith}
use Rattle.std.specs.Prelude.{is_some, ◌||◌, option_map}
use Rattle.postgres_model.specs.Engine.{Row, record_at, numbered, is_taken}

pub taken-step : (n k : ℕ) (group : List (List ℕ)) (rows : List Row) → k < length group
    → is_taken n (drop k group) rows ≡ (is_some (record_at n rows) || is_taken (suc n) (drop (suc k) group) rows)
taken-step n k [] rows lt = absurd (omega arith)
taken-step n zero (x ∷ group) rows lt = refl
taken-step n (suc k) (x ∷ group) rows lt = taken-step n k group rows (omega arith)

pub taken-end : (n k : ℕ) (group : List (List ℕ)) (rows : List Row) → length group ≤ k → is_taken n (drop k group) rows ≡ false
taken-end n zero [] rows le = refl
taken-end n (suc k) [] rows le = refl
taken-end n zero (x ∷ group) rows le = absurd (omega arith)
taken-end n (suc k) (x ∷ group) rows le = taken-end n k group rows (omega arith)

pub numbered-more : (s i : ℕ) (group : List (List ℕ)) → i < length group
    → numbered s (take (i + 1) group) ≡ numbered s (take i group) ++ (record { number = s + i; bytes = get_or group i [] }) ∷ []
numbered-more s i [] lt = absurd (omega arith)
numbered-more s zero (x ∷ group) lt = let e : s ≡ s + 0 = omega arith in ap (λ n. record { number = n; bytes = x } ∷ []) e
numbered-more s (suc i) (x ∷ group) lt =
    let e : suc s + i ≡ s + suc i = omega arith in
    let k : suc i + 1 ≡ suc (i + 1) = omega arith in
    ap (λ n. numbered s (take n (x ∷ group))) k
    ∙ ap (λ rows. record { number = s; bytes = x } ∷ rows)
    (subst (λ n. numbered (suc s) (take (i + 1) group) ≡ numbered (suc s) (take i group) ++ (record { number = n; bytes = get_or group i [] }) ∷ []) e (numbered-more (suc s) i group (omega arith)))

-- ---- groups of borrowed records

some-mapped : {X : Type 0} (f : X → List ℕ) (r : Option X) → is_some (option_map f r) ≡ is_some r
some-mapped f None = refl
some-mapped f (Some x) = refl

length-texts : (group : List (Bor (List ℕ))) → length (map (λ r. r.now) group) ≡ length group
length-texts [] = refl
length-texts (x ∷ group) = ap suc (length-texts group)

pub text_at : (group : List (Bor (List ℕ))) (i : ℕ) (d : Bor (List ℕ)) → i < length group → (get_or group i d).now ≡ get_or (map (λ r. r.now) group) i []
text_at [] i d lt = absurd (omega arith)
text_at (x ∷ group) zero d lt = refl
text_at (x ∷ group) (suc i) d lt = text_at group i d (omega arith)

pub taken_found : (first n : ℕ) (group : List (Bor (List ℕ))) (rows : List Row) (total : Bool) (r : Option (Bor (List ℕ))) → first ≤ n → n < first + length group
    → option_map (λ r. r.now) r ≡ record_at n rows → is_some r ≡ true → is_taken n (drop (n - first) (map (λ r. r.now) group)) rows ≡ total → true ≡ total
taken_found first n group rows total r low high found some so_far =
    let there : is_some (record_at n rows) ≡ true = ap is_some (sym found) ∙ some-mapped (λ r. r.now) r ∙ some in
    let step = taken-step n (n - first) (map (λ r. r.now) group) rows (let len = length-texts group in omega arith) in
    ap (λ b. b || is_taken (suc n) (drop (suc (n - first)) (map (λ r. r.now) group)) rows) (sym there) ∙ sym step ∙ so_far

pub taken_more : (first n : ℕ) (group : List (Bor (List ℕ))) (rows : List Row) (total : Bool) (r : Option (Bor (List ℕ))) → first ≤ n → n < first + length group
    → option_map (λ r. r.now) r ≡ record_at n rows → is_some r ≡ false → is_taken n (drop (n - first) (map (λ r. r.now) group)) rows ≡ total
    → is_taken (n + 1) (drop (n + 1 - first) (map (λ r. r.now) group)) rows ≡ total
taken_more first n group rows total r low high found none so_far =
    let gone : is_some (record_at n rows) ≡ false = ap is_some (sym found) ∙ some-mapped (λ r. r.now) r ∙ none in
    let step = taken-step n (n - first) (map (λ r. r.now) group) rows (let len = length-texts group in omega arith) in
    let a : n + 1 ≡ suc n = omega arith in
    let b : n + 1 - first ≡ suc (n - first) = omega arith in
    ap (λ m. is_taken m (drop (n + 1 - first) (map (λ r. r.now) group)) rows) a
    ∙ ap (λ m. is_taken (suc n) (drop m (map (λ r. r.now) group)) rows) b
    ∙ sym (step ∙ ap (λ t. t || is_taken (suc n) (drop (suc (n - first)) (map (λ r. r.now) group)) rows) gone) ∙ so_far

pub rows_more : (rows : List Row) (row : Row) (s i n : ℕ) (group : List (Bor (List ℕ))) (text : List ℕ) → row ≡ record { number = n; bytes = text }
    → rows ≡ numbered s (take i (map (λ r. r.now) group)) → n ≡ s + i → i < length group → text ≡ get_or (map (λ r. r.now) group) i []
    → rows ++ row ∷ [] ≡ numbered s (take (i + 1) (map (λ r. r.now) group))
rows_more rows row s i n group text row-is rows-is n-is lt is =
    let last : row ≡ record { number = s + i; bytes = get_or (map (λ r. r.now) group) i [] } =
    row-is ∙ ap (λ m. record { number = m; bytes = text }) n-is ∙ ap (λ t. record { number = s + i; bytes = t }) is in
    ap (λ xs. xs ++ row ∷ []) rows-is ∙ ap (λ x. numbered s (take i (map (λ r. r.now) group)) ++ x ∷ []) last
    ∙ sym (numbered-more s i (map (λ r. r.now) group) (let len = length-texts group in omega arith))
