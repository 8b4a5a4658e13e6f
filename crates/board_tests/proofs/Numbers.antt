-- One number more, above all before.
use Rattle.std.proofs.Common.{◌≡◌, ℕ, ◌<◌, ◌≤◌, List, [], ◌∷◌, ◌++◌, All, sym, subst, arith}
use Rattle.std.proofs.lemmas.List.Elements.{All-append, All-cons, All-nil, All-weaker}

pub below_more : (old new : List ℕ) (last number : ℕ) → new ≡ old ++ number ∷ [] → last < number → All (λ (n : ℕ). n ≤ last) old → All (λ (n : ℕ). n ≤ number) new
below_more old new last number is less all =
    let P : ℕ → Type 0 = λ n. n ≤ number in
    subst (All P) (sym is)
    (All-append P old (number ∷ []) (All-weaker (λ (n : ℕ). n ≤ last) P (λ n low. omega (arith, low, less)) old all) (All-cons P number [] (omega arith) (All-nil P)))
