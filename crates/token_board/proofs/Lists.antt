-- Lists: parts of a list of which something holds, lists that begin another, and what stands at a place after a change.
use Rattle.std.proofs.Common.{◌≡◌, ◌≢◌, ◌⊎◌, ℕ, zero, suc, ◌+◌, ◌<◌, ◌≤◌, List, [], ◌∷◌, ◌++◌, length, get_or, drop, set, refl, sym, ap, ◌∙◌, subst, inl, inr, ⊎_elim, append_assoc, length-append, get_or-append-add, arith}
use Rattle.std.specs.Prelude.{All}
use Rattle.std.proofs.lemmas.List.{get_or_append_left}
use mathlib.Core.Option.{some, some-injective, some-ne-none}
use lib.ListN.{get_elem?}
use Rattle.atomic_table.proofs.Lists.{at_set}
use Rattle.token_board.specs.Tokens.{Begins}

module _ {A : Type 0} where
  pub All-first : (P : A → Type 0) (xs ys : List A) → All P (xs ++ ys) → All P xs
  All-first P xs ys h = λ k d below. subst P (get_or_append_left xs ys d k below) (h k d (let e = length-append xs ys in omega arith))

  pub All-second : (P : A → Type 0) (xs ys : List A) → All P (xs ++ ys) → All P ys
  All-second P xs ys h = λ k d below. subst P (get_or-append-add xs ys k d) (h (length xs + k) d (let e = length-append xs ys in omega arith))

  -- ---- what stands at a place

  pub after_set : (P : ℕ → A → Type 0) (l : List A) (i : ℕ) (a : A) → ((j : ℕ) (u : A) → j ≢ i → get_elem? l j ≡ some u → P j u) → P i a → (j : ℕ) (u : A) → get_elem? (set l i a) j ≡ some u → P j u
  after_set P l i a others mine j u e =
      ⊎_elim
      (λ (x : (j ≡ i) × (a ≡ u)). subst (λ (y : ℕ × A). P y.0 y.1) (λ k. (sym x.0 k, x.1 k)) mine)
      (λ (x : (j ≢ i) × (get_elem? l j ≡ some u)). others j u x.0 x.1)
      (at_set l i j a u e)

  at_end : (l : List A) (a b : A) (j : ℕ) → get_elem? (l ++ a ∷ []) j ≡ some b → ((j ≢ length l) × (get_elem? l j ≡ some b)) ⊎ ((j ≡ length l) × (a ≡ b))
  at_end [] a b zero e = inr (refl, some-injective a b e)
  at_end [] a b (suc j) e = absurd (some-ne-none b (sym e))
  at_end (x ∷ xs) a b zero e = inl ((λ h. omega arith), e)
  at_end (x ∷ xs) a b (suc j) e =
      ⊎_elim (λ (t : (j ≢ length xs) × (get_elem? xs j ≡ some b)). let n = t.0 in inl ((λ h. n (omega arith)), t.1)) (λ (t : (j ≡ length xs) × (a ≡ b)). inr (ap suc t.0, t.1))
      (at_end xs a b j e)

  pub after_push : (P : ℕ → A → Type 0) (l : List A) (a : A) → ((j : ℕ) (u : A) → j ≢ length l → get_elem? l j ≡ some u → P j u) → P (length l) a → (j : ℕ) (u : A) → get_elem? (l ++ a ∷ []) j ≡ some u → P j u
  after_push P l a others mine j u e =
      ⊎_elim
      (λ (x : (j ≢ length l) × (get_elem? l j ≡ some u)). others j u x.0 x.1)
      (λ (x : (j ≡ length l) × (a ≡ u)). subst (λ (y : ℕ × A). P y.0 y.1) (λ k. (sym x.0 k, x.1 k)) mine)
      (at_end l a u j e)

  -- ---- lists that begin another

  pub Begins-longer : (xs ys zs : List A) → Begins xs ys → Begins xs (ys ++ zs)
  Begins-longer xs ys zs h = (h.0 ++ zs, ap (λ (l : List A). l ++ zs) h.1 ∙ append_assoc xs h.0 zs)

  pub Begins-along : (xs ys zs : List A) → ys ≡ zs → Begins xs ys → Begins xs zs
  Begins-along xs ys zs same h = (h.0, sym same ∙ h.1)

  -- of two lists that begin one list the longer one begins with the other
  pub begins_longer : (xs ys us vs : List A) → xs ++ us ≡ ys ++ vs → length xs ≤ length ys → Begins xs ys
  begins_longer [] ys us vs e le = (ys, refl)
  begins_longer (x ∷ xs) [] us vs e le = absurd (omega arith)
  begins_longer (x ∷ xs) (y ∷ ys) us vs e le =
      let first : x ≡ y = ap (λ (l : List A). get_or l 0 x) e in
      let t = begins_longer xs ys us vs (ap (λ (l : List A). drop 1 l) e) (omega arith) in
      (t.0, λ i. sym first i ∷ t.1 i)
