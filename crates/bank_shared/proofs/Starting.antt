-- The newest number of each object, with which a board begins.
use Rattle.std.proofs.Common.{◌≡◌, ℕ, zero, suc, ◌+◌, ◌<◌, ◌⊎◌, inl, inr, List, [], ◌∷◌, ◌++◌, length, get_or, refl, sym, ap, ◌∙◌, length-append, arith}
use Rattle.bank_model.specs.declared.entry.Entry.{Entry}
use Rattle.bank_model.specs.declared.event.State.{State}
use Rattle.bank_model.specs.declared.setup.Setup.{Setup}
use Rattle.bank_model.specs.Objects.{newest}
use Rattle.bank_callers.specs.Belonging.{object_count}
use Rattle.bank_callers.specs.Boards.{AreNewest}

-- those of so many objects
pub record AreSoFar (entries : List Entry) (numbers : List ℕ) (count : ℕ) : Type 0 where
  pub counted : length numbers ≡ count
  pub each : (k : ℕ) → k < count → get_or numbers k 0 ≡ newest (record { 0 = k }) entries

before_last : (xs : List ℕ) (y k : ℕ) → k < length xs → get_or (xs ++ y ∷ []) k 0 ≡ get_or xs k 0
before_last [] y k less = absurd (omega (arith, less))
before_last (x ∷ xs) y zero less = refl
before_last (x ∷ xs) y (suc k) less = before_last xs y k (omega (arith, less))

at_last : (xs : List ℕ) (y : ℕ) → get_or (xs ++ y ∷ []) (length xs) 0 ≡ y
at_last [] y = refl
at_last (x ∷ xs) y = at_last xs y

pub none_so_far : (entries : List Entry) (numbers : List ℕ) → numbers ≡ [] → AreSoFar entries numbers 0
none_so_far entries numbers none = record { counted = ap length none; each = λ k less. absurd (omega (arith, less)) }

last_or_before : (k count : ℕ) → k < count + 1 → (k < count) ⊎ (k ≡ count)
last_or_before zero zero less = inr refl
last_or_before zero (suc count) less = inl (omega arith)
last_or_before (suc k) zero less = absurd (omega (arith, less))
last_or_before (suc k) (suc count) less = by_rest (last_or_before k count (omega (arith, less)))
  where
    by_rest : (k < count) ⊎ (k ≡ count) → (suc k < suc count) ⊎ (suc k ≡ suc count)
    by_rest (inl below) = inl (omega (arith, below))
    by_rest (inr same) = inr (ap suc same)

pub one_more_number : (entries : List Entry) (numbers numbers' : List ℕ) (count number : ℕ) → number ≡ newest (record { 0 = count }) entries → numbers' ≡ numbers ++ number ∷ []
    → AreSoFar entries numbers count → AreSoFar entries numbers' (count + 1)
one_more_number entries numbers numbers' count number is more so = record {
  counted = ap length more ∙ (length-append numbers (number ∷ []) ∙ ap (λ (n : ℕ). n + 1) so.counted);
  each = λ k less. ap (λ (ns : List ℕ). get_or ns k 0) more ∙ by_place k (last_or_before k count less);
}
  where
    by_place : (k : ℕ) → (k < count) ⊎ (k ≡ count) → get_or (numbers ++ number ∷ []) k 0 ≡ newest (record { 0 = k }) entries
    by_place k (inl below) = before_last numbers number k (omega (arith, below, so.counted)) ∙ so.each k below
    by_place k (inr same) =
        ap (λ (n : ℕ). get_or (numbers ++ number ∷ []) n 0) (same ∙ sym so.counted)
        ∙ (at_last numbers number ∙ (is ∙ ap (λ (n : ℕ). newest (record { 0 = n }) entries) (sym same)))

pub all_newest : (setup : Setup) (S : State) (numbers : List ℕ) (count : ℕ) → count ≡ object_count setup → AreSoFar S.entries numbers count → AreNewest setup S numbers
all_newest setup S numbers count all so = record {
  size = so.counted ∙ all;
  newest = λ object within. so.each object.0 (omega (arith, all, within));
}
