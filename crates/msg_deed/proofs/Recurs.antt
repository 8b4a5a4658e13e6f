-- The count and the frequency of a recurring transfer, as they are read.
use Rattle.std.proofs.Common.{◌≡◌, ℕ, ◌<◌, Bool, true, false, cond, List, [], ◌∷◌, None, Some, Ok, refl, sym}
use Rattle.std.proofs.lemmas.Slice.Eq.{bytes_eq-Decides}
use Rattle.std.specs.List.{find}
use Rattle.std.specs.Str.{bytes_eq}
use Rattle.std.specs.Str.Parse.{digits_value}
use Rattle.ofx_types.specs.NumberReading.{is_number_within, number_at}
use Rattle.ofx_types.specs.Nodes.{TagNode}
use Rattle.ofx_types.specs.ValueForm.{value_of}
use Rattle.ofx_types.specs.FormWords.{number_or, number_of}
use Rattle.ofx_types.specs.RecurringForm.{freq_word}
use Rattle.ofx_types.specs.RecurringReading.{freqs, freq_named}
use Rattle.ofx_types.specs.declared.recurring.Freq.{Freq}
use Rattle.ofx_types.proofs.Numbers.{digits_within}
use Rattle.ofx_types.proofs.Bytes.{bytes_eq_is}

-- ---- three digits stay below 1,000

number_below : (offset : ℕ) (text : List ℕ) (n : ℕ) → number_or offset (number_at 3 text) ≡ Ok n → n < 1000
unfolding number_at
number_below offset text n h = by_test (is_number_within 3 text) (digits_within 3 text) h
  where
    by_test : (b : Bool) → (b ≡ true → digits_value 10 text < 1000) → number_or offset (cond b (Some (digits_value 10 text)) None) ≡ Ok n → n < 1000
    by_test true small e = let below : digits_value 10 text < 1000 = small refl in let same : digits_value 10 text ≡ n = cc in rw (← same) below
    by_test false small e = cc

pub count_below : (node : TagNode) (n : ℕ) → number_of 3 node ≡ Ok n → n < 1000
count_below node n h = number_below node.offset (value_of node.text) n h

-- ---- the one whose word it is

same_test : (a b : Bool) → (a ≡ true → b ≡ true) → (b ≡ true → a ≡ true) → a ≡ b
same_test true b f g = sym (f refl)
same_test false true f g = g refl
same_test false false f g = refl

bytes_turned : (a b : List ℕ) → bytes_eq a b ≡ true → bytes_eq b a ≡ true
bytes_turned a b h = (bytes_eq-Decides b a).1 (sym (bytes_eq_is a b h))

same_find : {A : Type 0} (p q : A → Bool) → ((x : A) → p x ≡ q x) → (xs : List A) → find p xs ≡ find q xs
same_find p q same [] = refl
same_find p q same (x ∷ xs) = rw (same x, same_find p q same xs) refl

pub freq_turned : (word : List ℕ) → find (λ (freq : Freq). bytes_eq word (freq_word freq)) freqs ≡ freq_named word
freq_turned word =
    same_find _ _ (λ freq. same_test _ _ (bytes_turned word (freq_word freq)) (bytes_turned (freq_word freq) word)) freqs
