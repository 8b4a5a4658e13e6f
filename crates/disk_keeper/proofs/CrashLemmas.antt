-- Changes in the order in which they came, and the newest first.
use Rattle.std.proofs.Common.{◌≡◌, ℕ, ◌+◌, ◌-◌, ◌<◌, ◌≤◌, List, [], ◌∷◌, ◌++◌, length, take, drop, get_or, refl, sym, ◌∙◌, ap, arith, take-append-drop, length-take, length-drop}
use Rattle.std.specs.Prelude.{min, reverse}
use Rattle.std.proofs.lemmas.List.{reverse-append, length-reverse, take_more, drop_at}
use Rattle.disk_keeper.specs.declared.change.Change.{Change}

-- one change more
pub reverse_more : (changes : List Change) (i : ℕ) (change : Change) → i < length changes → change ≡ get_or changes i change → reverse (take (i + 1) changes) ≡ change ∷ reverse (take i changes)
reverse_more changes i change within is =
    ap reverse (take_more changes i change within) ∙ reverse-append (take i changes) (get_or changes i change ∷ []) ∙ ap (λ (c : Change). c ∷ reverse (take i changes)) (sym is)

-- the first so many
pub reverse_take : (changes : List Change) (n : ℕ) → n ≤ length changes → reverse (take n changes) ≡ drop (length (reverse changes) - n) (reverse changes)
reverse_take changes n within =
    sym (drop_at (reverse (drop n changes)) (reverse (take n changes)) (length (reverse changes) - n) (length-reverse (drop n changes) ∙ length-drop n changes ∙ ap (λ k. k - n) (sym (length-reverse changes))))
    ∙ ap (drop (length (reverse changes) - n)) (sym (reverse-append (take n changes) (drop n changes)) ∙ ap reverse (take-append-drop n changes))

-- the first so many bytes are no more
pub at_most_first : (size : ℕ) (bytes : List ℕ) → length (take (min size (length bytes)) bytes) ≤ size
at_most_first size bytes = omega (arith, length-take (min size (length bytes)) bytes)
