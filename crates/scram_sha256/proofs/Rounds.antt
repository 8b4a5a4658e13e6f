-- One round more of a salted password.
use Rattle.std.proofs.Common.{◌≡◌, ℕ, suc, ◌+◌, ◌-◌, ◌<◌, ◌≤◌, List, [], ◌∷◌, ◌++◌, refl, sym, ap, ◌∙◌, arith}
use Rattle.scram_sha256.specs.Hmac.{hmac}
use Rattle.scram_sha256.specs.Salted.{xor, rounds_from, salted}

pub first-round : (password salt last : List ℕ) (rounds : ℕ) → last ≡ hmac password (salt ++ 0 ∷ 0 ∷ 0 ∷ 1 ∷ [])
    → rounds_from password last last (rounds - 1) ≡ salted password salt rounds
unfolding salted
first-round password salt last rounds is = ap (λ x. rounds_from password x x (rounds - 1)) is

pub next-round : (password last total next both wanted : List ℕ) (rounds i : ℕ) → i < rounds → next ≡ hmac password last → both ≡ xor total next
    → rounds_from password last total (rounds - i) ≡ wanted → rounds_from password next both (rounds - (i + 1)) ≡ wanted
unfolding rounds_from
next-round password last total next both wanted rounds i lt is also so_far =
    let k : rounds - i ≡ suc (rounds - (i + 1)) = omega arith in
    let one : rounds_from password last total (rounds - i) ≡ rounds_from password (hmac password last) (xor total (hmac password last)) (rounds - (i + 1)) =
    ap (rounds_from password last total) k in
    ap (λ x. rounds_from password x both (rounds - (i + 1))) is
    ∙ ap (λ x. rounds_from password (hmac password last) x (rounds - (i + 1))) (also ∙ ap (xor total) is)
    ∙ sym one ∙ so_far

pub last-round : (password last total wanted : List ℕ) (rounds i : ℕ) → rounds ≤ i → rounds_from password last total (rounds - i) ≡ wanted → total ≡ wanted
unfolding rounds_from
last-round password last total wanted rounds i le so_far =
    let k : rounds - i ≡ 0 = omega arith in
    sym (ap (rounds_from password last total) k) ∙ so_far
