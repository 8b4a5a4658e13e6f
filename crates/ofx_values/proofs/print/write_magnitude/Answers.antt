use Rattle.std.proofs.Common.{◌≡◌, ℕ, ◌/◌, ◌≤◌, ◌^◌, List, [], ◌∷◌, ◌++◌, length, set, drop, arith, ◌∙◌, ap, refl}
use Rattle.std.specs.Fmt.{decimal}
use Rattle.std.proofs.lemmas.Fmt.{length-decimal-le}
use Rattle.std.proofs.lemmas.List.{drop-set, length-set, drop_all}
use Rattle.ofx_values.proofs.print.write_magnitude.Goals as goal

-- three bytes written at the end of 21, the last one first
tail_is : (s : List ℕ) (a b c : ℕ) → length s ≡ 21 → drop 18 (set (set (set s 20 c) 19 b) 18 a) ≡ a ∷ b ∷ c ∷ []
tail_is s a b c e =
    let third = drop-set s 20 c (omega arith) ∙ ap (λ x. c ∷ x) (drop_all 21 s (omega arith)) in
    let second = drop-set (set s 20 c) 19 b (simp length-set (omega arith)) ∙ ap (λ x. b ∷ x) third in
    drop-set (set (set s 20 c) 19 b) 18 a (simp length-set (omega arith)) ∙ ap (λ x. a ∷ x) second

digits : (cents : ℕ) → cents ≤ 2 ^ 63 → length (decimal (cents / 100)) ≤ 17
digits cents h = length-decimal-le 17 (cents / 100) (omega arith) (omega arith) (omega arith)

pub write_digits-requires : goal.write_digits-requires
write_digits-requires c = (omega (arith, digits c.args.cents c.requires), simp length-set (omega arith))

pub returns-clause-written : goal.returns-clause-written
returns-clause-written c =
    c.write_digits.ensures.written ∙ ap (λ x. decimal (c.args.cents / 100) ++ x) (tail_is _ _ _ _ c.told-text ∙ rw c.two_digits.ensures refl)

pub returns-clause-room : goal.returns-clause-room
returns-clause-room c = omega (arith, digits c.args.cents c.requires, c.write_digits.ensures.start)
