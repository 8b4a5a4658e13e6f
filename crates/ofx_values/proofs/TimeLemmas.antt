-- The time of day that is read is the one that is spelled, and what is spelled is read.
use Rattle.std.proofs.Common.{◌≡◌, ℕ, ◌+◌, ◌-◌, ◌*◌, ◌/◌, ◌%◌, ◌<◌, true, false, eqb, List, [], ◌∷◌, ◌++◌, Some, refl, sym, ap, subst, ◌∙◌, inl, inr, arith, append_assoc}
use Rattle.std.proofs.lemmas.Bool.{and_parts, and_from, cond-true, cond-false, cond_both, eqb-true, ne_eqb, ltb-true, lt-ltb}
use Rattle.std.proofs.lemmas.Option.{cond_some}
use Rattle.ofx_types.specs.Digits.{two_digits, three_digits}
use Rattle.ofx_types.specs.DateForm.{IsClock, IsFraction, IsTime}
use Rattle.ofx_types.specs.ValueReading.{◌>>=◌, pair_at}
use Rattle.ofx_types.specs.DateReading.{clock_seconds, clock_at, after_three, after_fraction, is_timeless, clock_and_fraction_at, time_at}
use Rattle.ofx_values.proofs.PartLemmas.{after_prefix, bind_some, some_is, pair_takes, pair_again, digit_in, digit_from}

seconds_take : (h m s n : ℕ) → clock_seconds h m s ≡ Some n → (h < 24) × (m < 60) × (s < 60) × (n ≡ 3600 * h + 60 * m + s)
unfolding clock_seconds
seconds_take h m s n e =
    let g = cond_some _ _ _ e in
    let both = and_parts _ _ g.0 in
    let first = and_parts _ _ both.0 in
    (ltb-true h 24 first.0, ltb-true m 60 first.1, ltb-true s 60 both.1, sym g.1)

seconds_again : (h m s n : ℕ) → h < 24 → m < 60 → s < 60 → n ≡ 3600 * h + 60 * m + s → clock_seconds h m s ≡ Some n
unfolding clock_seconds
seconds_again h m s n hh hm hs e =
    cond-true _ _ _ (and_from _ _ (and_from _ _ (lt-ltb h 24 hh) (lt-ltb m 60 hm)) (lt-ltb s 60 hs)) ∙ ap Some (sym e)

clock_takes : (text : List ℕ) (x : ℕ × List ℕ) → clock_at text ≡ Some x → (prefix : List ℕ) × IsClock prefix x.0 × (text ≡ prefix ++ x.1)
unfolding clock_at
clock_takes text x e =
    let h = bind_some (pair_at text) (λ hour. pair_at hour.1 >>= λ minute. pair_at minute.1 >>= λ second. clock_seconds hour.0 minute.0 second.0 >>= λ seconds. Some (seconds, second.1)) x e in
    let m = bind_some (pair_at h.0.1) (λ minute. pair_at minute.1 >>= λ second. clock_seconds h.0.0 minute.0 second.0 >>= λ seconds. Some (seconds, second.1)) x h.2 in
    let s = bind_some (pair_at m.0.1) (λ second. clock_seconds h.0.0 m.0.0 second.0 >>= λ seconds. Some (seconds, second.1)) x m.2 in
    let n = bind_some (clock_seconds h.0.0 m.0.0 s.0.0) (λ seconds. Some (seconds, s.0.1)) x s.2 in
    let th = pair_takes text h.0 h.1 in
    let tm = pair_takes h.0.1 m.0 m.1 in
    let ts = pair_takes m.0.1 s.0 s.1 in
    let is = seconds_take h.0.0 m.0.0 s.0.0 n.0 n.1 in
    let prefix = two_digits h.0.0 ++ (two_digits m.0.0 ++ two_digits s.0.0) in
    let parts : text ≡ prefix ++ s.0.1 =
    after_prefix text (two_digits h.0.0) h.0.1 (two_digits m.0.0) (two_digits s.0.0 ++ s.0.1) th.1 (after_prefix h.0.1 (two_digits m.0.0) m.0.1 (two_digits s.0.0) s.0.1 tm.1 ts.1) in
    let clock : IsClock prefix n.0 = record { hour = h.0.0; minute = m.0.0; second = s.0.0; hours = is.0; minutes = is.1; seconds_of_minute = is.2; spelled = refl; meant = is.3 } in
    subst (λ (x : ℕ × List ℕ). (prefix : List ℕ) × IsClock prefix x.0 × (text ≡ prefix ++ x.1)) (some_is (n.0, s.0.1) x n.2) (prefix, clock, parts)

clock_again : (prefix rest : List ℕ) (n : ℕ) → IsClock prefix n → clock_at (prefix ++ rest) ≡ Some (n, rest)
unfolding clock_at
clock_again prefix rest n c =
    rw c.spelled (rw (pair_again c.hour (two_digits c.minute ++ (two_digits c.second ++ rest)) (omega (arith, c.hours)), pair_again c.minute (two_digits c.second ++ rest) (omega (arith, c.minutes)), pair_again c.second rest (omega (arith, c.seconds_of_minute)), seconds_again c.hour c.minute c.second n c.hours c.minutes c.seconds_of_minute c.meant) refl)

three_take : (text rest : List ℕ) → after_three text ≡ Some rest → (n : ℕ) × (n < 1000) × (text ≡ three_digits n ++ rest)
unfolding after_three
three_take [] rest e = absurd cc
three_take (a ∷ []) rest e = absurd cc
three_take (a ∷ b ∷ []) rest e = absurd cc
three_take (a ∷ b ∷ c ∷ after) rest e =
    let g = cond_some _ _ _ e in
    let both = and_parts _ _ g.0 in
    let first = and_parts _ _ both.0 in
    let x = digit_in a first.0 in
    let y = digit_in b first.1 in
    let z = digit_in c both.1 in
    let n = 100 * (a - 48) + (10 * (b - 48) + (c - 48)) in
    let xs : a ≡ 48 + n / 100 = omega arith in
    let ys : b ≡ 48 + n % 100 / 10 = omega arith in
    let zs : c ≡ 48 + n % 100 % 10 = omega arith in
    (n, omega arith, ap (λ (k : ℕ). k ∷ b ∷ c ∷ after) xs ∙ ap (λ (k : ℕ). (48 + n / 100) ∷ k ∷ c ∷ after) ys ∙ ap (λ (k : ℕ). (48 + n / 100) ∷ (48 + n % 100 / 10) ∷ k ∷ after) zs ∙ ap (λ (t : List ℕ). three_digits n ++ t) g.1)

three_again : (n : ℕ) (rest : List ℕ) → n < 1000 → after_three (three_digits n ++ rest) ≡ Some rest
unfolding after_three
three_again n rest h =
    cond-true _ _ _ (and_from _ _ (and_from _ _ (digit_from (n / 100) (omega arith)) (digit_from (n % 100 / 10) (omega arith))) (digit_from (n % 100 % 10) (omega arith)))

fraction_takes : (text rest : List ℕ) → after_fraction text ≡ Some rest → (prefix : List ℕ) × IsFraction prefix × (text ≡ prefix ++ rest)
unfolding after_fraction
fraction_takes [] rest e = ([], inl refl, some_is [] rest e)
fraction_takes (b ∷ after) rest e =
    cond_both (eqb b 46) (after_three after) (Some (b ∷ after)) (λ o. o ≡ Some rest → (prefix : List ℕ) × IsFraction prefix × (b ∷ after ≡ prefix ++ rest))
    (λ point taken. let t = three_take after rest taken in
    (46 ∷ three_digits t.0, inr (t.0, t.1, refl), ap (λ (k : ℕ). k ∷ after) (eqb-true b 46 point) ∙ ap (λ (s : List ℕ). 46 ∷ s) t.2))
    (λ none same. ([], inl refl, some_is (b ∷ after) rest same)) e

-- a zone or nothing is here, so no point does
no_fraction : (rest : List ℕ) → is_timeless rest ≡ true → after_fraction rest ≡ Some rest
unfolding after_fraction
no_fraction [] h = refl
no_fraction (b ∷ rest) h = let is : b ≡ 91 = eqb-true b 91 h in cond-false _ _ _ (ne_eqb b 46 (λ e. absurd (omega arith)))

fraction_again : (prefix rest : List ℕ) → IsFraction prefix → is_timeless rest ≡ true → after_fraction (prefix ++ rest) ≡ Some rest
unfolding after_fraction
fraction_again prefix rest (inl none) h = rw none (no_fraction rest h)
fraction_again prefix rest (inr (n, small, e)) h = rw e (three_again n rest small)

clock_and_fraction_takes : (text : List ℕ) (x : ℕ × List ℕ) → clock_and_fraction_at text ≡ Some x → (prefix : List ℕ) × IsTime prefix x.0 × (text ≡ prefix ++ x.1)
unfolding clock_and_fraction_at
clock_and_fraction_takes text x e =
    let c = bind_some (clock_at text) (λ clock. after_fraction clock.1 >>= λ rest. Some (clock.0, rest)) x e in
    let f = bind_some (after_fraction c.0.1) (λ rest. Some (c.0.0, rest)) x c.2 in
    let tc = clock_takes text c.0 c.1 in
    let tf = fraction_takes c.0.1 f.0 f.1 in
    let parts : text ≡ (tc.0 ++ tf.0) ++ f.0 =
    rw append_assoc (after_prefix text tc.0 c.0.1 tf.0 f.0 tc.2 tf.2) in
    subst (λ (x : ℕ × List ℕ). (prefix : List ℕ) × IsTime prefix x.0 × (text ≡ prefix ++ x.1)) (some_is (c.0.0, f.0) x f.2) (tc.0 ++ tf.0, inr (tc.0, tf.0, tc.1, tf.1, refl), parts)

pub time_takes : (text : List ℕ) (x : ℕ × List ℕ) → time_at text ≡ Some x → (prefix : List ℕ) × IsTime prefix x.0 × (text ≡ prefix ++ x.1)
unfolding time_at
time_takes text x e =
    cond_both (is_timeless text) (Some (0, text)) (clock_and_fraction_at text) (λ o. o ≡ Some x → (prefix : List ℕ) × IsTime prefix x.0 × (text ≡ prefix ++ x.1))
    (λ _ same. subst (λ (x : ℕ × List ℕ). (prefix : List ℕ) × IsTime prefix x.0 × (text ≡ prefix ++ x.1)) (some_is (0, text) x same) ([], inl (refl, refl), refl))
    (λ _ taken. clock_and_fraction_takes text x taken) e

-- a clock begins with a digit
timed : (prefix rest : List ℕ) (n : ℕ) → IsClock prefix n → is_timeless (prefix ++ rest) ≡ false
timed prefix rest n c = rw c.spelled (ne_eqb (48 + c.hour / 10) 91 (λ e. absurd (omega (arith, c.hours))))

clock_and_fraction_again : (clock fraction rest : List ℕ) (n : ℕ) → IsClock clock n → IsFraction fraction → is_timeless rest ≡ true → clock_and_fraction_at (clock ++ (fraction ++ rest)) ≡ Some (n, rest)
unfolding clock_and_fraction_at
clock_and_fraction_again clock fraction rest n c f h =
    rw (clock_again clock (fraction ++ rest) n c, fraction_again fraction rest f h) refl

pub time_again : (prefix rest : List ℕ) (n : ℕ) → IsTime prefix n → is_timeless rest ≡ true → time_at (prefix ++ rest) ≡ Some (n, rest)
unfolding time_at
time_again prefix rest n (inl (none, zero_seconds)) h = rw (none, zero_seconds) (cond-true _ _ _ h)
time_again prefix rest n (inr (clock, fraction, c, f, e)) h =
    let regrouped : prefix ++ rest ≡ clock ++ (fraction ++ rest) = ap (λ (t : List ℕ). t ++ rest) e ∙ append_assoc clock fraction rest in
    ap time_at regrouped ∙ (cond-false _ _ _ (timed clock (fraction ++ rest) n c) ∙ clock_and_fraction_again clock fraction rest n c f h)
