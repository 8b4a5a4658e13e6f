-- The day that is read is the one that is spelled, and what is spelled is read.
use Rattle.std.proofs.Common.{◌≡◌, ℕ, ◌+◌, ◌*◌, ◌/◌, ◌%◌, ◌<◌, List, ◌++◌, Some, refl, subst, ◌∙◌, arith, ℤ}
use Rattle.ofx_types.specs.Calendar.{IsDay, civil_of}
use Rattle.ofx_types.specs.Digits.{two_digits, four_digits}
use Rattle.ofx_types.specs.DateForm.{date_text}
use Rattle.ofx_types.specs.ValueReading.{◌>>=◌, pair_at}
use Rattle.ofx_types.specs.DateReading.{year_at, day_number, day_at}
use Rattle.ofx_values.proofs.PartLemmas.{after_prefix, bind_some, some_is, pair_takes, pair_again}
use Rattle.ofx_values.proofs.CivilLemmas.{number_takes, number_again, civil_bounds}

-- two pairs are a year's four digits
year_spelled : (a b : ℕ) (rest : List ℕ) → b < 100 → two_digits a ++ (two_digits b ++ rest) ≡ four_digits (100 * a + b) ++ rest
year_spelled a b rest h =
    let high : (100 * a + b) / 100 ≡ a = omega arith in
    let low : (100 * a + b) % 100 ≡ b = omega arith in
    rw (high, low) refl

year_takes : (text : List ℕ) (x : ℕ × List ℕ) → year_at text ≡ Some x → text ≡ four_digits x.0 ++ x.1
unfolding year_at
year_takes text x e =
    let a = bind_some (pair_at text) (λ century. pair_at century.1 >>= λ year. Some (100 * century.0 + year.0, year.1)) x e in
    let b = bind_some (pair_at a.0.1) (λ year. Some (100 * a.0.0 + year.0, year.1)) x a.2 in
    let ta = pair_takes text a.0 a.1 in
    let tb = pair_takes a.0.1 b.0 b.1 in
    subst (λ (x : ℕ × List ℕ). text ≡ four_digits x.0 ++ x.1) (some_is (100 * a.0.0 + b.0.0, b.0.1) x b.2)
    (after_prefix text (two_digits a.0.0) a.0.1 (two_digits b.0.0) b.0.1 ta.1 tb.1 ∙ year_spelled a.0.0 b.0.0 b.0.1 tb.0)

year_again : (y : ℕ) (rest : List ℕ) → y < 10000 → year_at (four_digits y ++ rest) ≡ Some (y, rest)
unfolding year_at
year_again y rest h =
    let whole : 100 * (y / 100) + y % 100 ≡ y = omega arith in
    rw (pair_again (y / 100) (two_digits (y % 100) ++ rest) (omega arith), pair_again (y % 100) rest (omega arith), whole) refl

pub day_takes : (text : List ℕ) (x : ℤ × List ℕ) → day_at text ≡ Some x → IsDay x.0 × (text ≡ date_text (civil_of x.0) ++ x.1)
unfolding day_at
day_takes text x e =
    let y = bind_some (year_at text) (λ year. pair_at year.1 >>= λ month. pair_at month.1 >>= λ day. day_number year.0 month.0 day.0 >>= λ number. Some (number, day.1)) x e in
    let m = bind_some (pair_at y.0.1) (λ month. pair_at month.1 >>= λ day. day_number y.0.0 month.0 day.0 >>= λ number. Some (number, day.1)) x y.2 in
    let d = bind_some (pair_at m.0.1) (λ day. day_number y.0.0 m.0.0 day.0 >>= λ number. Some (number, day.1)) x m.2 in
    let n = bind_some (day_number y.0.0 m.0.0 d.0.0) (λ number. Some (number, d.0.1)) x d.2 in
    let tm = pair_takes y.0.1 m.0 m.1 in
    let td = pair_takes m.0.1 d.0 d.1 in
    let is = number_takes y.0.0 m.0.0 d.0.0 n.0 n.1 in
    let parts : text ≡ four_digits y.0.0 ++ (two_digits m.0.0 ++ (two_digits d.0.0 ++ d.0.1)) =
    after_prefix text (four_digits y.0.0) y.0.1 (two_digits m.0.0) (two_digits d.0.0 ++ d.0.1) (year_takes text y.0 y.1) (after_prefix y.0.1 (two_digits m.0.0) m.0.1 (two_digits d.0.0) d.0.1 tm.1 td.1) in
    let spelled : text ≡ date_text (civil_of n.0) ++ d.0.1 = rw (is.1, is.2, is.3) parts in
    subst (λ (x : ℤ × List ℕ). IsDay x.0 × (text ≡ date_text (civil_of x.0) ++ x.1)) (some_is (n.0, d.0.1) x n.2) (is.0, spelled)

day_again_at : (y m d : ℕ) (z : ℤ) (rest : List ℕ) → y < 10000 → m < 100 → d < 100 → day_number y m d ≡ Some z → day_at ((four_digits y ++ (two_digits m ++ two_digits d)) ++ rest) ≡ Some (z, rest)
unfolding day_at
day_again_at y m d z rest hy hm hd e =
    rw (year_again y (two_digits m ++ (two_digits d ++ rest)) hy, pair_again m (two_digits d ++ rest) hm, pair_again d rest hd, e) refl

pub day_again : (z : ℤ) (rest : List ℕ) → IsDay z → day_at (date_text (civil_of z) ++ rest) ≡ Some (z, rest)
day_again z rest h =
    let small = civil_bounds z h in
    day_again_at (civil_of z).year (civil_of z).month (civil_of z).day z rest small.0 small.1 small.2 (number_again z h)
