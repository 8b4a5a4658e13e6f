-- A day is what a moment's text has before its time of day.
use Rattle.std.proofs.Common.{◌≡◌, ◌∙◌, ℕ, ◌+◌, ◌-◌, ◌≤◌, ℤ, List, ◌++◌, length, take, refl, sym, ap, arith, append_assoc, length-append}
use Rattle.std.proofs.lemmas.List.{take_at}
use Rattle.ofx_types.specs.Calendar.{civil_of, day_of, second_of_day, midnight}
use Rattle.ofx_types.specs.DateForm.{clock_text, date_text, moment_text}
use Rattle.ofx_types.specs.declared.number.Day.{Day}
use Rattle.ofx_types.proofs.Days.{day_of-midnight}
use Rattle.client_run.specs.Lines.{day_text}

cut : (before date clock : List ℕ) → length clock ≡ 6 → take (length (before ++ (date ++ clock)) - 6) (before ++ (date ++ clock)) ≡ before ++ date
cut before date clock six =
    let whole : before ++ (date ++ clock) ≡ (before ++ date) ++ clock = sym (append_assoc before date clock) in
    let size : length (before ++ date) ≡ length (before ++ (date ++ clock)) - 6 = omega (arith, six, ap length whole, length-append (before ++ date) clock) in
    ap (take (length (before ++ (date ++ clock)) - 6)) whole ∙ take_at (before ++ date) clock _ size

-- Of the text of a midnight all but the last six bytes are the day's.
pub day_left : (before : List ℕ) (day : Day) → take (length (before ++ moment_text (midnight day.0)) - 6) (before ++ moment_text (midnight day.0)) ≡ before ++ day_text day
unfolding moment_text
day_left before day =
    cut before (date_text (civil_of (day_of (midnight day.0)))) (clock_text (second_of_day (midnight day.0))) refl
    ∙ ap (λ (d : ℤ). before ++ date_text (civil_of d)) (sym (day_of-midnight day.0))

-- The text of a moment has more bytes than that.
pub moment_size : (before : List ℕ) (moment : ℤ) → 6 ≤ length (before ++ moment_text moment)
unfolding moment_text
moment_size before moment =
    omega (arith, length-append before (date_text (civil_of (day_of moment)) ++ clock_text (second_of_day moment)))
