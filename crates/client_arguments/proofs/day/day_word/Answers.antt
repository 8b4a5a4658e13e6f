use Rattle.std.proofs.Common.{◌≡◌, ℕ, ℤ, length, sym, ap, ◌∙◌}
use Rattle.ofx_types.specs.Calendar.{civil_of, midnight}
use Rattle.ofx_types.specs.DateForm.{date_text}
use Rattle.client_arguments.proofs.Days.{day_in, date_of}
use Rattle.client_arguments.proofs.day.day_word.Goals as goal

pub returns-in-Ok : goal.returns-in-Ok
returns-in-Ok c =
    let size : length c.args.argument.now ≡ 8 = rw c.as_bytes.ensures.bytes at c.if-as_bytes-ne-DIGITS.false in
    let date = rw c.as_bytes-2.ensures.bytes at c.in-Ok.ensures.found in
    let found = day_in c.args.argument.now c.in-Ok.moment.0 size c.as_bytes.ensures.known.is_trimmed date in
    record { within = c.day_of.ensures.range; spelled = found.1 ∙ ap (λ (day : ℤ). date_text (civil_of day)) (sym c.day_of.ensures.value) }

pub returns-in-Err : goal.returns-in-Err
returns-in-Err c day is =
    let date = date_of c.args.argument.now day c.as_bytes.ensures.known.is_trimmed is in
    c.in-Err.ensures.nothing (midnight day.0) (rw c.as_bytes-2.ensures.bytes date)
