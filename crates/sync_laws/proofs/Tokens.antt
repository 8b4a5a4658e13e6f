-- The token that is reported is read as the number that was printed.
use Rattle.std.proofs.Common.{◌≡◌, ℕ, ◌≤◌, cond, length, None, Some, ap, ◌∙◌, arith}
use Rattle.std.specs.Fmt.{decimal}
use Rattle.std.specs.Str.Parse.{digits_value}
use Rattle.std.proofs.lemmas.Bool.{and_from, le-leb}
use Rattle.std.proofs.lemmas.Fmt.{decimal_is_IsNumeral, length-decimal-le}
use Rattle.ofx_types.specs.NumberReading.{number_at}
use Rattle.ofx_types.specs.declared.number.ObjectId.{ObjectId}
use Rattle.ofx_types.proofs.Numbers.{decimal_digits}
use Rattle.bank_model.specs.declared.setup.Setup.{Setup}
use Rattle.bank_model.specs.declared.event.State.{State}
use Rattle.bank_model.specs.SetupForm.{IsWithinLimits}
use Rattle.bank_model.specs.Objects.{newest}
use Rattle.bank_model.specs.Sync.{token_of}
use Rattle.sync_laws.specs.Histories.{IsInOrder}
use Rattle.sync_laws.proofs.Numbers.{newest_few}

pub token_read : (n : ℕ) → n ≤ 9999999999 → token_of (decimal n) ≡ Some n
unfolding number_at
token_read n most =
    let number = decimal_is_IsNumeral n (omega arith) in
    let short = length-decimal-le 10 n (omega arith) (omega arith) (omega arith) in
    ap (λ b. cond b (Some (digits_value 10 (decimal n))) None)
    (and_from _ _ (and_from _ _ (le-leb 1 (length (decimal n)) (let there = number.0.0 in omega arith)) (le-leb (length (decimal n)) 10 short)) (decimal_digits n (omega arith)))
    ∙ ap (λ (m : ℕ). Some m) number.1

pub newest_read : (setup : Setup) (S : State) (object : ObjectId) → IsWithinLimits setup → IsInOrder setup S → token_of (decimal (newest object S.entries)) ≡ Some (newest object S.entries)
newest_read setup S object within sound =
    let few = newest_few setup object S.entries sound.follow in
    let most = sound.few in
    let limit = within.lines.entries_high in
    token_read (newest object S.entries) (omega arith)
