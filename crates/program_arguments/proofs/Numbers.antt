-- The texts of numbers.
use Rattle.std.proofs.Common.{◌≡◌, ℕ, ◌<◌, ◌^◌, List, sym, subst}
use Rattle.std.proofs.lemmas.Fmt.{IsAscii-decimal}
use Rattle.std.proofs.lemmas.Str.{IsUtf8-from_ascii}
use Rattle.std.specs.Fmt.{decimal}
use Rattle.std.specs.Str.{IsUtf8}

pub number_is_text : (n : ℕ) (bytes : List ℕ) → n < 2 ^ 64 → bytes ≡ decimal n → IsUtf8 bytes
number_is_text n bytes small same = subst (λ (bs : List ℕ). IsUtf8 bs) (sym same) (IsUtf8-from_ascii (decimal n) (IsAscii-decimal n small))
