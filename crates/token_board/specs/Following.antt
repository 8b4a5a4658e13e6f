-- Entries that may be published one after another.
use Rattle.std.specs.Prelude.{◌≡◌, ℕ, ◌+◌, ◌<◌, List, [], ◌∷◌, ◌++◌, length, All}
use Rattle.std.specs.List.{AllByRecursion}
use Rattle.bank_model.specs.declared.entry.Entry.{Entry}
use Rattle.bank_model.specs.declared.log.LogItem.{LogItem}
use Rattle.bank_model.specs.declared.log.LogItem.TheVariants.{Effect}
use Rattle.token_board.specs.Tokens.{numbers_in}

-- Each entry belongs to one of the board's objects, and its number is above all numbers before it.
abbrev pub MayFollow : List ℕ → List LogItem → List Entry → Type 0
MayFollow start log [] = Unit {0}
MayFollow start log (entry ∷ more) =
    (entry.object.0 < length start) × All (λ number. number < entry.number) (numbers_in start log)
    × MayFollow start (log ++ Effect entry ∷ []) more

-- Entries are numbered from here on.
abbrev pub AreNumbered : ℕ → List Entry → Type 0
AreNumbered number [] = Unit {0}
AreNumbered number (entry ∷ more) = (entry.number ≡ number) × AreNumbered (number + 1) more

-- Entries of the board's objects that are numbered from above all others may be published one after another.
abbrev pub NumberedFollow : Type 0
NumberedFollow = (start : List ℕ) (log : List LogItem) (number : ℕ) (entries : List Entry) → All (λ n. n < number) (numbers_in start log)
    → AreNumbered number entries → AllByRecursion (λ (entry : Entry). entry.object.0 < length start) entries → MayFollow start log entries
