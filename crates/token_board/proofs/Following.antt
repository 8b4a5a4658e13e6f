-- Entries that are numbered on.
use Rattle.std.proofs.Common.{◌≡◌, ℕ, ◌+◌, ◌<◌, List, [], ◌∷◌, ◌++◌, map, length, sym, ap, ◌∙◌, subst, append_assoc, append-nil, arith}
use Rattle.std.specs.Prelude.{All}
use Rattle.std.proofs.lemmas.List.{map-append}
use Rattle.std.proofs.lemmas.List.Elements.{All-push, All-weaker}
use Rattle.bank_model.specs.declared.entry.Entry.{Entry}
use Rattle.bank_model.specs.declared.log.LogItem.{LogItem}
use Rattle.bank_model.specs.declared.log.LogItem.TheVariants.{Effect}
use Rattle.token_board.specs.Tokens.{added, number_of, numbers_in}
use Rattle.token_board.specs.Following.{MayFollow, AreNumbered, NumberedFollow}
use Rattle.token_board.proofs.Logs.{added-append}

-- ---- the numbers of a log that grows

numbers_grown : (start : List ℕ) (log more : List LogItem) → numbers_in start (log ++ more) ≡ numbers_in start log ++ map number_of (added more)
numbers_grown start log more =
    ap (λ (es : List Entry). start ++ map number_of es) (added-append log more)
    ∙ ap (λ (ns : List ℕ). start ++ ns) (map-append number_of (added log) (added more))
    ∙ sym (append_assoc start (map number_of (added log)) (map number_of (added more)))

pub numbers-effect : (start : List ℕ) (log : List LogItem) (entry : Entry) → numbers_in start (log ++ Effect entry ∷ []) ≡ numbers_in start log ++ entry.number ∷ []
numbers-effect start log entry = numbers_grown start log (Effect entry ∷ [])

pub numbers-ending : (start : List ℕ) (log : List LogItem) (item : LogItem) → added (item ∷ []) ≡ [] → numbers_in start (log ++ item ∷ []) ≡ numbers_in start log
numbers-ending start log item none =
    numbers_grown start log (item ∷ [])
    ∙ ap (λ (es : List Entry). numbers_in start log ++ map number_of es) none
    ∙ append-nil (numbers_in start log)

-- ---- entries that are numbered on

below_next : (number : ℕ) (ns : List ℕ) → All (λ n. n < number) ns → All (λ n. n < number + 1) (ns ++ number ∷ [])
below_next number ns below =
    All-push (λ n. n < number + 1) ns number (All-weaker (λ n. n < number) (λ n. n < number + 1) (λ n low. omega arith) ns below) (omega arith)

pub follows : NumberedFollow
follows start log number [] below numbered objects = tt
follows start log number (e ∷ es) below numbered objects =
    let is = numbered.0 in
    let next = below_next number (numbers_in start log) below in (
      objects.0,
      subst (λ (k : ℕ). All (λ n. n < k) (numbers_in start log)) (sym is) below,
      follows start (log ++ Effect e ∷ []) (number + 1) es
          (subst (All (λ n. n < number + 1)) (ap (λ (k : ℕ). numbers_in start log ++ k ∷ []) (sym is) ∙ sym (numbers-effect start log e)) next)
          numbered.1
          objects.1,
    )
