-- Endings and entries of logs that grow.
use Rattle.std.proofs.Common.{◌≡◌, ℕ, zero, suc, ◌+◌, ◌-◌, ◌≤◌, List, [], ◌∷◌, ◌++◌, length, slice_get, Some, true, false, refl, sym, ap, ◌∙◌, arith, true≢false, length-append}
use Rattle.std.proofs.lemmas.List.Elements.{filter-append, Contains-append_left}
use Rattle.bank_model.specs.declared.entry.Entry.{Entry}
use Rattle.bank_model.specs.declared.log.LogItem.{LogItem}
use Rattle.bank_model.specs.declared.log.LogItem.TheVariants.{Effect, Answer, Adopted, Fault}
use Rattle.bank_model.specs.Log.{is_ending, endings, ending}
use Rattle.token_board.specs.declared.view.Load.{Load}
use Rattle.bank_callers.specs.Callers.{HoldsIn}

-- the element after a list is at the list's length
slice_get-last : {A : Type 0} (xs : List A) (x : A) → slice_get (xs ++ x ∷ []) (length xs) ≡ Some x
slice_get-last [] x = refl
slice_get-last (y ∷ xs) x = slice_get-last xs x

-- an element stays where it is when a list grows
slice_get-kept : {A : Type 0} (xs ys : List A) (i : ℕ) (x : A) → slice_get xs i ≡ Some x → slice_get (xs ++ ys) i ≡ Some x
slice_get-kept [] ys i x is = grind (arith, is)
slice_get-kept (y ∷ xs) ys zero x is = is
slice_get-kept (y ∷ xs) ys (suc i) x is = slice_get-kept xs ys i x is

one_ending : (item : LogItem) → is_ending item ≡ true → endings (item ∷ []) ≡ item ∷ []
one_ending (Effect entry) is = absurd (true≢false (sym is))
one_ending (Answer event at reply) is = refl
one_ending (Adopted fault event at) is = refl
one_ending (Fault count pending) is = refl

-- an ending after a log is the last of its endings
endings-last : (log : List LogItem) (item : LogItem) → is_ending item ≡ true → endings (log ++ item ∷ []) ≡ endings log ++ item ∷ []
endings-last log item is = filter-append is_ending log (item ∷ []) ∙ ap (λ (l : List LogItem). endings log ++ l) (one_ending item is)

pub last_ending : (log : List LogItem) (item : LogItem) → is_ending item ≡ true
    → (1 ≤ length (endings (log ++ item ∷ []))) × (ending (log ++ item ∷ []) (length (endings (log ++ item ∷ []))) ≡ Some item)
last_ending log item is =
    let all : endings (log ++ item ∷ []) ≡ endings log ++ item ∷ [] = endings-last log item is in
    let size : length (endings log ++ item ∷ []) ≡ length (endings log) + 1 = length-append (endings log) (item ∷ []) in
    let offset : length (endings log ++ item ∷ []) - 1 ≡ length (endings log) = omega (arith, size) in
    (rw all (omega (arith, size)), rw (all, offset) (slice_get-last (endings log) item))

-- an ending keeps its number when the log grows
pub ending-kept : (log more : List LogItem) (number : ℕ) (item : LogItem) → ending log number ≡ Some item → ending (log ++ more) number ≡ Some item
ending-kept log more number item is =
    rw (filter-append is_ending log more) (slice_get-kept (endings log) (endings more) (number - 1) item is)

-- a token that is the number of an entry stays one when there are more entries
pub holds-kept : (entries more : List Entry) (load : Load) → HoldsIn entries load → HoldsIn (entries ++ more) load
holds-kept entries more load holds low =
    let s = holds low in (s.0, Contains-append_left entries more s.0 s.1, s.2, s.3)
