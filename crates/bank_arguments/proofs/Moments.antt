-- The arguments of `answer`.
use Rattle.std.proofs.Common.{◌≡◌, ℕ, ◌<◌, ◌≤◌, List, [], ◌∷◌, length, get_or, codes, Option, None, Some, arith, sym, ap, ◌∙◌}
use Rattle.ofx_types.specs.declared.number.Moment.{Moment}
use Rattle.bank_arguments.specs.Arguments.{IsMomentOption}
use Rattle.bank_arguments.specs.Reading.{Reads, IsNamedBy}
use Rattle.bank_arguments.specs.declared.command.AnswerArguments.{AnswerArguments}

-- two words
two : (arguments : List (List ℕ)) (a b : List ℕ) → 2 ≤ length arguments → length arguments < 3 → a ≡ get_or arguments 0 a → b ≡ get_or arguments 1 b → arguments ≡ a ∷ b ∷ []
two [] a b long short ea eb = absurd (omega (arith, long))
two (v ∷ []) a b long short ea eb = absurd (omega (arith, long))
two (v ∷ w ∷ []) a b long short ea eb = cc
two (v ∷ w ∷ x ∷ more) a b long short ea eb = absurd (omega (arith, short))

-- the date of an option names its moment
date_of : (arguments : List (List ℕ)) (a date : List ℕ) (at : Option Moment) → arguments ≡ a ∷ date ∷ [] → IsMomentOption arguments at → IsNamedBy date at
date_of arguments a date None e form = absurd (let no : [] ≡ a ∷ date ∷ [] = sym form ∙ e in cc)
date_of arguments a date (Some at) e form =
    let same : date ≡ form.0 = ap (λ (l : List (List ℕ)). get_or l 1 date) (sym e ∙ form.1) in rw same form.2

named : (arguments : List (List ℕ)) (date : List ℕ) (at : Option Moment) → arguments ≡ codes "--at" ∷ date ∷ [] → IsNamedBy date at → IsMomentOption arguments at
named arguments date None e by = absurd by
named arguments date (Some at) e by = (date, e, by)

pub option_read : (arguments : List (List ℕ)) (a date : List ℕ) (found : Option AnswerArguments) → 2 ≤ length arguments → length arguments < 3 → a ≡ get_or arguments 0 a → date ≡ get_or arguments 1 date → a ≡ codes "--at" → Reads (IsNamedBy date) found → Reads (IsMomentOption arguments) found
option_read arguments a date None long short ea ed is_at read = λ at form. read at (date_of arguments a date at (two arguments a date long short ea ed) form)
option_read arguments a date (Some found) long short ea ed is_at read =
    let all = two arguments a date long short ea ed in
    let spelled : arguments ≡ codes "--at" ∷ date ∷ [] = cc in
    (named arguments date found.at spelled read.0, λ other form. read.1 other (date_of arguments a date other all form))
