-- Reading lines one after the other, as a loop does.
use Rattle.std.proofs.Common.{◌≡◌, ℕ, suc, ◌-◌, ◌+◌, ◌≤◌, ◌<◌, length, List, [], ◌∷◌, ◌++◌, Option, Some, Result, Ok, Err, slice_get, refl, sym, ap, ◌∙◌, append_assoc, length-append, arith}
use Rattle.std.proofs.lemmas.List.{append-nil, get_or_at}
use Rattle.std.proofs.lemmas.Option.{slice_get-get_or}
use Rattle.record_fields.specs.declared.fault.RecordFault.{RecordFault}
use Rattle.record_fields.specs.declared.fault.RecordFault.TheVariants as faults
use Rattle.record_fields.specs.Answers.{Fails}
use Rattle.record_fields.specs.FieldReading.{◌>>=◌}
use Rattle.file_register.specs.Reading.{line_at, lines_from}
use Rattle.file_register.specs.declared.line.Line.{Line}

-- the last of the lines so far
abbrev pub last_of : List Line → Option Line
last_of lines = slice_get lines (length lines - 1)

last_is : (prefix : List Line) (line : Line) → last_of (prefix ++ line ∷ []) ≡ Some line
last_is prefix line =
    let offset : length (prefix ++ line ∷ []) - 1 ≡ length prefix = omega (arith, length-append prefix (line ∷ [])) in
    rw offset (slice_get-get_or (prefix ++ line ∷ []) (length prefix) line (omega (arith, length-append prefix (line ∷ []))) ∙ ap Some (get_or_at prefix line [] line (length prefix) refl))

-- what was read before, and what is still read
abbrev pub with_prefix : List Line → Result (List Line × ℕ) ℕ → Result (List Line × ℕ) ℕ
with_prefix prefix read = read >>= λ x. Ok (prefix ++ x.0, x.1)

regroup : (prefix : List Line) (line : Line) (read : Result (List Line × ℕ) ℕ) → with_prefix prefix (read >>= λ y. Ok (line ∷ y.0, y.1)) ≡ with_prefix (prefix ++ line ∷ []) read
regroup prefix line (Ok y) = ap (λ xs. Ok (xs, y.1)) (simp append_assoc)
regroup prefix line (Err offset) = refl

pub lines_go_on : (prefix : List Line) (count i : ℕ) (text : List ℕ) (at : ℕ) (line : Line) (next : ℕ) (total : Result (List Line × ℕ) ℕ)
    → i < count → line_at (last_of prefix) text at ≡ Ok (line, next)
    → with_prefix prefix (lines_from (count - i) (last_of prefix) text at) ≡ total
    → with_prefix (prefix ++ line ∷ []) (lines_from (count - (i + 1)) (last_of (prefix ++ line ∷ [])) text next) ≡ total
unfolding lines_from
lines_go_on prefix count i text at line next total lt h so_far =
    let k : count - i ≡ suc (count - (i + 1)) = omega arith in
    let one : with_prefix prefix (lines_from (count - i) (last_of prefix) text at) ≡ with_prefix (prefix ++ line ∷ []) (lines_from (count - (i + 1)) (Some line) text next) =
    rw (k, h) (regroup prefix line (lines_from (count - (i + 1)) (Some line) text next)) in
    rw (last_is prefix line) (sym one ∙ so_far)

pub lines_end : (fault : RecordFault) (prefix : List Line) (count i : ℕ) (text : List ℕ) (at : ℕ) (total : Result (List Line × ℕ) ℕ)
    → i < count → Fails fault (line_at (last_of prefix) text at) → with_prefix prefix (lines_from (count - i) (last_of prefix) text at) ≡ total → Fails fault total
unfolding lines_from
lines_end (faults.Version n) prefix count i text at total lt h so_far = h
lines_end faults.OutOfMemory prefix count i text at total lt h so_far = tt
lines_end (faults.Bad offset) prefix count i text at total lt h so_far =
    let k : count - i ≡ suc (count - (i + 1)) = omega arith in
    let one : with_prefix prefix (lines_from (count - i) (last_of prefix) text at) ≡ Err offset = rw (k, h) refl in
    sym so_far ∙ one

pub lines_done : (prefix : List Line) (count i : ℕ) (text : List ℕ) (at : ℕ) (total : Result (List Line × ℕ) ℕ)
    → count ≤ i → with_prefix prefix (lines_from (count - i) (last_of prefix) text at) ≡ total → total ≡ Ok (prefix, at)
unfolding lines_from
lines_done prefix count i text at total le so_far =
    let k : count - i ≡ 0 = omega arith in
    let one : with_prefix prefix (lines_from (count - i) (last_of prefix) text at) ≡ Ok (prefix, at) = rw k (ap (λ xs. Ok (xs, at)) (append-nil prefix)) in
    sym so_far ∙ one
