-- What came of statements, by the messages that were heard since they were sent.
use Rattle.std.specs.Prelude.{ℕ, zero, suc, ◌==◌, nat_eq, Bool, true, false, if◌then◌else◌, List, [], ◌∷◌, length, drop, codes, Option, None, Some}
use Rattle.std.specs.List.{starts_with}
use Rattle.std.specs.Str.{bytes_eq}
use Rattle.ofx_types.specs.TextRules.{trimmed}
use Rattle.ofx_types.specs.NumberReading.{number_at}
use Rattle.postgres_messages.specs.Fields.{field}
use Rattle.postgres_messages.specs.Messages.{Message, Setting, Ready, Parsed, Bound, Row, Completed, Failed}
use Rattle.postgres_talk.specs.declared.standing.Standing.{Standing}
use Rattle.postgres_talk.specs.declared.standing.Standing.TheVariants.{Waiting, Failing, Done, Refused, Unknown}
use Rattle.postgres_talk.specs.declared.standing.Outcome.{Outcome}
use Rattle.postgres_talk.specs.declared.standing.Outcome.TheVariants as outcomes

-- ---- tags and reports

-- How many records were inserted, by a tag as `INSERT 0 1`.
unfoldable pub inserted_in : (tag : List ℕ) → Option ℕ
inserted_in tag = if starts_with nat_eq tag (codes "INSERT 0 ") then number_at 10 (trimmed (drop 9 tag)) else None

abbrev pub is_some_text : Option (List ℕ) → (wanted : List ℕ) → Bool
is_some_text None wanted = false
is_some_text (Some text) wanted = bytes_eq text wanted

abbrev pub coded : Option (List ℕ) → Standing
coded None = Unknown
coded (Some code) = if length code == 5 then Failing code else Unknown

-- Only an error undoes all statements, and leaves the connection usable. What is worse says nothing of what was done.
abbrev pub failed : (report : List (List ℕ)) → Standing
failed report = if is_some_text (field 86 report) (codes "ERROR") then coded (field 67 report) else Unknown

-- ---- one message more

-- Parsing and doing go in the order in which they were asked for. A row comes only where rows were asked for.
abbrev pub parsed : Standing → Standing
parsed (Waiting (suc parses) statements rows false inserted) = Waiting parses statements rows false inserted
parsed _ = Unknown

abbrev pub bound : Standing → Standing
bound (Waiting zero (suc statements) rows false inserted) = Waiting zero (suc statements) rows true inserted
bound _ = Unknown

abbrev pub row : Standing → Standing
row (Waiting zero (suc statements) true true inserted) = Waiting zero (suc statements) true true inserted
row _ = Unknown

abbrev pub completed : Standing → (tag : List ℕ) → Standing
completed (Waiting zero (suc statements) rows true inserted) tag = Waiting zero statements rows false (inserted_in tag)
completed _ tag = Unknown

-- That a server is ready, and nothing else, tells that the statements are committed, or undone.
abbrev pub ready : Standing → Standing
ready (Waiting zero zero rows false inserted) = Done inserted
ready (Failing code) = Refused code
ready _ = Unknown

abbrev pub failing : Standing → (report : List (List ℕ)) → Standing
failing (Waiting parses statements rows is_bound inserted) report = failed report
failing _ report = Unknown

-- Settings say nothing of the statements. A notice may tell that a commit was broken off before the standbys had it.
abbrev pub heard : Standing → Message → Standing
heard s (Setting name value) = s
heard s Parsed = parsed s
heard s Bound = bound s
heard s (Row values) = row s
heard s (Completed tag) = completed s tag
heard s Ready = ready s
heard s (Failed report) = failing s report
heard s _ = Unknown

abbrev pub heard_all : Standing → List Message → Standing
heard_all s [] = s
heard_all s (m ∷ ms) = heard_all (heard s m) ms

-- ---- what came of an append

-- An append was sent, of one statement that is parsed already.
abbrev pub append_sent : Standing
append_sent = Waiting 0 1 false false None

abbrev pub by_count : (sent inserted : ℕ) → Outcome
by_count sent inserted =
    if inserted == sent then outcomes.Acknowledged else (if inserted == 0 then outcomes.Fenced else outcomes.Unknown)

-- The code 23505 is of a key that is there already.
abbrev pub outcome : (sent : ℕ) → Standing → Outcome
outcome sent (Done (Some inserted)) = by_count sent inserted
outcome sent (Refused code) = if bytes_eq code (codes "23505") then outcomes.Duplicate else outcomes.Undone
outcome sent _ = outcomes.Unknown
