-- How the lines of a list are read, one child after the other.
use Rattle.std.proofs.Common.{◌≡◌, Bool, true, false, cond, List, [], ◌∷◌, ◌++◌, Option, None, option_to_list, Result, Ok, Err, codes, refl, sym, ap, ◌∙◌, append_assoc}
use Rattle.std.proofs.lemmas.List.{append-nil}
use Rattle.ofx_types.specs.Nodes.{Item}
use Rattle.ofx_types.specs.FormWords.{◌>>=◌, has_name, FailsSo}
use Rattle.ofx_types.specs.ReplyReading.{line_of, line_onto, lines_of}
use Rattle.ofx_types.specs.declared.fault.TreeFault.{TreeFault}
use Rattle.ofx_types.specs.declared.fault.TreeFault.TheVariants.{Missing, Repeated, Value, OutOfMemory}
use Rattle.ofx_types.specs.declared.reply.StatementLine.{StatementLine}
use Rattle.msg_statement.specs.StatementSteps.{some_line, line_at, joined, lines_after}

-- with no lines yet, all are still to come
pub lines_after-nil : (items : List Item) → lines_after [] items ≡ lines_of items
unfolding lines_after
lines_after-nil items = unchanged (lines_of items)
  where
    unchanged : (r : Result (List StatementLine) TreeFault) → (r >>= joined []) ≡ r
    unchanged (Ok lines) = refl
    unchanged (Err e) = refl

-- where nothing is to come, the lines are those so far
pub lines_after-end : (prefix : List StatementLine) → lines_after prefix [] ≡ Ok prefix
unfolding lines_after lines_of
lines_after-end prefix = ap Ok (append-nil prefix)

next_child : (b : Bool) (s : Result StatementLine TreeFault) (m : Result (List StatementLine) TreeFault) (prefix : List StatementLine) →
    (cond b (s >>= λ line. m >>= line_onto line) m >>= joined prefix)
    ≡ (cond b (s >>= some_line) (Ok None) >>= λ found. m >>= joined (prefix ++ option_to_list found))
next_child true (Ok line) (Ok lines) prefix = ap Ok (sym (append_assoc prefix (line ∷ []) lines))
next_child true (Ok line) (Err f) prefix = refl
next_child true (Err f) m prefix = refl
next_child false s (Ok lines) prefix = ap (λ (xs : List StatementLine). Ok (xs ++ lines)) (sym (append-nil prefix))
next_child false s (Err f) prefix = refl

lines_after-cons : (prefix : List StatementLine) (child : Item) (more : List Item) →
    lines_after prefix (child ∷ more) ≡ (line_at child >>= λ found. lines_after (prefix ++ option_to_list found) more)
unfolding lines_after lines_of line_at
lines_after-cons prefix child more = next_child (has_name (codes "STMTTRN") child) (line_of child) (lines_of more) prefix

abbrev then : List StatementLine → List Item → Result (Option StatementLine) TreeFault → Result (List StatementLine) TreeFault
then prefix more read = read >>= λ found. lines_after (prefix ++ option_to_list found) more

-- what a child is comes after the lines so far
pub lines_after-ok : (prefix : List StatementLine) (child : Item) (more : List Item) (found : Option StatementLine) → line_at child ≡ Ok found →
    lines_after prefix (child ∷ more) ≡ lines_after (prefix ++ option_to_list found) more
lines_after-ok prefix child more found h = lines_after-cons prefix child more ∙ ap (then prefix more) h

-- and its fault is that of all
pub lines_after-fails : (prefix : List StatementLine) (child : Item) (more : List Item) (fault : TreeFault) → FailsSo fault (line_at child) →
    FailsSo fault (lines_after prefix (child ∷ more))
lines_after-fails prefix child more (Missing at) h = lines_after-cons prefix child more ∙ ap (then prefix more) h
lines_after-fails prefix child more (Repeated at) h = lines_after-cons prefix child more ∙ ap (then prefix more) h
lines_after-fails prefix child more (Value at) h = lines_after-cons prefix child more ∙ ap (then prefix more) h
lines_after-fails prefix child more OutOfMemory h = tt

pub ruleset rest = (lines_after-nil, lines_after-end, lines_after-ok, lines_after-fails)
