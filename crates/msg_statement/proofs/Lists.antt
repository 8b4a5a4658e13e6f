-- The list of a statement has its form exactly where reading finds it, and its faults have offsets.
use Rattle.std.proofs.Common.{◌≡◌, ℕ, Bool, true, false, cond, List, [], ◌∷◌, filter, Option, None, Some, Result, Ok, codes, refl, subst, ◌∙◌}
use Rattle.std.specs.List.{AllZip, AllByRecursion}
use Rattle.std.specs.Option.{IfSome}
use Rattle.ofx_types.specs.Nodes.{Item, children}
use Rattle.ofx_types.specs.FormWords.{◌>>=◌, has_name, maybe, amount_in, moment_in, number_in}
use Rattle.ofx_types.specs.ReplyGrammar.{IsStatementLine, IsStatementList, IsMaybeList}
use Rattle.ofx_types.specs.ReplyReading.{line_of, line_onto, lines_of, list_of, list_in}
use Rattle.ofx_types.specs.declared.fault.TreeFault.{TreeFault}
use Rattle.ofx_types.specs.declared.reply.StatementLine.{StatementLine}
use Rattle.ofx_types.specs.declared.reply.StatementList.{StatementList}
use Rattle.ofx_tree.specs.Located.{Holds, Any, IsWithin}
use Rattle.ofx_tree.proofs.FormLaws.{bind_ok, bind_to, one_value, maybe_none, maybe_some, none_again, some_again, amount_in_found, amount_in_again, moment_in_found, moment_in_again, number_in_found, number_in_again}
use Rattle.ofx_tree.proofs.FormOffsets.{bound, either, children_within, amount_within, moment_within, number_within}

-- ---- a line

line_found : (stmttrn : Item) (line : StatementLine) → line_of stmttrn ≡ Ok line → IsStatementLine stmttrn line
unfolding line_of
line_found stmttrn line h =
    let posted = bind_ok (moment_in (codes "DTPOSTED") stmttrn) _ line h in
    let amount = bind_ok (amount_in (codes "TRNAMT") stmttrn) _ line posted.2 in
    let number = bind_ok (number_in (codes "FITID") 10 stmttrn) _ line amount.2 in
    let P : StatementLine → Type 0 = λ l. IsStatementLine stmttrn l in
    subst P (one_value _ _ line refl number.2) (record {
      posted = moment_in_found (codes "DTPOSTED") stmttrn posted.0 posted.1;
      amount = amount_in_found (codes "TRNAMT") stmttrn amount.0 amount.1;
      number = number_in_found (codes "FITID") 10 stmttrn number.0 number.1;
    })

line_again : (stmttrn : Item) (line : StatementLine) → IsStatementLine stmttrn line → line_of stmttrn ≡ Ok line
unfolding line_of
line_again stmttrn line l =
    bind_to _ _ line.posted (moment_in_again (codes "DTPOSTED") stmttrn line.posted l.posted)
    ∙ bind_to _ _ line.amount (amount_in_again (codes "TRNAMT") stmttrn line.amount l.amount)
    ∙ bind_to _ _ line.number (number_in_again (codes "FITID") 10 stmttrn line.number l.number)

line_within : (most : ℕ) (stmttrn : Item) → IsWithin most stmttrn → Holds most Any (line_of stmttrn)
unfolding line_of
line_within most stmttrn h =
    bound most Any Any (moment_in (codes "DTPOSTED") stmttrn) _ (moment_within most (codes "DTPOSTED") stmttrn h) (λ posted _.
    bound most Any Any (amount_in (codes "TRNAMT") stmttrn) _ (amount_within most (codes "TRNAMT") stmttrn h) (λ amount _.
    bound most Any Any (number_in (codes "FITID") 10 stmttrn) _ (number_within most (codes "FITID") 10 stmttrn h) (λ number _. tt)))

-- ---- the lines among the children

abbrev AreLines : List Item → List StatementLine → Type 0
AreLines items lines = AllZip IsStatementLine items lines

found_next : (b : Bool) (child : Item) (kept : List Item) (read : Result (List StatementLine) TreeFault) (lines : List StatementLine) →
    ((rest : List StatementLine) → read ≡ Ok rest → AreLines kept rest) →
    cond b (line_of child >>= λ line. read >>= line_onto line) read ≡ Ok lines → AreLines (cond b (child ∷ kept) kept) lines
found_next true child kept read lines next h =
    let line = bind_ok (line_of child) _ lines h in
    let rest = bind_ok read (line_onto line.0) lines line.2 in
    let P : List StatementLine → Type 0 = λ l. AreLines (child ∷ kept) l in
    subst P (one_value (line_onto line.0 rest.0) (line.0 ∷ rest.0) lines refl rest.2) (line_found child line.0 line.1, next rest.0 rest.1)
found_next false child kept read lines next h = next lines h

lines_found : (items : List Item) (lines : List StatementLine) → lines_of items ≡ Ok lines → AreLines (filter (has_name (codes "STMTTRN")) items) lines
unfolding lines_of
lines_found [] lines h = let P : List StatementLine → Type 0 = λ l. AreLines [] l in subst P (one_value (Ok []) [] lines refl h) tt
lines_found (child ∷ more) lines h =
    found_next (has_name (codes "STMTTRN") child) child (filter (has_name (codes "STMTTRN")) more) (lines_of more) lines (lines_found more) h

again_next : (b : Bool) (child : Item) (kept : List Item) (read : Result (List StatementLine) TreeFault) (lines : List StatementLine) →
    ((rest : List StatementLine) → AreLines kept rest → read ≡ Ok rest) → AreLines (cond b (child ∷ kept) kept) lines →
    cond b (line_of child >>= λ line. read >>= line_onto line) read ≡ Ok lines
again_next true child kept read [] next h = absurd h
again_next true child kept read (line ∷ rest) next h =
    bind_to (line_of child) _ line (line_again child line h.0) ∙ bind_to read (line_onto line) rest (next rest h.1)
again_next false child kept read lines next h = next lines h

none_left : (lines : List StatementLine) → AreLines [] lines → Ok [] ≡ (let r : Result (List StatementLine) TreeFault = Ok lines in r)
none_left [] h = refl
none_left (line ∷ lines) h = absurd h

lines_again : (items : List Item) (lines : List StatementLine) → AreLines (filter (has_name (codes "STMTTRN")) items) lines → lines_of items ≡ Ok lines
unfolding lines_of
lines_again [] lines h = none_left lines h
lines_again (child ∷ more) lines h =
    again_next (has_name (codes "STMTTRN") child) child (filter (has_name (codes "STMTTRN")) more) (lines_of more) lines (lines_again more) h

lines_within : (most : ℕ) (items : List Item) → AllByRecursion (IsWithin most) items → Holds most Any (lines_of items)
unfolding lines_of
lines_within most [] h = tt
lines_within most (child ∷ more) (h, others) =
    either most Any (has_name (codes "STMTTRN") child) _ _
    (bound most Any Any (line_of child) _ (line_within most child h) (λ line _.
    bound most Any Any (lines_of more) _ (lines_within most more others) (λ lines _. tt)))
    (lines_within most more others)

-- ---- the list

list_found : (banktranlist : Item) (list : StatementList) → list_of banktranlist ≡ Ok list → IsStatementList banktranlist list
unfolding list_of
list_found banktranlist list h =
    let start = bind_ok (moment_in (codes "DTSTART") banktranlist) _ list h in
    let end = bind_ok (moment_in (codes "DTEND") banktranlist) _ list start.2 in
    let lines = bind_ok (lines_of (children banktranlist)) _ list end.2 in
    let P : StatementList → Type 0 = λ l. IsStatementList banktranlist l in
    subst P (one_value _ _ list refl lines.2) (record {
      start = moment_in_found (codes "DTSTART") banktranlist start.0 start.1;
      end = moment_in_found (codes "DTEND") banktranlist end.0 end.1;
      lines = lines_found (children banktranlist) lines.0 lines.1;
    })

list_again : (banktranlist : Item) (list : StatementList) → IsStatementList banktranlist list → list_of banktranlist ≡ Ok list
unfolding list_of
list_again banktranlist list l =
    bind_to _ _ list.start (moment_in_again (codes "DTSTART") banktranlist list.start l.start)
    ∙ bind_to _ _ list.end (moment_in_again (codes "DTEND") banktranlist list.end l.end)
    ∙ bind_to _ _ list.lines (lines_again (children banktranlist) list.lines l.lines)

list_within : (most : ℕ) (banktranlist : Item) → IsWithin most banktranlist → Holds most Any (list_of banktranlist)
unfolding list_of
list_within most banktranlist h =
    bound most Any Any (moment_in (codes "DTSTART") banktranlist) _ (moment_within most (codes "DTSTART") banktranlist h) (λ start _.
    bound most Any Any (moment_in (codes "DTEND") banktranlist) _ (moment_within most (codes "DTEND") banktranlist h) (λ end _.
    bound most Any Any (lines_of (children banktranlist)) _ (lines_within most (children banktranlist) (children_within most banktranlist h)) (λ lines _. tt)))

-- ---- a list that may occur once

pub maybe_list_found : (stmtrs : Item) (found : Option Item) (list : Option StatementList) →
    maybe (codes "BANKTRANLIST") stmtrs ≡ Ok found → list_in found ≡ Ok list → IsMaybeList stmtrs list
maybe_list_found stmtrs None list h i =
    let P : Option StatementList → Type 0 = λ l. IsMaybeList stmtrs l in
    subst P (one_value _ _ list refl i) (maybe_none (codes "BANKTRANLIST") stmtrs h)
maybe_list_found stmtrs (Some banktranlist) list h i =
    let read = bind_ok (list_of banktranlist) _ list i in
    let P : Option StatementList → Type 0 = λ l. IsMaybeList stmtrs l in
    subst P (one_value _ _ list refl read.2) (banktranlist, maybe_some (codes "BANKTRANLIST") stmtrs banktranlist h, list_found banktranlist read.0 read.1)

pub maybe_list_again : (stmtrs : Item) (list : Option StatementList) → IsMaybeList stmtrs list →
    (maybe (codes "BANKTRANLIST") stmtrs >>= list_in) ≡ Ok list
maybe_list_again stmtrs None none = bind_to _ _ None (none_again (codes "BANKTRANLIST") stmtrs none)
maybe_list_again stmtrs (Some list) some =
    bind_to _ _ (Some some.0) (some_again (codes "BANKTRANLIST") stmtrs some.0 some.1)
    ∙ bind_to _ _ list (list_again some.0 list some.2)

pub maybe_list_within : (most : ℕ) (found : Option Item) → IfSome found (IsWithin most) → Holds most Any (list_in found)
maybe_list_within most None h = tt
maybe_list_within most (Some banktranlist) h = bound most Any Any (list_of banktranlist) _ (list_within most banktranlist h) (λ list _. tt)
