-- One line more of a file: it is there already, or clashes, or goes among the new ones.
use Rattle.std.proofs.Common.{◌≡◌, ℕ, inl, inr, Bool, true, false, cond, List, [], ◌∷◌, ◌++◌, None, Some, Result, Ok, Err, refl, sym, ap, subst, ◌∙◌, take, drop, get_or, ◌+◌, ◌<◌, length, add-one}
use Rattle.std.specs.List.{find, Contains}
use Rattle.std.specs.BTreeMap.{is_at}
use Rattle.std.specs.Ordering.{is_eq}
use Rattle.std.specs.declared.cmp.Ordering.{Ordering}
use Rattle.std.specs.declared.cmp.Ordering.TheVariants.{Equal}
use Rattle.std.proofs.lemmas.Cmp.{tied_back}
use Rattle.std.proofs.lemmas.List.{take-append-drop, take_more}
use Rattle.std.proofs.lemmas.List.Elements.{Contains-append_left, Contains-append_right, Contains-append_cases}
use Rattle.std.proofs.Math.Seq.{drop-cons}
use Rattle.file_register.specs.Order.{line_cmp, line_total, Clash}
use Rattle.file_register.specs.Gathering.{IsFound, IsNewTo, IsAlike, Agrees, Gathered, AddsOne, TakesLine, StopsAt}
use Rattle.file_register.specs.Registers.{put_line}
use Rattle.file_register.specs.declared.line.Line.{Line}
use Rattle.file_register.specs.declared.import.ImportFault.{ImportFault}
use Rattle.file_register.specs.declared.import.ImportFault.TheVariants as faults
use Rattle.file_register.proofs.OrderLaws.{tied_entry}
use Rattle.file_register.proofs.GatheringLaws.{gathered_more, first_clash}
use Rattle.file_register.proofs.SortedLists.{first_in, later_in, in_cases, none_in}

-- lines that tie and agree are one
alike_is : (kept line : Line) → line_cmp kept line ≡ Equal → IsAlike kept line → kept ≡ line
alike_is kept line tied alike =
    let entry = tied_entry kept line tied in
    λ i. record { account = entry.account i; fitid = entry.fitid i; posted = record { 0 = alike.0 i }; amount = record { 0 = alike.1 i } }

clashes : (kept line one : Line) → line_cmp kept line ≡ Equal → one ≡ kept → (IsAlike kept line → ⊥) → Clash one line
clashes kept line one tied same apart = subst (λ (l : Line). Clash l line) (sym same) (record {
  entry = tied_entry kept line tied;
  differ = λ is. apart (ap (λ (l : Line). l.posted.0) is, ap (λ (l : Line). l.amount.0) is);
})

-- what comes of a line of which there is one
pub agreed : (old fresh : List Line) (line kept : Line) (r : Result (Unit {0}) ImportFault) → Contains (old ++ fresh) kept → line_cmp kept line ≡ Equal → Agrees kept line r
    → TakesLine old fresh line r fresh
agreed old fresh line kept (Ok done) there tied alike = inl (subst (Contains (old ++ fresh)) (alike_is kept line tied alike) there, refl)
agreed old fresh line kept (Err (faults.Clash one other)) there tied h =
    record { other_is = h.1; is_there = subst (Contains (old ++ fresh)) (sym h.0) there; clash = clashes kept line one tied h.0 h.2 }
agreed old fresh line kept (Err faults.OutOfMemory) there tied h = tt
agreed old fresh line kept (Err (faults.Signon code)) there tied h = absurd h
agreed old fresh line kept (Err faults.Full) there tied h = absurd h

pub agreed_old : (old fresh : List Line) (line kept : Line) (r : Result (Unit {0}) ImportFault) → IsFound old line kept → Agrees kept line r → TakesLine old fresh line r fresh
agreed_old old fresh line kept r found h = agreed old fresh line kept r (Contains-append_left old fresh kept found.is_there) found.tied h

-- ---- what a set of the new lines has

found_by : (test : Line → Bool) (b : Bool) (x : Line) (xs : List Line) (k : Line) → (find test xs ≡ Some k → Contains xs k) → cond b (Some x) (find test xs) ≡ Some k → Contains (x ∷ xs) k
found_by test true x xs k more e = let same : x ≡ k = cc in subst (Contains (x ∷ xs)) same (first_in x xs)
found_by test false x xs k more e = later_in x xs k (more e)

found_in : (test : Line → Bool) (xs : List Line) (k : Line) → find test xs ≡ Some k → Contains xs k
found_in test [] k e = absurd cc
found_in test (x ∷ xs) k e = found_by test (test x) x xs k (found_in test xs k) e

none_by : (test : Line → Bool) (b : Bool) (x : Line) (xs : List Line) → test x ≡ b → cond b (Some x) (find test xs) ≡ None → (test x ≡ false) × (find test xs ≡ None)
none_by test true x xs is e = absurd cc
none_by test false x xs is e = (is, e)

none_found : (test : Line → Bool) (xs : List Line) → find test xs ≡ None → (z : Line) → Contains xs z → test z ≡ false
none_found test [] e z h = absurd (none_in z h)
none_found test (x ∷ xs) e z h =
    let parts = none_by test (test x) x xs refl e in
    elim (in_cases x xs z h) [ inl same ↦ subst (λ (y : Line). test y ≡ false) same parts.0 | inr later ↦ none_found test xs parts.1 z later ]

pub agreed_fresh : (old fresh : List Line) (line kept : Line) (r : Result (Unit {0}) ImportFault) → find (is_at (line_cmp line)) fresh ≡ Some kept → line_cmp kept line ≡ Equal
    → Agrees kept line r → TakesLine old fresh line r fresh
agreed_fresh old fresh line kept r found tied h = agreed old fresh line kept r (Contains-append_right old fresh kept (found_in (is_at (line_cmp line)) fresh kept found)) tied h

-- the same of a line that a set of lines shows
pub agreed_found : (old fresh : List Line) (line ranked kept shown given : Line) (r : Result (Unit {0}) ImportFault) → ranked ≡ line
    → Some kept ≡ find (is_at (line_cmp ranked)) fresh → line_cmp ranked kept ≡ Equal → shown ≡ kept → given ≡ ranked → Agrees shown given r → TakesLine old fresh line r fresh
agreed_found old fresh line ranked kept shown given r is found tied shows gives h =
    agreed_fresh old fresh line kept r (subst (λ (l : Line). find (is_at (line_cmp l)) fresh ≡ Some kept) is (sym found))
    (tied_back line_total line kept (subst (λ (l : Line). line_cmp l kept ≡ Equal) is tied))
    (subst (λ (l : Line). Agrees l line r) shows (subst (λ (l : Line). Agrees shown l r) (gives ∙ is) h))

-- a line that neither has goes among the new ones
pub adds_one : (old fresh : List Line) (line : Line) (after : List Line) → IsNewTo old line → find (is_at (line_cmp line)) fresh ≡ None → after ≡ put_line fresh line
    → AddsOne old fresh line after
adds_one old fresh line after new none same = inr (record {
  is_new = λ other h. elim (Contains-append_cases old fresh other h) [
    | inl in_old ↦ new other in_old
    | inr in_fresh ↦ λ tied. not_tied (none_found (is_at (line_cmp line)) fresh none other in_fresh) tied
  ];
  after_is = same;
})
  where
    not_tied : {r : Ordering} → is_eq r ≡ false → r ≡ Equal → ⊥
    not_tied {r} apart same = let both : true ≡ false = sym (ap is_eq same) ∙ apart in absurd cc

-- the same of the line as the set takes it
pub adds_ranked : (old fresh : List Line) (line ranked : Line) (after : List Line) → ranked ≡ line → IsNewTo old line → None ≡ find (is_at (line_cmp ranked)) fresh
    → after ≡ put_line fresh ranked → AddsOne old fresh line after
adds_ranked old fresh line ranked after is new none same =
    adds_one old fresh line after new (subst (λ (l : Line). find (is_at (line_cmp l)) fresh ≡ None) is (sym none)) (same ∙ ap (put_line fresh) is)

-- the lines before one, the line and those after it
pub parted : (lines : List Line) (i : ℕ) (d : Line) → i < length lines → lines ≡ take i lines ++ get_or lines i d ∷ drop (i + 1) lines
parted lines i d lt = sym (take-append-drop i lines) ∙ ap (λ (l : List Line). take i lines ++ l) (rw add-one (drop-cons lines i d lt))

pub taken_more : (lines : List Line) (i : ℕ) (d line : Line) → i < length lines → line ≡ get_or lines i d → take (i + 1) lines ≡ take i lines ++ line ∷ []
taken_more lines i d line lt is = take_more lines i d lt ∙ ap (λ (l : Line). take i lines ++ l ∷ []) (sym is)

-- one turn of the loop over the lines of a file
pub gathers_on : (old lines fresh : List Line) (i : ℕ) (d item line : Line) (after : List Line) → i < length lines → item ≡ get_or lines i d → line ≡ item
    → Gathered old (take i lines) fresh → AddsOne old fresh line after → Gathered old (take (i + 1) lines) after
gathers_on old lines fresh i d item line after lt at is so_far adds =
    subst (λ (l : List Line). Gathered old l after) (sym (taken_more lines i d line lt (is ∙ at))) (gathered_more old (take i lines) fresh line after so_far adds)

-- where it ends with a clash, that is the file's first
pub stops_here : (old lines fresh : List Line) (i : ℕ) (d item line : Line) (fault : ImportFault) (after : List Line) → i < length lines → item ≡ get_or lines i d → line ≡ item
    → Gathered old (take i lines) fresh → TakesLine old fresh line (Err fault) after → StopsAt old lines fault
stops_here old lines fresh i d item line (faults.Clash kept other) after lt at is so_far clashes =
    first_clash old lines (take i lines) fresh (drop (i + 1) lines) line kept other (parted lines i d lt ∙ ap (λ (l : Line). take i lines ++ l ∷ drop (i + 1) lines) (sym (is ∙ at))) so_far clashes
stops_here old lines fresh i d item line faults.OutOfMemory after lt at is so_far h = tt
stops_here old lines fresh i d item line (faults.Signon code) after lt at is so_far h = absurd h
stops_here old lines fresh i d item line faults.Full after lt at is so_far h = absurd h

-- what was gathered of lists that are others by other names
pub gathered_at : (shown kept old showed lines file fresh : List Line) → shown ≡ kept → kept ≡ old → showed ≡ lines → lines ≡ file → Gathered shown showed fresh → Gathered old file fresh
gathered_at shown kept old showed lines file fresh shows is lists are gathered =
    subst (λ (l : List Line). Gathered l file fresh) (shows ∙ is) (subst (λ (l : List Line). Gathered shown l fresh) (lists ∙ are) gathered)
