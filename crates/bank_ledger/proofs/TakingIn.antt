-- What a ledger takes in, one item after another.
use Rattle.std.proofs.Common.{◌≡◌, ℕ, zero, suc, ◌+◌, ◌<◌, false, List, [], ◌∷◌, ◌++◌, length, length-append, map, take, drop, get_or, refl, sym, ap, ◌∙◌, subst, append_assoc, arith}
use Rattle.std.proofs.lemmas.List.{map-append, get_or_at, take_more}
use Rattle.ofx_types.specs.declared.number.UserId.{UserId}
use Rattle.bank_model.specs.declared.entry.Entry.{Entry}
use Rattle.bank_model.specs.declared.once.UsedPair.{UsedPair}
use Rattle.bank_model.specs.Once.{is_pair, is_used}
use Rattle.bank_model.proofs.SetupParts.{distinct_prefix}
use Rattle.bank_ledger.specs.declared.row_change.RowChange.{RowChange}
use Rattle.bank_ledger.specs.Changes.{GivesRows, IsKnown}
use Rattle.once_records.specs.RecordsView.{UsedOnce}
use Rattle.bank_ledger.specs.DraftView.{pair_of}

-- The next of some uids that are all new isn't used up.
pub unused_next : (user : UserId) (used : List UsedPair) (all done rest : List (List ℕ)) (uid : List ℕ) → UsedOnce (used ++ map (pair_of user) all) → done ++ uid ∷ rest ≡ all → is_used user uid (used ++ map (pair_of user) done) ≡ false
unused_next user used all done rest uid once is =
    let parts : used ++ map (pair_of user) all ≡ (used ++ map (pair_of user) done) ++ pair_of user uid ∷ map (pair_of user) rest =
    ap (λ (l : List (List ℕ)). used ++ map (pair_of user) l) (sym is)
    ∙ ap (λ (l : List UsedPair). used ++ l) (map-append (pair_of user) done (uid ∷ rest))
    ∙ sym (append_assoc used (map (pair_of user) done) (pair_of user uid ∷ map (pair_of user) rest)) in
    distinct_prefix (λ (earlier later : UsedPair). is_pair later.user later.trnuid earlier) (used ++ map (pair_of user) done) (pair_of user uid) (map (pair_of user) rest) (subst UsedOnce parts once)

pub record IsHeadAt {X : Type 0} (xs : List X) (k : ℕ) (x : X) (rest : List X) : Type 0 where
  pub below : k < length xs
  pub here : get_or xs k x ≡ x
  pub suffix : drop (k + 1) xs ≡ rest

-- what a list has left from a place on begins with what is there
pub head_at : {X : Type 0} (xs : List X) (k : ℕ) (x : X) (rest : List X) → drop k xs ≡ x ∷ rest → IsHeadAt xs k x rest
head_at [] zero x rest is = absurd cc
head_at [] (suc k) x rest is = absurd cc
head_at (y ∷ xs) zero x rest is = record { below = omega arith; here = let e : y ≡ x = cc in e; suffix = let e : xs ≡ rest = cc in e }
head_at (y ∷ xs) (suc k) x rest is =
    let more = head_at xs k x rest is in
    record { below = let less = more.below in omega arith; here = more.here; suffix = let same : suc k + 1 ≡ suc (k + 1) = omega arith in ap (λ (n : ℕ). drop n (y ∷ xs)) same ∙ more.suffix }

-- The next row_change is given by the next entry.
pub gives_next : (before entries all : List Entry) (row_changes done rest_effects : List RowChange) (entry : Entry) (row_change : RowChange) (rest : List Entry) → ((k : ℕ) (e : Entry) (f : RowChange) → k < length entries → GivesRows (before ++ take k entries) (get_or entries k e).change (get_or row_changes k f)) → done ++ row_change ∷ rest_effects ≡ row_changes → drop (length done) entries ≡ entry ∷ rest → all ≡ before ++ take (length done) entries → GivesRows all entry.change row_change
gives_next before entries all row_changes done rest_effects entry row_change rest given is_effects is_rest is_all =
    let head = head_at entries (length done) entry rest is_rest in
    let held : get_or row_changes (length done) row_change ≡ row_change = ap (λ (l : List RowChange). get_or l (length done) row_change) (sym is_effects) ∙ get_or_at done row_change rest_effects row_change (length done) refl in
    let gives = given (length done) entry row_change head.below in
    subst (λ (l : List Entry). GivesRows l entry.change row_change) (sym is_all)
    (subst (λ (f : RowChange). GivesRows (before ++ take (length done) entries) entry.change f) held
    (subst (λ (e : Entry). GivesRows (before ++ take (length done) entries) e.change (get_or row_changes (length done) row_change)) head.here gives))

-- The next entry has the next number.
pub number_next : (before entries all : List Entry) (done : List RowChange) (entry : Entry) (rest : List Entry) → ((k : ℕ) (e : Entry) → k < length entries → (get_or entries k e).number ≡ length (before ++ take k entries) + 1) → drop (length done) entries ≡ entry ∷ rest → all ≡ before ++ take (length done) entries → entry.number ≡ length all + 1
number_next before entries all done entry rest numbered is_rest is_all =
    let head = head_at entries (length done) entry rest is_rest in
    ap (λ (e : Entry). e.number) (sym head.here)
    ∙ numbered (length done) entry head.below
    ∙ ap (λ (l : List Entry). length l + 1) (sym is_all)

-- What is numbered is so wherever it is held.
pub numbered_moved : (before entries items : List Entry) → items ≡ entries → ((k : ℕ) (e : Entry) → k < length entries → (get_or entries k e).number ≡ length (before ++ take k entries) + 1) → (k : ℕ) (e : Entry) → k < length items → (get_or items k e).number ≡ length (before ++ take k items) + 1
numbered_moved before entries items is_entries numbered = rw is_entries numbered

-- What gives does so wherever it is held.
pub given_moved : (before ledger entries items : List Entry) (row_changes held : List RowChange) → ledger ≡ before → items ≡ entries → held ≡ row_changes → ((k : ℕ) (e : Entry) (f : RowChange) → k < length entries → GivesRows (before ++ take k entries) (get_or entries k e).change (get_or row_changes k f)) → (k : ℕ) (e : Entry) (f : RowChange) → k < length items → GivesRows (ledger ++ take k items) (get_or items k e).change (get_or held k f)
given_moved before ledger entries items row_changes held is_before is_entries is_effects given =
    rw (is_before, is_entries, is_effects) given

-- The next row_change is within the bounds.
pub known_next : (entries : List Entry) (row_changes done rest_effects : List RowChange) (entry : Entry) (row_change : RowChange) (rest : List Entry) → ((k : ℕ) (f : RowChange) → k < length entries → IsKnown (get_or row_changes k f)) → done ++ row_change ∷ rest_effects ≡ row_changes → drop (length done) entries ≡ entry ∷ rest → IsKnown row_change
known_next entries row_changes done rest_effects entry row_change rest known is_effects is_rest =
    let head = head_at entries (length done) entry rest is_rest in
    let held : get_or row_changes (length done) row_change ≡ row_change = ap (λ (l : List RowChange). get_or l (length done) row_change) (sym is_effects) ∙ get_or_at done row_change rest_effects row_change (length done) refl in
    subst IsKnown held (known (length done) row_change head.below)

-- one entry more is written down
pub taken_more : (before entries : List Entry) (done : List RowChange) (entry : Entry) (row_change : RowChange) (rest : List Entry) → drop (length done) entries ≡ entry ∷ rest → (before ++ take (length done) entries) ++ entry ∷ [] ≡ before ++ take (length (done ++ row_change ∷ [])) entries
taken_more before entries done entry row_change rest is =
    let head = head_at entries (length done) entry rest is in
    let prefix : take (length done + 1) entries ≡ take (length done) entries ++ entry ∷ [] =
    take_more entries (length done) entry head.below ∙ ap (λ (e : Entry). take (length done) entries ++ e ∷ []) head.here in
    append_assoc before (take (length done) entries) (entry ∷ [])
    ∙ ap (λ (l : List Entry). before ++ l) (sym prefix)
    ∙ ap (λ (n : ℕ). before ++ take n entries) (sym (length-append done (row_change ∷ [])))

pub rest_more : (entries : List Entry) (done : List RowChange) (entry : Entry) (row_change : RowChange) (rest : List Entry) → drop (length done) entries ≡ entry ∷ rest → rest ≡ drop (length (done ++ row_change ∷ [])) entries
rest_more entries done entry row_change rest is =
    sym ((head_at entries (length done) entry rest is).suffix) ∙ ap (λ (n : ℕ). drop n entries) (sym (length-append done (row_change ∷ [])))
