-- Forms one after the other stand exactly where they are read, their faults have offsets, and branches read back.
use Rattle.std.proofs.Common.{◌≡◌, ◌↔◌, ℕ, ◌+◌, Bool, true, false, cond, filter, List, [], ◌∷◌, ◌++◌, length, map, Result, Ok, refl, ap, subst, ◌∙◌}
use Rattle.std.specs.List.{AllZip, AllByRecursion, flat_map}
use Rattle.ofx_types.specs.Sheet as sheet
use Rattle.ofx_types.specs.Nodes.{Item}
use Rattle.ofx_types.specs.FormWords.{◌>>=◌}
use Rattle.ofx_types.specs.MessageReading.{onto}
use Rattle.ofx_types.specs.declared.fault.TreeFault.{TreeFault}
use Rattle.ofx_tree.specs.Located.{Holds, Any, IsWithin}
use Rattle.ofx_tree.specs.Documents.{Documents, branch, printed, AreLawful, branch_item, items_of}
use Rattle.ofx_tree.proofs.FormLaws.{bind_ok, bind_to, one_value}
use Rattle.ofx_tree.proofs.FormOffsets.{bound, either}
use Rattle.msg_sync.specs.Listing.{forms_of, branches}

-- ---- they stand exactly where they are read

-- Each child whose name is wanted has the form exactly where it is read.
abbrev pub AreRead : {M : Type 0} → (Item → M → Type 0) → (Item → Result M TreeFault) → (List ℕ → Bool) → Type 0
AreRead {M = M} IsForm read is_wanted =
    (item : Item) (form : M) → is_wanted item.node.name ≡ true → IsForm item form ↔ (read item ≡ Ok form)

-- the children whose names are wanted
abbrev pub wanted : (List ℕ → Bool) → List Item → List Item
wanted is_wanted items = filter (λ (child : Item). is_wanted child.node.name) items

found_next : {M : Type 0} (IsForm : Item → M → Type 0) (read : Item → Result M TreeFault) (b : Bool) (child : Item) (kept : List Item) (rest : Result (List M) TreeFault) (forms : List M) →
    (b ≡ true → (form : M) → read child ≡ Ok form → IsForm child form) → ((others : List M) → rest ≡ Ok others → AllZip IsForm kept others) →
    cond b (read child >>= λ form. rest >>= onto form) rest ≡ Ok forms → AllZip IsForm (cond b (child ∷ kept) kept) forms
found_next {M = M} IsForm read true child kept rest forms first next h =
    let form = bind_ok (read child) _ forms h in
    let others = bind_ok rest (onto form.0) forms form.2 in
    let P : List M → Type 0 = λ fs. AllZip IsForm (child ∷ kept) fs in
    subst P (one_value (onto form.0 others.0) (form.0 ∷ others.0) forms refl others.2) (first refl form.0 form.1, next others.0 others.1)
found_next IsForm read false child kept rest forms first next h = next forms h

pub forms_found : {M : Type 0} (IsForm : Item → M → Type 0) (read : Item → Result M TreeFault) (is_wanted : List ℕ → Bool) →
    AreRead IsForm read is_wanted →
    (items : List Item) (forms : List M) → forms_of read is_wanted items ≡ Ok forms → AllZip IsForm (wanted is_wanted items) forms
unfolding forms_of
forms_found {M = M} IsForm read is_wanted each [] forms h =
    let P : List M → Type 0 = λ fs. AllZip IsForm [] fs in subst P (one_value (Ok []) [] forms refl h) tt
forms_found IsForm read is_wanted each (child ∷ more) forms h =
    found_next IsForm read (is_wanted child.node.name) child (wanted is_wanted more) (forms_of read is_wanted more) forms
    (λ is form. (each child form is).1) (forms_found IsForm read is_wanted each more) h

again_next : {M : Type 0} (IsForm : Item → M → Type 0) (read : Item → Result M TreeFault) (b : Bool) (child : Item) (kept : List Item) (rest : Result (List M) TreeFault) (forms : List M) →
    (b ≡ true → (form : M) → IsForm child form → read child ≡ Ok form) → ((others : List M) → AllZip IsForm kept others → rest ≡ Ok others) →
    AllZip IsForm (cond b (child ∷ kept) kept) forms → cond b (read child >>= λ form. rest >>= onto form) rest ≡ Ok forms
again_next IsForm read true child kept rest [] first next h = absurd h
again_next IsForm read true child kept rest (form ∷ others) first next h =
    bind_to (read child) _ form (first refl form h.0) ∙ bind_to rest (onto form) others (next others h.1)
again_next IsForm read false child kept rest forms first next h = next forms h

none_left : {M : Type 0} (IsForm : Item → M → Type 0) (forms : List M) → AllZip IsForm [] forms → [] ≡ forms
none_left IsForm [] h = refl
none_left IsForm (form ∷ forms) h = absurd h

pub forms_again : {M : Type 0} (IsForm : Item → M → Type 0) (read : Item → Result M TreeFault) (is_wanted : List ℕ → Bool) →
    AreRead IsForm read is_wanted →
    (items : List Item) (forms : List M) → AllZip IsForm (wanted is_wanted items) forms → forms_of read is_wanted items ≡ Ok forms
unfolding forms_of
forms_again IsForm read is_wanted each [] forms h = ap Ok (none_left IsForm forms h)
forms_again IsForm read is_wanted each (child ∷ more) forms h =
    again_next IsForm read (is_wanted child.node.name) child (wanted is_wanted more) (forms_of read is_wanted more) forms
    (λ is form. (each child form is).0) (forms_again IsForm read is_wanted each more) h

-- ---- their faults have offsets

pub forms_within : {M : Type 0} (most : ℕ) (read : Item → Result M TreeFault) (is_wanted : List ℕ → Bool) →
    ((item : Item) → IsWithin most item → Holds most Any (read item)) →
    (items : List Item) → AllByRecursion (IsWithin most) items → Holds most Any (forms_of read is_wanted items)
unfolding forms_of
forms_within most read is_wanted each [] h = tt
forms_within most read is_wanted each (child ∷ more) (h, others) =
    either most Any (is_wanted child.node.name) _ _
    (bound most Any Any (read child) _ (each child h) (λ form _.
    bound most Any Any (forms_of read is_wanted more) _ (forms_within most read is_wanted each more others) (λ forms _. tt)))
    (forms_within most read is_wanted each more others)

-- ---- branches

-- What is printed of each is printed of all.
pub branches_printed : {X : Type 0} (name_of : X → List ℕ) (inner_of : X → Documents) (text_of : X → List ℕ) →
    ((x : X) (rest : Documents) → printed (branch (name_of x) (inner_of x) rest) ≡ text_of x ++ printed rest) →
    (xs : List X) → printed (branches name_of inner_of xs) ≡ flat_map text_of xs
branches_printed name_of inner_of text_of each [] = refl
branches_printed name_of inner_of text_of each (x ∷ xs) =
    each x (branches name_of inner_of xs) ∙ ap (λ (more : List ℕ). text_of x ++ more) (branches_printed name_of inner_of text_of each xs)

pub branches_lawful : {X : Type 0} (room : ℕ) (IsSound : X → Type 0) (name_of : X → List ℕ) (inner_of : X → Documents) →
    ((x : X) (rest : Documents) → IsSound x → AreLawful room rest → AreLawful room (branch (name_of x) (inner_of x) rest)) →
    (xs : List X) → AllByRecursion IsSound xs → AreLawful room (branches name_of inner_of xs)
branches_lawful room IsSound name_of inner_of each [] h = tt
branches_lawful room IsSound name_of inner_of each (x ∷ xs) (h, more) =
    each x (branches name_of inner_of xs) h (branches_lawful room IsSound name_of inner_of each xs more)

-- where their names are wanted, each is read from its branch
pub branches_read : {X M : Type 0} (IsSound : X → Type 0) (name_of : X → List ℕ) (inner_of : X → Documents) (read : Item → Result M TreeFault) (is_wanted : List ℕ → Bool) (value_of : X → M) →
    ((x : X) → IsSound x → is_wanted (name_of x) ≡ true) →
    ((offset index : ℕ) (x : X) → IsSound x → read (branch_item offset index (name_of x) (inner_of x)) ≡ Ok (value_of x)) →
    (offset index : ℕ) (xs : List X) → AllByRecursion IsSound xs →
    forms_of read is_wanted (items_of offset index (branches name_of inner_of xs)) ≡ Ok (map value_of xs)
unfolding forms_of
branches_read IsSound name_of inner_of read is_wanted value_of named reads offset index [] h = refl
branches_read IsSound name_of inner_of read is_wanted value_of named reads offset index (x ∷ xs) (h, more) =
    let is : is_wanted (name_of x) ≡ true = named x h in
    let item = branch_item offset index (name_of x) (inner_of x) in
    let next = offset + length (sheet.aggregate (name_of x) (printed (inner_of x))) in
    let rest = branches_read IsSound name_of inner_of read is_wanted value_of named reads next item.node.after xs more in
    rw is (bind_to (read item) _ (value_of x) (reads offset index x h) ∙ bind_to _ (onto (value_of x)) (map value_of xs) rest)

-- names that none of them has find nothing among them
pub branches_passed : {X : Type 0} (IsSound : X → Type 0) (name_of : X → List ℕ) (inner_of : X → Documents) (is_other : List ℕ → Bool) →
    ((x : X) → IsSound x → is_other (name_of x) ≡ false) →
    (offset index : ℕ) (xs : List X) → AllByRecursion IsSound xs → wanted is_other (items_of offset index (branches name_of inner_of xs)) ≡ []
branches_passed IsSound name_of inner_of is_other other offset index [] h = refl
branches_passed IsSound name_of inner_of is_other other offset index (x ∷ xs) (h, more) =
    let is : is_other (name_of x) ≡ false = other x h in
    let item = branch_item offset index (name_of x) (inner_of x) in
    let next = offset + length (sheet.aggregate (name_of x) (printed (inner_of x))) in
    rw is (branches_passed IsSound name_of inner_of is_other other next item.node.after xs more)
