-- How forms are read, one child after the other.
use Rattle.std.proofs.Common.{◌≡◌, ℕ, Bool, true, false, cond, List, [], ◌∷◌, ◌++◌, Option, None, option_to_list, Result, Ok, Err, refl, sym, ap, ◌∙◌, append_assoc}
use Rattle.std.proofs.lemmas.List.{append-nil}
use Rattle.ofx_types.specs.Nodes.{Item}
use Rattle.ofx_types.specs.FormWords.{◌>>=◌, FailsSo}
use Rattle.ofx_types.specs.MessageReading.{onto}
use Rattle.ofx_types.specs.declared.fault.TreeFault.{TreeFault}
use Rattle.ofx_types.specs.declared.fault.TreeFault.TheVariants.{Missing, Repeated, Value, OutOfMemory}
use Rattle.msg_sync.specs.Listing.{forms_of, some_form, form_at, joined, forms_after}

-- with no forms yet, all are still to come
pub forms_after-nil : {M : Type 0} (read : Item → Result M TreeFault) (is_wanted : List ℕ → Bool) (items : List Item) →
    forms_after read is_wanted [] items ≡ forms_of read is_wanted items
unfolding forms_after
forms_after-nil {M = M} read is_wanted items = unchanged (forms_of read is_wanted items)
  where
    unchanged : (r : Result (List M) TreeFault) → (r >>= joined []) ≡ r
    unchanged (Ok forms) = refl
    unchanged (Err e) = refl

-- where nothing is to come, the forms are those so far
pub forms_after-end : {M : Type 0} (read : Item → Result M TreeFault) (is_wanted : List ℕ → Bool) (prefix : List M) →
    forms_after read is_wanted prefix [] ≡ Ok prefix
unfolding forms_after forms_of
forms_after-end read is_wanted prefix = ap Ok (append-nil prefix)

next_child : {M : Type 0} (b : Bool) (s : Result M TreeFault) (m : Result (List M) TreeFault) (prefix : List M) →
    (cond b (s >>= λ form. m >>= onto form) m >>= joined prefix)
    ≡ (cond b (s >>= some_form) (Ok None) >>= λ found. m >>= joined (prefix ++ option_to_list found))
next_child true (Ok form) (Ok forms) prefix = ap Ok (sym (append_assoc prefix (form ∷ []) forms))
next_child true (Ok form) (Err f) prefix = refl
next_child true (Err f) m prefix = refl
next_child {M = M} false s (Ok forms) prefix = ap (λ (xs : List M). Ok (xs ++ forms)) (sym (append-nil prefix))
next_child false s (Err f) prefix = refl

forms_after-cons : {M : Type 0} (read : Item → Result M TreeFault) (is_wanted : List ℕ → Bool) (prefix : List M) (child : Item) (more : List Item) →
    forms_after read is_wanted prefix (child ∷ more)
    ≡ (form_at read is_wanted child >>= λ found. forms_after read is_wanted (prefix ++ option_to_list found) more)
unfolding forms_after forms_of form_at
forms_after-cons read is_wanted prefix child more = next_child (is_wanted child.node.name) (read child) (forms_of read is_wanted more) prefix

abbrev then : {M : Type 0} → (Item → Result M TreeFault) → (List ℕ → Bool) → List M → List Item → Result (Option M) TreeFault → Result (List M) TreeFault
then read is_wanted prefix more found = found >>= λ form. forms_after read is_wanted (prefix ++ option_to_list form) more

-- what a child is comes after the forms so far
pub forms_after-ok : {M : Type 0} (read : Item → Result M TreeFault) (is_wanted : List ℕ → Bool) (prefix : List M) (child : Item) (more : List Item) (found : Option M) →
    form_at read is_wanted child ≡ Ok found →
    forms_after read is_wanted prefix (child ∷ more) ≡ forms_after read is_wanted (prefix ++ option_to_list found) more
forms_after-ok read is_wanted prefix child more found h = forms_after-cons read is_wanted prefix child more ∙ ap (then read is_wanted prefix more) h

-- and its fault is that of all
pub forms_after-fails : {M : Type 0} (read : Item → Result M TreeFault) (is_wanted : List ℕ → Bool) (prefix : List M) (child : Item) (more : List Item) (fault : TreeFault) →
    FailsSo fault (form_at read is_wanted child) → FailsSo fault (forms_after read is_wanted prefix (child ∷ more))
forms_after-fails read is_wanted prefix child more (Missing at) h = forms_after-cons read is_wanted prefix child more ∙ ap (then read is_wanted prefix more) h
forms_after-fails read is_wanted prefix child more (Repeated at) h = forms_after-cons read is_wanted prefix child more ∙ ap (then read is_wanted prefix more) h
forms_after-fails read is_wanted prefix child more (Value at) h = forms_after-cons read is_wanted prefix child more ∙ ap (then read is_wanted prefix more) h
forms_after-fails read is_wanted prefix child more OutOfMemory h = tt

pub ruleset rest = (forms_after-nil, forms_after-end, forms_after-ok, forms_after-fails)
