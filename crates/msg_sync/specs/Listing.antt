-- Forms that come one after the other among the children of an aggregate.
use Rattle.std.specs.Prelude.{ℕ, Bool, List, [], ◌∷◌, ◌++◌, Option, None, Some, Result, Ok, if◌then◌else◌}
use Rattle.ofx_types.specs.Nodes.{Item}
use Rattle.ofx_types.specs.FormWords.{◌>>=◌}
use Rattle.ofx_types.specs.MessageReading.{onto}
use Rattle.ofx_types.specs.declared.fault.TreeFault.{TreeFault}
use Rattle.ofx_tree.specs.Documents.{Documents, empty, branch}

-- ---- read

-- The forms of the children whose names are wanted, in the order of the file. The first fault is the answer, and other
-- children are skipped.
unfoldable pub forms_of : {M : Type 0} → (Item → Result M TreeFault) → (List ℕ → Bool) → List Item → Result (List M) TreeFault
forms_of read is_wanted [] = Ok []
forms_of read is_wanted (child ∷ more) =
    if is_wanted child.node.name then (read child >>= λ form. forms_of read is_wanted more >>= onto form)
    else forms_of read is_wanted more

-- the form that a child is, if it is one
abbrev pub some_form : {M : Type 0} → M → Result (Option M) TreeFault
some_form form = Ok (Some form)

unfoldable pub form_at : {M : Type 0} → (Item → Result M TreeFault) → (List ℕ → Bool) → Item → Result (Option M) TreeFault
form_at read is_wanted child = if is_wanted child.node.name then (read child >>= some_form) else Ok None

-- the forms that are read already, and those among the children still to come
abbrev pub joined : {M : Type 0} → List M → List M → Result (List M) TreeFault
joined prefix more = Ok (prefix ++ more)

unfoldable pub forms_after : {M : Type 0} → (Item → Result M TreeFault) → (List ℕ → Bool) → List M → List Item → Result (List M) TreeFault
forms_after read is_wanted prefix items = forms_of read is_wanted items >>= joined prefix

-- ---- written

-- The documents of values, a branch for each: its name, and what is in it.
abbrev pub branches : {X : Type 0} → (X → List ℕ) → (X → Documents) → List X → Documents
branches name_of inner_of [] = empty
branches name_of inner_of (x ∷ xs) = branch (name_of x) (inner_of x) (branches name_of inner_of xs)
