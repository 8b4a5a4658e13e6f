-- The faults of named children have offsets among the nodes.
use Rattle.std.proofs.Common.{ℕ, zero, suc, ◌+◌, ◌-◌, ◌≤◌, Bool, true, false, cond, nat_lt, ℤ, List, [], ◌∷◌, take, Option, None, Some, Result, Ok, Err, codes}
use Rattle.std.specs.List.{AllByRecursion}
use Rattle.std.specs.Option.{IfSome}
use Rattle.std.specs.Str.{bytes_eq}
use Rattle.ofx_types.specs.ValueForm.{value_of}
use Rattle.ofx_types.specs.Nodes.{TagNode, Item, items_from, children}
use Rattle.ofx_types.specs.AmountReading.{amount_at}
use Rattle.ofx_types.specs.DateReading.{moment_at}
use Rattle.ofx_types.specs.NumberReading.{number_at}
use Rattle.ofx_types.specs.FormWords.{◌>>=◌, named, named_one_of, only_of, one, one_of, if_any, maybe, is_text_within, text_at, text_in, flag_at, flag_in, flag_if_any, maybe_flag_in, amount_or, amount_in, moment_or, moment_of, moment_in, moment_if_any, maybe_moment_in, number_or, number_in, id_in, id_if_any, maybe_id_in}
use Rattle.ofx_types.specs.declared.fault.TreeFault.{TreeFault}
use Rattle.ofx_tree.specs.Located.{Holds, Any, AreWithin, IsWithin}
use Rattle.ofx_tree.proofs.Chosen.{all_chosen, all_filtered}

pub bound : {A B : Type 0} (most : ℕ) (P : A → Type 0) (Q : B → Type 0) (r : Result A TreeFault) (f : A → Result B TreeFault) →
    Holds most P r → ((x : A) → P x → Holds most Q (f x)) → Holds most Q (r >>= f)
bound most P Q (Ok x) f h next = next x h
bound most P Q (Err e) f h next = h

pub either : {A : Type 0} (most : ℕ) (P : A → Type 0) (b : Bool) (r s : Result A TreeFault) → Holds most P r → Holds most P s → Holds most P (cond b r s)
either most P true r s h i = h
either most P false r s h i = i

-- ---- items of which every node occurs at most at an offset

pub AreWithin-take : (most k : ℕ) (nodes : List TagNode) → AreWithin most nodes → AreWithin most (take k nodes)
AreWithin-take most zero nodes h = tt
AreWithin-take most (suc k) [] h = tt
AreWithin-take most (suc k) (n ∷ nodes) (h, more) = (h, AreWithin-take most k nodes more)

pub items_within : (most index until : ℕ) (nodes : List TagNode) → AreWithin most nodes → AllByRecursion (IsWithin most) (items_from index until nodes)
unfolding items_from
items_within most index until [] h = tt
items_within most index until (n ∷ nodes) (h, more) =
    all_chosen (IsWithin most) (nat_lt index until) _ _
    (items_within most (index + 1) until nodes more)
    (record { offset = h; inner = AreWithin-take most (n.after - (index + 1)) nodes more }, items_within most (index + 1) n.after nodes more)

pub children_within : (most : ℕ) (item : Item) → IsWithin most item → AllByRecursion (IsWithin most) (children item)
children_within most item h = items_within most item.first item.first item.inner h.inner

pub named_within : (most : ℕ) (name : List ℕ) (item : Item) → IsWithin most item → AllByRecursion (IsWithin most) (named name item)
named_within most name item h = all_filtered (IsWithin most) _ (children item) (children_within most item h)

named_one_of_within : (most : ℕ) (names : List (List ℕ)) (item : Item) → IsWithin most item → AllByRecursion (IsWithin most) (named_one_of names item)
named_one_of_within most names item h = all_filtered (IsWithin most) _ (children item) (children_within most item h)

-- ---- named children

pub only_within : (most offset : ℕ) (items : List Item) → offset ≤ most → AllByRecursion (IsWithin most) items → Holds most (IsWithin most) (only_of offset items)
only_within most offset [] h i = h
only_within most offset (child ∷ []) h i = i.0
only_within most offset (child ∷ second ∷ more) h i = i.1.0.offset

pub one_within : (most : ℕ) (name : List ℕ) (item : Item) → IsWithin most item → Holds most (IsWithin most) (one name item)
one_within most name item h = only_within most item.node.offset (named name item) h.offset (named_within most name item h)

pub one_of_within : (most : ℕ) (names : List (List ℕ)) (item : Item) → IsWithin most item → Holds most (IsWithin most) (one_of names item)
one_of_within most names item h = only_within most item.node.offset (named_one_of names item) h.offset (named_one_of_within most names item h)

pub any_within : (most : ℕ) (items : List Item) → AllByRecursion (IsWithin most) items → Holds most (λ found. IfSome found (IsWithin most)) (if_any items)
any_within most [] i = tt
any_within most (child ∷ []) i = i.0
any_within most (child ∷ second ∷ more) i = i.1.0.offset

pub maybe_within : (most : ℕ) (name : List ℕ) (item : Item) → IsWithin most item → Holds most (λ found. IfSome found (IsWithin most)) (maybe name item)
maybe_within most name item h = any_within most (named name item) (named_within most name item h)

pub text_within : (most : ℕ) (name : List ℕ) (limit : ℕ) (item : Item) → IsWithin most item → Holds most Any (text_in name limit item)
unfolding text_in
text_within most name limit item h =
    bound most (IsWithin most) Any (one name item) _ (one_within most name item h)
    (λ child i. either most Any (is_text_within limit (value_of child.node.text)) _ _ tt i.offset)

flag_at_within : (most : ℕ) (item : Item) → IsWithin most item → Holds most Any (flag_at item.node)
flag_at_within most item i =
    either most Any (bytes_eq (value_of item.node.text) (codes "Y")) _ _ tt (either most Any (bytes_eq (value_of item.node.text) (codes "N")) _ _ tt i.offset)

flag_if_any_within : (most : ℕ) (found : Option Item) → IfSome found (IsWithin most) → Holds most Any (flag_if_any found)
flag_if_any_within most None h = tt
flag_if_any_within most (Some child) h = flag_at_within most child h

pub maybe_flag_within : (most : ℕ) (name : List ℕ) (item : Item) → IsWithin most item → Holds most Any (maybe_flag_in name item)
unfolding maybe_flag_in
maybe_flag_within most name item h =
    bound most (λ found. IfSome found (IsWithin most)) Any (maybe name item) flag_if_any (maybe_within most name item h)
    (λ found i. flag_if_any_within most found i)

pub flag_within : (most : ℕ) (name : List ℕ) (item : Item) → IsWithin most item → Holds most Any (flag_in name item)
unfolding flag_in
flag_within most name item h =
    bound most (IsWithin most) Any (one name item) _ (one_within most name item h)
    (λ child i. flag_at_within most child i)

amount_or_within : (most offset : ℕ) (o : Option ℤ) → offset ≤ most → Holds most Any (amount_or offset o)
amount_or_within most offset None h = h
amount_or_within most offset (Some cents) h = tt

pub amount_within : (most : ℕ) (name : List ℕ) (item : Item) → IsWithin most item → Holds most Any (amount_in name item)
unfolding amount_in
amount_within most name item h =
    bound most (IsWithin most) Any (one name item) _ (one_within most name item h)
    (λ child i. amount_or_within most child.node.offset (amount_at (value_of child.node.text)) i.offset)

moment_or_within : (most offset : ℕ) (o : Option ℤ) → offset ≤ most → Holds most Any (moment_or offset o)
moment_or_within most offset None h = h
moment_or_within most offset (Some seconds) h = tt

moment_of_within : (most : ℕ) (item : Item) → IsWithin most item → Holds most Any (moment_of item.node)
moment_of_within most item i = moment_or_within most item.node.offset (moment_at (value_of item.node.text)) i.offset

pub moment_within : (most : ℕ) (name : List ℕ) (item : Item) → IsWithin most item → Holds most Any (moment_in name item)
unfolding moment_in
moment_within most name item h =
    bound most (IsWithin most) Any (one name item) _ (one_within most name item h) (λ child i. moment_of_within most child i)

if_any_within : (most : ℕ) (found : Option Item) → IfSome found (IsWithin most) → Holds most Any (moment_if_any found)
if_any_within most None h = tt
if_any_within most (Some child) h =
    bound most Any Any (moment_of child.node) (λ moment. Ok (Some moment)) (moment_of_within most child h) (λ moment _. tt)

pub maybe_moment_within : (most : ℕ) (name : List ℕ) (item : Item) → IsWithin most item → Holds most Any (maybe_moment_in name item)
unfolding maybe_moment_in
maybe_moment_within most name item h =
    bound most (λ found. IfSome found (IsWithin most)) Any (maybe name item) moment_if_any (maybe_within most name item h)
    (λ found i. if_any_within most found i)

pub number_or_within : (most offset : ℕ) (o : Option ℕ) → offset ≤ most → Holds most Any (number_or offset o)
number_or_within most offset None h = h
number_or_within most offset (Some n) h = tt

pub number_within : (most : ℕ) (name : List ℕ) (limit : ℕ) (item : Item) → IsWithin most item → Holds most Any (number_in name limit item)
unfolding number_in
number_within most name limit item h =
    bound most (IsWithin most) Any (one name item) _ (one_within most name item h)
    (λ child i. number_or_within most child.node.offset (number_at limit (value_of child.node.text)) i.offset)

pub id_within : (most : ℕ) (name : List ℕ) (item : Item) → IsWithin most item → Holds most Any (id_in name item)
unfolding id_in
id_within most name item h = bound most Any Any (text_in name 64 item) _ (text_within most name 64 item h) (λ text _. tt)

id_if_any_within : (most : ℕ) (found : Option Item) → IfSome found (IsWithin most) → Holds most Any (id_if_any found)
id_if_any_within most None h = tt
id_if_any_within most (Some child) h =
    bound most Any Any (text_at 64 child.node) _ (either most Any (is_text_within 64 (value_of child.node.text)) _ _ tt h.offset) (λ text _. tt)

pub maybe_id_within : (most : ℕ) (name : List ℕ) (item : Item) → IsWithin most item → Holds most Any (maybe_id_in name item)
unfolding maybe_id_in
maybe_id_within most name item h =
    bound most (λ found. IfSome found (IsWithin most)) Any (maybe name item) id_if_any (maybe_within most name item h)
    (λ found i. id_if_any_within most found i)
