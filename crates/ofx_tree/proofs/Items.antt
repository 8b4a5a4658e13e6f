-- The items among nodes, one after the other.
use Rattle.std.proofs.Common.{◌≡◌, ℕ, ◌+◌, ◌-◌, ◌<◌, ◌≤◌, min, max, suc, zero, Bool, true, false, nat_lt, List, [], ◌∷◌, length, map, take, drop, get_or, refl, arith}
use Rattle.std.proofs.lemmas.Grind.{common_steps}
use Rattle.std.proofs.lemmas.Bool.{ltb-true, ltb-false}
use Rattle.std.proofs.lemmas.List.{take_min, take-map, drop-map, length-map}
use Rattle.ofx_types.specs.Nodes.{TagNode, items_from}
use Rattle.ofx_tape.specs.NodeView.{node_view}
use Rattle.ofx_tape.specs.declared.tape.Node.{Node}
use Rattle.ofx_tree.specs.ItemView.{item_view, items_at}

-- nodes before the second index are passed over
pass_one : (i until : ℕ) (n : TagNode) (ns : List TagNode) → i < until → items_from i until (n ∷ ns) ≡ items_from (i + 1) until ns
unfolding items_from
pass_one i until n ns h = let passed : nat_lt i until ≡ true = grind (arith, common_steps) in rw passed refl

-- and none is where that index isn't ahead
pass_none : (i until : ℕ) (ns : List TagNode) → until ≤ i → items_from i until ns ≡ items_from i i ns
unfolding items_from
pass_none i until [] h = refl
pass_none i until (n ∷ ns) h =
    let ahead : nat_lt i until ≡ false = grind (arith, common_steps) in
    let here : nat_lt i i ≡ false = grind (arith, common_steps) in
    rw (ahead, here) refl

pass_tested : (i until : ℕ) (n : TagNode) (ns : List TagNode) (ahead : Bool) → nat_lt i until ≡ ahead
    → ((k : ℕ) → k ≡ min (until - (i + 1)) (length ns) → items_from (i + 1) until ns ≡ items_from (i + 1 + k) (i + 1 + k) (drop k ns))
    → (k : ℕ) → k ≡ min (until - i) (suc (length ns)) → items_from i until (n ∷ ns) ≡ items_from (i + k) (i + k) (drop k (n ∷ ns))
pass_tested i until n ns true h rest zero e = absurd (omega (arith, ltb-true i until h))
pass_tested i until n ns true h rest (suc k) e =
    let ahead : i < until = ltb-true i until h in
    let same : i + suc k ≡ i + 1 + k = omega arith in
    rw (pass_one i until n ns ahead, same) (rest k (omega arith))
pass_tested i until n ns false h rest k e =
    let suffix : until ≤ i = ltb-false i until h in
    let none : k ≡ 0 = omega arith in
    let same : i + 0 ≡ i = omega arith in
    rw (none, same) (pass_none i until (n ∷ ns) suffix)

-- to pass over nodes one by one is to drop them
pass_all : (i until : ℕ) (ns : List TagNode) (k : ℕ) → k ≡ min (until - i) (length ns) → items_from i until ns ≡ items_from (i + k) (i + k) (drop k ns)
unfolding items_from
pass_all i until [] k e = let none : k ≡ 0 = omega arith in rw none refl
pass_all i until (n ∷ ns) k e = pass_tested i until n ns (nat_lt i until) refl (λ j f. pass_all (i + 1) until ns j f) k e

-- the first item of nodes, and those after it
pub first_of : (i k : ℕ) (n : TagNode) (ns : List TagNode) → k ≡ min (n.after - (i + 1)) (length ns)
    → items_from i i (n ∷ ns) ≡ record { node = n; first = i + 1; inner = take k ns } ∷ items_from (i + 1 + k) (i + 1 + k) (drop k ns)
unfolding items_from
first_of i k n ns e =
    let here : nat_lt i i ≡ false = grind (arith, common_steps) in
    rw (here, e, take_min, ← e, pass_all (i + 1) n.after ns k e) refl

first_after : (i k : ℕ) (n : Node) (ns : List Node) → k ≡ min (n.after - (i + 1)) (length ns)
    → items_at i (n ∷ ns) ≡ item_view n (i + 1) (take k ns) ∷ items_at (i + 1 + k) (drop k ns)
first_after i k n ns e =
    rw (first_of i k (node_view n) (map node_view ns) (rw length-map e), take-map, drop-map) refl

pub first_item : (i left size : ℕ) (nodes : List Node) (e d : Node) → 0 < length nodes
    → left ≡ (get_or nodes 0 e).after - i → size ≡ max 1 (min left (length nodes))
    → items_at i nodes ≡ item_view (get_or nodes 0 d) (i + 1) (take (size - 1) (drop 1 nodes)) ∷ items_at (i + size) (drop size nodes)
first_item i left size [] e d h l s = absurd (omega arith)
first_item i left zero (n ∷ ns) e d h l s = absurd (omega arith)
first_item i left (suc k) (n ∷ ns) e d h l s =
    let same : i + suc k ≡ i + 1 + k = omega arith in
    let less : suc k - 1 ≡ k = omega arith in
    rw (same, less) (first_after i k n ns (omega arith))

-- no nodes, no items
pub no_items : (i : ℕ) (nodes : List Node) → length nodes ≡ 0 → items_at i nodes ≡ []
unfolding items_from
no_items i [] h = refl
no_items i (n ∷ ns) h = absurd (omega arith)
