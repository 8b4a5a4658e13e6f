use Rattle.std.proofs.Common.{◌≡◌, ◌∷◌, []}
use Rattle.ofx_tree.specs.NamedChildren.{present_as_one_of}
use Rattle.ofx_tree.proofs.children.Children.next_one_of.Given as goal

-- no child before those that are left is under one of the names
abbrev pub invariant-loop-child : goal.invariant-loop-child
invariant-loop-child l =
    present_as_one_of (l.first ∷ l.second ∷ l.third ∷ []) l.self ≡ present_as_one_of (l.first ∷ l.second ∷ l.third ∷ []) l.fn.self
