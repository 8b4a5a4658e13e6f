use Rattle.std.proofs.Common.{◌≡◌}
use Rattle.ofx_tree.specs.NamedChildren.{present}
use Rattle.ofx_tree.proofs.children.Children.next_named.Given as goal

-- no child before those that are left is under the name
abbrev pub invariant-loop-child : goal.invariant-loop-child
invariant-loop-child l = present l.name l.self ≡ present l.name l.fn.self
