-- A wish is within bounds in one way.
use Rattle.std.proofs.Props.{props}
use Rattle.client_core.specs.declared.wish.Wish.{Wish}
use Rattle.client_core.specs.declared.wish.Wish.TheVariants as wishes
use Rattle.client_arguments.specs.Reading.{IsInBounds}

pub in_bounds_prop : (wish : Wish) → IsProp (IsInBounds wish)
in_bounds_prop (wishes.Sync account) = hlevel props
in_bounds_prop (wishes.Transfer info) = hlevel props
in_bounds_prop (wishes.Modify id to amount due) = hlevel props
in_bounds_prop (wishes.Cancel id) = hlevel props
in_bounds_prop (wishes.Repeat recur info) = hlevel props
in_bounds_prop (wishes.Stop id) = hlevel props
in_bounds_prop (wishes.Mail subject body) = hlevel props
in_bounds_prop (wishes.Check account) = hlevel props
in_bounds_prop wishes.Show = hlevel props
