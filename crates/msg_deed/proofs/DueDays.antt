-- The moment of a due day lies in the years that are used.
use Rattle.std.proofs.Common.{◌≡◌, ℕ, List, Option, None, Some, Ok}
use Rattle.std.specs.Option.{IfSome}
use Rattle.ofx_types.specs.Calendar.{IsMoment}
use Rattle.ofx_types.specs.Nodes.{Item}
use Rattle.ofx_types.specs.FormWords.{maybe_moment_in, IsMaybeMomentIn}
use Rattle.ofx_types.specs.declared.number.Moment.{Moment}
use Rattle.ofx_tree.proofs.FormLaws.{maybe_moment_in_found}

holds_in_years : (name : List ℕ) (parent : Item) (moment : Option Moment) → IsMaybeMomentIn name parent moment → IfSome moment (λ (at : Moment). IsMoment at.0)
holds_in_years name parent None h = tt
holds_in_years name parent (Some moment) h = let holds = h.holds in holds.is_moment

pub is_moment_due : (name : List ℕ) (parent : Item) (moment : Option Moment) → maybe_moment_in name parent ≡ Ok moment → IfSome moment (λ (at : Moment). IsMoment at.0)
is_moment_due name parent moment h = holds_in_years name parent moment (maybe_moment_in_found name parent moment h)

pub ruleset due_moments = (is_moment_due)
