use Rattle.std.proofs.Common.{ap, ◌∙◌}
use Rattle.once_records.specs.Names.{UsedView}
use Rattle.once_records.proofs.UsedLemmas.{used_reordered, once_reordered}
use Rattle.once_records.proofs.used.Used.reserve.Goals as goal

pub invariant_of-self-2 : goal.invariant_of-self-2
invariant_of-self-2 c = once_reordered c.self.inside.next c.self.inside.held.entries c.reserve.new.self.entries c.reserve.ensures.entries.0 c.self.invariant

pub returns-clause-used : goal.returns-clause-used
returns-clause-used c =
    used_reordered c.self.inside.next c.self.inside.held.entries c.reserve.new.self.entries c.reserve.ensures.entries.0 c.self.invariant
    ∙ ap (λ (v : UsedView). v.used) c.self.view_is
