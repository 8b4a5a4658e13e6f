use Rattle.std.proofs.Common.{ap, ◌∙◌}
use Rattle.once_records.specs.Names.{RepliesView}
use Rattle.once_records.proofs.NameLemmas.{kept_reordered, numbered_reordered}
use Rattle.once_records.proofs.replies.Replies.reserve.Goals as goal

pub invariant_of-self-2 : goal.invariant_of-self-2
invariant_of-self-2 c = numbered_reordered c.self.inside.next c.self.inside.held.entries c.reserve.new.self.entries c.reserve.ensures.entries.0 c.self.invariant

pub returns-clause-kept : goal.returns-clause-kept
returns-clause-kept c =
    kept_reordered c.self.inside.next c.self.inside.held.entries c.reserve.new.self.entries c.reserve.ensures.entries.0 c.self.invariant
    ∙ ap (λ (v : RepliesView). v.kept) c.self.view_is
