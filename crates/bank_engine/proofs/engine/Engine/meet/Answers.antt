use Rattle.std.proofs.Common.{◌∙◌}
use Rattle.std.specs.Option.{option_map}
use Rattle.bank_engine.specs.Pending.{pending_of}
use Rattle.bank_engine.proofs.EngineLemmas.{ready_same, view_same}
use Rattle.bank_engine.proofs.engine.Engine.meet.Goals as goal

pub invariant_of-self : goal.invariant_of-self
invariant_of-self g c =
    ready_same c.self.inside.book c.meet.new.self c.self.inside.pending c.meet.ensures.setup c.meet.ensures.state c.meet.ensures.room c.self.invariant

pub returns-clause-same : goal.returns-clause-same
returns-clause-same g c =
    view_same c.self.inside.book c.meet.new.self (option_map pending_of c.self.inside.pending) c.meet.ensures.setup c.meet.ensures.state c.meet.ensures.tables c.meet.ensures.room
    ∙ c.self.view_is
