use Rattle.bank_engine.proofs.EngineLemmas.{nothing_asked}
use Rattle.ofx_world.proofs.Serving.{settles_so}
use Rattle.ofx_world.proofs.server.Server.settle.Goals as goal

pub settle-requires-clause-expected : goal.settle-requires-clause-expected
settle-requires-clause-expected c = nothing_asked c.self.inside.engine.setup c.self.inside.engine.state c.self.inside.engine.pending

pub returns-clause-settled : goal.returns-clause-settled
returns-clause-settled c =
    settles_so _ _ c.self.inside.keeper c.settle.new.keeper c.args.self.now c.in-Ok.field-0 c.self.view_is c.self.invariant c.in-Ok.ensures.settled c.in-Ok.ensures.idle c.in-Ok.ensures.settles
