use Rattle.bank_replay.proofs.Exactness.{opens_exactly, formless_exactly, illegal_exactly}
use Rattle.bank_replay.proofs.records.reopen.Goals as goal

pub returns-clause-opens : goal.returns-clause-opens
returns-clause-opens g c =
    opens_exactly c.one_opening.ensures c.causes_open_nothing.ensures.formless c.causes_open_nothing.ensures.illegal (λ opened. opened.0.state)
    c.args.setup (g.K.Keeper.records c.args.keeper.now) c.replay_all.result c.replay_all.ensures.holds c.replay_all.ensures.cause

pub returns-clause-formless : goal.returns-clause-formless
returns-clause-formless g c =
    formless_exactly c.causes_open_nothing.ensures.formless c.one_cause.ensures.formless c.one_cause.ensures.apart (λ opened. opened.0.state)
    c.args.setup (g.K.Keeper.records c.args.keeper.now) c.replay_all.result c.replay_all.ensures.holds c.replay_all.ensures.cause

pub returns-clause-illegal : goal.returns-clause-illegal
returns-clause-illegal g c =
    illegal_exactly c.causes_open_nothing.ensures.illegal c.one_cause.ensures.illegal c.one_cause.ensures.apart (λ opened. opened.0.state)
    c.args.setup (g.K.Keeper.records c.args.keeper.now) c.replay_all.result c.replay_all.ensures.holds c.replay_all.ensures.cause
