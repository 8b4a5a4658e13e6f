use Rattle.bank_replay.specs.declared.fault.OpenFault.TheVariants.{Read}
use Rattle.bank_replay.proofs.Taking.{counts_done}
use Rattle.bank_desk.proofs.desk.Desk.open.Goals as goal

pub returns-clause-faults : goal.returns-clause-faults
returns-clause-faults g c =
    counts_done (g.K.Keeper.faults c.args.keeper.now) (g.K.Keeper.faults c.reopen.new.keeper) _ Read c.reopen.ensures.faults.later
