use Rattle.std.proofs.Common.{refl}
use Rattle.bank_server.specs.Opening.{outside}
use Rattle.bank_server.proofs.Opens.{not_opened}
use Rattle.bank_server.proofs.open.open_shared.Goals as goal

pub returns-in-Err-open-clause-refused : goal.returns-in-Err-open-clause-refused
returns-in-Err-open-clause-refused g c =
    not_opened c.one_setup.ensures c.one_bank.ensures
    (outside (g.A.Source.left c.args.setup.now) (g.A.Source.faults c.args.setup.now) (g.K.Keeper.records c.args.keeper) (g.K.Keeper.faults c.args.keeper))
    (outside (g.A.Source.left c.read_setup.new.source) (g.A.Source.faults c.read_setup.new.source) (g.K.Keeper.records c.in-Err-open.keeper) (g.K.Keeper.faults c.in-Err-open.keeper))
    c.in-Ok.found c.in-Err-open.fault c.report_of_end-in-Err-open.result c.in-Ok.ensures.found
    (rw (c.report_of_end-in-Err-open.ensures, c.opening_stop.ensures) refl) c.in-Err-open.ensures.cause c.in-Err-open.ensures.failed
