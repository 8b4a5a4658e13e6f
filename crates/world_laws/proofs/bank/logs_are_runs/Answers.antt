use Rattle.world_laws.proofs.JournalRuns.{logs_run}
use Rattle.world_laws.proofs.bank.logs_are_runs.Goals as goal

pub returns : goal.returns
returns c = logs_run c.sound_servers_go_on.ensures.fresh c.sound_servers_go_on.ensures.steps c.logs_reopen.ensures
