use Rattle.bank_replay.proofs.RunLemmas.{are_runs, runs_reopen}
use Rattle.bank_replay.proofs.laws.reopenings_are_runs.Goals as goal

pub returns-clause-run : goal.returns-clause-run
returns-clause-run c = are_runs

pub returns-clause-back : goal.returns-clause-back
returns-clause-back c = runs_reopen
