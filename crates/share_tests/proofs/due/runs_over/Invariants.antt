use Rattle.share_tests.proofs.due.runs_over.Given as goal

-- the runs are those of the bank that has opened
abbrev pub ghosts-reported_of_runs : goal.ghosts-reported_of_runs
ghosts-reported_of_runs g a = record { setup = a.opened.setup; opening = a.opened.state; first = a.opened.opened; board = a.opened.board; tables = a.opened.tables }
