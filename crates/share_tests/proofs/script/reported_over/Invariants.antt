use Rattle.share_tests.proofs.script.reported_over.Given as goal

-- the calls are those of the bank that has opened
abbrev pub ghosts-reported : goal.ghosts-reported
ghosts-reported g a = record { setup = a.opened.setup; opening = a.opened.state; first = a.opened.opened; board = a.opened.board; tables = a.opened.tables }
