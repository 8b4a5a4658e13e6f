use Rattle.serve_tests.proofs.connections.counters.over.Given as goal

-- the call is one of the bank that has opened
abbrev pub ghosts-served_by : goal.ghosts-served_by
ghosts-served_by g a = record { setup = a.opened.setup; opening = a.opened.state; first = a.opened.opened; board = a.opened.board; tables = a.opened.tables }
