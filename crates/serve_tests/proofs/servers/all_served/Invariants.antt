use Rattle.serve_tests.proofs.servers.all_served.Given as goal

-- the workers are those of the bank that has opened
abbrev pub ghosts-serve_all : goal.ghosts-serve_all
ghosts-serve_all g a = record { setup = a.opened.setup; opening = a.opened.state; first = a.opened.opened; board = a.opened.board; tables = a.opened.tables }
