use Rattle.ofxbank.proofs.serve.served_over.Given as goal

-- the workers are those of the bank that has opened
abbrev pub ghosts-all_served : goal.ghosts-all_served
ghosts-all_served g a = record { setup = a.opened.setup; opening = a.opened.state; first = a.opened.opened; board = a.opened.board; tables = a.opened.tables }
