use Rattle.share_tests.proofs.callers.callers_take_turns_at_one_bank.Given as goal

-- the calls are those of the bank that has opened
abbrev pub ghosts-reported_by_turns : goal.ghosts-reported_by_turns
ghosts-reported_by_turns g a = record { setup = a.opened.setup; opening = a.opened.state; first = a.opened.opened; board = a.opened.board; tables = a.opened.tables }
