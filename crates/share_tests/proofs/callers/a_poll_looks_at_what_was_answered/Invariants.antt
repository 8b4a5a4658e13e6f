use Rattle.share_tests.proofs.callers.a_poll_looks_at_what_was_answered.Given as goal

-- the calls are those of the bank that has opened
abbrev pub ghosts-reported_while_pending : goal.ghosts-reported_while_pending
ghosts-reported_while_pending g a = record { setup = a.opened.setup; opening = a.opened.state; first = a.opened.opened; board = a.opened.board; tables = a.opened.tables }
