use Rattle.share_tests.proofs.two_users.no_poll_is_told_less_than_its_user_knows.Given as goal

-- the calls are those of the bank that has opened
abbrev pub ghosts-tokens_told : goal.ghosts-tokens_told
ghosts-tokens_told g a = record { setup = a.opened.setup; opening = a.opened.state; first = a.opened.opened; board = a.opened.board; tables = a.opened.tables }
