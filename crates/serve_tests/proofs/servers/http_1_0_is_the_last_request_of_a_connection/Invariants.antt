use Rattle.serve_tests.proofs.servers.http_1_0_is_the_last_request_of_a_connection.Given as goal

-- the call is one of the bank that has opened
abbrev pub ghosts-connected : goal.ghosts-connected
ghosts-connected g a = record { setup = a.opened.setup; opening = a.opened.state; first = a.opened.opened; board = a.opened.board; tables = a.opened.tables }
