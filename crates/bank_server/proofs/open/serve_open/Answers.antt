use Rattle.bank_server.proofs.open.serve_open.Goals as goal

pub returns-in-Ok-clause-unread : goal.returns-in-Ok-clause-unread
returns-in-Ok-clause-unread g c usage = absurd (usage c.in-Some.plan c.in-Some.ensures)
