use Rattle.bank_session.proofs.MailLemmas.{body_found, body_at_end, body_fits, body_refused}
use Rattle.bank_session.proofs.body.read_body.Goals as goal

pub returns-in-Ok-clause-fits : goal.returns-in-Ok-clause-fits
returns-in-Ok-clause-fits g c = body_fits _ c.body_of.result (rw c.bytes.ensures.bytes at c.body_of.ensures)

pub returns-in-Ok-clause-found : goal.returns-in-Ok-clause-found
returns-in-Ok-clause-found g c =
    body_found (g.B.Source.left c.args.input.now) (g.B.Source.left c.read_whole.new.source) c.read_whole.new.ahead c.body_of.result (rw c.in_ok-ahead.ensures at c.read_whole.ensures.kept) c.in-Ok.ensures.whole (rw c.bytes.ensures.bytes at c.body_of.ensures)

pub returns-in-Ok-clause-at_end : goal.returns-in-Ok-clause-at_end
returns-in-Ok-clause-at_end g c =
    body_at_end (g.B.Source.left c.read_whole.new.source) c.read_whole.new.ahead c.body_of.result c.in-Ok.ensures.whole (rw c.bytes.ensures.bytes at c.body_of.ensures)

pub returns-in-Ok-clause-refused : goal.returns-in-Ok-clause-refused
returns-in-Ok-clause-refused g c =
    body_refused (g.B.Source.left c.args.input.now) (g.B.Source.left c.read_whole.new.source) _ _ c.read_whole.new.ahead c.body_of.result (rw c.in_ok-ahead.ensures at c.read_whole.ensures.kept) c.in-Ok.ensures.whole (rw c.bytes.ensures.bytes at c.body_of.ensures)
