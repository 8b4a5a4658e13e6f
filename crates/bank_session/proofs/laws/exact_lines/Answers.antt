use Rattle.bank_session.proofs.LineLemmas.{where_answered, where_polled, where_denied, where_refused, only_where_refused}
use Rattle.bank_session.proofs.laws.exact_lines.Goals as goal

pub returns-clause-answered : goal.returns-clause-answered
returns-clause-answered c = where_answered c.one_file.ensures c.one_refusal.ensures.unanswered c.one_signon.ensures

pub returns-clause-polled : goal.returns-clause-polled
returns-clause-polled c = where_polled c.one_file.ensures c.one_refusal.ensures.unanswered c.one_signon.ensures

pub returns-clause-denied : goal.returns-clause-denied
returns-clause-denied c = where_denied c.one_file.ensures c.one_refusal.ensures.undenied c.one_signon.ensures

pub returns-clause-refused : goal.returns-clause-refused
returns-clause-refused c = where_refused c.one_refusal.ensures.offset c.one_refusal.ensures.unanswered c.one_refusal.ensures.undenied

pub returns-clause-only : goal.returns-clause-only
returns-clause-only c = only_where_refused
