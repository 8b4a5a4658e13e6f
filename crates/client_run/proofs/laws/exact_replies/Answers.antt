use Rattle.client_run.proofs.Replied.{whole_replies, unfinished_replies, bad_heads}
use Rattle.client_run.proofs.laws.exact_replies.Goals as goal

pub returns-clause-whole : goal.returns-clause-whole
returns-clause-whole c = whole_replies c.one_head.ensures.responses c.heads_stay.ensures.responses c.bad_heads_stay.ensures.responses

pub returns-clause-unfinished : goal.returns-clause-unfinished
returns-clause-unfinished c = unfinished_replies c.one_head.ensures.responses c.heads_stay.ensures.responses c.bad_heads_stay.ensures.responses

pub returns-clause-bad : goal.returns-clause-bad
returns-clause-bad c = bad_heads c.one_head.ensures.responses c.heads_stay.ensures.responses c.bad_heads_stay.ensures.responses
