use Rattle.http_front.proofs.WrittenLemmas.{reply_read, post_read}
use Rattle.http_front.proofs.laws.written_heads_are_read.Goals as goal

pub returns-clause-reply : goal.returns-clause-reply
returns-clause-reply c = reply_read

pub returns-clause-post : goal.returns-clause-post
returns-clause-post c = post_read
