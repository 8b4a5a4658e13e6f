use Rattle.msg_deed.proofs.DeedReplies.{reply_again, reply_found}
use Rattle.msg_deed.proofs.laws.deed_replies_are_found.Goals as goal

pub returns : goal.returns
returns c = λ item reply. (reply_again item reply, reply_found item reply)
