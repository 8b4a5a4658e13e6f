use Rattle.reply_laws.proofs.SoundReplies.{poll_sound}
use Rattle.reply_laws.proofs.replies.polls_read_back.Goals as goal

pub returns : goal.returns
returns c = λ setup S user at sent within reportable moment sound poll. c.replies_read_back.ensures _ (poll_sound setup S user at sent within reportable moment sound poll)
