use Rattle.reply_laws.proofs.SoundReplies.{denial_sound}
use Rattle.reply_laws.proofs.replies.denials_read_back.Goals as goal

pub returns : goal.returns
returns c = λ sent at moment sound. c.replies_read_back.ensures _ (denial_sound sent at moment sound)
