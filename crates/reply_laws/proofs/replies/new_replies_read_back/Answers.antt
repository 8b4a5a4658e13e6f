use Rattle.reply_laws.proofs.SoundReplies.{new_sound, new_answer}
use Rattle.reply_laws.proofs.replies.new_replies_read_back.Goals as goal

pub returns-clause-answer : goal.returns-clause-answer
returns-clause-answer c = new_answer

pub returns-clause-back : goal.returns-clause-back
returns-clause-back c = λ setup S user at sent within present reportable moment known sound.
    c.replies_read_back.ensures _ (new_sound setup S user at sent within present reportable moment known sound)
