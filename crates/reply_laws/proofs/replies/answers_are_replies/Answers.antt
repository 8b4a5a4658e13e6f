use Rattle.bank_model.specs.Rules.{opening_state}
use Rattle.bank_invariants.specs.Runs.{after_all}
use Rattle.reply_laws.proofs.SoundReplies.{poll_sound}
use Rattle.reply_laws.proofs.Runs.{reported_run, run_answer}
use Rattle.reply_laws.proofs.replies.answers_are_replies.Goals as goal

pub returns-clause-file : goal.returns-clause-file
returns-clause-file c = λ setup run user at sent within legal moment known sound.
    run_answer setup run user at sent c.replies_read_back.ensures within legal moment known sound

pub returns-clause-poll : goal.returns-clause-poll
returns-clause-poll c = λ setup run user at sent within legal moment sound poll.
    c.replies_read_back.ensures _ (poll_sound setup (after_all setup opening_state run) user at sent within (reported_run setup run c.replies_read_back.ensures within legal) moment sound poll)
