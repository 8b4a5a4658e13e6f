use Rattle.msg_mail.proofs.SignonReplies.{signon_reply_again, signon_reply_found}
use Rattle.msg_mail.proofs.laws.signon_replies_are_found.Goals as goal

pub returns : goal.returns
returns c =
    let statuses = c.statuses_are_found.ensures in
    λ sonrs code moment. (signon_reply_again statuses sonrs code moment, signon_reply_found statuses sonrs code moment)
