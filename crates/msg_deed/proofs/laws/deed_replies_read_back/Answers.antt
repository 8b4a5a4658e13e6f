use Rattle.msg_deed.proofs.Lawful.{deed_replies_lawful}
use Rattle.msg_deed.proofs.DeedRepliesBack.{deed_replies_back}
use Rattle.msg_deed.proofs.DeedsAlone.{deed_replies_alone}
use Rattle.msg_deed.proofs.laws.deed_replies_read_back.Goals as goal

pub returns : goal.returns
returns c =
    let written = c.deed_replies_are_documents.ensures in
    record { written = written; lawful = deed_replies_lawful; read = deed_replies_back; alone = deed_replies_alone written }
