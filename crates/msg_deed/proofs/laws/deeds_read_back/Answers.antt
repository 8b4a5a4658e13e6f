use Rattle.msg_deed.proofs.Lawful.{deeds_lawful}
use Rattle.msg_deed.proofs.DeedsBack.{deeds_back}
use Rattle.msg_deed.proofs.DeedsAlone.{deeds_alone}
use Rattle.msg_deed.proofs.laws.deeds_read_back.Goals as goal

pub returns : goal.returns
returns c =
    let written = c.deeds_are_documents.ensures in
    record { written = written; lawful = deeds_lawful; read = deeds_back; alone = deeds_alone written }
