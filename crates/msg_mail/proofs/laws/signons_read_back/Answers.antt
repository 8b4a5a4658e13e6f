use Rattle.msg_mail.proofs.SignonsBack.{signons_printed, signons_lawful, signons_back}
use Rattle.msg_mail.proofs.laws.signons_read_back.Goals as goal

pub returns : goal.returns
returns c = record { written = signons_printed; lawful = signons_lawful; read = signons_back }
