use Rattle.msg_mail.proofs.Signons.{signon_again, signon_found}
use Rattle.msg_mail.proofs.laws.signons_are_found.Goals as goal

pub returns : goal.returns
returns c = λ sonrq user pass. (signon_again sonrq user pass, signon_found sonrq user pass)
