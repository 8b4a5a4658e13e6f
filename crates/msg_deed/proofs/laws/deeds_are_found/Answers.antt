use Rattle.msg_deed.proofs.Deeds.{deed_again, deed_found}
use Rattle.msg_deed.proofs.laws.deeds_are_found.Goals as goal

pub returns : goal.returns
returns c = λ item trnuid deed. (deed_again item trnuid deed, deed_found item trnuid deed)
