use Rattle.msg_parts.proofs.PrintedDeeds.{deed_replies_printed}
use Rattle.msg_parts.proofs.laws.deed_replies_are_documents.Goals as goal

pub returns : goal.returns
returns c = deed_replies_printed
