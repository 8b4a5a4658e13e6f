use Rattle.msg_parts.proofs.PrintedDeeds.{deeds_printed}
use Rattle.msg_parts.proofs.laws.deeds_are_documents.Goals as goal

pub returns : goal.returns
returns c = deeds_printed
