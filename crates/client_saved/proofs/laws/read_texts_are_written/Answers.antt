use Rattle.client_saved.proofs.StateLaws.{read_was_saved}
use Rattle.client_saved.proofs.laws.read_texts_are_written.Goals as goal

pub returns : goal.returns
returns c = read_was_saved
