use Rattle.client_laws.proofs.SpelledRows.{spelled_file}
use Rattle.client_laws.proofs.spelled.spelled_replies_are_sound.Goals as goal

pub returns : goal.returns
returns c = spelled_file
