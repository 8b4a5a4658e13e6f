use Rattle.reply_laws.proofs.SpelledFiles.{spelled_signon}
use Rattle.reply_laws.proofs.requests.spelled_files_have_signons.Goals as goal

pub returns : goal.returns
returns c = spelled_signon
