use Rattle.reply_laws.proofs.SoundFiles.{file_sound}
use Rattle.reply_laws.proofs.requests.requests_read_back.Goals as goal

pub returns : goal.returns
returns c = λ sent at sound signon. c.files_read_back.ensures sent at (file_sound sent at sound signon)
