use Rattle.register_run.proofs.BadFiles.{bad_form}
use Rattle.register_run.proofs.SpelledLines.{spelled_lines}
use Rattle.register_run.proofs.importing.import_file.Goals as goal

pub import_reply-requires : goal.import_reply-requires
import_reply-requires c = spelled_lines c.args.bytes.now c.in-Ok.reply c.in-Ok.ensures.reply

pub returns-in-Err-Form : goal.returns-in-Err-Form
returns-in-Err-Form c =
    bad_form c.args.register.now c.args.bytes.now c.in-Err-Form.at c.bad_line-in-Err-Form.result (rw c.in-Err-Form.field-0-is at c.in-Err-Form.ensures.reply)
    c.bad_line-in-Err-Form.ensures
