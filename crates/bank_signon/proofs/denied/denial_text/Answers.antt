use Rattle.bank_signon.proofs.Denials.{denial_printable}
use Rattle.bank_signon.proofs.denied.denial_text.Goals as goal

pub write_reply-requires : goal.write_reply-requires
write_reply-requires c = rw c.denial.ensures (denial_printable c.args.file c.args.at c.requires)
