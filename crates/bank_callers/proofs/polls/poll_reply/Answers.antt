use Rattle.std.proofs.Common.{sym, subst}
use Rattle.ofx_types.specs.Printable.{IsPrintable}
use Rattle.bank_callers.proofs.Printing.{all_printable}
use Rattle.bank_callers.proofs.polls.poll_reply.Goals as goal

pub print-requires : goal.print-requires
print-requires g c = record {
  moment = c.requires.moment;
  replies = all_printable c.args.file.now.asks c.requires.reported.0 c.args.replies c.requires.reported.1;
}
