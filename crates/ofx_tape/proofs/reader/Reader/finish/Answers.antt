use Rattle.ofx_tape.proofs.ReaderLaws.{read_whole, fault_at_end}
use Rattle.ofx_tape.proofs.reader.Reader.finish.Goals as goal

pub returns-then-has_ended : goal.returns-then-has_ended
returns-then-has_ended c = read_whole c.args.self c.requires c.if-has_ended.true

pub returns : goal.returns
returns c = fault_at_end c.args.self c.requires c.if-has_ended.false
