use Rattle.bank_frames.proofs.Agreement.{unfinished, some_bytes}
use Rattle.bank_frames.proofs.frames.prefix_of.Goals as goal

pub returns-in-NoHead : goal.returns-in-NoHead
returns-in-NoHead c = (some_bytes c.args.ahead.now c.in-NoHead.ensures, c.in-NoHead.ensures)

pub returns-then-ahead-size : goal.returns-then-ahead-size
returns-then-ahead-size c = unfinished c.args.ahead.now c.in-File.size c.in-File.ensures c.if-ahead-size.true
