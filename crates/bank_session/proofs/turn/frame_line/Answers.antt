use Rattle.bank_session.proofs.turn.frame_line.Goals as goal

pub returns-in-File-clause-line : goal.returns-in-File-clause-line
returns-in-File-clause-line g c = rw c.in-File.is c.file_line.ensures.line
