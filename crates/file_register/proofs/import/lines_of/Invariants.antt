use Rattle.std.proofs.Common.{◌≡◌, take}
use Rattle.std.specs.List.{flat_map}
use Rattle.file_register.specs.Lines.{lines_in}
use Rattle.file_register.proofs.import.lines_of.Given as goal

abbrev pub invariant-loop-answer : goal.invariant-loop-answer
invariant-loop-answer l = (l.out.items ≡ flat_map lines_in (take l.answer-index l.answer-items)) × (l.answer-items ≡ l.reply.replies)
