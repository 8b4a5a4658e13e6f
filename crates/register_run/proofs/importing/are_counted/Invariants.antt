use Rattle.std.proofs.Common.{◌≡◌, ◌+◌, length, take}
use Rattle.std.specs.List.{flat_map}
use Rattle.file_register.specs.Lines.{lines_in}
use Rattle.register_run.proofs.importing.are_counted.Given as goal

-- the lines so far, and how many more there may be
abbrev pub invariant-loop-answer : goal.invariant-loop-answer
invariant-loop-answer l = record {
  counted : length (flat_map lines_in (take l.answer-index l.answer-items)) + l.left ≡ 4294967295;
  items : l.answer-items ≡ l.reply.replies;
}
