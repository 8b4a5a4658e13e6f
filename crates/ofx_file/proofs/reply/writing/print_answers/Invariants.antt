use Rattle.std.proofs.Common.{◌≡◌, ◌++◌, take}
use Rattle.std.specs.List.{flat_map}
use Rattle.ofx_file.specs.MessageSets.{answer_text_in}
use Rattle.ofx_file.proofs.reply.writing.print_answers.Given as goal

-- those of the answers so far that are in the message set are appended
abbrev pub invariant-loop-answer : goal.invariant-loop-answer
invariant-loop-answer l = l.sheet ≡ l.fn.sheet ++ flat_map (answer_text_in l.set) (take l.answer-index l.answers)
