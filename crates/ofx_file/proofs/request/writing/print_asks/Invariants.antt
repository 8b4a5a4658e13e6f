use Rattle.std.proofs.Common.{◌≡◌, ◌++◌, take}
use Rattle.std.specs.List.{flat_map}
use Rattle.ofx_file.specs.MessageSets.{text_in}
use Rattle.ofx_file.proofs.request.writing.print_asks.Given as goal

-- those of the asks so far that are in the message set are appended
abbrev pub invariant-loop-ask : goal.invariant-loop-ask
invariant-loop-ask l = l.sheet ≡ l.fn.sheet ++ flat_map (text_in l.set) (take l.ask-index l.asks)
