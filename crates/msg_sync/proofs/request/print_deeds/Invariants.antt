use Rattle.std.proofs.Common.{◌≡◌, ◌++◌, take}
use Rattle.std.specs.List.{flat_map}
use Rattle.ofx_types.specs.PrintedSync.{transaction_text}
use Rattle.msg_sync.proofs.request.print_deeds.Given as goal

-- the deeds so far are appended
abbrev pub invariant-loop-deed : goal.invariant-loop-deed
invariant-loop-deed l = l.sheet ≡ l.fn.sheet ++ flat_map transaction_text (take l.deed-index l.deeds)
