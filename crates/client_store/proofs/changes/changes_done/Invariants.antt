use Rattle.std.proofs.Common.{◌≡◌, take}
use Rattle.std.specs.List.{flat_map}
use Rattle.bank_model.specs.Stores.{change_done}
use Rattle.client_store.proofs.changes.changes_done.Given as goal

abbrev pub invariant-loop-reply : goal.invariant-loop-reply
invariant-loop-reply l = l.changes.items ≡ flat_map change_done (take l.reply-index l.replies)
