use Rattle.std.proofs.Common.{◌≡◌, ◌++◌, map, take}
use Rattle.ofx_types.specs.SyncForm.{object_family}
use Rattle.bank_model.specs.Sync.{refused_with}
use Rattle.bank_core.proofs.sync.refused_after.Given as goal

abbrev pub invariant-loop-deed : goal.invariant-loop-deed
invariant-loop-deed l = l.replies.items ≡ l.fn.reported.items ++ map (refused_with (object_family l.ask.object) l.code) (take l.deed-index l.ask.deeds)
