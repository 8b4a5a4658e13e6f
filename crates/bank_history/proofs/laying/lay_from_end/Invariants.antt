use Rattle.std.proofs.Common.{◌≡◌, ◌≤◌, reverse}
use Rattle.std.specs.Prelude.{vec_len, vec_capacity}
use Rattle.bank_history.specs.EntryTrace.{entries_of}
use Rattle.bank_history.specs.HistoryHeld.{IsLaidBefore}
use Rattle.bank_history.proofs.laying.lay_from_end.Given as goal

abbrev pub invariant-loop-laid : goal.invariant-loop-laid
invariant-loop-laid l = record {
  width : l.laid.objects.width ≡ l.fn.laid.objects.width;
  laid : IsLaidBefore l.laid (reverse l.recent.items) (entries_of l.past);
  len : vec_len l.recent ≤ vec_len l.fn.recent;
  capacity : vec_capacity l.recent ≡ vec_capacity l.fn.recent;
}

abbrev pub decreases-loop-laid : goal.decreases-loop-laid
decreases-loop-laid l = vec_len l.recent
