use Rattle.std.proofs.Common.{◌≡◌, ◌-◌, ◌≤◌, length}
use Rattle.event_codec.specs.AskReading.{pairs_from}
use Rattle.event_codec.proofs.Loops.{with_prefix}
use Rattle.event_codec.proofs.sync.pairs_from.Given as goal

abbrev pub invariant-loop : goal.invariant-loop
invariant-loop l = record {
  within : l.next ≤ length l.rec;
  read : with_prefix l.pairs (pairs_from (l.count - l.counter) l.family l.rec l.next) ≡ pairs_from l.count l.family l.rec l.at;
}
