use Rattle.std.proofs.Common.{◌≡◌, ◌-◌, ◌≤◌, false, length}
use Rattle.event_codec.specs.AskReading.{asks_from}
use Rattle.event_codec.proofs.Loops.{with_prefix}
use Rattle.event_codec.proofs.ask.asks_from.Given as goal

abbrev pub invariant-loop : goal.invariant-loop
invariant-loop l = record {
  within : l.next ≤ length l.rec;
  read : with_prefix l.asks (asks_from (l.count - l.counter) l.is_after_mail l.rec l.next) ≡ asks_from l.count false l.rec l.at;
}
