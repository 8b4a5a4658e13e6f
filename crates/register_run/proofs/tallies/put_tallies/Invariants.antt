use Rattle.std.proofs.Common.{◌≡◌, ◌≤◌, ◌+◌, ◌*◌, ◌++◌, drop}
use Rattle.std.specs.Prelude.{unsigned_abs}
use Rattle.std.specs.List.{flat_map}
use Rattle.register_run.specs.Lines.{account_line}
use Rattle.register_run.specs.Accounts.{tallies_from}
use Rattle.register_run.proofs.tallies.put_tallies.Given as goal

-- what is appended, with the lines of the tally and of those after it
abbrev pub invariant-loop-line : goal.invariant-loop-line
invariant-loop-line l = record {
  rest : l.out.items ++ flat_map account_line (tallies_from l.tally (drop l.line-index l.lines)) ≡ l.fn.out.items ++ flat_map account_line (tallies_from l.fn.first l.lines);
  count : l.tally.count ≤ l.line-index + 1;
  small : unsigned_abs l.tally.sum.0 ≤ l.tally.count * 9999999999999;
}
