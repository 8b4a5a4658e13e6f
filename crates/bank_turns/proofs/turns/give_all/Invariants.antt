use Rattle.std.proofs.Common.{◌≡◌, length}
use Rattle.bank_accounts.specs.Sides.{AreOf}
use Rattle.bank_turns.specs.Taking.{turns_of}
use Rattle.bank_turns.proofs.turns.give_all.Given as goal

-- The turns that are left are those of the accounts that are.
abbrev pub invariant-loop-account : goal.invariant-loop-account
invariant-loop-account l = record {
  own : AreOf l.row.tables l.held;
  turns : l.turns.items ≡ turns_of l.row.row l.held;
}

abbrev pub decreases-loop-account : goal.decreases-loop-account
decreases-loop-account l = length l.held
