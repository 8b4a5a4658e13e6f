use Rattle.std.specs.List.{All}
use Rattle.std.proofs.Common.{take}
use Rattle.bank_accounts.specs.HeldAccounts.{IsHeld}
use Rattle.bank_turns.proofs.holding.has_all.Given as goal

abbrev pub invariant-loop-number : goal.invariant-loop-number
invariant-loop-number l = All (IsHeld l.held) (take l.number-index l.numbers)
