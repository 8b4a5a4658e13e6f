use Rattle.std.proofs.Common.{◌≡◌, ◌≤◌, length}
use Rattle.std.specs.Prelude.{vec_len, vec_capacity}
use Rattle.bank_turns.proofs.TurnLemmas.{HasTaken}
use Rattle.bank_turns.proofs.turns.take_all.Given as goal

-- The accounts of the numbers so far are taken, and there is room for the others.
abbrev pub invariant-loop-number : goal.invariant-loop-number
invariant-loop-number g l = record {
  taken : HasTaken l.row.row l.row.tables l.numbers l.number-index l.accounts.items l.turns.items;
  accounts : vec_len l.accounts ≡ l.number-index;
  turns : vec_len l.turns ≡ l.number-index;
  room : length l.numbers ≤ vec_capacity l.accounts;
  room_too : length l.numbers ≤ vec_capacity l.turns;
}
