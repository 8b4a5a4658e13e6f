use Rattle.bank_turns.proofs.TurnLemmas.{AreMerged}
use Rattle.bank_turns.proofs.merging.merged.Given as goal

-- those below the number
abbrev pub invariant-loop-number : goal.invariant-loop-number
invariant-loop-number l = AreMerged l.first l.second l.number l.all.items
