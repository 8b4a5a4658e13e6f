use Rattle.bank_transfers.specs.Chain.{postings_of}
use Rattle.bank_transfers.proofs.LineLemmas.{IsAt}
use Rattle.bank_transfers.proofs.postings.Postings.lines.Given as goal

abbrev pub invariant-loop-index : goal.invariant-loop-index
invariant-loop-index l = IsAt l.name l.period.0 l.period.1 (postings_of l.self-inside.held.items) l.index l.lines.items

abbrev pub decreases-loop-index : goal.decreases-loop-index
decreases-loop-index l = l.index
