use Rattle.std.proofs.Common.{◌∙◌, arith}
use Rattle.std.specs.Bool.{IsTrue}
use Rattle.bank_turns.proofs.TurnLemmas.{merged_more, merged_same}
use Rattle.bank_turns.proofs.merging.merged.Goals.{then-is_in_either+in_ok-push, else-is_in_either}
use Rattle.bank_turns.proofs.merging.merged.Goals as goal

pub loop-number-preserved : goal.loop-number-preserved
loop-number-preserved c = elim c.if-is_in_either.branch [
  | then-is_in_either+in_ok-push w ↦ merged_more c.args.first.now c.args.second.now c.loop-number.all.items _ (record { 0 = c.loop-number.number }) c.loop-number.invariant (c.is_in_either.ensures.0 cc) ((λ i. (w.all-is i).items) ∙ w.in_ok-push.ensures.items)
  | else-is_in_either w ↦ merged_same c.args.first.now c.args.second.now c.loop-number.all.items _ (record { 0 = c.loop-number.number }) c.loop-number.invariant (λ there. let yes : IsTrue c.is_in_either.result = c.is_in_either.ensures.1 there in cc) (λ i. (w.all-is i).items)
]

pub returns-clause-both : goal.returns-clause-both
returns-clause-both c number within = c.loop-number.invariant.both number (omega (arith, within, c.loop-number-test.false))
