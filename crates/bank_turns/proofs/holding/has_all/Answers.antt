use Rattle.std.proofs.Common.{get_or}
use Rattle.std.specs.Bool.{IsTrue}
use Rattle.std.proofs.lemmas.List.{get_or_default}
use Rattle.ofx_types.specs.declared.number.AcctId.{AcctId}
use Rattle.bank_accounts.specs.HeldAccounts.{IsHeld}
use Rattle.bank_turns.proofs.TurnLemmas.{held_more, all_held}
use Rattle.bank_turns.proofs.holding.has_all.Goals as goal

pub returns-then-not-has : goal.returns-then-not-has
returns-then-not-has c = (
  (λ no. cc),
  (λ all. let has : IsTrue c.has.result = c.has.ensures.1 (all c.loop-number.number-index (record { 0 = 0 }) c.loop-number-test.true) in cc),
)

pub loop-number-preserved : goal.loop-number-preserved
loop-number-preserved c =
    let number : AcctId = get_or c.args.numbers.now c.loop-number.number-index (record { 0 = 0 }) in
    let held : IsHeld c.args.held.now number = c.has.ensures.0 cc in
    held_more c.args.held.now c.args.numbers.now c.loop-number.number-index number c.loop-number-test.true (get_or_default c.args.numbers.now c.loop-number.number-index _ _ c.loop-number-test.true) c.loop-number.invariant held

pub returns : goal.returns
returns c = ((λ yes. all_held c.args.held.now c.args.numbers.now c.loop-number.number-index c.loop-number-test.false c.loop-number.invariant), (λ all. cc))
