use Rattle.std.proofs.Common.{arith, refl, sym, subst}
use Rattle.bank_model.specs.Sound.{IsSoundAsk}
use Rattle.bank_sound.proofs.file.are_sound.Goals as goal
use Rattle.bank_model.proofs.Lists.{all_by_index, all_from}

pub returns-then-not-is_sound_ask : goal.returns-then-not-is_sound_ask
returns-then-not-is_sound_ask c = ((λ is. absurd cc), λ all. (let here = c.is_sound_ask.ensures.1 (subst IsSoundAsk (sym c.ask-item.is) (all_by_index IsSoundAsk c.args.asks.now c.loop-ask.ask-index c.ask-item.result all c.loop-ask-test.true)) in cc))

pub returns : goal.returns
returns c = ((λ is. all_from IsSoundAsk c.args.asks.now (λ k d below. c.loop-ask.invariant k d (omega (arith, c.loop-ask-test.false)))), λ all. refl)
