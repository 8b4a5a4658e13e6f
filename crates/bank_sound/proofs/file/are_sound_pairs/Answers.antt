use Rattle.std.proofs.Common.{arith, refl, sym, subst}
use Rattle.bank_model.specs.Sound.{IsSoundPair}
use Rattle.bank_sound.proofs.file.are_sound_pairs.Goals as goal
use Rattle.bank_model.proofs.Lists.{all_by_index, all_from}

pub returns-then-not-is_sound_pair : goal.returns-then-not-is_sound_pair
returns-then-not-is_sound_pair c = ((λ is. absurd cc), λ all. (let here = c.is_sound_pair.ensures.1 (subst (IsSoundPair c.args.family) (sym c.deed-item.is) (all_by_index (IsSoundPair c.args.family) c.args.deeds.now c.loop-deed.deed-index c.deed-item.result all c.loop-deed-test.true)) in cc))

pub returns : goal.returns
returns c = ((λ is. all_from (IsSoundPair c.args.family) c.args.deeds.now (λ k d below. c.loop-deed.invariant k d (omega (arith, c.loop-deed-test.false)))), λ all. refl)
