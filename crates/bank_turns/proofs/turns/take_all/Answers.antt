use Rattle.std.proofs.Common.{◌∙◌}
use Rattle.std.proofs.lemmas.List.{take_all}
use Rattle.bank_turns.proofs.TurnLemmas.{rise}
use Rattle.bank_turns.proofs.turns.take_all.Goals as goal

pub from_vec-requires : goal.from_vec-requires
from_vec-requires g c = rise c.args.numbers.now c.loop-number.accounts.items c.requires.rising (c.loop-number.invariant.taken.numbers_are ∙ take_all c.loop-number.number-index c.args.numbers.now c.loop-number-test.false)
