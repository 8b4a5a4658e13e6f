use Rattle.std.proofs.lemmas.List.Elements.{All-from_recursion}
use Rattle.bank_model.specs.Sound.{IsSoundPair}
use Rattle.event_codec.proofs.sync.put_pairs.Goals as goal

pub put_pair-requires : goal.put_pair-requires
put_pair-requires c = rw c.pair-item.is (All-from_recursion (IsSoundPair c.args.family) c.args.pairs.now c.requires.sound c.loop-pair.pair-index _ c.loop-pair-test.true)
