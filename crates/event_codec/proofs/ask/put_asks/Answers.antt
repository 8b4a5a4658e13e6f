use Rattle.std.proofs.lemmas.List.Elements.{All-from_recursion}
use Rattle.bank_model.specs.Sound.{IsSoundAsk}
use Rattle.event_codec.proofs.ask.put_asks.Goals as goal

pub put_ask-requires : goal.put_ask-requires
put_ask-requires c =
    let sound = rw (← c.items-asks.ensures) at c.requires.sound in
    rw c.ask-item.is (All-from_recursion IsSoundAsk c.items-asks.result.now sound c.loop-ask.ask-index _ c.loop-ask-test.true)
