use Rattle.bank_engine.proofs.EngineLemmas.{entries_expected}
use Rattle.bank_engine.proofs.applying.answer.Goals as goal

pub effects-requires : goal.effects-requires
effects-requires g c =
    entries_expected (g.L.Publisher.expects c.args.log.now) c.args.book.now.setup c.args.book.now.state c.args.book.now.room c.args.ready.at c.args.ready.event
    c.args.ready.prepared _ c.entries.result.now c.requires.expected c.requires.ready c.into_step-event.ensures.prepared c.entries.ensures
