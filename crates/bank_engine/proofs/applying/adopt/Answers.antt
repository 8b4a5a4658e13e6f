use Rattle.bank_engine.proofs.EngineLemmas.{entries_expected}
use Rattle.bank_engine.proofs.applying.adopt.Goals as goal

pub effects-requires : goal.effects-requires
effects-requires g c =
    entries_expected (g.L.Publisher.expects c.args.log.now) c.args.book.now.setup c.args.book.now.state c.args.book.now.room c.args.pending.at c.args.pending.event
    c.args.pending.prepared _ c.entries.result.now c.requires.expected c.requires.ready c.into_step-event.ensures.prepared c.entries.ensures
