use Rattle.bank_replay.proofs.Bounds.{legal_bounds}
use Rattle.bank_replay.proofs.record.record_of.Goals as goal

pub write_event-requires-clause-within : goal.write_event-requires-clause-within
write_event-requires-clause-within g c =
    legal_bounds c.args.book.now.setup c.args.book.now.state c.args.at c.args.event.now c.setup-setup.ensures.within c.setup-setup.ensures.sound c.requires.legal
