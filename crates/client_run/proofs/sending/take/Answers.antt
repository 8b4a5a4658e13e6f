use Rattle.client_run.proofs.Settled.{reply_refused, taken_unsaved, taken_and_reported}
use Rattle.client_run.proofs.sending.take.Goals as goal

pub returns-in-Err-clause-judges : goal.returns-in-Err-clause-judges
returns-in-Err-clause-judges g c =
    reply_refused c.args.client.now c.accept.new.self c.args.reply.now c.in-Err.fault
    (record { text = g.S.StoreKeeper.saved c.args.store.now; faults = g.S.StoreKeeper.faults c.args.store.now })
    (record { held = g.W.Sink.held c.args.out.now; faults = g.W.Sink.faults c.args.out.now }) c.in-Err.ensures.refusal c.in-Err.ensures.err

pub returns-in-Ok-save-clause-judges : goal.returns-in-Ok-save-clause-judges
returns-in-Ok-save-clause-judges g c =
    rw c.print_end.ensures (taken_and_reported c.args.client.now c.accept.new.self c.args.reply.now c.in-Ok.report.lines c.items.result.now
    (record { text = g.S.StoreKeeper.saved c.args.store.now; faults = g.S.StoreKeeper.faults c.args.store.now })
    (record { text = g.S.StoreKeeper.saved c.save.new.store; faults = g.S.StoreKeeper.faults c.save.new.store })
    (record { held = g.W.Sink.held c.args.out.now; faults = g.W.Sink.faults c.args.out.now })
    (record { held = g.W.Sink.held c.print_lines.new.out; faults = g.W.Sink.faults c.print_lines.new.out })
    c.print_lines.result c.in-Ok.ensures.accepted c.in-Ok-save.ensures c.items.ensures c.print_lines.ensures)

pub returns-clause-judges : goal.returns-clause-judges
returns-clause-judges g c =
    taken_unsaved c.args.client.now c.accept.new.self c.args.reply.now c.in-Ok.report.lines
    (record { text = g.S.StoreKeeper.saved c.args.store.now; faults = g.S.StoreKeeper.faults c.args.store.now })
    (record { text = g.S.StoreKeeper.saved c.save.new.store; faults = g.S.StoreKeeper.faults c.save.new.store })
    (record { held = g.W.Sink.held c.args.out.now; faults = g.W.Sink.faults c.args.out.now })
    c.in-Err-save.fault c.in-Ok.ensures.accepted c.in-Err-save.ensures
