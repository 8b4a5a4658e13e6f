use Rattle.std.proofs.lemmas.Result.{err_from_is_err_and}
use Rattle.client_run.proofs.Made.{acts_unmade, acts_whole}
use Rattle.client_run.proofs.making.act.Goals as goal

pub returns-in_err-make : goal.returns-in_err-make
returns-in_err-make g c =
    let p = err_from_is_err_and c.from_residual-in_err-make.result c.from_residual-in_err-make.ensures.1 in
    rw (p.1, p.2) (acts_unmade c.args.pass.now c.args.wish.now c.args.client.now c.resume.new.client c.make.new.client c.resume.new.incoming
    (record { left = g.L.Link.left c.args.link.now; sent = g.L.Link.held c.args.link.now; read_faults = g.L.Link.read_faults c.args.link.now; write_faults = g.L.Link.write_faults c.args.link.now })
    (record { left = g.L.Link.left c.resume.new.link; sent = g.L.Link.held c.resume.new.link; read_faults = g.L.Link.read_faults c.resume.new.link; write_faults = g.L.Link.write_faults c.resume.new.link })
    (record { text = g.S.StoreKeeper.saved c.args.store.now; faults = g.S.StoreKeeper.faults c.args.store.now })
    (record { text = g.S.StoreKeeper.saved c.resume.new.store; faults = g.S.StoreKeeper.faults c.resume.new.store })
    (record { text = g.S.StoreKeeper.saved c.make.new.store; faults = g.S.StoreKeeper.faults c.make.new.store })
    (g.C.Clock.shown c.args.clock.now) (g.C.Clock.shown c.make.new.clock)
    (record { held = g.W.Sink.held c.args.out.now; faults = g.W.Sink.faults c.args.out.now })
    (record { held = g.W.Sink.held c.resume.new.out; faults = g.W.Sink.faults c.resume.new.out })
    c.in_err-make.field-0.0 c.in_ok-resume.ensures.resumes c.in_err-make.ensures.makes)

pub returns : goal.returns
returns g c =
    acts_whole c.args.pass.now c.args.wish.now c.args.client.now c.resume.new.client c.make.new.client c.send_outstanding.new.client c.resume.new.incoming c.send_outstanding.new.incoming
    (record { left = g.L.Link.left c.args.link.now; sent = g.L.Link.held c.args.link.now; read_faults = g.L.Link.read_faults c.args.link.now; write_faults = g.L.Link.write_faults c.args.link.now })
    (record { left = g.L.Link.left c.resume.new.link; sent = g.L.Link.held c.resume.new.link; read_faults = g.L.Link.read_faults c.resume.new.link; write_faults = g.L.Link.write_faults c.resume.new.link })
    (record { left = g.L.Link.left c.send_outstanding.new.link; sent = g.L.Link.held c.send_outstanding.new.link; read_faults = g.L.Link.read_faults c.send_outstanding.new.link; write_faults = g.L.Link.write_faults c.send_outstanding.new.link })
    (record { text = g.S.StoreKeeper.saved c.args.store.now; faults = g.S.StoreKeeper.faults c.args.store.now })
    (record { text = g.S.StoreKeeper.saved c.resume.new.store; faults = g.S.StoreKeeper.faults c.resume.new.store })
    (record { text = g.S.StoreKeeper.saved c.make.new.store; faults = g.S.StoreKeeper.faults c.make.new.store })
    (record { text = g.S.StoreKeeper.saved c.send_outstanding.new.store; faults = g.S.StoreKeeper.faults c.send_outstanding.new.store })
    (g.C.Clock.shown c.args.clock.now) (g.C.Clock.shown c.make.new.clock)
    (record { held = g.W.Sink.held c.args.out.now; faults = g.W.Sink.faults c.args.out.now })
    (record { held = g.W.Sink.held c.resume.new.out; faults = g.W.Sink.faults c.resume.new.out })
    (record { held = g.W.Sink.held c.send_outstanding.new.out; faults = g.W.Sink.faults c.send_outstanding.new.out })
    c.send_outstanding.result c.in_ok-resume.ensures.resumes c.in_ok-make.ensures.makes c.send_outstanding.ensures.settles
