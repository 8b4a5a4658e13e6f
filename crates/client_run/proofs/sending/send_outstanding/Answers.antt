use Rattle.client_run.proofs.Settled.{reply_spelled}
use Rattle.client_run.proofs.sending.send_outstanding.Goals as goal

pub take-requires : goal.take-requires
take-requires g c =
    let spelled = reply_spelled c.args.pass.now c.args.client.now.outstanding c.args.incoming.now c.call.new.incoming
    (record { left = g.L.Link.left c.args.link.now; sent = g.L.Link.held c.args.link.now; read_faults = g.L.Link.read_faults c.args.link.now; write_faults = g.L.Link.write_faults c.args.link.now })
    (record { left = g.L.Link.left c.call.new.link; sent = g.L.Link.held c.call.new.link; read_faults = g.L.Link.read_faults c.call.new.link; write_faults = g.L.Link.write_faults c.call.new.link })
    c.in-Ok.reply c.in-Ok.ensures in
    c.spelled_replies_are_sound.ensures spelled.0 c.in-Ok.reply spelled.1
