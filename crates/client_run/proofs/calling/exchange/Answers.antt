use Rattle.client_run.proofs.Exchanged.{sent_and_received}
use Rattle.client_run.proofs.calling.exchange.Goals as goal

pub returns : goal.returns
returns g c =
    sent_and_received _ c.args.incoming.now _ _ _ (g.L.Link.left c.send.new.link) (g.L.Link.held c.send.new.link) (g.L.Link.read_faults c.send.new.link)
    (g.L.Link.write_faults c.send.new.link) _ c.in_ok-send.ensures.sends c.in_ok-send.ensures.unread c.in_ok-send.ensures.reads
    c.receive.ensures.unwritten c.receive.ensures.writes c.receive.ensures.receives
