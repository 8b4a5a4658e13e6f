use Rattle.std.proofs.lemmas.Result.{err_from_is_err_and}
use Rattle.client_run.proofs.Received.{no_body_brings}
use Rattle.client_run.proofs.calling.receive.Goals as goal

pub returns-in_err-reply-in-Ok-clause-receives : goal.returns-in_err-reply-in-Ok-clause-receives
returns-in_err-reply-in-Ok-clause-receives g c =
    let p = err_from_is_err_and c.from_residual.result c.from_residual.ensures.1 in
    rw (p.1, p.2) (
      c.next_reply.ensures.kept,
      no_body_brings c.next_reply.new.incoming c.bytes.result.now c.in-Ok.answer
          (record { left = g.L.Link.left c.args.link.now; sent = g.L.Link.held c.args.link.now; read_faults = g.L.Link.read_faults c.args.link.now; write_faults = g.L.Link.write_faults c.args.link.now })
          (record { left = g.L.Link.left c.next_reply.new.link; sent = g.L.Link.held c.next_reply.new.link; read_faults = g.L.Link.read_faults c.next_reply.new.link; write_faults = g.L.Link.write_faults c.next_reply.new.link })
          c.in_err-reply-in-Ok.field-0.0 c.bytes.ensures c.in_err-reply-in-Ok.ensures,
    )
