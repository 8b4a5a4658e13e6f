use Rattle.std.proofs.Common.{drop, length-drop}
use Rattle.ofx_types.specs.MessageReading.{reply_of}
use Rattle.ofx_file.proofs.Outcomes.{tags_refusal, reply_file, reply_in-reply, form_refusal_within, form_refusal, reply_spelled}
use Rattle.ofx_file.proofs.reply.reading.read_file.Goals as goal

pub root-requires : goal.root-requires
root-requires c = (drop c.in-Ok.found.1 c.args.bytes.now, c.in-Ok.ensures.are_nodes)

pub returns-in-Err : goal.returns-in-Err
returns-in-Err c = tags_refusal reply_of c.args.bytes.now c.in-Err.fault c.in-Err.ensures

pub returns-in-Ok-reply_in : goal.returns-in-Ok-reply_in
returns-in-Ok-reply_in c =
    reply_spelled c.replies_are_found.ensures c.args.bytes.now c.in-Ok.found.0 c.in-Ok.found.1 c.in-Ok.found.2 c.root.result c.in-Ok-reply_in.reply
    c.in-Ok.ensures c.root.ensures c.in-Ok-reply_in.ensures

pub in_forms-requires-clause-within : goal.in_forms-requires-clause-within
in_forms-requires-clause-within c =
    let refused = rw (reply_in-reply c.in-Ok.found.0.version c.in-Ok.found.0.newer c.root.result) at c.in-Err-reply_in.ensures in
    rw (← length-drop c.in-Ok.found.1 c.args.bytes.now)
    (form_refusal_within reply_of c.reply_faults_have_offsets.ensures (reply_file c.in-Ok.found.0.version c.in-Ok.found.0.newer)
    c.args.bytes.now c.in-Ok.found.0 c.in-Ok.found.1 c.in-Ok.found.2 c.root.result c.in-Err-reply_in.fault c.in-Ok.ensures c.root.ensures refused)

pub returns : goal.returns
returns c =
    let refused = rw (reply_in-reply c.in-Ok.found.0.version c.in-Ok.found.0.newer c.root.result) at c.in-Err-reply_in.ensures in
    rw c.in_forms.ensures
    (form_refusal reply_of (reply_file c.in-Ok.found.0.version c.in-Ok.found.0.newer)
    c.args.bytes.now c.in-Ok.found.0 c.in-Ok.found.1 c.in-Ok.found.2 c.root.result c.in-Err-reply_in.fault c.in-Ok.ensures c.root.ensures refused)
