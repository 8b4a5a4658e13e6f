use Rattle.std.proofs.Common.{drop, length-drop}
use Rattle.ofx_types.specs.MessageReading.{request_of}
use Rattle.ofx_file.proofs.Outcomes.{tags_refusal, file_of, file_in-request, form_refusal_within, form_refusal, file_spelled}
use Rattle.ofx_file.proofs.request.reading.read_file.Goals as goal

pub root-requires : goal.root-requires
root-requires c = (drop c.in-Ok.found.1 c.args.bytes.now, c.in-Ok.ensures.are_nodes)

pub returns-in-Err : goal.returns-in-Err
returns-in-Err c = tags_refusal request_of c.args.bytes.now c.in-Err.fault c.in-Err.ensures

pub returns-in-Ok-file_in : goal.returns-in-Ok-file_in
returns-in-Ok-file_in c =
    file_spelled c.requests_are_found.ensures c.args.bytes.now c.in-Ok.found.0 c.in-Ok.found.1 c.in-Ok.found.2 c.root.result c.in-Ok-file_in.file
    c.in-Ok.ensures c.root.ensures c.in-Ok-file_in.ensures

pub in_forms-requires-clause-within : goal.in_forms-requires-clause-within
in_forms-requires-clause-within c =
    let refused = rw (file_in-request c.in-Ok.found.0.version c.in-Ok.found.0.older c.in-Ok.found.0.newer c.root.result) at c.in-Err-file_in.ensures in
    rw (← length-drop c.in-Ok.found.1 c.args.bytes.now)
    (form_refusal_within request_of c.request_faults_have_offsets.ensures (file_of c.in-Ok.found.0.version c.in-Ok.found.0.older c.in-Ok.found.0.newer)
    c.args.bytes.now c.in-Ok.found.0 c.in-Ok.found.1 c.in-Ok.found.2 c.root.result c.in-Err-file_in.fault c.in-Ok.ensures c.root.ensures refused)

pub returns : goal.returns
returns c =
    let refused = rw (file_in-request c.in-Ok.found.0.version c.in-Ok.found.0.older c.in-Ok.found.0.newer c.root.result) at c.in-Err-file_in.ensures in
    rw c.in_forms.ensures
    (form_refusal request_of (file_of c.in-Ok.found.0.version c.in-Ok.found.0.older c.in-Ok.found.0.newer)
    c.args.bytes.now c.in-Ok.found.0 c.in-Ok.found.1 c.in-Ok.found.2 c.root.result c.in-Err-file_in.fault c.in-Ok.ensures c.root.ensures refused)
