use Rattle.std.proofs.Common.{drop, length-drop}
use Rattle.ofx_file.proofs.Outcomes.{rest_is, has_header, tape_refusal_within, tape_refusal}
use Rattle.ofx_file.proofs.tags.read_tags.Goals as goal

pub in_tags-requires-clause-within : goal.in_tags-requires-clause-within
in_tags-requires-clause-within c =
    let tape = rw (rest_is c.in-Ok.found.1 c.args.bytes.now) at c.in-Err-read.ensures.tape in
    rw (← length-drop c.in-Ok.found.1 c.args.bytes.now) (tape_refusal_within (drop c.in-Ok.found.1 c.args.bytes.now) c.in-Err-read.fault tape)

pub returns-in-Ok-read : goal.returns-in-Ok-read
returns-in-Ok-read c =
    let tape = rw (rest_is c.in-Ok.found.1 c.args.bytes.now) at c.in-Ok-read.ensures.tape in
    let slices = rw (rest_is c.in-Ok.found.1 c.args.bytes.now) at c.in-Ok-read.ensures.slices in
    record { header = c.in-Ok.ensures.spelled; is_inside = c.in-Ok.ensures.within; are_nodes = tape.are_nodes; slices = slices }

pub returns-in-Err-read : goal.returns-in-Err-read
returns-in-Err-read c =
    let tape = rw (rest_is c.in-Ok.found.1 c.args.bytes.now) at c.in-Err-read.ensures.tape in
    let header = has_header c.args.bytes.now _ _ _ c.in-Ok.found.1 c.in-Ok.ensures.spelled in
    rw c.in_tags.ensures (tape_refusal c.args.bytes.now c.in-Ok.found.1 c.in-Err-read.fault header tape)
