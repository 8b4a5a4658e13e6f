use Rattle.std.proofs.Common.{◌≡◌, length, rules}
use Rattle.register_run.proofs.FrameLaws.{cut_file, whole_file}
use Rattle.register_run.proofs.frames.read_file.Goals as goal

pub returns-then-branch-clause-next : goal.returns-then-branch-clause-next
returns-then-branch-clause-next g c =
    let head : c.len-head.result ≡ length c.args.bytes.now.items = search rules in
    let body = rw (c.if-branch.true, head) at c.in_ok-read_up_to.ensures.body in
    rw head (whole_file c.args.bytes.now.items c.args.size (g.A.Source.left c.args.source.now) c.read_up_to.new.bytes.items (g.A.Source.left c.read_up_to.new.source) c.requires body)

pub returns-clause-next : goal.returns-clause-next
returns-clause-next g c =
    let head : c.len-head.result ≡ length c.args.bytes.now.items = search rules in
    let body = rw (c.if-branch.false, head) at c.in_ok-read_up_to.ensures.body in
    cut_file c.args.bytes.now.items c.args.size (g.A.Source.left c.args.source.now) c.read_up_to.new.bytes.items (g.A.Source.left c.read_up_to.new.source) c.requires body
