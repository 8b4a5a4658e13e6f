use Rattle.http_front.proofs.TargetLemmas.{ends, ended}
use Rattle.http_front.proofs.request.ends_in_target.Goals as goal

pub returns : goal.returns
returns c =
    let rest = c.after_empty_lines.ensures in (
      λ yes. ends c.args.buf.now _ rest.split (c.opens_target.ensures.0 yes),
      λ target. c.opens_target.ensures.1 (ended c.args.buf.now _ rest.split rest.all target),
    )
