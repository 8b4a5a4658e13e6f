use Rattle.std.proofs.Common.{ℕ, List, ◌++◌, sym, subst}
use Rattle.http_link.specs.Responses.{HasReplyHead}
use Rattle.http_link.proofs.Answers.{reply_head-more, whole_reply, no_reply}
use Rattle.http_link.proofs.response.reply_body.Goals as goal

pub returns-in-Ok-clause-answer : goal.returns-in-Ok-clause-answer
returns-in-Ok-clause-answer g c =
    let sized = rw c.in-Some.is at c.size_of.ensures.size in
    let grown = c.in-Ok.ensures.grown in
    let has = subst (λ (bytes : List ℕ). HasReplyHead bytes c.args.head (c.requires.head.0 ++ grown.0)) (sym grown.1) (reply_head-more c.args.incoming.now grown.0 c.args.head c.requires.head.0 c.requires.head.1) in
    whole_reply c.read_body.new.incoming c.args.head _ c.in-Some.size has sized.0 sized.1 sized.2 c.in-Ok.ensures.whole

pub returns-in-Err-clause-none : goal.returns-in-Err-clause-none
returns-in-Err-clause-none g c =
    let sized = rw c.in-Some.is at c.size_of.ensures.size in
    let grown = c.in-Err.ensures.grown in
    let has = subst (λ (bytes : List ℕ). HasReplyHead bytes c.args.head (c.requires.head.0 ++ grown.0)) (sym grown.1) (reply_head-more c.args.incoming.now grown.0 c.args.head c.requires.head.0 c.requires.head.1) in
    rw c.call_fault.ensures (no_reply c.read_body.new.incoming c.args.head _ c.in-Some.size _ _ _ c.in-Err.error has sized.0 sized.1 sized.2 c.in-Err.ensures.none)
