use Rattle.std.proofs.Common.{List, ℕ, length}
use Rattle.httparse.specs.Grammar.{RequestHead}
use Rattle.httparse.proofs.GrammarLemmas.{request_unique}
use Rattle.http_front.specs.Heads.{BeginsRequest, AwaitsRequest, head_of_request}
use Rattle.http_front.proofs.HeadLemmas.{judged_found, judged_bad, judged_within, request_sized}
use Rattle.http_front.proofs.request.read_request.Goals as goal

pub returns-clause-found : goal.returns-clause-found
returns-clause-found c h rest here =
    judged_found (λ (k : RequestHead). (after : List ℕ) × BeginsRequest c.args.buf.now k after) head_of_request (AwaitsRequest c.args.buf.now) c.judge.result c.judge.ensures
    (λ g k at too. (request_unique c.args.buf.now g k at.0 too.0 at.1.0 too.1.0).0) (λ k at awaits. awaits.none k at.0 at.1.0) h (rest, here)

pub returns-clause-bad : goal.returns-clause-bad
returns-clause-bad c =
    let bad = judged_bad (λ (k : RequestHead). (after : List ℕ) × BeginsRequest c.args.buf.now k after) head_of_request (AwaitsRequest c.args.buf.now) c.judge.result c.judge.ensures in (
      λ is. (λ h rest here. (bad.0 is).0 h (rest, here), (bad.0 is).1),
      λ none. bad.1 (λ h here. none.0 h here.0 here.1, none.1),
    )

pub returns-clause-within : goal.returns-clause-within
returns-clause-within c =
    judged_within (λ (k : RequestHead). (after : List ℕ) × BeginsRequest c.args.buf.now k after) head_of_request (AwaitsRequest c.args.buf.now) (λ head. head.size) (length c.args.buf.now) c.judge.result c.judge.ensures
    (λ h here. request_sized c.args.buf.now h here.0 here.1)
