use Rattle.std.proofs.Common.{List, ℕ, length}
use Rattle.httparse.specs.Grammar.{ResponseHead}
use Rattle.httparse.proofs.GrammarLemmas.{response_unique}
use Rattle.http_front.specs.Heads.{BeginsResponse, AwaitsResponse, head_of_response}
use Rattle.http_front.proofs.HeadLemmas.{judged_found, judged_bad, judged_within, response_sized}
use Rattle.http_front.proofs.response.read_response.Goals as goal

pub returns-clause-found : goal.returns-clause-found
returns-clause-found c h rest here =
    judged_found (λ (k : ResponseHead). (after : List ℕ) × BeginsResponse c.args.buf.now k after) head_of_response (AwaitsResponse c.args.buf.now) c.judge.result c.judge.ensures
    (λ g k at too. (response_unique c.args.buf.now g k at.0 too.0 at.1.0 too.1.0).0) (λ k at awaits. awaits.none k at.0 at.1.0) h (rest, here)

pub returns-clause-bad : goal.returns-clause-bad
returns-clause-bad c =
    let bad = judged_bad (λ (k : ResponseHead). (after : List ℕ) × BeginsResponse c.args.buf.now k after) head_of_response (AwaitsResponse c.args.buf.now) c.judge.result c.judge.ensures in (
      λ is. (λ h rest here. (bad.0 is).0 h (rest, here), (bad.0 is).1),
      λ none. bad.1 (λ h here. none.0 h here.0 here.1, none.1),
    )

pub returns-clause-within : goal.returns-clause-within
returns-clause-within c =
    judged_within (λ (k : ResponseHead). (after : List ℕ) × BeginsResponse c.args.buf.now k after) head_of_response (AwaitsResponse c.args.buf.now) (λ head. head.size) (length c.args.buf.now) c.judge.result c.judge.ensures
    (λ h here. response_sized c.args.buf.now h here.0 here.1)
