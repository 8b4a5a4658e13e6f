use Rattle.std.proofs.Common.{ℕ, List, ◌++◌, sym, subst}
use Rattle.std.proofs.lemmas.Result.{err_from_is_err_and}
use Rattle.http_link.specs.Requests.{HasHead}
use Rattle.http_link.proofs.Requests.{head-more, whole_request, no_request}
use Rattle.http_link.proofs.request.next_body.Goals as goal

pub returns-in_err-read_body-in-Ok-clause-none : goal.returns-in_err-read_body-in-Ok-clause-none
returns-in_err-read_body-in-Ok-clause-none g c =
    let p = err_from_is_err_and c.from_residual.result c.from_residual.ensures.1 in
    let sized = rw c.in-Ok.is at c.size_of.ensures.size in
    let grown = c.in_err-read_body-in-Ok.ensures.grown in
    let has = subst (λ (bytes : List ℕ). HasHead bytes c.args.head (c.requires.head.0 ++ grown.0)) (sym grown.1) (head-more c.args.incoming.now grown.0 c.args.head c.requires.head.0 c.requires.head.1) in
    rw (p.1, p.2) (no_request c.read_body.new.incoming c.args.head _ c.in-Ok.size _ _ _ _ has sized.0 sized.1 sized.3 c.requires.some c.in_err-read_body-in-Ok.ensures.none)

pub returns-in_ok-read_body-in-Ok-clause-next : goal.returns-in_ok-read_body-in-Ok-clause-next
returns-in_ok-read_body-in-Ok-clause-next g c =
    let sized = rw c.in-Ok.is at c.size_of.ensures.size in
    let grown = c.in_ok-read_body-in-Ok.ensures.grown in
    let has = subst (λ (bytes : List ℕ). HasHead bytes c.args.head (c.requires.head.0 ++ grown.0)) (sym grown.1) (head-more c.args.incoming.now grown.0 c.args.head c.requires.head.0 c.requires.head.1) in
    whole_request c.read_body.new.incoming c.args.head _ c.in-Ok.size has sized.0 sized.1 sized.2 sized.3 c.in_ok-read_body-in-Ok.ensures.whole
