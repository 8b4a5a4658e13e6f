use Rattle.std.proofs.Common.{◌+◌, sym, ap, ◌∙◌}
use Rattle.std.specs.List.{list_all}
use Rattle.httparse.specs.Grammar.{is_uri_byte}
use Rattle.std.proofs.lemmas.Bool.{false≢true}
use Rattle.http_front.proofs.TargetLemmas.{opened, opens, unopened, rest_is}
use Rattle.http_front.proofs.request.opens_target.Goals as goal

pub returns-in-None : goal.returns-in-None
returns-in-None c = (λ yes. absurd (false≢true yes), λ open_target. absurd (unopened c.args.line.now (sym c.in-None.ensures) open_target))

pub returns-else-is_token : goal.returns-else-is_token
returns-else-is_token c = (
  λ yes. absurd (false≢true (sym c.if-is_token.false ∙ yes)),
  λ open_target. c.is_token.ensures ∙ (opened c.args.line.now c.in-Some.end (sym c.in-Some.ensures) open_target).0,
)

pub returns-then-is_token : goal.returns-then-is_token
returns-then-is_token c = (
  λ yes. opens c.args.line.now c.in-Some.end (sym c.in-Some.ensures) (sym c.is_token.ensures ∙ c.if-is_token.true) (ap (list_all is_uri_byte) (rest_is c.args.line.now (c.in-Some.end + 1)) ∙ sym c.are_target_bytes.ensures ∙ yes),
  λ open_target. c.are_target_bytes.ensures ∙ ap (list_all is_uri_byte) (sym (rest_is c.args.line.now (c.in-Some.end + 1))) ∙ (opened c.args.line.now c.in-Some.end (sym c.in-Some.ensures) open_target).1,
)
