use Rattle.std.proofs.Common.{◌≡◌, ℕ, List, [], true, IfOk, subst, arith}
use Rattle.std.proofs.lemmas.Fmt.{decimal_digit}
use Rattle.bank_callers.proofs.polls.sync_reply.Goals as goal

pub returns-in-None : goal.returns-in-None
returns-in-None c =
    rw c.in-None.is
    (subst (λ (t : List ℕ). IfOk c.token_reply-in-None.result (λ reply. reply ≡ record { object = c.args.ask.now.object; token = t; lost = true; replies = [] }))
    (decimal_digit 0 (omega arith)) c.token_reply-in-None.ensures)
