use Rattle.std.proofs.Common.{◌≡◌, List, Option, ℕ, [], true, sym, ap, ◌∙◌, subst, arith}
use Rattle.std.specs.Prelude.{IfOk}
use Rattle.std.proofs.lemmas.Fmt.{decimal_digit}
use Rattle.ofx_types.specs.declared.number.ObjectId.{ObjectId}
use Rattle.bank_model.specs.Objects.{object_named}
use Rattle.bank_model.specs.Polls.{reported_token, newest_if_any}
use Rattle.bank_core.specs.BookView.{ReservedBook}
use Rattle.bank_core.proofs.book.Book.reported_token.Goals as goal

pub returns-in-None : goal.returns-in-None
returns-in-None g c =
    let found = ap (λ (b : ReservedBook). object_named b.setup c.args.user c.args.ask.now.object) (sym c.self.view_is) ∙ sym c.object.ensures ∙ c.in-None.is in
    subst (λ (f : Option ObjectId). IfOk c.token_reply-in-None.result (λ reply. reply ≡ reported_token c.args.ask.now (newest_if_any c.args.self.now.state f))) (sym found)
    (subst (λ (t : List ℕ). IfOk c.token_reply-in-None.result (λ reply. reply ≡ record { object = c.args.ask.now.object; token = t; lost = true; replies = [] })) (decimal_digit 0 (omega arith)) c.token_reply-in-None.ensures)
