-- Exchanges stay what they are when the log grows.
use Rattle.std.proofs.Common.{◌≡◌, ℕ, ◌+◌, Bool, List, [], ◌∷◌, ◌++◌, Option, None, Some, refl, sym, ap, ◌∙◌, subst}
use Rattle.ofx_types.specs.declared.number.UserId.{UserId}
use Rattle.ofx_types.specs.declared.number.Moment.{Moment}
use Rattle.ofx_types.specs.declared.request.RequestFile.{RequestFile}
use Rattle.bank_model.specs.declared.setup.Setup.{Setup}
use Rattle.bank_model.specs.declared.log.LogItem.{LogItem}
use Rattle.bank_model.specs.Log.{ending}
use Rattle.bank_connection.specs.Exchanges.{Outcome, refused, misspelled, denied, polled, ended, no_memory, Exchange, EndsFile, ComesTo, IsOutcome, IsExchange, AreExchanges}
use Rattle.bank_connection.specs.ReplyText.{ending_reply, outcome_reply, out}
use Rattle.bank_connection.proofs.Logs.{ending-kept}

ends_file-found : (user : UserId) (file : RequestFile) (at : Moment) (log more : List LogItem) (number : ℕ) (found : Option LogItem)
    → ending log number ≡ found → EndsFile user file at found → EndsFile user file at (ending (log ++ more) number)
ends_file-found user file at log more number None is ends = absurd ends
ends_file-found user file at log more number (Some item) is ends = rw (ending-kept log more number item is) ends

reply-found : (user : UserId) (file : RequestFile) (at : Moment) (log more : List LogItem) (number : ℕ) (found : Option LogItem) (closes : Bool)
    → ending log number ≡ found → EndsFile user file at found → ending_reply (ending (log ++ more) number) closes ≡ ending_reply found closes
reply-found user file at log more number None closes is ends = absurd ends
reply-found user file at log more number (Some item) closes is ends = ap (λ (o : Option LogItem). ending_reply o closes) (ending-kept log more number item is)

pub comes_to-kept : (setup : Setup) (log more : List LogItem) (body : List ℕ) (outcome : Outcome) → ComesTo setup log body outcome → ComesTo setup (log ++ more) body outcome
comes_to-kept setup log more body (refused refusal) c = c
comes_to-kept setup log more body (misspelled offset) c = c
comes_to-kept setup log more body (denied file at) c = c
comes_to-kept setup log more body (polled user file at loads) c = c
comes_to-kept setup log more body (ended user file at number) c =
    (c.0, c.1, c.2, ends_file-found user file at log more number (ending log number) refl c.3)
comes_to-kept setup log more body (no_memory at) c = c

pub text-kept : (setup : Setup) (log more : List LogItem) (body : List ℕ) (outcome : Outcome) (closes : Bool) → ComesTo setup log body outcome
    → outcome_reply (log ++ more) outcome closes ≡ outcome_reply log outcome closes
unfolding outcome_reply
text-kept setup log more body (refused refusal) closes c = refl
text-kept setup log more body (misspelled offset) closes c = refl
text-kept setup log more body (denied file at) closes c = refl
text-kept setup log more body (polled user file at loads) closes c = refl
text-kept setup log more body (ended user file at number) closes c = reply-found user file at log more number (ending log number) closes refl c.3
text-kept setup log more body (no_memory at) closes c = refl

outcome-kept : (setup : Setup) (log more : List LogItem) (number : ℕ) (x : Exchange) (outcome : Outcome) → IsOutcome setup log number x outcome → IsOutcome setup (log ++ more) number x outcome
outcome-kept setup log more number x (refused refusal) is = is
outcome-kept setup log more number x (misspelled offset) is = record { head = is.head; body = is.body; whole = is.whole; comes_to = comes_to-kept setup log more is.body x.outcome is.comes_to; closes_is = is.closes_is }
outcome-kept setup log more number x (denied file at) is = record { head = is.head; body = is.body; whole = is.whole; comes_to = comes_to-kept setup log more is.body x.outcome is.comes_to; closes_is = is.closes_is }
outcome-kept setup log more number x (polled user file at loads) is = record { head = is.head; body = is.body; whole = is.whole; comes_to = comes_to-kept setup log more is.body x.outcome is.comes_to; closes_is = is.closes_is }
outcome-kept setup log more number x (ended user file at ending) is = record { head = is.head; body = is.body; whole = is.whole; comes_to = comes_to-kept setup log more is.body x.outcome is.comes_to; closes_is = is.closes_is }
outcome-kept setup log more number x (no_memory at) is = record { head = is.head; body = is.body; whole = is.whole; comes_to = comes_to-kept setup log more is.body x.outcome is.comes_to; closes_is = is.closes_is }

pub exchanges-kept : (setup : Setup) (log more : List LogItem) (number : ℕ) (xs : List Exchange) → AreExchanges setup log number xs → AreExchanges setup (log ++ more) number xs
exchanges-kept setup log more number [] are = tt
exchanges-kept setup log more number (x ∷ xs) are = (outcome-kept setup log more number x x.outcome are.0, exchanges-kept setup log more (number + 1) xs are.1)

-- the text of an exchange, whose outcome is given
same_text : (setup : Setup) (log more : List LogItem) (number : ℕ) (x : Exchange) (outcome : Outcome) → x.outcome ≡ outcome → IsOutcome setup log number x outcome
    → outcome_reply (log ++ more) outcome x.closes ≡ outcome_reply log outcome x.closes
unfolding outcome_reply
same_text setup log more number x (refused refusal) e is = refl
same_text setup log more number x (misspelled offset) e is = refl
same_text setup log more number x (denied file at) e is = refl
same_text setup log more number x (polled user file at loads) e is = refl
same_text setup log more number x (ended user file at ending) e is =
    text-kept setup log more is.body (ended user file at ending) x.closes (subst (ComesTo setup log is.body) e is.comes_to)
same_text setup log more number x (no_memory at) e is = refl

pub out-kept : (setup : Setup) (log more : List LogItem) (number : ℕ) (xs : List Exchange) → AreExchanges setup log number xs → out (log ++ more) xs ≡ out log xs
out-kept setup log more number [] are = refl
out-kept setup log more number (x ∷ xs) are =
    rw (same_text setup log more number x x.outcome refl are.0, out-kept setup log more (number + 1) xs are.1) refl
