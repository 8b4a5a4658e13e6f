-- One exchange, from the parts that were done for it.
use Rattle.std.proofs.Common.{◌≡◌, ℕ, ◌-◌, Bool, true, false, ◌||◌, ◌==◌, List, [], ◌∷◌, ◌++◌, length, take, drop, Option, None, Some, Result, Ok, Err, refl, sym, ap, ◌∙◌, subst, append-nil, take-append-drop}
use Rattle.std.specs.Io.KnownBytes.{Keeps}
use Rattle.ofx_types.specs.declared.number.Moment.{Moment}
use Rattle.http_front.specs.declared.head.Head.{Head}
use Rattle.ofx_ports.specs.Known.{Grows}
use Rattle.ofx_ports.proofs.KnownLaws.{Grows-nil}
use Rattle.bank_model.specs.declared.setup.Setup.{Setup}
use Rattle.bank_model.specs.declared.log.LogItem.{LogItem}
use Rattle.http_link.specs.Requests.{IsRefusedByHead}
use Rattle.http_link.specs.Incoming.{HoldsWhole}
use Rattle.bank_callers.specs.Callers.{CallerView}
use Rattle.bank_connection.specs.Exchanges.{Outcome, refused, misspelled, denied, polled, ended, no_memory, Exchange, ComesTo, IsAnswered, IsOutcome}
use Rattle.http_link.specs.Replies.{reply_of, refusal_code, refusal_body}
use Rattle.bank_connection.specs.ReplyText.{outcome_reply}
use Rattle.bank_connection.specs.Answering.{answer_code, answer_body, reports_no_memory, HasSeen, IsAnswerTo, Answers}
use Rattle.bank_connection.specs.Connection.{LinkView, around}
use Rattle.bank_connection.specs.Steps.{SendsReply, HasExchange, Exchanges}
use Rattle.bank_connection.specs.declared.answer.Answer.{Answer}
use Rattle.http_link.specs.declared.refusal.Refusal.{Refusal}
use Rattle.http_link.specs.declared.served.ServeError.{ServeError}
use Rattle.bank_connection.proofs.Answered.{watches-same}

-- a request that its head refuses
pub refused_exchange : (setup : Setup) (number : ℕ) (ahead : List ℕ) (size : ℕ) (refusal : Refusal) (left left' : Option (List ℕ)) (reads reads' : ℕ) (held held' : Option (List ℕ)) (writes writes' : ℕ)
    (shown : Option (List Moment)) (known : Option CallerView) (result : Result Bool ServeError) → IsRefusedByHead (take size ahead) refusal → Keeps left left'
    → SendsReply (around left reads held writes shown known) (around left' reads' held' writes' shown known) (reply_of (refusal_code refusal) (refusal_body refusal) true) true result
    → Exchanges setup number ahead (drop size ahead) (around left reads held writes shown known) (around left' reads' held' writes' shown known) result
unfolding outcome_reply
refused_exchange setup number ahead size refusal left left' reads reads' held held' writes writes' shown known result is unread sends log seen = record {
  x = record { request = take size ahead; outcome = refused refusal; closes = true };
  grown = [];
  is_exchange = (is, refl);
  request = sym (take-append-drop size ahead);
  moments = Grows-nil shown;
  sends = sends;
  watches = watches-same (refused refusal) refl refl (λ v. ([], sym (append-nil v.seen))) known;
  unread = unread;
}

is_outcome : (setup : Setup) (log : List LogItem) (number : ℕ) (x : Exchange) (outcome : Outcome) → x.outcome ≡ outcome → (is : IsAnswered setup log number x) → IsOutcome setup log number x outcome
is_outcome setup log number x (refused refusal) e is = absurd (subst (λ (o : Outcome). ComesTo setup log is.body o) e is.comes_to)
is_outcome setup log number x (misspelled offset) e is = is
is_outcome setup log number x (denied file at) e is = is
is_outcome setup log number x (polled user file at loads) e is = is
is_outcome setup log number x (ended user file at ending) e is = is
is_outcome setup log number x (no_memory at) e is = is

-- a whole request
pub answered_exchange : (setup : Setup) (number : ℕ) (ahead : List ℕ) (head : Head) (size : ℕ) (answer : Answer) (closes : Bool) (before after : LinkView) (result : Result Bool ServeError)
    → HoldsWhole ahead head size → Answers setup (take (size - head.size) (drop head.size ahead)) before.shown after.shown before.office after.office answer
    → closes ≡ (head.last || reports_no_memory answer || number == 100) → Keeps before.left after.left
    → SendsReply before after (reply_of (answer_code answer) (answer_body answer) closes) closes result → Exchanges setup number ahead (drop size ahead) before after result
answered_exchange setup number ahead head size answer closes before after result whole answers closes_is unread sends log seen =
    let a = answers log seen in
    let x : Exchange = record { request = take size ahead; outcome = a.outcome; closes = closes } in
    let is : IsAnswered setup (log ++ a.grown) number x = record {
      head = head;
      body = take (size - head.size) (drop head.size ahead);
      whole = whole.whole;
      comes_to = a.comes_to;
      closes_is = closes_is ∙ ap (λ (b : Bool). head.last || b || number == 100) (sym a.no_memory);
    } in
    record {
      x = x;
      grown = a.grown;
      is_exchange = is_outcome setup (log ++ a.grown) number x a.outcome refl is;
      request = sym (take-append-drop size ahead);
      moments = a.moments;
      sends = subst (λ (text : List ℕ). SendsReply before after text closes result) (sym (a.text closes)) sends;
      watches = a.watches;
      unread = unread;
    }
