-- What is written for exchanges.
use Rattle.std.specs.Prelude.{ℕ, Bool, List, [], ◌∷◌, ◌++◌, codes, Option, None, Some}
use Rattle.std.specs.Fmt.{decimal}
use Rattle.std.specs.List.{flat_map}
use Rattle.ofx_types.specs.ReplyForm.{reply_text}
use Rattle.http_link.specs.Replies.{reply_of, line, refusal_code, refusal_body}
use Rattle.bank_model.specs.declared.log.LogItem.{LogItem}
use Rattle.bank_model.specs.declared.log.LogItem.TheVariants.{Effect, Answer, Adopted, Fault}
use Rattle.bank_model.specs.Log.{ending}
use Rattle.bank_model.specs.Rules.{denial}
use Rattle.bank_callers.specs.Polled.{poll_reported}
use Rattle.bank_connection.specs.Exchanges.{Outcome, refused, misspelled, denied, polled, ended, no_memory, Exchange}

-- An answer is the reply of its event. A fault of the keeper is 503.
abbrev pub ending_reply : Option LogItem → Bool → List ℕ
ending_reply None closes = []
ending_reply (Some (Effect entry)) closes = []
ending_reply (Some (Answer event at reply)) closes = reply_of 200 reply closes
ending_reply (Some (Adopted fault event at)) closes = []
ending_reply (Some (Fault count pending)) closes = reply_of 503 (line (codes "keeper failed")) closes

-- the reply to each outcome, with the endings of this log
unfoldable pub outcome_reply : List LogItem → Outcome → Bool → List ℕ
outcome_reply log (refused refusal) closes = reply_of (refusal_code refusal) (refusal_body refusal) closes
outcome_reply log (misspelled offset) closes = reply_of 400 (line (codes "bad file at " ++ decimal offset)) closes
outcome_reply log (denied file at) closes = reply_of 200 (reply_text (denial file at)) closes
outcome_reply log (polled user file at loads) closes = reply_of 200 (reply_text (poll_reported file at loads)) closes
outcome_reply log (ended user file at number) closes = ending_reply (ending log number) closes
outcome_reply log (no_memory at) closes = reply_of 500 (line (codes "no memory")) closes

-- the replies to these exchanges one after another
abbrev pub out : List LogItem → List Exchange → List ℕ
out log xs = flat_map (λ (x : Exchange). outcome_reply log x.outcome x.closes) xs
