-- How the message sets of a file are read: the messages of each in the order of the file, and the first fault.
use Rattle.std.specs.Prelude.{ℕ, Bool, ◌||◌, List, [], ◌∷◌, ◌++◌, codes, Option, None, Some, Result, Ok, if◌then◌else◌}
use Rattle.ofx_types.specs.TagNames.{is_one_of}
use Rattle.ofx_types.specs.Nodes.{Item, children}
use Rattle.ofx_types.specs.FormWords.{has_name, ◌>>=◌, one, maybe}
use Rattle.ofx_types.specs.MessageForm.{is_named_one_of, bank_names, mail_names, bank_reply_names, mail_reply_names}
use Rattle.ofx_types.specs.RequestReading.{signon_of, statement_of}
use Rattle.ofx_types.specs.ReplyReading.{signon_reply_of, statement_reply_of}
use Rattle.ofx_types.specs.SyncReading.{transaction_of, transaction_reply_of, sync_of, sync_reply_of}
use Rattle.ofx_types.specs.declared.fault.TreeFault.{TreeFault}
use Rattle.ofx_types.specs.declared.number.Moment.{Moment}
use Rattle.ofx_types.specs.declared.transfer.Deed.{Deed}
use Rattle.ofx_types.specs.declared.request.Ask.{Ask}
use Rattle.ofx_types.specs.declared.request.Ask.TheVariants as asks
use Rattle.ofx_types.specs.declared.reply.AskReply.{AskReply}
use Rattle.ofx_types.specs.declared.reply.AskReply.TheVariants as replies

-- ---- messages in the order of the file

abbrev pub onto : {M : Type 0} → M → List M → Result (List M) TreeFault
onto message messages = Ok (message ∷ messages)

-- those among the children that have one of these names
unfoldable pub messages_of : {M : Type 0} → (Item → Result M TreeFault) → List (List ℕ) → List Item → Result (List M) TreeFault
messages_of message_of names [] = Ok []
messages_of message_of names (child ∷ more) =
    if is_named_one_of names child then (message_of child >>= λ message. messages_of message_of names more >>= onto message)
    else messages_of message_of names more

abbrev pub messages_in : {M : Type 0} → (Item → Result M TreeFault) → List (List ℕ) → Option Item → Result (List M) TreeFault
messages_in message_of names None = Ok []
messages_in message_of names (Some set) = messages_of message_of names (children set)

-- ---- requests

-- what a request says
pub record RequestParts : Type 0 where
  pub user : List ℕ
  pub pass : List ℕ
  pub asks : List Ask

abbrev pub transaction_names : List (List ℕ)
transaction_names =
    codes "INTRATRNRQ" ∷ codes "RECINTRATRNRQ" ∷ codes "BANKMAILTRNRQ" ∷ codes "MAILTRNRQ" ∷ []

abbrev pub one_ask : List ℕ × Deed → Result Ask TreeFault
one_ask deed = Ok (asks.One deed.0 deed.1)

-- the ask that a request is, by its name
unfoldable pub ask_of : Item → Result Ask TreeFault
ask_of request =
    if has_name (codes "STMTTRNRQ") request then statement_of request
    else (if is_named_one_of transaction_names request then (transaction_of request >>= one_ask)
    else (sync_of request >>= λ ask. Ok (asks.Sync ask)))

unfoldable pub request_of : Item → Result RequestParts TreeFault
request_of ofx = do
  signon_set ← one (codes "SIGNONMSGSRQV1") ofx
  sonrq ← one (codes "SONRQ") signon_set
  signon ← signon_of sonrq
  bank_set ← maybe (codes "BANKMSGSRQV1") ofx
  bank ← messages_in ask_of bank_names bank_set
  mail_set ← maybe (codes "EMAILMSGSRQV1") ofx
  mail ← messages_in ask_of mail_names mail_set
  Ok (record { user = signon.0; pass = signon.1; asks = bank ++ mail })

-- ---- replies

-- what a reply says
pub record ReplyParts : Type 0 where
  pub signon : ℕ
  pub moment : Moment
  pub replies : List AskReply

abbrev pub transaction_reply_names : List (List ℕ)
transaction_reply_names =
    codes "INTRATRNRS" ∷ codes "RECINTRATRNRS" ∷ codes "BANKMAILTRNRS" ∷ codes "MAILTRNRS" ∷ []

unfoldable pub ask_reply_of : Item → Result AskReply TreeFault
ask_reply_of reply =
    if has_name (codes "STMTTRNRS") reply then statement_reply_of reply
    else (if is_named_one_of transaction_reply_names reply then (transaction_reply_of reply >>= λ answer. Ok (replies.One answer))
    else (sync_reply_of reply >>= λ answer. Ok (replies.Sync answer)))

unfoldable pub reply_of : Item → Result ReplyParts TreeFault
reply_of ofx = do
  signon_set ← one (codes "SIGNONMSGSRSV1") ofx
  sonrs ← one (codes "SONRS") signon_set
  signon ← signon_reply_of sonrs
  bank_set ← maybe (codes "BANKMSGSRSV1") ofx
  bank ← messages_in ask_reply_of bank_reply_names bank_set
  mail_set ← maybe (codes "EMAILMSGSRSV1") ofx
  mail ← messages_in ask_reply_of mail_reply_names mail_set
  Ok (record { signon = signon.0; moment = signon.1; replies = bank ++ mail })
