-- The message sets of a request file and of a reply file, and the whole of OFX.
use Rattle.std.specs.Prelude.{◌≡◌, ℕ, Bool, ◌⊎◌, List, [], ◌∷◌, ◌++◌, filter, codes}
use Rattle.std.specs.List.{AllZip}
use Rattle.ofx_types.specs.TagNames.{is_one_of}
use Rattle.ofx_types.specs.Nodes.{Item, children}
use Rattle.ofx_types.specs.FormWords.{IsOnly, IsNone}
use Rattle.ofx_types.specs.RequestForm.{IsSignon, IsStatement}
use Rattle.ofx_types.specs.ReplyGrammar.{IsSignonReply, IsStatementReply}
use Rattle.ofx_types.specs.SyncForm.{IsTransaction, IsTransactionReply, IsSync, IsSyncReply}
use Rattle.ofx_types.specs.declared.number.Moment.{Moment}
use Rattle.ofx_types.specs.declared.request.Ask.{Ask}
use Rattle.ofx_types.specs.declared.request.Ask.TheVariants as asks
use Rattle.ofx_types.specs.declared.reply.AskReply.{AskReply}
use Rattle.ofx_types.specs.declared.reply.AskReply.TheVariants as replies

abbrev pub is_named_one_of : List (List ℕ) → Item → Bool
is_named_one_of names item = is_one_of names item.node.name

-- A message set may occur once. Its messages are in the order of the file, and other children are skipped.
abbrev pub AreMessages : {M : Type 0} → (Item → M → Type 0) → List (List ℕ) → Item → List M → Type 0
AreMessages IsMessage names set messages = AllZip IsMessage (filter (is_named_one_of names) (children set)) messages

abbrev pub AreMaybeMessages : {M : Type 0} → (Item → M → Type 0) → List ℕ → List (List ℕ) → Item → List M → Type 0
AreMaybeMessages IsMessage name names ofx messages =
    (IsNone name ofx × (messages ≡ []))
    ⊎ ((set : Item) × IsOnly name ofx set × AreMessages IsMessage names set messages)

-- ---- requests

-- the requests of the bank's message set, and those of the mail's
abbrev pub bank_names : List (List ℕ)
bank_names =
    codes "STMTTRNRQ" ∷ codes "INTRATRNRQ" ∷ codes "RECINTRATRNRQ" ∷ codes "BANKMAILTRNRQ" ∷ codes "INTRASYNCRQ"
    ∷ codes "RECINTRASYNCRQ" ∷ codes "BANKMAILSYNCRQ" ∷ []

abbrev pub mail_names : List (List ℕ)
mail_names = codes "MAILTRNRQ" ∷ codes "MAILSYNCRQ" ∷ []

-- a statement request, a deed or a synchronisation
abbrev pub IsAsk : Item → Ask → Type 0
IsAsk request (asks.Statement trnuid account period) =
    (request.node.name ≡ codes "STMTTRNRQ") × IsStatement request (asks.Statement trnuid account period)
IsAsk request (asks.One trnuid deed) = IsTransaction request (trnuid, deed)
IsAsk request (asks.Sync ask) = IsSync request ask

-- OFX: the message set of the signon, and perhaps those of the bank and of mail. What the bank is asked comes before mail.
pub record IsRequest (ofx : Item) (user pass : List ℕ) (asks : List Ask) : Type 0 where
  pub signon_set : Item
  pub has_signon_set : IsOnly (codes "SIGNONMSGSRQV1") ofx signon_set
  pub sonrq : Item
  pub has_sonrq : IsOnly (codes "SONRQ") signon_set sonrq
  pub is_signon : IsSignon sonrq user pass
  pub bank : List Ask
  pub are_bank : AreMaybeMessages IsAsk (codes "BANKMSGSRQV1") bank_names ofx bank
  pub mail : List Ask
  pub are_mail : AreMaybeMessages IsAsk (codes "EMAILMSGSRQV1") mail_names ofx mail
  pub are_asks : asks ≡ bank ++ mail

-- ---- replies

abbrev pub bank_reply_names : List (List ℕ)
bank_reply_names =
    codes "STMTTRNRS" ∷ codes "INTRATRNRS" ∷ codes "RECINTRATRNRS" ∷ codes "BANKMAILTRNRS" ∷ codes "INTRASYNCRS"
    ∷ codes "RECINTRASYNCRS" ∷ codes "BANKMAILSYNCRS" ∷ []

abbrev pub mail_reply_names : List (List ℕ)
mail_reply_names = codes "MAILTRNRS" ∷ codes "MAILSYNCRS" ∷ []

abbrev pub IsAskReply : Item → AskReply → Type 0
IsAskReply reply (replies.Statement trnuid code body) =
    (reply.node.name ≡ codes "STMTTRNRS") × IsStatementReply reply (replies.Statement trnuid code body)
IsAskReply reply (replies.One answer) = IsTransactionReply reply answer
IsAskReply reply (replies.Sync answer) = IsSyncReply reply answer

-- OFX of a reply. A signon that failed doesn't forbid the other message sets.
pub record IsReply (ofx : Item) (signon : ℕ) (moment : Moment) (answers : List AskReply) : Type 0 where
  pub signon_set : Item
  pub has_signon_set : IsOnly (codes "SIGNONMSGSRSV1") ofx signon_set
  pub sonrs : Item
  pub has_sonrs : IsOnly (codes "SONRS") signon_set sonrs
  pub is_signon : IsSignonReply sonrs signon moment
  pub bank : List AskReply
  pub are_bank : AreMaybeMessages IsAskReply (codes "BANKMSGSRSV1") bank_reply_names ofx bank
  pub mail : List AskReply
  pub are_mail : AreMaybeMessages IsAskReply (codes "EMAILMSGSRSV1") mail_reply_names ofx mail
  pub are_answers : answers ≡ bank ++ mail
