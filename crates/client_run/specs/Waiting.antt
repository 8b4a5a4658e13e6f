-- What waits in a store, in words: a line for each deed of the outstanding file, and for each statement that it asks for.
use Rattle.std.specs.Prelude.{◌≡◌, ℕ, List, [], ◌∷◌, ◌++◌, codes, Option, None, Some, Ok}
use Rattle.std.specs.List.{flat_map}
use Rattle.std.specs.Option.{option_map}
use Rattle.std.specs.Fmt.{decimal}
use Rattle.ofx_types.specs.AmountForm.{amount_text}
use Rattle.ofx_types.specs.RecurringForm.{freq_word}
use Rattle.ofx_types.specs.declared.account.AcctName.{AcctName}
use Rattle.ofx_types.specs.declared.number.Day.{Day}
use Rattle.ofx_types.specs.declared.recurring.Recur.{Recur}
use Rattle.ofx_types.specs.declared.transfer.XferInfo.{XferInfo}
use Rattle.ofx_types.specs.declared.transfer.Deed.{Deed}
use Rattle.ofx_types.specs.declared.transfer.Deed.TheVariants as deeds
use Rattle.ofx_types.specs.declared.request.Ask.{Ask}
use Rattle.ofx_types.specs.declared.request.Ask.TheVariants as asks
use Rattle.ofx_types.specs.declared.request.RequestFile.{RequestFile}
use Rattle.client_report.specs.Lines.{account_words}
use Rattle.client_saved.specs.declared.state.Outstanding.{Outstanding}
use Rattle.client_saved.specs.declared.state.ClientState.{ClientState}
use Rattle.client_arguments.specs.declared.order.Order.{Order}
use Rattle.client_run.specs.Lines.{day_text}
use Rattle.client_run.specs.Saves.{Opens}
use Rattle.client_run.specs.Views.{StoreView}

-- the day for which a transfer is meant, where it has one
abbrev pub due_words : Option Day → List ℕ
due_words None = []
due_words (Some day) = codes " on " ++ day_text day

-- `44.00 from 1001 CHECKING to 2001 CHECKING on 20261224`
unfoldable pub transfer_words : XferInfo → List ℕ
transfer_words info =
    amount_text info.amount.0 ++ (codes " from " ++ (account_words info.from ++ (codes " to " ++ (account_words info.to ++ due_words info.due))))

-- how many transfers a recurring transfer makes, where they end
abbrev pub count_words : Option ℕ → List ℕ
count_words None = []
count_words (Some count) = codes ", " ++ (decimal count ++ codes " in all")

-- how often a recurring transfer is made: ` and MONTHLY after that, 12 in all`
unfoldable pub series_words : Recur → List ℕ
series_words recur = codes " and " ++ (freq_word recur.freq ++ (codes " after that" ++ count_words recur.count))

unfoldable pub model_words : Recur → XferInfo → List ℕ
model_words recur info = transfer_words info ++ series_words recur

-- the row of an id, and that it is changed to what follows
unfoldable pub change_words : List ℕ → ℕ → List ℕ
change_words row id = codes "the change of " ++ (row ++ (decimal id ++ codes " to "))

-- an account and a subject, after what is said of both
unfoldable pub bank_mail_words : List ℕ → AcctName → List ℕ → List ℕ
bank_mail_words what account subject = what ++ (account_words account ++ 32 ∷ subject)

-- A deed: its terms, or what it does to the row of an id.
unfoldable pub deed_words : Deed → List ℕ
deed_words (deeds.Transfer info) = transfer_words info
deed_words (deeds.ModifyTransfer id info) = change_words (codes "transfer ") id ++ transfer_words info
deed_words (deeds.CancelTransfer id) = codes "the cancellation of transfer " ++ decimal id
deed_words (deeds.Model recur info) = model_words recur info
deed_words (deeds.ModifyModel id recur info pending) = change_words (codes "recurring transfer ") id ++ model_words recur info
deed_words (deeds.CancelModel id pending) = codes "the end of recurring transfer " ++ decimal id
deed_words (deeds.BankMail account mail) = bank_mail_words (codes "the mail about ") account mail.subject
deed_words (deeds.Mail mail) = codes "the mail " ++ mail.subject

-- what is to be done about a deed that waits, and the end of its line
unfoldable pub deed_end : List ℕ
deed_end = codes " waits and is made by the next run: run sync, don't give the command again\n"

-- `c1-9-1: 44.00 from 1001 CHECKING to 2001 CHECKING waits and is made by the next run: run sync, don't give the command again`
unfoldable pub deed_line : List ℕ × Deed → List ℕ
deed_line deed = deed.0 ++ (codes ": " ++ (deed_words deed.1 ++ deed_end))

unfoldable pub statement_end : List ℕ
statement_end = codes " waits and is made by the next run\n"

-- `c1-9-0: sync 1001 CHECKING waits and is made by the next run`
unfoldable pub statement_line : List ℕ → AcctName → List ℕ
statement_line trnuid account = trnuid ++ (codes ": sync " ++ (account_words account ++ statement_end))

abbrev pub ask_lines : Ask → List ℕ
ask_lines (asks.Statement trnuid account period) = statement_line trnuid account
ask_lines (asks.One trnuid deed) = deed_line (trnuid, deed)
ask_lines (asks.Sync ask) = flat_map deed_line ask.deeds

-- Nothing waits where no file is outstanding.
abbrev pub file_lines : Option RequestFile → List ℕ
file_lines None = []
file_lines (Some file) = flat_map ask_lines file.asks

abbrev pub waiting_text : ClientState → List ℕ
waiting_text client = file_lines (option_map (λ (kept : Outstanding). kept.file) client.outstanding)

-- The lines are of the client that the store has, where it is the one that is named.
abbrev pub IsWaitingIn : Order → StoreView → StoreView → List ℕ → Type 0
IsWaitingIn order before after text = (client : ClientState) × Opens order before after (Ok client) × (text ≡ waiting_text client)
