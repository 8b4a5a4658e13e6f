-- What is printed, beside the lines of reports.
use Rattle.std.specs.Prelude.{ℕ, ◌≤◌, List, [], ◌∷◌, ◌++◌, codes, Option, None, Some, Result, Ok, Err, ◌==◌, not, unwrap_or, if◌then◌else◌}
use Rattle.std.specs.List.{flat_map}
use Rattle.std.specs.Fmt.{decimal}
use Rattle.std.specs.Io.KnownBytes.{Keeps, Appends}
use Rattle.ofx_ports.specs.Faults.{Rose}
use Rattle.ofx_ports.specs.Writes.{AppendsPart}
use Rattle.ofx_ports.specs.declared.fault.PutFault.{PutFault}
use Rattle.ofx_ports.specs.declared.fault.PutFault.TheVariants as puts
use Rattle.ofx_types.specs.AmountForm.{amount_text}
use Rattle.ofx_types.specs.Calendar.{civil_of}
use Rattle.ofx_types.specs.DateForm.{date_text}
use Rattle.ofx_types.specs.RecurringForm.{freq_word}
use Rattle.ofx_types.specs.TransferForm.{code_word}
use Rattle.ofx_types.specs.declared.number.Day.{Day}
use Rattle.ofx_types.specs.declared.sync.SyncAsk.{SyncAsk}
use Rattle.ofx_types.specs.declared.request.Ask.{Ask}
use Rattle.ofx_types.specs.declared.request.Ask.TheVariants as asks
use Rattle.ofx_types.specs.declared.reply.AskReply.{AskReply}
use Rattle.ofx_types.specs.declared.reply.AskReply.TheVariants as replies
use Rattle.ofx_types.specs.declared.reply.ReplyFile.{ReplyFile}
use Rattle.ofx_types.specs.Sheet.{uid_text}
use Rattle.bank_model.specs.Sync.{token_of}
use Rattle.bank_model.specs.Stores.{Row, transfer_row, model_row, mail_row, Store}
use Rattle.client_report.specs.Lines.{store_text, newest_text}
use Rattle.client_saved.specs.declared.state.ClientState.{ClientState}
use Rattle.client_core.specs.Answering.{first_unanswered}
use Rattle.client_core.specs.declared.fault.ClientFault.{ClientFault}
use Rattle.client_core.specs.declared.fault.ClientFault.TheVariants.{Signon, Shape}
use Rattle.client_run.specs.Views.{OutView}

-- Each line has an LF after it.
abbrev pub line : List ℕ → List ℕ
line text = text ++ 10 ∷ []

abbrev pub printed : List (List ℕ) → List ℕ
printed lines = flat_map line lines

-- Bytes are printed whole, and the count of faults hasn't fallen. Where a write fails a prefix of them may be, and where memory
-- is refused nothing is.
abbrev pub Prints : List ℕ → OutView → OutView → Result (Unit {0}) PutFault → Type 0
Prints bytes before after (Ok done) = Appends before.held after.held bytes × (before.faults ≤ after.faults)
Prints bytes before after (Err puts.Failed) = AppendsPart before.held after.held bytes × Rose before.faults after.faults
Prints bytes before after (Err puts.OutOfMemory) = Keeps before.held after.held

-- ---- `show`

abbrev pub day_text : Day → List ℕ
day_text day = date_text (civil_of day.0)

-- `transfer ID CODE AMOUNT DAY`, `model ID FREQ AMOUNT DAY`, `mail SUBJECT`
unfoldable pub row_text : Row → List ℕ
row_text (transfer_row row) =
    codes "transfer " ++ (decimal row.id ++ 32 ∷ (code_word row.code ++ 32 ∷ (amount_text row.amount.0 ++ 32 ∷ day_text row.due)))
row_text (model_row row) =
    codes "model " ++ (decimal row.id ++ 32 ∷ (freq_word row.recur.freq ++ 32 ∷ (amount_text row.amount.0 ++ 32 ∷ day_text row.first)))
row_text (mail_row row) = codes "mail " ++ row.mail.subject

-- `client NAME next N done UID`: the uid of the last file whose reply was accepted, and `NONE` before there is one
unfoldable pub client_text : ClientState → List ℕ
client_text client =
    codes "client " ++ (client.name ++ (codes " next " ++ (decimal client.next ++ (codes " done " ++ uid_text client.done))))

abbrev pub row_line : Row → List ℕ
row_line row = line (row_text row)

-- a store, and its rows after it
abbrev pub store_lines : Store → List ℕ
store_lines store = line (store_text store) ++ flat_map row_line store.rows

-- What a client keeps: its own line, and its stores in the order in which they were made.
unfoldable pub kept_text : ClientState → List ℕ
kept_text client = line (client_text client) ++ flat_map store_lines client.stores

-- ---- `check`

abbrev pub number_of : List ℕ → ℕ
number_of token = unwrap_or (token_of token) 0

-- `newest OBJ T` of each object that was asked for
abbrev pub news_line : Ask → AskReply → List (List ℕ)
news_line (asks.Sync ask) (replies.Sync reply) = newest_text ask.object (number_of reply.token) ∷ []
news_line ask reply = []

abbrev pub news_lines : List Ask → List AskReply → List (List ℕ)
news_lines (ask ∷ asks) (reply ∷ replies) = news_line ask reply ++ news_lines asks replies
news_lines asks replies = []

abbrev pub news_unless : List Ask → List AskReply → Option ℕ → Result (List (List ℕ)) ClientFault
news_unless asks replies (Some number) = Err (Shape number)
news_unless asks replies None = Ok (news_lines asks replies)

-- A reply to a poll is refused whose signon failed, and then one that doesn't answer what was asked. Its name isn't looked at.
unfoldable pub news : List Ask → ReplyFile → Result (List (List ℕ)) ClientFault
news asks reply =
    if not (reply.signon == 0) then Err (Signon reply.signon)
    else news_unless asks reply.replies (first_unanswered asks reply.replies)
