-- What a reply makes of a client, and what is reported of it.
use Rattle.std.specs.Prelude.{ℕ, ◌==◌, not, Bool, true, false, List, [], ◌∷◌, ◌++◌, map, Option, None, Some, Result, Ok, Err, if◌then◌else◌}
use Rattle.std.specs.Option.{option_map}
use Rattle.std.specs.Str.{bytes_eq}
use Rattle.ofx_types.specs.declared.transfer.DeedReply.{DeedReply}
use Rattle.ofx_types.specs.declared.sync.SyncAsk.{SyncAsk}
use Rattle.ofx_types.specs.declared.sync.SyncReply.{SyncReply}
use Rattle.ofx_types.specs.declared.request.Ask.{Ask}
use Rattle.ofx_types.specs.declared.request.Ask.TheVariants as asks
use Rattle.ofx_types.specs.declared.request.RequestFile.{RequestFile}
use Rattle.ofx_types.specs.declared.reply.AskReply.{AskReply}
use Rattle.ofx_types.specs.declared.reply.AskReply.TheVariants as replies
use Rattle.ofx_types.specs.declared.reply.ReplyFile.{ReplyFile}
use Rattle.bank_model.specs.Stores.{Store, taken}
use Rattle.client_saved.specs.declared.state.ClientState.{ClientState}
use Rattle.client_saved.specs.declared.state.Outstanding.{Outstanding}
use Rattle.client_report.specs.Lines.{balance_text, done_text, store_text}
use Rattle.client_saved.specs.Bounds.{same_object}
use Rattle.client_core.specs.Objects.{store_under, with_store}
use Rattle.client_core.specs.Answering.{last_replies, first_unanswered}
use Rattle.client_core.specs.declared.fault.ClientFault.{ClientFault}
use Rattle.client_core.specs.declared.fault.ClientFault.TheVariants.{NotMine, Signon, Shape}

-- ---- stores

-- The store of the object takes the reply. Where there is none it is made first, after the others.
abbrev pub taken_by : SyncAsk → SyncReply → Store → Store
taken_by ask reply store = if same_object store.name ask.object then taken store ask.kind reply else store

abbrev pub taken_into : SyncAsk → SyncReply → List Store → List Store
taken_into ask reply stores = map (taken_by ask reply) (with_store ask.object stores)

-- Only a reply to a synchronisation, by a synchronisation's reply, changes a store.
abbrev pub stores_with : Ask → AskReply → List Store → List Store
stores_with (asks.Sync ask) (replies.Sync reply) stores = taken_into ask reply stores
stores_with ask reply stores = stores

-- each reply in its turn, as far as both lists go
abbrev pub stores_after : List Ask → List AskReply → List Store → List Store
stores_after (ask ∷ asks) (reply ∷ replies) stores = stores_after asks replies (stores_with ask reply stores)
stores_after asks replies stores = stores

-- ---- lines

abbrev pub done_line : DeedReply → List ℕ
done_line reply = done_text reply.trnuid reply.code

abbrev pub sync_lines : SyncAsk → SyncReply → List Store → List (List ℕ)
sync_lines ask reply stores =
    map done_line (last_replies ask.deeds reply.replies) ++ store_text (store_under ask.object stores) ∷ []

-- A statement is reported by its balance. A synchronisation is reported by the code of each deed that was asked for, and by the
-- store as it is now. Any other pair has no line; a client makes no file with a deed outside a synchronisation.
abbrev pub lines_of : Ask → AskReply → List Store → List (List ℕ)
lines_of (asks.Statement trnuid account period) (replies.Statement uid code body) stores = balance_text account code body ∷ []
lines_of (asks.Sync ask) (replies.Sync reply) stores = sync_lines ask reply stores
lines_of ask reply stores = []

-- The lines of each reply, once it was taken, in the order of the asks, as far as both lists go.
abbrev pub lines_along : List Ask → List AskReply → List Store → List (List ℕ)
lines_along (ask ∷ asks) (reply ∷ replies) stores =
    lines_of ask reply (stores_with ask reply stores) ++ lines_along asks replies (stores_with ask reply stores)
lines_along asks replies stores = []

-- ---- the client

-- what a client knows once it has accepted a reply, and the lines that report it
pub record Accepted : Type 0 where
  pub after : ClientState
  pub lines : List (List ℕ)

-- The outstanding file has ended, and the next one names it as the last whose reply was accepted.
abbrev pub with_reply : ClientState → Option (List ℕ) → List Store → ClientState
with_reply client name stores = record {
  name = client.name;
  user = client.user;
  next = client.next;
  done = name;
  outstanding = None;
  stores = stores;
}

abbrev pub with_replies : ClientState → RequestFile → List AskReply → Accepted
with_replies client file replies = record {
  after = with_reply client file.newer (stores_after file.asks replies client.stores);
  lines = lines_along file.asks replies client.stores;
}

-- whether both are the same name, or both none
abbrev pub same_name : Option (List ℕ) → Option (List ℕ) → Bool
same_name None None = true
same_name (Some a) (Some b) = bytes_eq a b
same_name a b = false

-- A reply to a file is refused that bears another name, then one whose signon failed, then one that doesn't answer what was
-- asked.
abbrev pub refusal_for : RequestFile → ReplyFile → Option ClientFault
refusal_for file reply =
    if not (same_name file.newer reply.newer) then Some NotMine
    else (if not (reply.signon == 0) then Some (Signon reply.signon)
    else option_map (λ (number : ℕ). Shape number) (first_unanswered file.asks reply.replies))

abbrev pub accepted_unless : ClientState → RequestFile → ReplyFile → Option ClientFault → Result Accepted ClientFault
accepted_unless client file reply None = Ok (with_replies client file reply.replies)
accepted_unless client file reply (Some fault) = Err fault

abbrev pub accepted_for : ClientState → RequestFile → ReplyFile → Result Accepted ClientFault
accepted_for client file reply = accepted_unless client file reply (refusal_for file reply)

abbrev pub accepted_to : ClientState → Option Outstanding → ReplyFile → Result Accepted ClientFault
accepted_to client None reply = Err NotMine
accepted_to client (Some kept) reply = accepted_for client kept.file reply

-- The outstanding file's reply is accepted. Where no file is outstanding every reply is refused.
unfoldable pub accepted : ClientState → ReplyFile → Result Accepted ClientFault
accepted client reply = accepted_to client client.outstanding reply
