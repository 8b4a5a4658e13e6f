-- The file that a client makes for a wish, and what the client knows then.
use Rattle.std.specs.Prelude.{ℕ, ◌+◌, Bool, true, false, List, [], ◌∷◌, ◌++◌, map, codes, Option, None, Some, Result, Ok, Err, if◌then◌else◌}
use Rattle.std.specs.Fmt.{decimal}
use Rattle.ofx_types.specs.declared.account.AcctName.{AcctName}
use Rattle.ofx_types.specs.declared.number.Moment.{Moment}
use Rattle.ofx_types.specs.declared.transfer.Deed.{Deed}
use Rattle.ofx_types.specs.declared.sync.ObjectName.{ObjectName}
use Rattle.ofx_types.specs.declared.sync.ObjectName.TheVariants as objects
use Rattle.ofx_types.specs.declared.sync.SyncKind.{SyncKind}
use Rattle.ofx_types.specs.declared.sync.SyncKind.TheVariants.{After, TokenOnly, Refresh}
use Rattle.ofx_types.specs.declared.sync.SyncAsk.{SyncAsk}
use Rattle.ofx_types.specs.declared.request.Period.{Period}
use Rattle.ofx_types.specs.declared.request.Ask.{Ask}
use Rattle.ofx_types.specs.declared.request.Ask.TheVariants.{Statement, One, Sync}
use Rattle.ofx_types.specs.declared.request.RequestFile.{RequestFile}
use Rattle.bank_model.specs.Stores.{Store}
use Rattle.client_saved.specs.declared.state.ClientState.{ClientState}
use Rattle.client_core.specs.Objects.{store_under, with_stores}
use Rattle.client_core.specs.Wishes.{content_of}
use Rattle.client_core.specs.declared.fault.ClientFault.{ClientFault}
use Rattle.client_core.specs.declared.wish.Wish.{Wish}
use Rattle.client_core.specs.declared.content.Content.{Content}
use Rattle.client_core.specs.declared.content.Content.TheVariants.{Look, Do}

-- ---- names

-- File n of the client c has the name `c-n`, and its deed i, from 1, the TRNUID `c-n-i`. A statement has `c-n-0`.
unfoldable pub file_name : List ℕ → ℕ → List ℕ
file_name name number = name ++ 45 ∷ decimal number

unfoldable pub deed_name : List ℕ → ℕ → ℕ → List ℕ
deed_name name number index = file_name name number ++ 45 ∷ decimal index

-- ---- asks

-- For a store, what came after its token is asked for, and all that there is where it is marked lost.
abbrev pub kind_asked : Store → SyncKind
kind_asked store = if store.is_lost then Refresh else After (decimal store.token)

-- Deeds are done whatever the client has missed.
abbrev pub sync_of : ClientState → ObjectName → List (List ℕ × Deed) → Ask
sync_of client object deeds =
    Sync (record { object = object; kind = kind_asked (store_under object client.stores); reject = false; deeds = deeds })

-- all that is listed of an account's transactions
abbrev pub whole_period : Period
whole_period = record { start = None; end = None; include = true }

-- the objects of an account, and the user's other mail
abbrev pub looked_at : AcctName → List ObjectName
looked_at account = objects.Intra account ∷ objects.RecIntra account ∷ objects.BankMail account ∷ objects.Mail ∷ []

abbrev pub objects_of : Content → List ObjectName
objects_of (Look account) = looked_at account
objects_of (Do object deed) = object ∷ []

-- Whoever looks at an account asks for its statement and synchronises all four.
abbrev pub statement_of : ClientState → AcctName → Ask
statement_of client account = Statement (deed_name client.name client.next 0) account (Some whole_period)

abbrev pub looking : ClientState → AcctName → List Ask
looking client account =
    statement_of client account ∷ map (λ (object : ObjectName). sync_of client object []) (looked_at account)

-- A deed is done with the synchronisation of its object.
abbrev pub acting : ClientState → ObjectName → Deed → List Ask
acting client object deed = sync_of client object ((deed_name client.name client.next 1, deed) ∷ []) ∷ []

abbrev pub asks_of : ClientState → Content → List Ask
asks_of client (Look account) = looking client account
asks_of client (Do object deed) = acting client object deed

-- ---- the file

-- A file has the version 160, names the last file whose reply was accepted, and has no password yet.
abbrev pub file_of : ClientState → Content → RequestFile
file_of client content = record {
  version = 160;
  older = client.done;
  newer = Some (file_name client.name client.next);
  user = client.user;
  pass = [];
  asks = asks_of client content;
}

-- a store of each object that is asked about
abbrev pub with_opened : List ObjectName → ClientState → ClientState
with_opened objects client = record {
  name = client.name;
  user = client.user;
  next = client.next;
  done = client.done;
  outstanding = client.outstanding;
  stores = with_stores objects client.stores;
}

-- The file is outstanding, the next one has the next number, and there is a store of each object that is asked about.
abbrev pub with_file : ClientState → Moment → Content → ClientState
with_file client at content = record {
  name = client.name;
  user = client.user;
  next = client.next + 1;
  done = client.done;
  outstanding = Some (record { at = at; file = file_of client content });
  stores = with_stores (objects_of content) client.stores;
}

abbrev pub made_for : ClientState → Moment → Result Content ClientFault → Result ClientState ClientFault
made_for client at (Err fault) = Err fault
made_for client at (Ok content) = Ok (with_file client at content)

-- What a client knows once it has made the file of a wish at a moment, or why it made none.
unfoldable pub made : ClientState → Wish → Moment → Result ClientState ClientFault
made client wish at = made_for client at (content_of client wish at)

-- ---- polls

abbrev pub poll_ask : ObjectName → Ask
poll_ask object = Sync (record { object = object; kind = TokenOnly; reject = false; deeds = [] })

abbrev pub poll_asks : AcctName → List Ask
poll_asks account = map poll_ask (objects.Intra account ∷ objects.RecIntra account ∷ objects.BankMail account ∷ [])

-- A poll file has no name and asks for the newest tokens of the three objects of an account.
unfoldable pub poll_of : ClientState → AcctName → RequestFile
poll_of client account = record {
  version = 160;
  older = None;
  newer = None;
  user = client.user;
  pass = [];
  asks = poll_asks account;
}
