-- What is true of a world at any time, from which its truths follow.
use Rattle.std.specs.Prelude.{◌≡◌, ◌⊎◌, ℕ, ◌+◌, ◌<◌, List, slice_get, Option, None, Some}
use Rattle.std.specs.Option.{IfSome}
use Rattle.std.specs.List.{All}
use Rattle.ofx_types.specs.Calendar.{IsMoment}
use Rattle.ofx_types.specs.FileForm.{SpellsReply}
use Rattle.ofx_types.specs.declared.number.Moment.{Moment}
use Rattle.ofx_types.specs.declared.number.UserId.{UserId}
use Rattle.ofx_types.specs.declared.request.RequestFile.{RequestFile}
use Rattle.sync_laws.specs.Histories.{IsInOrder, IsLater}
use Rattle.bank_model.specs.Once.{reply_kept}
use Rattle.bank_model.specs.Rules.{IsLegal, opening_state, raised, ask_answers}
use Rattle.bank_model.specs.SetupForm.{IsWithinLimits}
use Rattle.bank_model.specs.SetupLookups.{user_of}
use Rattle.bank_model.specs.declared.event.Event.{Event}
use Rattle.bank_model.specs.declared.event.Event.TheVariants as events
use Rattle.bank_model.specs.declared.event.State.{State}
use Rattle.bank_model.specs.declared.once.KeptReply.{KeptReply}
use Rattle.bank_model.specs.declared.setup.Setup.{Setup}
use Rattle.reply_laws.specs.Reportable.{IsReportable}
use Rattle.client_core.specs.Making.{file_name}
use Rattle.client_laws.specs.Answers.{bank_reply}
use Rattle.client_laws.specs.ClientStores.{IsAsked}
use Rattle.client_saved.specs.SavedText.{IsSavedText}
use Rattle.client_saved.specs.declared.state.ClientState.{ClientState}
use Rattle.client_saved.specs.declared.state.Outstanding.{Outstanding}
use Rattle.event_codec.specs.Coding.{coded}
use Rattle.event_codec.specs.Records.{Codes, Reopens}
use Rattle.ofx_world.specs.Customer.{CustomerView, with_pass}
use Rattle.ofx_world.specs.Kept.{IsReply, IsRequest, IsUser}
use Rattle.ofx_world.specs.Server.{PendingView}
use Rattle.ofx_world.specs.Truths.{IsAtItsIndex, Bears, HasRightStores}
use Rattle.ofx_world.specs.World.{WorldView}

-- ---- names of files

-- No two of the clients have one name.
abbrev pub HaveOwnNames : List CustomerView → Type 0
HaveOwnNames customers = (j k : ℕ) (a b : CustomerView) → slice_get customers j ≡ Some a → slice_get customers k ≡ Some b
    → a.client.name ≡ b.client.name → j ≡ k

-- a client's file of a number that it has given
abbrev pub IsNumbered : ClientState → ℕ → List ℕ → Type 0
IsNumbered client number name = (number < client.next) × (name ≡ file_name client.name number)

-- One of the clients has given the name.
pub record IsGiven (customers : List CustomerView) (name : List ℕ) : Type 0 where
  pub index : ℕ
  pub customer : CustomerView
  pub there : slice_get customers index ≡ Some customer
  pub number : ℕ
  pub numbered : IsNumbered customer.client number name

-- No client who acts for the user has given the name, or will.
abbrev pub IsStrange : Setup → List CustomerView → UserId → List ℕ → Type 0
IsStrange setup customers user name = (index number : ℕ) (customer : CustomerView) → slice_get customers index ≡ Some customer
    → user_of setup customer.client.user ≡ Some user → name ≡ file_name customer.client.name number → ⊥

-- ---- files

-- the name of a file of a client before that of a number
abbrev pub IsEarlier : ClientState → ℕ → List ℕ → Type 0
IsEarlier client number older = (earlier : ℕ) × (earlier < number) × (older ≡ file_name client.name earlier)

-- A file is one of a client's: it has a number that the client has given, is of the client's user, and names an earlier file or
-- none as the last that was answered. Where it has the name of the outstanding file it is that file.
pub record IsOf (setup : Setup) (client : ClientState) (file : RequestFile) : Type 0 where
  pub number : ℕ
  pub name : List ℕ
  pub newer : file.newer ≡ Some name
  pub numbered : IsNumbered client number name
  pub older : IfSome file.older (IsEarlier client number)
  pub user : file.user ≡ client.user
  pub same : (kept : Outstanding) → client.outstanding ≡ Some kept → kept.file.newer ≡ Some name → file ≡ with_pass setup kept.file

-- A request is the file of one of the clients, and an event of its user.
pub record IsSentBy (setup : Setup) (customers : List CustomerView) (bytes : List ℕ) : Type 0 where
  pub index : ℕ
  pub customer : CustomerView
  pub there : slice_get customers index ≡ Some customer
  pub request : IsRequest setup bytes
  pub is_of : IsOf setup customer.client request.file

-- A user's file is one of a client's who acts for this user.
pub record IsSentFor (setup : Setup) (customers : List CustomerView) (user : UserId) (file : RequestFile) : Type 0 where
  pub index : ℕ
  pub customer : CustomerView
  pub there : slice_get customers index ≡ Some customer
  pub is_of : IsOf setup customer.client file
  pub acts : user_of setup customer.client.user ≡ Some user

-- A user's file is a stranger's where it neither has the name of a file of the user's clients nor names one as answered. This is
-- all that is said of it.
pub record IsStrangers (setup : Setup) (customers : List CustomerView) (user : UserId) (file : RequestFile) : Type 0 where
  pub newer : IfSome file.newer (IsStrange setup customers user)
  pub older : IfSome file.older (IsStrange setup customers user)

-- A user's file is one that a client has sent, or a stranger's. What the bank does by itself nobody has sent.
abbrev pub IsSentEvent : Setup → List CustomerView → Event → Type 0
IsSentEvent setup customers (events.File user file) = IsSentFor setup customers user file ⊎ IsStrangers setup customers user file
IsSentEvent setup customers (events.Post id) = Unit {0}
IsSentEvent setup customers (events.Spawn model index) = Unit {0}
IsSentEvent setup customers (events.Letter user subject body) = Unit {0}

-- An event may happen in a state, and its record codes it. Where it is a file, a client or a stranger has sent it.
pub record MayHappen (setup : Setup) (state : State) (customers : List CustomerView) (at : Moment) (event : Event) : Type 0 where
  pub legal : IsLegal setup state at event
  pub codes : Codes (coded at event) at event
  pub sent : IsSentEvent setup customers event

-- So it is with what is pending.
abbrev pub MayBePending : Setup → State → List CustomerView → Option PendingView → Type 0
MayBePending setup state customers None = Unit {0}
MayBePending setup state customers (Some pending) = MayHappen setup state customers pending.at pending.event

-- ---- clients

-- The outstanding file is the last that was made.
pub record IsLast (client : ClientState) (kept : Outstanding) : Type 0 where
  pub number : ℕ
  pub last : client.next ≡ number + 1
  pub name : kept.file.newer ≡ Some (file_name client.name number)
  pub asked : IsAsked client kept
  pub older : IfSome kept.file.older (IsEarlier client number)

-- A client has saved what it knows, and acts for a user of the setup. The last file that was answered is one that it has made.
pub record IsSoundCustomer (setup : Setup) (customer : CustomerView) : Type 0 where
  pub saved : IsSavedText customer.saved customer.client
  pub user : IsUser setup customer.client.user
  pub done : IfSome customer.client.done (IsEarlier customer.client customer.client.next)
  pub outstanding : IfSome customer.client.outstanding (IsLast customer.client)

-- ---- replies

-- The bytes that are kept for a user's file are a reply that bears its name, which a client has given, or none of this user's.
pub record IsSoundKept (setup : Setup) (customers : List CustomerView) (kept : KeptReply) : Type 0 where
  pub bears : Bears kept.file kept.reply
  pub known : IsGiven customers kept.file ⊎ IsStrange setup customers kept.user kept.file

-- A reply spells one, and whatever name it bears, one of the clients has given it.
pub record IsKnownReply (customers : List CustomerView) (reply : List ℕ) : Type 0 where
  pub is_reply : IsReply reply
  pub given : (name : List ℕ) → Bears name reply → IsGiven customers name

-- Whatever is said of a client's outstanding file, by its name and its user.
abbrev pub OfOutstanding : Setup → CustomerView → (Outstanding → List ℕ → UserId → Type 0) → Type 0
OfOutstanding setup customer holds = (kept : Outstanding) (name : List ℕ) (user : UserId) → customer.client.outstanding ≡ Some kept
    → kept.file.newer ≡ Some name → user_of setup customer.client.user ≡ Some user → holds kept name user

-- Whatever reply bears the name of an outstanding file is the one that the bank keeps for it.
abbrev pub IsTheKeptOne : State → UserId → List ℕ → List ℕ → Type 0
IsTheKeptOne state user name reply = Bears name reply → reply_kept user name state.kept ≡ Some reply

abbrev pub HasKeptReply : Setup → State → List (List ℕ) → CustomerView → Type 0
HasKeptReply setup state replies customer =
    OfOutstanding setup customer (λ kept name user. All (IsTheKeptOne state user name) replies)

-- The bank has made the reply to a file in some state in which the client's stores were right, and has come on from there.
pub record IsAnswered (setup : Setup) (state : State) (customer : CustomerView) (kept : Outstanding) (user : UserId) (reply : List ℕ) : Type 0 where
  pub before : State
  pub at : Moment
  pub order : IsInOrder setup before
  pub stores : HasRightStores setup before.entries customer
  pub spells : SpellsReply reply (bank_reply setup before user at kept.file)
  pub later : IsLater (ask_answers setup (raised before at) user at kept.file.asks).after state

-- So it is with the reply that the bank keeps for an outstanding file.
abbrev pub HasAnswer : Setup → State → CustomerView → Type 0
HasAnswer setup state customer = OfOutstanding setup customer
    (λ kept name user. (reply : List ℕ) → reply_kept user name state.kept ≡ Some reply → IsAnswered setup state customer kept user reply)

-- ---- the whole

pub record IsSoundWorld (world : WorldView) : Type 0 where
  pub within : IsWithinLimits world.server.setup
  pub clock : IsMoment world.clock.0
  pub reopened : Reopens world.server.setup opening_state world.server.records world.server.state
  pub reportable : IsReportable world.server.setup world.server.state
  pub customers : All (IsSoundCustomer world.server.setup) world.customers
  pub names : HaveOwnNames world.customers
  pub requests : All (IsSentBy world.server.setup world.customers) world.requests
  pub pending : MayBePending world.server.setup world.server.state world.customers world.server.pending
  pub reported : All (IsAtItsIndex world.server.setup world.server.records) world.replies
  pub named : All (IsKnownReply world.customers) world.replies
  pub recorded : All (IsSoundKept world.server.setup world.customers) world.server.state.kept
  pub kept : All (HasKeptReply world.server.setup world.server.state world.replies) world.customers
  pub answered : All (HasAnswer world.server.setup world.server.state) world.customers
  pub stores : All (HasRightStores world.server.setup world.server.state.entries) world.customers
