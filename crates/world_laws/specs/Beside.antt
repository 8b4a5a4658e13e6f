-- Clients beside a served bank: while its log goes on, clients make files, take in the replies in the log, and start anew.
use Rattle.std.specs.Prelude.{◌≡◌, ◌⊎◌, ℕ, List, [], ◌∷◌, ◌++◌, Contains, slice_get, slice_set, Option, None, Some}
use Rattle.ofx_types.specs.Calendar.{IsMoment}
use Rattle.ofx_types.specs.declared.number.Moment.{Moment}
use Rattle.ofx_types.specs.declared.number.UserId.{UserId}
use Rattle.ofx_types.specs.declared.request.RequestFile.{RequestFile}
use Rattle.bank_model.specs.declared.event.Event.{Event}
use Rattle.bank_model.specs.declared.event.Event.TheVariants as events
use Rattle.bank_model.specs.declared.log.LogItem.{LogItem}
use Rattle.bank_model.specs.declared.log.LogItem.TheVariants.{Effect, Answer, Adopted, Fault}
use Rattle.bank_model.specs.declared.setup.Setup.{Setup}
use Rattle.bank_signon.specs.Signon.{IsSignedOn}
use Rattle.client_core.specs.ClientForm.{discarded}
use Rattle.ofx_world.specs.Customer.{CustomerView, IsSavedAs}
use Rattle.ofx_world.specs.Server.{ServerView}
use Rattle.ofx_world.specs.Sound.{IsStrangers}
use Rattle.ofx_world.specs.World.{WorldView, IsStep}
use Rattle.ofx_world.specs.declared.step.Step.{Step}
use Rattle.ofx_world.specs.declared.step.Step.TheVariants as steps

-- ---- a world without its bank

-- The clients with their saved texts, all requests that were ever sent and all replies that were ever given, in their order,
-- and the clock by which files are made.
pub record ClientsView : Type 0 where
  pub customers : List CustomerView
  pub requests : List (List ℕ)
  pub replies : List (List ℕ)
  pub clock : Moment

-- the world of a bank and these clients
abbrev pub world_of : ServerView → ClientsView → WorldView
world_of server clients = record {
  server = server;
  customers = clients.customers;
  requests = clients.requests;
  replies = clients.replies;
  clock = clients.clock;
}

abbrev pub with_request : ClientsView → List ℕ → ClientsView
with_request clients file = record {
  customers = clients.customers;
  requests = clients.requests ++ file ∷ [];
  replies = clients.replies;
  clock = clients.clock;
}

abbrev pub with_reply : ClientsView → List ℕ → ClientsView
with_reply clients reply = record {
  customers = clients.customers;
  requests = clients.requests;
  replies = clients.replies ++ reply ∷ [];
  clock = clients.clock;
}

abbrev pub with_client : ClientsView → ℕ → CustomerView → ClientsView
with_client clients index customer = record {
  customers = slice_set clients.customers index customer;
  requests = clients.requests;
  replies = clients.replies;
  clock = clients.clock;
}

-- ---- what happens

-- Something comes to its end in the log, a client takes a step of the world, or a client gives its outstanding file up.
pub data Doing : Type 0 where
  ending : LogItem → Doing
  acting : Step → Doing
  giving_up : ℕ → Doing

-- the endings among them
abbrev pub endings_of : List Doing → List LogItem
endings_of [] = []
endings_of (ending item ∷ more) = item ∷ endings_of more
endings_of (acting step ∷ more) = endings_of more
endings_of (giving_up index ∷ more) = endings_of more

-- ---- endings

-- A user's file is a request that was sent, in which this user signs on.
pub record IsRequested (setup : Setup) (requests : List (List ℕ)) (user : UserId) (file : RequestFile) : Type 0 where
  pub bytes : List ℕ
  pub is_sent : Contains requests bytes
  pub signed_on : IsSignedOn setup bytes file user

-- Or it is a stranger's, which leaves the names of the files of this user's clients alone. What the bank does by itself nobody
-- sends.
abbrev pub IsFrom : Setup → ClientsView → Event → Type 0
IsFrom setup clients (events.File user file) = IsRequested setup clients.requests user file ⊎ IsStrangers setup clients.customers user file
IsFrom setup clients (events.Post id) = Unit {0}
IsFrom setup clients (events.Spawn model offset) = Unit {0}
IsFrom setup clients (events.Letter user subject body) = Unit {0}

-- The reply to a client's file is on its way. That to a stranger's file goes to the stranger.
abbrev pub IsReplied : Setup → ClientsView → Event → List ℕ → ClientsView → Type 0
IsReplied setup before (events.File user file) reply after =
    (IsRequested setup before.requests user file × (after ≡ with_reply before reply))
    ⊎ (IsStrangers setup before.customers user file × (after ≡ before))
IsReplied setup before (events.Post id) reply after = after ≡ before
IsReplied setup before (events.Spawn model offset) reply after = after ≡ before
IsReplied setup before (events.Letter user subject body) reply after = after ≡ before

-- Only an answer gives a reply. An event whose append failed gets none, though it may be adopted.
abbrev pub Ends : Setup → ClientsView → LogItem → ClientsView → Type 0
Ends setup before (Effect entry) after = ⊥
Ends setup before (Answer event at reply) after = IsReplied setup before event reply after
Ends setup before (Adopted fault event at) after = after ≡ before
Ends setup before (Fault count None) after = after ≡ before
Ends setup before (Fault count (Some pending)) after = IsFrom setup before pending.0 × (after ≡ before)

-- ---- clients

-- Clients make files, send them again, start anew from their saved texts, and take in any reply that was given. The clock shows
-- any moment of the years 1900 to 9999.
abbrev pub IsOfClients : Step → Type 0
IsOfClients (steps.Make client wish) = Unit {0}
IsOfClients (steps.SendAgain client) = Unit {0}
IsOfClients (steps.RestartClient client) = Unit {0}
IsOfClients (steps.DeliverReply client reply) = Unit {0}
IsOfClients (steps.Clock at) = IsMoment at.0
IsOfClients (steps.Deliver request) = ⊥
IsOfClients steps.Due = ⊥
IsOfClients (steps.Letter user subject body) = ⊥
IsOfClients (steps.Fault landed) = ⊥
IsOfClients steps.RestartServer = ⊥

-- What names no client does nothing.
abbrev pub GivesUp : ClientsView → ℕ → Option CustomerView → ClientsView → Type 0
GivesUp before index None after = after ≡ before
GivesUp before index (Some customer) after = (new : CustomerView) × IsSavedAs (discarded customer.client) new × (after ≡ with_client before index new)

-- ---- one after another

-- A step of clients is one of the world with any bank of this setup.
abbrev pub IsDone : Setup → ClientsView → Doing → ClientsView → Type 0
IsDone setup before (ending item) after = Ends setup before item after
IsDone setup before (acting step) after =
    IsOfClients step × ((server : ServerView) → server.setup ≡ setup → IsStep (world_of server before) step (world_of server after))
IsDone setup before (giving_up index) after = GivesUp before index (slice_get before.customers index) after

-- just these, in their order
abbrev pub AreDone : Setup → ClientsView → List Doing → ClientsView → Type 0
AreDone setup before [] after = after ≡ before
AreDone setup before (doing ∷ more) after = (between : ClientsView) × IsDone setup before doing between × AreDone setup between more after
