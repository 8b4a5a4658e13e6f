-- The world, and its steps one after another.
use Rattle.std.specs.Prelude.{◌≡◌, ◌⊎◌, ℕ, List, [], ◌∷◌, ◌++◌, pos, Option, None, Some, slice_get, slice_set}
use Rattle.ofx_types.specs.declared.number.Moment.{Moment}
use Rattle.ofx_types.specs.declared.number.UserId.{UserId}
use Rattle.ofx_types.specs.declared.request.RequestFile.{RequestFile}
use Rattle.bank_model.specs.declared.event.Event.TheVariants.{File}
use Rattle.bank_model.specs.declared.setup.Setup.{Setup}
use Rattle.bank_signon.specs.Signon.{IsSignedOn}
use Rattle.client_saved.specs.declared.state.ClientState.{ClientState}
use Rattle.client_saved.specs.declared.state.Outstanding.{Outstanding}
use Rattle.client_core.specs.declared.wish.Wish.{Wish}
use Rattle.ofx_world.specs.Customer as of_client
use Rattle.ofx_world.specs.Customer.{CustomerView, MakesFile, MakesNone, TakesIn, IsSavedAs, sent}
use Rattle.ofx_world.specs.Server as of_bank
use Rattle.ofx_world.specs.Server.{ServerView, committed, reply_to, settled, due_done, with_fault, WritesLetter}
use Rattle.ofx_world.specs.declared.step.Step.{Step}
use Rattle.ofx_world.specs.declared.step.Step.TheVariants as steps

-- The bank, the clients, all requests that were ever sent and all replies that were ever given, in their order, and the clock.
-- Files, like clients, are numbered from 0.
pub record WorldView : Type 0 where
  pub server : ServerView
  pub customers : List CustomerView
  pub requests : List (List ℕ)
  pub replies : List (List ℕ)
  pub clock : Moment

-- ---- how it begins

-- 1 January 2024, 00:00:00
abbrev pub beginning : Moment
beginning = record { 0 = pos 1704067200 }

-- Each client has saved what it knows.
abbrev pub HaveSaved : List ClientState → List CustomerView → Type 0
HaveSaved [] [] = Unit {0}
HaveSaved (client ∷ clients) (customer ∷ customers) = IsSavedAs client customer × HaveSaved clients customers
HaveSaved clients customers = ⊥

-- A world begins with a fresh bank, empty bags and these clients, each with its saved text.
pub record Begins (setup : Setup) (clients : List ClientState) (world : WorldView) : Type 0 where
  pub server : world.server ≡ of_bank.fresh setup
  pub customers_are : HaveSaved clients world.customers
  pub requests : world.requests ≡ []
  pub replies : world.replies ≡ []
  pub clock : world.clock ≡ beginning

-- ---- what a step changes

abbrev pub with_server : WorldView → ServerView → WorldView
with_server world server = record {
  server = server;
  customers = world.customers;
  requests = world.requests;
  replies = world.replies;
  clock = world.clock;
}

abbrev pub with_customer : WorldView → ℕ → CustomerView → WorldView
with_customer world number customer = record {
  server = world.server;
  customers = slice_set world.customers number customer;
  requests = world.requests;
  replies = world.replies;
  clock = world.clock;
}

abbrev pub with_request : WorldView → List ℕ → WorldView
with_request world file = record {
  server = world.server;
  customers = world.customers;
  requests = world.requests ++ file ∷ [];
  replies = world.replies;
  clock = world.clock;
}

abbrev pub with_reply : WorldView → Option (List ℕ) → WorldView
with_reply world None = world
with_reply world (Some file) = record {
  server = world.server;
  customers = world.customers;
  requests = world.requests;
  replies = world.replies ++ file ∷ [];
  clock = world.clock;
}

abbrev pub with_clock : WorldView → Moment → WorldView
with_clock world at = record {
  server = world.server;
  customers = world.customers;
  requests = world.requests;
  replies = world.replies;
  clock = at;
}

-- ---- each kind of step; what names nothing does nothing

-- A client makes the file of a wish at the clock's moment, and the file is on its way.
abbrev pub MakeStep : WorldView → ℕ → Wish → Option CustomerView → WorldView → Type 0
MakeStep before number wish None after = after ≡ before
MakeStep before number wish (Some customer) after =
    ((new : CustomerView) × (file : List ℕ) × MakesFile before.server.setup customer wish before.clock new file
    × (after ≡ with_request (with_customer before number new) file))
    ⊎ (MakesNone customer wish before.clock × (after ≡ before))

-- A client's outstanding file, where there is one, is on its way again.
abbrev pub again : WorldView → Option Outstanding → WorldView
again world None = world
again world (Some kept) = with_request world (sent world.server.setup kept)

abbrev pub sent_again : WorldView → Option CustomerView → WorldView
sent_again world None = world
sent_again world (Some customer) = again world customer.client.outstanding

-- A client starts anew from its saved text.
abbrev pub RestartStep : WorldView → ℕ → Option CustomerView → WorldView → Type 0
RestartStep before number None after = after ≡ before
RestartStep before number (Some customer) after =
    (new : CustomerView) × of_client.Restarts customer new × (after ≡ with_customer before number new)

-- A request arrives: what is pending is settled, and then the file is an event of the user who signs on, whose reply, where the
-- append doesn't fail, is on its way.
abbrev pub answered : WorldView → UserId → RequestFile → WorldView
answered world user file =
    with_reply (with_server world (committed (settled world.server) world.clock (File user file)))
    (reply_to (settled world.server) world.clock (File user file))

abbrev pub DeliverStep : WorldView → Option (List ℕ) → WorldView → Type 0
DeliverStep before None after = after ≡ before
DeliverStep before (Some bytes) after =
    (user : UserId) × (file : RequestFile) × IsSignedOn before.server.setup bytes file user × (after ≡ answered before user file)

-- A reply arrives at a client, whoever it was for.
abbrev pub DeliverReplyStep : WorldView → ℕ → Option CustomerView → Option (List ℕ) → WorldView → Type 0
DeliverReplyStep before number None bytes after = after ≡ before
DeliverReplyStep before number (Some customer) None after = after ≡ before
DeliverReplyStep before number (Some customer) (Some bytes) after =
    (new : CustomerView) × TakesIn customer bytes new × (after ≡ with_customer before number new)

-- The bank writes a letter.
abbrev pub LetterStep : WorldView → UserId → List ℕ → List ℕ → WorldView → Type 0
LetterStep before user subject body after =
    (server : ServerView) × WritesLetter before.server before.clock user subject body server × (after ≡ with_server before server)

-- The bank starts anew from its records.
abbrev pub RestartServerStep : WorldView → WorldView → Type 0
RestartServerStep before after =
    (server : ServerView) × of_bank.Restarts before.server server × (after ≡ with_server before server)

-- ---- steps

abbrev pub IsStep : WorldView → Step → WorldView → Type 0
IsStep before (steps.Make client wish) after = MakeStep before client wish (slice_get before.customers client) after
IsStep before (steps.SendAgain client) after = after ≡ sent_again before (slice_get before.customers client)
IsStep before (steps.RestartClient client) after = RestartStep before client (slice_get before.customers client) after
IsStep before (steps.Deliver request) after = DeliverStep before (slice_get before.requests request) after
IsStep before (steps.DeliverReply client reply) after =
    DeliverReplyStep before client (slice_get before.customers client) (slice_get before.replies reply) after
IsStep before steps.Due after = after ≡ with_server before (due_done before.server before.clock)
IsStep before (steps.Letter user subject body) after = LetterStep before user subject body after
IsStep before (steps.Fault landed) after = after ≡ with_server before (with_fault before.server landed)
IsStep before steps.RestartServer after = RestartServerStep before after
IsStep before (steps.Clock at) after = after ≡ with_clock before at

-- just these steps, in their order
abbrev pub AreSteps : WorldView → List Step → WorldView → Type 0
AreSteps before [] after = after ≡ before
AreSteps before (step ∷ more) after = (between : WorldView) × IsStep before step between × AreSteps between more after

-- Nothing has changed, or what was pending is settled and nothing else.
abbrev pub IsCut : WorldView → WorldView → Type 0
IsCut between after = (after ≡ between) ⊎ (after ≡ with_server between (settled between.server))

-- The steps before one that is refused, and after them perhaps what was pending is settled.
pub record AreCutSteps (before : WorldView) (all : List Step) (after : WorldView) : Type 0 where
  pub done : List Step
  pub refused : Step
  pub left : List Step
  pub parts : all ≡ done ++ refused ∷ left
  pub between : WorldView
  pub steps : AreSteps before done between
  pub cut : IsCut between after
