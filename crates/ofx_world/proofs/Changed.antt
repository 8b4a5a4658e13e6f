-- A world one of whose clients changes stays sound, where what the client knows then fits the rest.
use Rattle.std.proofs.Common.{◌≡◌, ◌⊎◌, inl, inr, ℕ, ◌≤◌, List, set, slice_get, Option, None, Some, sym, ap, subst, ◌∙◌, arith}
use Rattle.std.proofs.lemmas.List.Elements.{All-push, All-set, All-weaker}
use Rattle.ofx_types.specs.declared.number.UserId.{UserId}
use Rattle.ofx_types.specs.declared.request.RequestFile.{RequestFile}
use Rattle.bank_model.specs.declared.event.Event.{Event}
use Rattle.bank_model.specs.declared.event.Event.TheVariants.{File, Post, Spawn, Letter}
use Rattle.bank_model.specs.declared.once.KeptReply.{KeptReply}
use Rattle.bank_model.specs.SetupLookups.{user_of}
use Rattle.client_core.specs.Making.{file_name}
use Rattle.client_saved.specs.declared.state.ClientState.{ClientState}
use Rattle.ofx_world.specs.Customer.{CustomerView, Restarts}
use Rattle.ofx_world.specs.Laws.{Laws}
use Rattle.ofx_world.specs.Server.{PendingView}
use Rattle.ofx_world.specs.Sound.{HaveOwnNames, IsGiven, IsNumbered, IsStrange, IsOf, IsSentBy, IsSentFor, IsSentEvent, MayBePending, IsSoundCustomer, IsSoundKept, IsKnownReply, HasKeptReply, HasAnswer, IsSoundWorld}
use Rattle.ofx_world.specs.Truths.{HasRightStores}
use Rattle.ofx_world.specs.World.{WorldView, with_customer, with_request}
use Rattle.ofx_world.proofs.Lists.{same_some, at_all, some_weaker, got, got_new, stays_there, set_same}

-- What a client has become fits a world in which it was another: it has the same name and user, has given the same numbers and
-- perhaps more, and whatever was its file still is.
pub record Becomes (world : WorldView) (old new : CustomerView) : Type 0 where
  pub name : new.client.name ≡ old.client.name
  pub user : new.client.user ≡ old.client.user
  pub next : old.client.next ≤ new.client.next
  pub is_sound : IsSoundCustomer world.server.setup new
  pub files : (file : RequestFile) → IsOf world.server.setup old.client file → IsOf world.server.setup new.client file
  pub kept : HasKeptReply world.server.setup world.server.state world.replies new
  pub answered : HasAnswer world.server.setup world.server.state new
  pub stores : HasRightStores world.server.setup world.server.state.entries new

module _ (world : WorldView) (index : ℕ) (old new : CustomerView) (was : slice_get world.customers index ≡ Some old) (becomes : Becomes world old new) where
  abbrev changed : List CustomerView
  changed = set world.customers index new

  -- where a client stands now, as itself or as what it has become
  holds : (P : Type 0) (k : ℕ) (customer : CustomerView) → slice_get world.customers k ≡ Some customer
      → (slice_get changed k ≡ Some customer → P) → (slice_get changed index ≡ Some new → customer ≡ old → P) → P
  holds P k customer there same other = elim (stays_there world.customers index k new customer there) as (λ w. P) [
    | inl here ↦ other (got_new world.customers index old new was) (same_some customer old (sym there ∙ ap (slice_get world.customers) here ∙ was))
    | inr stays ↦ same stays
  ]

  numbered_on : (number : ℕ) (name : List ℕ) → IsNumbered old.client number name → IsNumbered new.client number name
  numbered_on number name is =
      let more = becomes.next in let below = is.0 in
      (omega (arith, more, below), is.1 ∙ ap (λ (n : List ℕ). file_name n number) (sym becomes.name))

  given_on : (name : List ℕ) → IsGiven world.customers name → IsGiven changed name
  given_on name given = holds (IsGiven changed name) given.index given.customer given.there
      (λ there. record { index = given.index; customer = given.customer; there = there; number = given.number; numbered = given.numbered })
      (λ there same. record {
        index = index;
        customer = new;
        there = there;
        number = given.number;
        numbered = numbered_on given.number name (subst (λ (c : CustomerView). IsNumbered c.client given.number name) same given.numbered);
      })

  -- A client keeps its name and its user, so what no client of a user gives none gives later.
  strange_on : (user : UserId) (name : List ℕ) → IsStrange world.server.setup world.customers user name → IsStrange world.server.setup changed user name
  strange_on user name strange k number customer there acts same = elim (got world.customers index k new customer there) as (λ w. ⊥) [
    | inl here ↦ strange index number old was
        (ap (user_of world.server.setup) (sym becomes.user ∙ ap (λ (c : CustomerView). c.client.user) here.1) ∙ acts)
        (same ∙ ap (λ (n : List ℕ). file_name n number) (sym (ap (λ (c : CustomerView). c.client.name) here.1) ∙ becomes.name))
    | inr there_too ↦ strange k number customer there_too acts same
  ]

  known_on : (user : UserId) (name : List ℕ) → IsGiven world.customers name ⊎ IsStrange world.server.setup world.customers user name
      → IsGiven changed name ⊎ IsStrange world.server.setup changed user name
  known_on user name (inl given) = inl (given_on name given)
  known_on user name (inr strange) = inr (strange_on user name strange)

  sent_by : (bytes : List ℕ) → IsSentBy world.server.setup world.customers bytes → IsSentBy world.server.setup changed bytes
  sent_by bytes sent = holds (IsSentBy world.server.setup changed bytes) sent.index sent.customer sent.there
      (λ there. record { index = sent.index; customer = sent.customer; there = there; request = sent.request; is_of = sent.is_of })
      (λ there same. record {
        index = index;
        customer = new;
        there = there;
        request = sent.request;
        is_of = becomes.files sent.request.file (subst (λ (c : CustomerView). IsOf world.server.setup c.client sent.request.file) same sent.is_of);
      })

  sent_for : (user : UserId) (file : RequestFile) → IsSentFor world.server.setup world.customers user file → IsSentFor world.server.setup changed user file
  sent_for user file sent = holds (IsSentFor world.server.setup changed user file) sent.index sent.customer sent.there
      (λ there. record { index = sent.index; customer = sent.customer; there = there; is_of = sent.is_of; acts = sent.acts })
      (λ there same. record {
        index = index;
        customer = new;
        there = there;
        is_of = becomes.files file (subst (λ (c : CustomerView). IsOf world.server.setup c.client file) same sent.is_of);
        acts = ap (user_of world.server.setup) (becomes.user ∙ sym (ap (λ (c : CustomerView). c.client.user) same)) ∙ sent.acts;
      })

  sent_event : (event : Event) → IsSentEvent world.server.setup world.customers event → IsSentEvent world.server.setup changed event
  sent_event (File user file) (inl sent) = inl (sent_for user file sent)
  sent_event (File user file) (inr strangers) = inr (record {
    newer = some_weaker (IsStrange world.server.setup world.customers user) (IsStrange world.server.setup changed user) file.newer (strange_on user) strangers.newer;
    older = some_weaker (IsStrange world.server.setup world.customers user) (IsStrange world.server.setup changed user) file.older (strange_on user) strangers.older;
  })
  sent_event (Post id) sent = tt
  sent_event (Spawn model at) sent = tt
  sent_event (Letter user subject body) sent = tt

  pending_on : (pending : Option PendingView) → MayBePending world.server.setup world.server.state world.customers pending
      → MayBePending world.server.setup world.server.state changed pending
  pending_on None may = tt
  pending_on (Some pending) may = record { legal = may.legal; codes = may.codes; sent = sent_event pending.event may.sent }

  own_names : HaveOwnNames world.customers → HaveOwnNames changed
  own_names own j k a b at_j at_k same =
      elim (got world.customers index j new a at_j) as (λ w. j ≡ k) [
        | inl here ↦ elim (got world.customers index k new b at_k) as (λ w. j ≡ k) [
          | inl there ↦ here.0 ∙ sym there.0
          | inr there ↦ here.0 ∙ own index k old b was there (sym becomes.name ∙ ap (λ (c : CustomerView). c.client.name) here.1 ∙ same)
        ]
        | inr here ↦ elim (got world.customers index k new b at_k) as (λ w. j ≡ k) [
          | inl there ↦ own j index a old here was (same ∙ sym (ap (λ (c : CustomerView). c.client.name) there.1) ∙ becomes.name) ∙ sym there.0
          | inr there ↦ own j k a b here there same
        ]
      ]

  pub changed_keeps : IsSoundWorld world → IsSoundWorld (with_customer world index new)
  changed_keeps sound = record {
    within = sound.within;
    clock = sound.clock;
    reopened = sound.reopened;
    reportable = sound.reportable;
    customers = All-set (IsSoundCustomer world.server.setup) world.customers index new becomes.is_sound sound.customers;
    names = own_names sound.names;
    requests = All-weaker (IsSentBy world.server.setup world.customers) (IsSentBy world.server.setup changed) sent_by world.requests sound.requests;
    pending = pending_on world.server.pending sound.pending;
    reported = sound.reported;
    named = All-weaker (IsKnownReply world.customers) (IsKnownReply changed)
        (λ reply known. record { is_reply = known.is_reply; given = λ name has. given_on name (known.given name has) }) world.replies sound.named;
    recorded = All-weaker (IsSoundKept world.server.setup world.customers) (IsSoundKept world.server.setup changed)
        (λ (kept : KeptReply) is. record { bears = is.bears; known = known_on kept.user kept.file is.known }) world.server.state.kept sound.recorded;
    kept = All-set (HasKeptReply world.server.setup world.server.state world.replies) world.customers index new becomes.kept sound.kept;
    answered = All-set (HasAnswer world.server.setup world.server.state) world.customers index new becomes.answered sound.answered;
    stores = All-set (HasRightStores world.server.setup world.server.state.entries) world.customers index new becomes.stores sound.stores;
  }

-- ---- a request more, and a client that starts anew

-- A request of one of the clients is on its way.
pub request_keeps : (world : WorldView) (file : List ℕ) → IsSentBy world.server.setup world.customers file → IsSoundWorld world → IsSoundWorld (with_request world file)
request_keeps world file sent sound = record {
  within = sound.within;
  clock = sound.clock;
  reopened = sound.reopened;
  reportable = sound.reportable;
  customers = sound.customers;
  names = sound.names;
  requests = All-push (IsSentBy world.server.setup world.customers) world.requests file sound.requests sent;
  pending = sound.pending;
  reported = sound.reported;
  named = sound.named;
  recorded = sound.recorded;
  kept = sound.kept;
  answered = sound.answered;
  stores = sound.stores;
}

abbrev pub seen : ClientState → List ℕ → CustomerView
seen client saved = record { client = client; saved = saved }

-- A client that starts anew from its saved text knows what it knew.
pub restarted_keeps : Laws → (world : WorldView) (index : ℕ) (old new : CustomerView) → slice_get world.customers index ≡ Some old
    → Restarts old new → IsSoundWorld world → IsSoundWorld (with_customer world index new)
restarted_keeps laws world index old new was restarts sound =
    let saved = (at_all (IsSoundCustomer world.server.setup) world.customers index old sound.customers was).saved in
    let client : new.client ≡ old.client = laws.records.one_client old.saved new.client old.client restarts.0 saved in
    let same : new ≡ old = ap (λ (c : ClientState). seen c new.saved) client ∙ ap (seen old.client) restarts.1 in
    let all : world.customers ≡ set world.customers index new = sym (ap (set world.customers index) same ∙ set_same world.customers index old was) in
    subst (λ (customers : List CustomerView). IsSoundWorld (record {
      server = world.server;
      customers = customers;
      requests = world.requests;
      replies = world.replies;
      clock = world.clock;
    })) all sound
