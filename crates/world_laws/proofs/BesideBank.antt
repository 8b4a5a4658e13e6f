-- Clients beside a bank of the world that goes along a log.
use Rattle.std.proofs.Common.{◌≡◌, ◌⊎◌, inl, inr, ℕ, Bool, true, false, cond, List, [], ◌∷◌, slice_get, Option, None, Some, refl, sym, ap, subst, ◌∙◌}
use Rattle.ofx_types.specs.declared.number.Moment.{Moment}
use Rattle.ofx_types.specs.declared.number.UserId.{UserId}
use Rattle.ofx_types.specs.declared.request.RequestFile.{RequestFile}
use Rattle.bank_model.specs.declared.event.Event.{Event}
use Rattle.bank_model.specs.declared.event.Event.TheVariants as events
use Rattle.bank_model.specs.declared.log.LogItem.{LogItem}
use Rattle.bank_model.specs.declared.log.LogItem.TheVariants.{Effect, Answer, Adopted, Fault}
use Rattle.bank_model.specs.declared.setup.Setup.{Setup}
use Rattle.ofx_world.specs.Customer.{CustomerView}
use Rattle.ofx_world.specs.GoingOn.{StepsKeepWorlds, BanksKeepWorlds}
use Rattle.ofx_world.specs.Kept.{HasLawfulClock, IsRecorded}
use Rattle.ofx_world.specs.Server.{PendingView, ServerView, happened, happened_unless, committed, reply_to, given_up, settled_as, settled, with_fault}
use Rattle.ofx_world.specs.Sound.{IsSentFor, IsSentEvent, MayHappen, IsSoundWorld}
use Rattle.ofx_world.specs.World as of_world
use Rattle.ofx_world.specs.World.{WorldView, IsStep}
use Rattle.ofx_world.specs.declared.step.Step.{Step}
use Rattle.ofx_world.specs.declared.step.Step.TheVariants as steps
use Rattle.world_laws.specs.Beside.{ClientsView, Doing, ending, acting, giving_up, world_of, with_reply, endings_of, IsFrom, IsReplied, Ends, IsOfClients, GivesUp, AreDone}
use Rattle.world_laws.specs.ServedBank.{at_rest, MayCommit, IsAnswered, EndsAs, GoesAlong}

-- ---- the setup stays

settled_setup : (server : ServerView) → (settled server).setup ≡ server.setup
unfolding settled
settled_setup server = go server.pending
  where
    go : (pending : Option PendingView) → (settled_as server pending).setup ≡ server.setup
    go None = refl
    go (Some pending) = elim pending.landed as (λ b. (cond b (happened server pending.at pending.event) (given_up server)).setup ≡ server.setup) [
      | true ↦ refl
      | false ↦ refl
    ]

committed_setup : (server : ServerView) (at : Moment) (event : Event) → (committed server at event).setup ≡ server.setup
unfolding committed
committed_setup server at event = go server.fault
  where
    go : (fault : Option Bool) → (happened_unless server at event fault).setup ≡ server.setup
    go None = refl
    go (Some landed) = refl

abbrev setup_of : ServerView → Setup
setup_of server = server.setup

ending_setup : (before after : ServerView) (item : LogItem) → EndsAs before item after → after.setup ≡ before.setup
ending_setup before after (Effect entry) ends = absurd ends
ending_setup before after (Answer event at reply) ends = ap setup_of ends.after_is ∙ committed_setup (settled before) at event ∙ settled_setup before
ending_setup before after (Adopted fault event at) ends = ap setup_of ends.after_is ∙ settled_setup before
ending_setup before after (Fault count None) ends = ap setup_of ends
ending_setup before after (Fault count (Some pending)) (inl put) =
    ap setup_of put.after_is ∙ committed_setup (with_fault (settled before) put.landed) pending.1 pending.0 ∙ settled_setup before
ending_setup before after (Fault count (Some pending)) (inr lost) = ap setup_of lost ∙ settled_setup before

-- ---- steps of clients

lawful : (step : Step) → IsOfClients step → HasLawfulClock step
lawful (steps.Make client wish) is = tt
lawful (steps.SendAgain client) is = tt
lawful (steps.RestartClient client) is = tt
lawful (steps.Deliver request) is = tt
lawful (steps.DeliverReply client reply) is = tt
lawful steps.Due is = tt
lawful (steps.Letter user subject body) is = tt
lawful (steps.Fault landed) is = tt
lawful steps.RestartServer is = tt
lawful (steps.Clock at) is = is

recorded : (before : WorldView) (step : Step) → IsOfClients step → IsRecorded before step
recorded before (steps.Make client wish) is = tt
recorded before (steps.SendAgain client) is = tt
recorded before (steps.RestartClient client) is = tt
recorded before (steps.Deliver request) is = tt
recorded before (steps.DeliverReply client reply) is = tt
recorded before steps.Due is = absurd is
recorded before (steps.Letter user subject body) is = tt
recorded before (steps.Fault landed) is = tt
recorded before steps.RestartServer is = tt
recorded before (steps.Clock at) is = tt

-- ---- what happens

-- the same bank and the same clients
moved : (server server' : ServerView) (clients clients' : ClientsView) → server' ≡ server → clients' ≡ clients → IsSoundWorld (world_of server clients)
    → IsSoundWorld (world_of server' clients')
moved server server' clients clients' one other sound =
    subst (λ (s : ServerView). IsSoundWorld (world_of s clients')) (sym one) (subst (λ (c : ClientsView). IsSoundWorld (world_of server c)) (sym other) sound)

module _ (clients_keep : StepsKeepWorlds) (banks_keep : BanksKeepWorlds) where
  -- Whoever sends the file of an event, the world knows of it.
  is_sent : (server : ServerView) (clients : ClientsView) (event : Event) → IsSoundWorld (world_of server clients) → IsFrom server.setup clients event
      → IsSentEvent server.setup clients.customers event
  is_sent server clients (events.File user file) sound (inl requested) =
      inl (banks_keep.is_sent (world_of server clients) requested.bytes user file sound requested.is_sent requested.signed_on)
  is_sent server clients (events.File user file) sound (inr strangers) = inr strangers
  is_sent server clients (events.Post id) sound from = tt
  is_sent server clients (events.Spawn model offset) sound from = tt
  is_sent server clients (events.Letter user subject body) sound from = tt

  module _ (server : ServerView) (before : ClientsView) (sound : IsSoundWorld (world_of server before)) where
    abbrev quiet : ServerView
    quiet = settled server

    quiet_sound : IsSoundWorld (world_of quiet before)
    quiet_sound = banks_keep.settles (world_of server before) sound

    -- An event that may be committed once nothing is pending may happen in this world.
    may_happen : (at : Moment) (event : Event) → MayCommit quiet.setup quiet.state at event → IsFrom server.setup before event
        → MayHappen quiet.setup quiet.state before.customers at event
    may_happen at event may from = record {
      legal = may.legal;
      codes = may.codes;
      sent = is_sent quiet before event quiet_sound (subst (λ (setup : Setup). IsFrom setup before event) (sym (settled_setup server)) from);
    }

    -- Where nobody gets its reply from here it is committed.
    alone_keeps : (event : Event) (at : Moment) (then : ClientsView) → MayCommit quiet.setup quiet.state at event → IsSentEvent quiet.setup before.customers event
        → then ≡ before → IsSoundWorld (world_of (committed quiet at event) then)
    alone_keeps event at then may sent is =
        moved (committed quiet at event) (committed quiet at event) before then refl is
        (banks_keep.commits (world_of quiet before) at event (record { legal = may.legal; codes = may.codes; sent = sent }) quiet_sound)

    answer_keeps : (event : Event) (at : Moment) (reply : List ℕ) (then : ClientsView) → MayCommit quiet.setup quiet.state at event
        → reply_to quiet at event ≡ Some reply → IsReplied quiet.setup before event reply then → IsSoundWorld (world_of (committed quiet at event) then)
    answer_keeps (events.File user file) at reply then may is (inl (requested, then_is)) =
        let sent : IsSentFor quiet.setup before.customers user file =
        banks_keep.is_sent (world_of quiet before) requested.bytes user file quiet_sound requested.is_sent requested.signed_on in
        moved (committed quiet at (events.File user file)) (committed quiet at (events.File user file)) (with_reply before reply) then refl then_is
        (subst (λ (found : Option (List ℕ)). IsSoundWorld (of_world.with_reply (world_of (committed quiet at (events.File user file)) before) found)) is
        (banks_keep.replies (world_of quiet before) at user file (record { legal = may.legal; codes = may.codes; sent = inl sent }) sent quiet_sound))
    answer_keeps (events.File user file) at reply then may is (inr (strangers, then_is)) = alone_keeps (events.File user file) at then may (inr strangers) then_is
    answer_keeps (events.Post id) at reply then may is then_is = alone_keeps (events.Post id) at then may tt then_is
    answer_keeps (events.Spawn model offset) at reply then may is then_is = alone_keeps (events.Spawn model offset) at then may tt then_is
    answer_keeps (events.Letter user subject body) at reply then may is then_is = alone_keeps (events.Letter user subject body) at then may tt then_is

    ending_keeps : (after : ServerView) (then : ClientsView) (item : LogItem) → EndsAs server item after → Ends server.setup before item then
        → IsSoundWorld (world_of after then)
    ending_keeps after then (Effect entry) ends done = absurd ends
    ending_keeps after then (Answer event at reply) ends replied =
        moved (committed quiet at event) after then then ends.after_is refl
        (answer_keeps event at reply then ends.may ends.reply_is (subst (λ (setup : Setup). IsReplied setup before event reply then) (sym (settled_setup server)) replied))
    ending_keeps after then (Adopted fault event at) ends is = moved quiet after before then ends.after_is is quiet_sound
    ending_keeps after then (Fault count None) ends is = moved server after before then ends is sound
    ending_keeps after then (Fault count (Some pending)) (inl put) (from, is) =
        moved (committed (with_fault quiet put.landed) pending.1 pending.0) after before then put.after_is is
        (banks_keep.commits (world_of (with_fault quiet put.landed) before) pending.1 pending.0 (may_happen pending.1 pending.0 put.may from)
        (banks_keep.fails (world_of quiet before) put.landed quiet_sound))
    ending_keeps after then (Fault count (Some pending)) (inr lost) (from, is) = moved quiet after before then lost is quiet_sound

    acting_keeps : (then : ClientsView) (step : Step) → IsOfClients step → IsStep (world_of server before) step (world_of server then)
        → IsSoundWorld (world_of server then)
    acting_keeps then step of_clients is =
        clients_keep.step (world_of server before) (world_of server then) step (lawful step of_clients) (recorded (world_of server before) step of_clients) is sound

    gives_up_keeps : (then : ClientsView) (index : ℕ) (found : Option CustomerView) → slice_get before.customers index ≡ found → GivesUp before index found then
        → IsSoundWorld (world_of server then)
    gives_up_keeps then index None there is = moved server server before then refl is sound
    gives_up_keeps then index (Some customer) there (new, saves, is) =
        moved server server _ then refl is (clients_keep.discards (world_of server before) index customer new there saves sound)

  -- One after another, while the bank goes along the endings among them.
  pub along_keeps : (setup : Setup) (doings : List Doing) (server end : ServerView) (before after : ClientsView) → GoesAlong server (endings_of doings) end
      → AreDone setup before doings after → server.setup ≡ setup → IsSoundWorld (world_of server before) → IsSoundWorld (world_of end after)
  along_keeps setup [] server end before after goes done own sound = moved server end before after goes done sound
  along_keeps setup (ending item ∷ more) server end before after (next, ends, rest) (then, is, left) own sound =
      along_keeps setup more next end then after rest left (ending_setup server next item ends ∙ own)
      (ending_keeps server before sound next then item ends (subst (λ (s : Setup). Ends s before item then) (sym own) is))
  along_keeps setup (acting step ∷ more) server end before after goes (then, (of_clients, is), left) own sound =
      along_keeps setup more server end then after goes left own (acting_keeps server before sound then step of_clients (is server own))
  along_keeps setup (giving_up index ∷ more) server end before after goes (then, is, left) own sound =
      along_keeps setup more server end then after goes left own (gives_up_keeps server before sound then index (slice_get before.customers index) refl is)

-- ---- the next run of the bank

abbrev bank_with : ServerView → Option PendingView → Option Bool → ServerView
bank_with one pending fault = record { setup = one.setup; state = one.state; records = one.records; pending = pending; fault = fault }

-- What is settled is at rest.
pub settled_at_rest : (server : ServerView) → server.fault ≡ None → settled server ≡ at_rest server.setup (settled server).state (settled server).records
unfolding settled
settled_at_rest server quiet = go server.pending refl
  where
    none_set : (one : ServerView) → one.pending ≡ None → one.fault ≡ None → one ≡ at_rest one.setup one.state one.records
    none_set one pending fault = ap (λ (found : Option PendingView). bank_with one found one.fault) pending ∙ ap (bank_with one None) fault

    go : (pending : Option PendingView) → server.pending ≡ pending
        → settled_as server pending ≡ at_rest server.setup (settled_as server pending).state (settled_as server pending).records
    go None is = none_set server is quiet
    go (Some pending) is = elim pending.landed as (λ b.
        cond b (happened server pending.at pending.event) (given_up server)
        ≡ at_rest server.setup (cond b (happened server pending.at pending.event) (given_up server)).state (cond b (happened server pending.at pending.event) (given_up server)).records) [
          | true ↦ none_set (happened server pending.at pending.event) refl quiet
          | false ↦ none_set (given_up server) refl quiet
        ]
