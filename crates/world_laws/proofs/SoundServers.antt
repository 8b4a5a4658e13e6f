-- What the world says of its bank is kept by each step of a served bank.
use Rattle.std.proofs.Common.{ℕ, inl, inr, Bool, true, false, cond, List, [], ◌∷◌, ◌++◌, Option, None, Some, refl, sym, subst}
use Rattle.std.specs.Option.{IfSome}
use Rattle.ofx_types.specs.declared.number.Moment.{Moment}
use Rattle.bank_model.specs.declared.event.Event.{Event}
use Rattle.bank_model.specs.declared.event.State.{State}
use Rattle.bank_model.specs.declared.log.LogItem.{LogItem}
use Rattle.bank_model.specs.declared.log.LogItem.TheVariants.{Effect, Answer, Adopted, Fault}
use Rattle.bank_model.specs.declared.setup.Setup.{Setup}
use Rattle.bank_model.specs.Rules.{opening_state, state_after}
use Rattle.bank_model.specs.SetupForm.{IsWithinLimits}
use Rattle.event_codec.specs.Coding.{coded}
use Rattle.event_codec.specs.Records.{Reopens}
use Rattle.ofx_world.specs.Customer.{CustomerView}
use Rattle.ofx_world.specs.Laws.{RecordLaws}
use Rattle.ofx_world.specs.Server.{PendingView, ServerView, fresh, happened, happened_unless, committed, given_up, settled_as, settled, with_fault}
use Rattle.ofx_world.specs.Sound.{MayBePending, IsSoundWorld}
use Rattle.ofx_world.specs.World.{WorldView}
use Rattle.world_laws.specs.BankLaws.{IsSoundServer, SoundServersGoOn}
use Rattle.world_laws.specs.ServedBank.{MayCommit, EndsAs, GoesAlong, ComesBy}

-- ---- the world's bank

pending_alone : (setup : Setup) (state : State) (customers : List CustomerView) (pending : Option PendingView) → MayBePending setup state customers pending
    → IfSome pending (λ (pending : PendingView). MayCommit setup state pending.at pending.event)
pending_alone setup state customers None may = tt
pending_alone setup state customers (Some pending) may = record { legal = may.legal; codes = may.codes }

pub world_sound : RecordLaws → (world : WorldView) → IsSoundWorld world → IsSoundServer world.server
world_sound laws world sound = record {
  within = sound.within;
  reopened = sound.reopened;
  reportable = sound.reportable;
  pending = pending_alone world.server.setup world.server.state world.customers world.server.pending sound.pending;
  books = laws.books world.server.setup world.server.records world.server.state sound.within sound.reopened;
}

pub fresh_sound : RecordLaws → (setup : Setup) → IsWithinLimits setup → IsSoundServer (fresh setup)
fresh_sound laws setup within = record {
  within = within;
  reopened = refl;
  reportable = laws.reported_first setup;
  pending = tt;
  books = laws.books setup [] opening_state within refl;
}

-- ---- steps

-- what is known of a bank with something else pending and another fault set
same_books : (server : ServerView) (pending : Option PendingView) (fault : Option Bool)
    → IfSome pending (λ (pending : PendingView). MayCommit server.setup server.state pending.at pending.event) → IsSoundServer server
    → IsSoundServer (record { setup = server.setup; state = server.state; records = server.records; pending = pending; fault = fault })
same_books server pending fault may sound = record {
  within = sound.within;
  reopened = sound.reopened;
  reportable = sound.reportable;
  pending = may;
  books = sound.books;
}

module _ (laws : RecordLaws) where
  happened_sound : (server : ServerView) (at : Moment) (event : Event) → MayCommit server.setup server.state at event → IsSoundServer server
      → IsSoundServer (happened server at event)
  happened_sound server at event may sound =
      let reopened : Reopens server.setup opening_state (server.records ++ coded at event ∷ []) (state_after server.setup server.state at event) =
      (laws.goes_on server.setup opening_state server.records (coded at event ∷ []) (state_after server.setup server.state at event)).1
      (server.state, sound.reopened, (at, event, may.codes, may.legal, refl)) in
      record {
        within = sound.within;
        reopened = reopened;
        reportable = laws.reported server.setup server.state at event sound.within sound.reportable may.codes.moment may.legal;
        pending = tt;
        books = laws.books server.setup (server.records ++ coded at event ∷ []) (state_after server.setup server.state at event) sound.within reopened;
      }

  settled_sound : (server : ServerView) → IsSoundServer server → IsSoundServer (settled server)
  unfolding settled
  settled_sound server sound = go server.pending sound.pending
    where
      go : (pending : Option PendingView) → IfSome pending (λ (pending : PendingView). MayCommit server.setup server.state pending.at pending.event)
          → IsSoundServer (settled_as server pending)
      go None may = sound
      go (Some pending) may = elim pending.landed as (λ b. IsSoundServer (cond b (happened server pending.at pending.event) (given_up server))) [
        | true ↦ happened_sound server pending.at pending.event may sound
        | false ↦ same_books server None server.fault tt sound
      ]

  fault_sound : (server : ServerView) (landed : Bool) → IsSoundServer server → IsSoundServer (with_fault server landed)
  fault_sound server landed sound = same_books server server.pending (Some landed) sound.pending sound

  committed_sound : (server : ServerView) (at : Moment) (event : Event) → MayCommit server.setup server.state at event → IsSoundServer server
      → IsSoundServer (committed server at event)
  unfolding committed
  committed_sound server at event may sound = go server.fault
    where
      go : (fault : Option Bool) → IsSoundServer (happened_unless server at event fault)
      go None = happened_sound server at event may sound
      go (Some landed) = same_books server (Some (record { event = event; at = at; landed = landed })) None may sound

  -- ---- what comes to its end in a log

  ending_sound : (before after : ServerView) (item : LogItem) → EndsAs before item after → IsSoundServer before → IsSoundServer after
  ending_sound before after (Effect entry) ends sound = absurd ends
  ending_sound before after (Answer event at reply) ends sound =
      subst IsSoundServer (sym ends.after_is) (committed_sound (settled before) at event ends.may (settled_sound before sound))
  ending_sound before after (Adopted fault event at) ends sound = subst IsSoundServer (sym ends.after_is) (settled_sound before sound)
  ending_sound before after (Fault count None) ends sound = subst IsSoundServer (sym ends) sound
  ending_sound before after (Fault count (Some pending)) (inl put) sound =
      subst IsSoundServer (sym put.after_is)
      (committed_sound (with_fault (settled before) put.landed) pending.1 pending.0 put.may (fault_sound (settled before) put.landed (settled_sound before sound)))
  ending_sound before after (Fault count (Some pending)) (inr lost) sound = subst IsSoundServer (sym lost) (settled_sound before sound)

  along_sound : (before after : ServerView) (items : List LogItem) → GoesAlong before items after → IsSoundServer before → IsSoundServer after
  along_sound before after [] goes sound = subst IsSoundServer (sym goes) sound
  along_sound before after (item ∷ more) goes sound = along_sound goes.0 after more goes.2 (ending_sound before goes.0 item goes.1 sound)

  opened_sound : (before after : ServerView) (records : List (List ℕ)) → ComesBy before records after → IsSoundServer before → IsSoundServer after
  opened_sound before after [] comes sound = subst IsSoundServer (sym comes) sound
  opened_sound before after (rec ∷ records) comes sound =
      opened_sound (committed before comes.0 comes.1) after records comes.4 (committed_sound before comes.0 comes.1 comes.3 sound)

  pub steps_sound : SoundServersGoOn
  steps_sound = record {
    ending = ending_sound;
    log = along_sound;
    records = opened_sound;
    settled = settled_sound;
    fault = fault_sound;
  }
