-- What the bank's half of the world rests on: records that landed, what a commit and a start anew leave, and files that are
-- read again.
use Rattle.std.proofs.Common.{◌≡◌, ◌≢◌, ℕ, Bool, true, false, List, [], ◌∷◌, ◌++◌, Option, None, Some, Result, Ok, Err, refl, sym, ap, subst, ◌∙◌, append-nil}
use Rattle.std.specs.Prelude.{if◌then◌else◌, is_some, OnErr}
use Rattle.ofx_types.specs.Calendar.{IsMoment}
use Rattle.ofx_types.specs.declared.number.Moment.{Moment}
use Rattle.ofx_types.specs.declared.number.UserId.{UserId}
use Rattle.ofx_types.specs.declared.request.RequestFile.{RequestFile}
use Rattle.bank_model.specs.Polls.{is_poll}
use Rattle.bank_model.specs.Rules.{IsLegal, opening_state, state_after, answer_to, due}
use Rattle.bank_model.specs.SetupLookups.{signed_on}
use Rattle.bank_model.specs.declared.event.Event.{Event}
use Rattle.bank_model.specs.declared.event.State.{State}
use Rattle.bank_model.specs.declared.setup.Setup.{Setup}
use Rattle.bank_model.specs.declared.submit.SubmitFault.{SubmitFault}
use Rattle.bank_model.specs.declared.submit.SubmitFault.TheVariants.{Keeper}
use Rattle.bank_engine.specs.Calls.{IsAsBefore, Answers, FailsToKeep, FailsToCommit, pending_after, SettlesAny, Settles}
use Rattle.bank_engine.specs.Solo.{Sends, AppendsOne}
use Rattle.bank_engine.specs.Views as engines
use Rattle.bank_engine.specs.Views.{JournalView}
use Rattle.bank_replay.specs.Opening.{RecordsGive}
use Rattle.bank_signon.specs.Signon.{IsOfUser}
use Rattle.event_codec.specs.Coding.{coded}
use Rattle.event_codec.specs.Records.{Codes, Reopens}
use Rattle.ofx_world.specs.Kept.{Awaits, IsOpen, IsRequest, pending_seen}
use Rattle.ofx_world.specs.Server.{PendingView, ServerView, happened, given_up, happened_unless, committed, reply_unless, reply_to, settled, settled_as, with_state, Restarts}
use Rattle.ofx_world.specs.Views.{KeeperView, Unsettled, Succeeds, FailsAs, Tries, SettlesAs, is_landed, landed_record}
use Rattle.ofx_world.proofs.Lists.{same_some, none_some}

-- ---- records

landed_of : (unsettled : Option Unsettled) (kept : Unsettled) → unsettled ≡ Some kept → is_landed unsettled ≡ true → landed_record unsettled ≡ kept.rec ∷ []
landed_of unsettled kept is landed =
    ap landed_record is ∙ ap (λ (b : Bool). if b then kept.rec ∷ [] else []) (sym (ap is_landed is) ∙ landed)

-- The record of what is pending and has landed is the one that codes its event.
pub landed_as_coded : (setup : Setup) (state : State) (pending : engines.PendingView) (unsettled : Option Unsettled) → (awaited : IsOpen setup state pending unsettled) → is_landed unsettled ≡ true → landed_record unsettled ≡ coded pending.at pending.event ∷ []
landed_as_coded setup state pending unsettled awaited landed =
    landed_of unsettled awaited.kept awaited.is_kept landed ∙ ap (λ (rec : List ℕ). rec ∷ []) awaited.codes.spelled

record_unless : (unsettled : Unsettled) (b : Bool) → b ≡ false → (if b then unsettled.rec ∷ [] else []) ≡ []
record_unless unsettled true is = cc
record_unless unsettled false is = refl

pub none_landed : (unsettled : Option Unsettled) → is_landed unsettled ≡ false → landed_record unsettled ≡ []
none_landed None lost = refl
none_landed (Some unsettled) lost = record_unless unsettled unsettled.landed lost

-- What an event is coded by is itself a record of it.
pub codes_itself : (rec : List ℕ) (at : Moment) (event : Event) → Codes rec at event → Codes (coded at event) at event
codes_itself rec at event codes = record { moment = codes.moment; within = codes.within; typed = codes.typed; spelled = refl }

-- ---- what the parts show

-- the bank's half, as its parts show it
abbrev pub seen : Setup → State → KeeperView → Option engines.PendingView → ServerView
seen setup state keeper pending = record {
  setup = setup;
  state = state;
  records = keeper.records;
  pending = pending_seen pending keeper.unsettled;
  fault = keeper.fault;
}

-- nothing pending, in that state and with these records
abbrev in_state : Setup → State → List (List ℕ) → Option Bool → ServerView
in_state setup state records fault = record { setup = setup; state = state; records = records; pending = None; fault = fault }

-- Where nothing is pending, no record is unsettled.
none_pending : (pending : Option engines.PendingView) (unsettled : Option Unsettled) → pending_seen pending unsettled ≡ None → pending ≡ None
none_pending None unsettled none = refl
none_pending (Some pending) unsettled none = absurd cc

nothing_open : (setup : Setup) (state : State) (pending : Option engines.PendingView) (unsettled : Option Unsettled) → Awaits setup state pending unsettled
    → pending_seen pending unsettled ≡ None → unsettled ≡ None
nothing_open setup state None unsettled awaits none = awaits
nothing_open setup state (Some pending) unsettled awaits none = absurd cc

-- ---- what a commit leaves

-- where nothing is pending, the parts show just that
free_is : (old : JournalView) (keeper : KeeperView) (now : ServerView) → seen old.setup old.state keeper old.pending ≡ now → now.pending ≡ None → old.pending ≡ None
free_is old keeper now same settled = none_pending old.pending keeper.unsettled (ap (λ (server : ServerView). server.pending) same ∙ settled)

-- a bank with nothing pending
abbrev free : Setup → State → KeeperView → ServerView
free setup state keeper = seen setup state keeper None

is_free : (old : JournalView) (keeper : KeeperView) (now : ServerView) → seen old.setup old.state keeper old.pending ≡ now → now.pending ≡ None → free old.setup old.state keeper ≡ now
is_free old keeper now same settled =
    sym (ap (λ (p : Option engines.PendingView). seen old.setup old.state keeper p) (free_is old keeper now same settled)) ∙ same

succeeds_commits : (setup : Setup) (state : State) (keeper after : KeeperView) (at : Moment) (event : Event) (rec : List ℕ) → Codes rec at event → Succeeds keeper after rec → free setup (state_after setup state at event) after ≡ committed (free setup state keeper) at event
unfolding committed
succeeds_commits setup state keeper after at event rec codes done =
    ap (λ (records : List (List ℕ)). in_state setup (state_after setup state at event) records after.fault)
    (done.records ∙ ap (λ (r : List ℕ). keeper.records ++ r ∷ []) codes.spelled)
    ∙ ap (λ (fault : Option Bool). in_state setup (state_after setup state at event) (keeper.records ++ coded at event ∷ []) fault) (done.fault ∙ sym done.unset)
    ∙ ap (λ (fault : Option Bool). happened_unless (free setup state keeper) at event fault) (sym done.unset)

succeeds_replies : (setup : Setup) (state : State) (keeper after : KeeperView) (at : Moment) (event : Event) (rec bytes : List ℕ) → bytes ≡ answer_to setup state at event → Succeeds keeper after rec → Some bytes ≡ reply_to (free setup state keeper) at event
unfolding reply_to
succeeds_replies setup state keeper after at event rec bytes is done =
    ap (λ (b : List ℕ). Some b) is ∙ ap (λ (fault : Option Bool). reply_unless (free setup state keeper) at event fault) (sym done.unset)

-- the event is answered
pub happens : (old new : JournalView) (keeper after : KeeperView) (now : ServerView) (event : Event) (at : Moment) (reply rec : List ℕ) → seen old.setup old.state keeper old.pending ≡ now → now.pending ≡ None → Answers old new event at reply → Codes rec at event → Succeeds keeper after rec → seen new.setup new.state after new.pending ≡ committed now at event
happens old new keeper after now event at reply rec same settled answers codes done =
    ap (λ (p : Option engines.PendingView). seen new.setup new.state after p) answers.pending
    ∙ ap (λ (s : Setup). free s new.state after) answers.setup
    ∙ ap (λ (S : State). free old.setup S after) answers.state
    ∙ succeeds_commits old.setup old.state keeper after at event rec codes done
    ∙ ap (λ (server : ServerView). committed server at event) (is_free old keeper now same settled)

pub replied : (old new : JournalView) (keeper after : KeeperView) (now : ServerView) (event : Event) (at : Moment) (reply rec : List ℕ) → seen old.setup old.state keeper old.pending ≡ now → now.pending ≡ None → Answers old new event at reply → Succeeds keeper after rec → Some reply ≡ reply_to now at event
replied old new keeper after now event at reply rec same settled answers done =
    succeeds_replies old.setup old.state keeper after at event rec reply answers.reply_is done
    ∙ ap (λ (server : ServerView). reply_to server at event) (is_free old keeper now same settled)

pub awaits_nothing : (setup : Setup) (state : State) (pending : Option engines.PendingView) (unsettled : Option Unsettled) → pending ≡ None → unsettled ≡ None → Awaits setup state pending unsettled
awaits_nothing setup state pending unsettled none closed = subst (λ (p : Option engines.PendingView). Awaits setup state p unsettled) (sym none) closed

-- its append failed
fails_puts_off : (setup : Setup) (state : State) (keeper after : KeeperView) (at : Moment) (event : Event) (number : ℕ) (rec : List ℕ) (landed : Bool) → FailsAs keeper after rec landed → seen setup state after (Some (record { event = event; at = at; number = number })) ≡ committed (free setup state keeper) at event
unfolding committed
fails_puts_off setup state keeper after at event number rec landed failed =
    ap (λ (records : List (List ℕ)). open_in records (Some (record { event = event; at = at; landed = is_landed after.unsettled })) after.fault) failed.records
    ∙ ap (λ (b : Bool). open_in keeper.records (Some (record { event = event; at = at; landed = b })) after.fault) (ap is_landed failed.unsettled)
    ∙ ap (λ (fault : Option Bool). open_in keeper.records (Some (record { event = event; at = at; landed = landed })) fault) failed.used_up
    ∙ ap (λ (fault : Option Bool). happened_unless (free setup state keeper) at event fault) (sym failed.set)
  where
    open_in : List (List ℕ) → Option PendingView → Option Bool → ServerView
    open_in records pending fault = record { setup = setup; state = state; records = records; pending = pending; fault = fault }

pub puts_off : (old new : JournalView) (keeper after : KeeperView) (now : ServerView) (event : Event) (at : Moment) (count : ℕ) (rec : List ℕ) (landed : Bool) → seen old.setup old.state keeper old.pending ≡ now → now.pending ≡ None → FailsToKeep old new event at count → FailsAs keeper after rec landed → seen new.setup new.state after new.pending ≡ committed now at event
puts_off old new keeper after now event at count rec landed same settled fails failed =
    ap (λ (p : Option engines.PendingView). seen new.setup new.state after p) fails.pending
    ∙ ap (λ (s : Setup). seen s new.state after (Some there)) fails.fails.setup
    ∙ ap (λ (S : State). seen old.setup S after (Some there)) fails.fails.state
    ∙ fails_puts_off old.setup old.state keeper after at event there.number rec landed failed
    ∙ ap (λ (server : ServerView). committed server at event) (is_free old keeper now same settled)
  where
    there : engines.PendingView
    there = pending_after old event at

fails_tells_none : (setup : Setup) (state : State) (keeper after : KeeperView) (at : Moment) (event : Event) (rec : List ℕ) (landed : Bool) → FailsAs keeper after rec landed → None ≡ reply_to (free setup state keeper) at event
unfolding reply_to
fails_tells_none setup state keeper after at event rec landed failed =
    ap (λ (fault : Option Bool). reply_unless (free setup state keeper) at event fault) (sym failed.set)

pub tells_none : (old : JournalView) (keeper after : KeeperView) (now : ServerView) (event : Event) (at : Moment) (rec : List ℕ) (landed : Bool) → seen old.setup old.state keeper old.pending ≡ now → now.pending ≡ None → FailsAs keeper after rec landed → None ≡ reply_to now at event
tells_none old keeper after now event at rec landed same settled failed =
    fails_tells_none old.setup old.state keeper after at event rec landed failed ∙ ap (λ (server : ServerView). reply_to server at event) (is_free old keeper now same settled)

pub awaits_it : (old new : JournalView) (after : KeeperView) (event : Event) (at : Moment) (count : ℕ) (keeper : KeeperView) (rec : List ℕ) (landed : Bool) → FailsToKeep old new event at count → Codes rec at event → FailsAs keeper after rec landed → Awaits new.setup new.state new.pending after.unsettled
awaits_it old new after event at count keeper rec landed fails codes failed =
    subst (λ (p : Option engines.PendingView). Awaits new.setup new.state p after.unsettled) (sym fails.pending)
    (subst (λ (s : Setup). IsOpen s new.state there after.unsettled) (sym fails.fails.setup)
    (subst (λ (S : State). IsOpen old.setup S there after.unsettled) (sym fails.fails.state)
    record { moment = fails.may_happen.0; legal = fails.may_happen.1; kept = record { rec = rec; landed = landed }; is_kept = failed.unsettled; codes = codes }))
  where
    there : engines.PendingView
    there = pending_after old event at

-- ---- the same, of what a commit tells of its append

pub happens_as : {A : Type 0} (line : A) (sent : List ℕ → List ℕ) (old new : JournalView) (keeper after : KeeperView) (now : ServerView) (event : Event) (at : Moment) (bytes : List ℕ) → seen old.setup old.state keeper old.pending ≡ now → now.pending ≡ None → Sends sent old new event at bytes → AppendsOne Tries keeper after at event (Ok line) → seen new.setup new.state after new.pending ≡ committed now at event
happens_as line sent old new keeper after now event at bytes same settled sends appends =
    happens old new keeper after now event at sends.reply appends.0 same settled sends.answers appends.1 appends.2

pub replied_as : {A : Type 0} (line : A) (old new : JournalView) (keeper after : KeeperView) (now : ServerView) (event : Event) (at : Moment) (reply : List ℕ) → seen old.setup old.state keeper old.pending ≡ now → now.pending ≡ None → Answers old new event at reply → AppendsOne Tries keeper after at event (Ok line) → Some reply ≡ reply_to now at event
replied_as line old new keeper after now event at reply same settled answers appends =
    replied old new keeper after now event at reply appends.0 same settled answers appends.2

pub puts_off_as : (A : Type 0) (old new : JournalView) (keeper after : KeeperView) (now : ServerView) (event : Event) (at : Moment) (fault : SubmitFault) (count : ℕ) → fault ≡ Keeper count → seen old.setup old.state keeper old.pending ≡ now → now.pending ≡ None → FailsToCommit old new event at fault → AppendsOne {A = A} Tries keeper after at event (Err fault) → seen new.setup new.state after new.pending ≡ committed now at event
puts_off_as A old new keeper after now event at fault count is same settled fails appends =
    let appended : AppendsOne {A = A} Tries keeper after at event (Err (Keeper count)) = subst (λ (f : SubmitFault). AppendsOne {A = A} Tries keeper after at event (Err f)) is appends in
    puts_off old new keeper after now event at count appended.0 appended.2.0 same settled (subst (FailsToCommit old new event at) is fails) appended.2.1

pub tells_none_as : (A : Type 0) (old : JournalView) (keeper after : KeeperView) (now : ServerView) (event : Event) (at : Moment) (fault : SubmitFault) (count : ℕ) → fault ≡ Keeper count → seen old.setup old.state keeper old.pending ≡ now → now.pending ≡ None → AppendsOne {A = A} Tries keeper after at event (Err fault) → None ≡ reply_to now at event
tells_none_as A old keeper after now event at fault count is same settled appends =
    let appended : AppendsOne {A = A} Tries keeper after at event (Err (Keeper count)) = subst (λ (f : SubmitFault). AppendsOne {A = A} Tries keeper after at event (Err f)) is appends in
    tells_none old keeper after now event at appended.0 appended.2.0 same settled appended.2.1

-- nothing has happened
pub stays_so : (old new : JournalView) (keeper after : KeeperView) → IsAsBefore old new → after ≡ keeper → seen new.setup new.state after new.pending ≡ seen old.setup old.state keeper old.pending
stays_so old new keeper after before same =
    ap (λ (s : Setup). seen s new.state after new.pending) before.setup
    ∙ ap (λ (S : State). seen old.setup S after new.pending) before.state
    ∙ ap (λ (p : Option engines.PendingView). seen old.setup old.state after p) before.pending
    ∙ ap (λ (k : KeeperView). seen old.setup old.state k old.pending) same

pub awaits_still : (old new : JournalView) (keeper after : KeeperView) → IsAsBefore old new → after ≡ keeper → Awaits old.setup old.state old.pending keeper.unsettled → Awaits new.setup new.state new.pending after.unsettled
awaits_still old new keeper after before same awaits =
    subst (λ (k : KeeperView). Awaits new.setup new.state new.pending k.unsettled) (sym same)
    (subst (λ (s : Setup). Awaits s new.state new.pending keeper.unsettled) (sym before.setup)
    (subst (λ (S : State). Awaits old.setup S new.pending keeper.unsettled) (sym before.state)
    (subst (λ (p : Option engines.PendingView). Awaits old.setup old.state p keeper.unsettled) (sym before.pending) awaits)))

-- ---- what settling leaves

-- what is pending is unsettled at the keeper too
pub both_wait : (setup : Setup) (state : State) (pending : Option engines.PendingView) (unsettled : Option Unsettled) → Awaits setup state pending unsettled → is_some unsettled ≡ is_some pending
both_wait setup state None unsettled awaits = ap (λ (u : Option Unsettled). is_some u) awaits
both_wait setup state (Some pending) unsettled awaits = ap (λ (u : Option Unsettled). is_some u) awaits.is_kept

-- a keeper that is settled
abbrev closed : KeeperView → KeeperView
closed keeper = record { records = keeper.records ++ landed_record keeper.unsettled; unsettled = None; fault = keeper.fault; faults = keeper.faults }

settles_if : (old new : JournalView) (keeper after : KeeperView) (pending : Option engines.PendingView) (adopted : Bool) → old.pending ≡ pending → Awaits old.setup old.state pending keeper.unsettled → Settles old new adopted → SettlesAny old new pending adopted → (old.pending ≡ None → after ≡ keeper) → (old.pending ≢ None → SettlesAs keeper after (Some adopted)) → seen new.setup new.state after None ≡ settled (seen old.setup old.state keeper pending)
unfolding settled
settles_if old new keeper after None adopted is awaits settles any idle busy =
    ap (λ (s : Setup). free s new.state after) settles.setup
    ∙ ap (λ (S : State). free old.setup S after) any.1.state
    ∙ ap (λ (k : KeeperView). free old.setup old.state k) (idle is)
settles_if old new keeper after (Some pending) true is awaits settles any idle busy =
    let done = busy (λ none. absurd (let both : Some pending ≡ None = sym is ∙ none in cc)) in
    ap (λ (s : Setup). free s new.state after) settles.setup
    ∙ ap (λ (S : State). free old.setup S after) any.1.state
    ∙ ap (λ (k : KeeperView). free old.setup (state_after old.setup old.state pending.at pending.event) k) done.1
    ∙ ap (λ (more : List (List ℕ)). in_state old.setup (state_after old.setup old.state pending.at pending.event) (keeper.records ++ more) keeper.fault)
    (landed_as_coded old.setup old.state pending keeper.unsettled awaits (sym done.0))
    ∙ ap (λ (b : Bool). if b then happened (seen old.setup old.state keeper (Some pending)) pending.at pending.event else given_up (seen old.setup old.state keeper (Some pending))) done.0
settles_if old new keeper after (Some pending) false is awaits settles any idle busy =
    let done = busy (λ none. absurd (let both : Some pending ≡ None = sym is ∙ none in cc)) in
    ap (λ (s : Setup). free s new.state after) settles.setup
    ∙ ap (λ (S : State). free old.setup S after) any.1.state
    ∙ ap (λ (k : KeeperView). free old.setup old.state k) done.1
    ∙ ap (λ (more : List (List ℕ)). in_state old.setup old.state (keeper.records ++ more) keeper.fault) (none_landed keeper.unsettled (sym done.0))
    ∙ ap (λ (records : List (List ℕ)). in_state old.setup old.state records keeper.fault) (append-nil keeper.records)
    ∙ ap (λ (b : Bool). if b then happened (seen old.setup old.state keeper (Some pending)) pending.at pending.event else given_up (seen old.setup old.state keeper (Some pending))) done.0

pub settles_so : (old new : JournalView) (keeper after : KeeperView) (now : ServerView) (adopted : Bool) → seen old.setup old.state keeper old.pending ≡ now → Awaits old.setup old.state old.pending keeper.unsettled → Settles old new adopted → (old.pending ≡ None → after ≡ keeper) → (old.pending ≢ None → SettlesAs keeper after (Some adopted)) → seen new.setup new.state after new.pending ≡ settled now
settles_so old new keeper after now adopted same awaits settles idle busy =
    ap (λ (p : Option engines.PendingView). seen new.setup new.state after p) settles.pending
    ∙ settles_if old new keeper after old.pending adopted refl awaits settles settles.settles idle busy
    ∙ ap settled same

closed_if : (old : JournalView) (keeper after : KeeperView) (pending : Option engines.PendingView) (adopted : Bool) → old.pending ≡ pending → Awaits old.setup old.state pending keeper.unsettled → (old.pending ≡ None → after ≡ keeper) → (old.pending ≢ None → SettlesAs keeper after (Some adopted)) → after.unsettled ≡ None
closed_if old keeper after None adopted is awaits idle busy = ap (λ (k : KeeperView). k.unsettled) (idle is) ∙ awaits
closed_if old keeper after (Some pending) adopted is awaits idle busy =
    ap (λ (k : KeeperView). k.unsettled) (busy (λ none. absurd (let both : Some pending ≡ None = sym is ∙ none in cc))).1

pub is_closed : (old : JournalView) (keeper after : KeeperView) (adopted : Bool) → Awaits old.setup old.state old.pending keeper.unsettled → (old.pending ≡ None → after ≡ keeper) → (old.pending ≢ None → SettlesAs keeper after (Some adopted)) → after.unsettled ≡ None
is_closed old keeper after adopted awaits idle busy = closed_if old keeper after old.pending adopted refl awaits idle busy

-- ---- starting anew

no_record : (unsettled : Option Unsettled) → is_some unsettled ≡ false → landed_record unsettled ≡ []
no_record None none = refl
no_record (Some unsettled) none = absurd cc

-- A keeper that is settled has just the records that it tells.
same_records : (before after : KeeperView) → is_some before.unsettled ≡ false → is_some after.unsettled ≡ false
    → after.records ++ landed_record after.unsettled ≡ before.records ++ landed_record before.unsettled → after.records ≡ before.records
same_records before after settled_before settled_after same =
    sym (append-nil after.records)
    ∙ ap (λ (more : List (List ℕ)). after.records ++ more) (sym (no_record after.unsettled settled_after))
    ∙ same
    ∙ ap (λ (more : List (List ℕ)). before.records ++ more) (no_record before.unsettled settled_before)
    ∙ append-nil before.records

reopens_as : (setup : Setup) (keeper : KeeperView) (state : State) → is_some keeper.unsettled ≡ false
    → RecordsGive setup (Some (keeper.records ++ landed_record keeper.unsettled)) state → Reopens setup opening_state keeper.records state
reopens_as setup keeper state settled holds =
    subst (λ (records : List (List ℕ)). Reopens setup opening_state records state)
    (sym holds.are_known ∙ ap (λ (more : List (List ℕ)). keeper.records ++ more) (no_record keeper.unsettled settled) ∙ append-nil keeper.records)
    holds.reopens

none_unsettled : (unsettled : Option Unsettled) → unsettled ≡ None → is_some unsettled ≡ false
none_unsettled unsettled none = ap (λ (u : Option Unsettled). is_some u) none

unsettled_none : (unsettled : Option Unsettled) → is_some unsettled ≡ false → unsettled ≡ None
unsettled_none None none = refl
unsettled_none (Some unsettled) none = absurd cc

-- ---- what is settled

setup_if : (server : ServerView) (pending : PendingView) (b : Bool) → (if b then happened server pending.at pending.event else given_up server).setup ≡ server.setup
setup_if server pending true = refl
setup_if server pending false = refl

setup_as : (server : ServerView) (pending : Option PendingView) → (settled_as server pending).setup ≡ server.setup
setup_as server None = refl
setup_as server (Some pending) = setup_if server pending pending.landed

pub settled_setup : (server : ServerView) → (settled server).setup ≡ server.setup
unfolding settled
settled_setup server = setup_as server server.pending

-- The due work of a bank that is settled is that of the setup as it was.
pub due_settled : (server : ServerView) (at : Moment) → due (settled server).setup (settled server).state at ≡ due server.setup (settled server).state at
due_settled server at = ap (λ (setup : Setup). due setup (settled server).state at) (settled_setup server)

-- ---- starting anew, over whatever shows the parts

-- a keeper whose fault is set anew
abbrev pub faulted : KeeperView → Option Bool → KeeperView
faulted keeper fault = record { records = keeper.records; unsettled = keeper.unsettled; fault = fault; faults = keeper.faults }

-- a bank's half with nothing pending, and its keeper after its records were read
module _ (setup : Setup) (state : State) (keeper : KeeperView) (pending : Option engines.PendingView) (now : ServerView) (same : seen setup state keeper pending ≡ now)
    (free : now.pending ≡ None) (awaits : Awaits setup state pending keeper.unsettled) (read after : KeeperView) (put_back : after ≡ faulted read keeper.fault)
    (quiet : is_some read.unsettled ≡ false) where
  idle : pending ≡ None
  idle = none_pending pending keeper.unsettled (ap (λ (server : ServerView). server.pending) same ∙ free)

  is_quiet : is_some keeper.unsettled ≡ false
  is_quiet =
      none_unsettled keeper.unsettled
      (nothing_open setup state pending keeper.unsettled awaits (ap (λ (server : ServerView). server.pending) same ∙ free))

  pub quiet_after : (setup' : Setup) (state' : State) (pending' : Option engines.PendingView) → pending' ≡ None → Awaits setup' state' pending' after.unsettled
  quiet_after setup' state' pending' none =
      awaits_nothing setup' state' pending' after.unsettled none (ap (λ (k : KeeperView). k.unsettled) put_back ∙ unsettled_none read.unsettled quiet)

  module _ (listed : read.records ++ landed_record read.unsettled ≡ keeper.records ++ landed_record keeper.unsettled) where
    -- But for the state all is as before.
    anew : (setup' : Setup) (state' : State) (pending' : Option engines.PendingView) → setup' ≡ now.setup → pending' ≡ None → seen setup' state' after pending' ≡ with_state now state'
    anew setup' state' pending' same_setup none =
        ap (λ (s : Setup). seen s state' after pending') (same_setup ∙ sym (ap (λ (server : ServerView). server.setup) same))
        ∙ ap (λ (k : KeeperView). seen setup state' k pending') put_back
        ∙ ap (λ (p : Option engines.PendingView). seen setup state' (faulted read keeper.fault) p) none
        ∙ ap (λ (records : List (List ℕ)). in_state setup state' records keeper.fault) (same_records keeper read is_quiet quiet listed)
        ∙ ap (λ (server : ServerView). with_state server state') (sym (ap (λ (p : Option engines.PendingView). seen setup state keeper p) idle) ∙ same)

    pub unopened : seen setup state after pending ≡ now
    unopened =
        anew setup state pending (ap (λ (server : ServerView). server.setup) same) idle
        ∙ subst (λ (server : ServerView). with_state server state ≡ server) same refl

    pub restarted : (old : ServerView) (used setup' : Setup) (book state' : State) (pending' : Option engines.PendingView) → pending' ≡ None → now ≡ settled old → used ≡ now.setup → setup' ≡ used → state' ≡ book
        → RecordsGive used (Some (keeper.records ++ landed_record keeper.unsettled)) book → Restarts old (seen setup' state' after pending')
    restarted old used setup' book state' pending' none settled_is used_is same_setup same_state holds =
        let of_old : used ≡ old.setup = used_is ∙ ap (λ (server : ServerView). server.setup) settled_is ∙ settled_setup old in
        let kept : keeper.records ≡ (settled old).records =
        ap (λ (server : ServerView). server.records) same ∙ ap (λ (server : ServerView). server.records) settled_is in (
          state',
          subst (λ (s : Setup). Reopens s opening_state (settled old).records state') of_old
              (subst (λ (records : List (List ℕ)). Reopens used opening_state records state') kept
              (subst (λ (s : State). Reopens used opening_state keeper.records s) (sym same_state) (reopens_as used keeper book is_quiet holds))),
          anew setup' state' pending' (same_setup ∙ used_is) none ∙ ap (λ (server : ServerView). with_state server state') settled_is,
        )

-- Whatever is so may be said of a refusal.
pub on_refusal : {A E : Type 0} (result : Result A E) (P : Type 0) → P → OnErr result P
on_refusal (Ok done) P so = tt
on_refusal (Err fault) P so = so

-- ---- files

-- The file of a request is its user's, whoever finds both again.
pub found_again : (setup : Setup) (bytes : List ℕ) (user : UserId) (file : RequestFile) → (request : IsRequest setup bytes) → file ≡ request.file → signed_on setup file.user file.pass ≡ Some user → IsOfUser setup bytes user file
found_again setup bytes user file request same signed =
    let own : signed_on setup file.user file.pass ≡ Some request.user = ap (λ (f : RequestFile). signed_on setup f.user f.pass) same ∙ request.of_user.signed_on.signed in
    let users : request.user ≡ user = same_some request.user user (sym own ∙ signed) in
    subst (λ (u : UserId). IsOfUser setup bytes u file) users
    (subst (λ (f : RequestFile). IsOfUser setup bytes request.user f) (sym same) request.of_user)

-- So the signon of its file doesn't fail.
pub never_denied : (setup : Setup) (bytes : List ℕ) (file : RequestFile) → (request : IsRequest setup bytes) → file ≡ request.file → signed_on setup file.user file.pass ≡ None → ⊥
never_denied setup bytes file request same denied =
    let own : signed_on setup file.user file.pass ≡ Some request.user = ap (λ (f : RequestFile). signed_on setup f.user f.pass) same ∙ request.of_user.signed_on.signed in
    none_some request.user (sym denied ∙ own)

pub no_poll_again : (setup : Setup) (bytes : List ℕ) (file : RequestFile) → (request : IsRequest setup bytes) → file ≡ request.file → is_poll file ≡ false
no_poll_again setup bytes file request same = ap is_poll same ∙ request.no_poll
