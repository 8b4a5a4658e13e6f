-- A run of due work so far, one look more, and its end where it has as many events as it may have.
use Rattle.std.proofs.Common.{◌≡◌, ℕ, ◌+◌, ◌<◌, List, [], ◌∷◌, ◌++◌, length, Err, refl, ◌∙◌, subst, arith, length-append}
use Rattle.ofx_types.specs.declared.number.Moment.{Moment}
use Rattle.bank_model.specs.DueRun.{run_length}
use Rattle.bank_model.specs.declared.event.Event.{Event}
use Rattle.bank_model.specs.declared.setup.Setup.{Setup}
use Rattle.bank_callers.specs.Callers.{CallerView}
use Rattle.bank_shared.specs.Advancing.{HasDone, HasGone}
use Rattle.bank_due.specs.DueRuns.{Loses, DoesEach, id_in, RunsDue}
use Rattle.bank_due.specs.declared.fault.DueFault.TheVariants as faults

-- so many events have happened, and since then some that were due have gone
pub record SoFar (setup : Setup) (at : Moment) (count : ℕ) (old now : CallerView) : Type 0 where
  pub events : List Event
  pub gone : List Event
  pub done : CallerView
  pub counted : length events ≡ count
  pub does : DoesEach setup at old done events
  pub loses : Loses setup at done now gone

pub begins : (setup : Setup) (at : Moment) (caller : CallerView) → SoFar setup at 0 caller caller
begins setup at caller = record { events = []; gone = []; done = caller; counted = refl; does = refl; loses = refl }

each-more : (setup : Setup) (at : Moment) (old between look new : CallerView) (events gone : List Event) (event : Event) → DoesEach setup at old between events
    → Loses setup at between look gone → HasDone setup at event look new → DoesEach setup at old new (events ++ event ∷ [])
each-more setup at old between look new [] gone event does loses due = (gone, look, new, subst (λ (v : CallerView). Loses setup at v look gone) does loses, due, refl)
each-more setup at old between look new (first ∷ events) gone event does loses due =
    (does.0, does.1, does.2, does.3, does.4, each-more setup at does.2 between look new events gone event does.5 loses due)

loses-more : (setup : Setup) (at : Moment) (before look new : CallerView) (gone : List Event) (event : Event) → Loses setup at before look gone → HasGone setup at event look new
    → Loses setup at before new (gone ++ event ∷ [])
loses-more setup at before look new [] event loses went = (new, subst (λ (v : CallerView). HasGone setup at event v new) loses went, refl)
loses-more setup at before look new (first ∷ gone) event loses went = (loses.0, loses.1, loses-more setup at loses.0 look new gone event loses.2 went)

one_more : (events : List Event) (event : Event) (n : ℕ) → length events ≡ n → length (events ++ event ∷ []) ≡ n + 1
one_more events event n counted = omega (arith, length-append events (event ∷ []), counted)

-- one event more
pub done : (setup : Setup) (at : Moment) (n : ℕ) (event : Event) (u v w : CallerView) → SoFar setup at n u v → HasDone setup at event v w → SoFar setup at (n + 1) u w
done setup at n event u v w so due = record {
  events = so.events ++ event ∷ [];
  gone = [];
  done = w;
  counted = one_more so.events event n so.counted;
  does = each-more setup at u so.done v w so.events so.gone event so.does so.loses due;
  loses = refl;
}

-- an event that was due is gone
pub gone : (setup : Setup) (at : Moment) (n : ℕ) (event : Event) (u v w : CallerView) → SoFar setup at n u v → HasGone setup at event v w → SoFar setup at n u w
gone setup at n event u v w so went = record {
  events = so.events;
  gone = so.gone ++ event ∷ [];
  done = so.done;
  counted = so.counted;
  does = so.does;
  loses = loses-more setup at so.done v w so.gone event so.loses went;
}

-- the last event that a run may have
pub left : (setup : Setup) (at : Moment) (n : ℕ) (event : Event) (u v w : CallerView) → n + 1 ≡ 100000 → SoFar setup at n u v → HasDone setup at event v w
    → RunsDue setup at u w (Err (faults.Left (id_in event)))
unfolding run_length
left setup at n event u v w last so due = record {
  earlier = so.events;
  last = event;
  counted = one_more so.events event n so.counted ∙ last;
  does = each-more setup at u so.done v w so.events so.gone event so.does so.loses due;
  id_is = refl;
}
