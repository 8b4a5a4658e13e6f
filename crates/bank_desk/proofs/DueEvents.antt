-- A run of due work, one event after another, with its records.
use Rattle.std.proofs.Common.{◌≡◌, ℕ, ◌<◌, ◌≤◌, ◌+◌, List, [], ◌∷◌, ◌++◌, length, Bool, true, false, None, Some, inl, inr, arith, refl, sym, ap, ◌∙◌, length-append}
use Rattle.std.specs.Prelude.{Option}
use Rattle.ofx_ports.specs.Known.{Grows}
use Rattle.ofx_types.specs.declared.number.Moment.{Moment}
use Rattle.bank_model.specs.Rules.{state_after, due}
use Rattle.bank_model.specs.DueRun.{after_events, AreDue, run_length}
use Rattle.bank_model.specs.declared.setup.Setup.{Setup}
use Rattle.bank_model.specs.declared.event.State.{State}
use Rattle.bank_model.specs.declared.event.Event.{Event}
use Rattle.bank_core.specs.BookView.{BookView}
use Rattle.event_codec.specs.Records.{Codes}
use Rattle.bank_desk.specs.Keeping.{AreRecordsOf}
use Rattle.bank_desk.specs.DueSteps.{RunsNext, LeavesNext, MadeRun, StoppedWork}
use Rattle.bank_desk.specs.declared.fault.DeskFault.{DeskFault}
use Rattle.bank_desk.specs.declared.fault.DeskFault.TheVariants.{NoMemory, AppendFailed}
use Rattle.ofx_ports.proofs.KnownLaws.{Grows-trans, Grows-kept}

-- one event more of a run
pub due_more : (setup : Setup) (S : State) (at : Moment) (events : List Event) (event : Event) → AreDue setup S at events → due setup (after_events setup S at events) at ≡ Some event → AreDue setup S at (events ++ event ∷ [])
due_more setup S at [] event are next = (next, tt)
due_more setup S at (first ∷ events) event are next = (are.0, due_more setup (state_after setup S at first) at events event are.1 next)

after_more : (setup : Setup) (S : State) (at : Moment) (events : List Event) (event : Event) → after_events setup S at (events ++ event ∷ []) ≡ state_after setup (after_events setup S at events) at event
after_more setup S at [] event = refl
after_more setup S at (first ∷ events) event = after_more setup (state_after setup S at first) at events event

pub records_more : (at : Moment) (events : List Event) (records : List (List ℕ)) (event : Event) (rec : List ℕ) → AreRecordsOf at events records → Codes rec at event → AreRecordsOf at (events ++ event ∷ []) (records ++ rec ∷ [])
records_more at [] [] event rec kept codes = (codes, refl)
records_more at [] (other ∷ records) event rec kept codes = cc
records_more at (first ∷ events) [] event rec kept codes = absurd kept
records_more at (first ∷ events) (other ∷ records) event rec kept codes = (kept.0, records_more at events records event rec kept.1 codes)

-- So many events of a run have happened, and are kept.
pub record HaveHappened (at : Moment) (before now : BookView) (reported reported' : Option (List (List ℕ))) (count : ℕ) : Type 0 where
  pub setup : now.setup ≡ before.setup
  pub events : List Event
  pub records : List (List ℕ)
  pub are_due : AreDue before.setup before.state at events
  pub kept : AreRecordsOf at events records
  pub grows : Grows reported reported' records
  pub counted : length events ≡ count
  pub state : now.state ≡ after_events before.setup before.state at events

-- what is due next is so in the state that the events left
due_here : (at : Moment) (before now : BookView) (reported reported' : Option (List (List ℕ))) (count : ℕ) (next : Option Event) → (have : HaveHappened at before now reported reported' count) → due now.setup now.state at ≡ next → due before.setup (after_events before.setup before.state at have.events) at ≡ next
due_here at before now reported reported' count next have is =
    ap (λ (S : State). due before.setup S at) (sym have.state) ∙ (ap (λ (s : Setup). due s now.state at) (sym have.setup) ∙ is)

pub one_more_event : (at : Moment) (before now after : BookView) (reported reported' reported'' : Option (List (List ℕ))) (count : ℕ) → HaveHappened at before now reported reported' count → after.setup ≡ now.setup → RunsNext at now after reported' reported'' true → HaveHappened at before after reported reported'' (count + 1)
one_more_event at before now after reported reported' reported'' count have setup (event, rec, next, codes, grows, taken) = record {
  setup = setup ∙ have.setup;
  events = have.events ++ event ∷ [];
  records = have.records ++ rec ∷ [];
  are_due = due_more before.setup before.state at have.events event have.are_due (due_here at before now reported reported' count (Some event) have next);
  kept = records_more at have.events have.records event rec have.kept codes;
  grows = Grows-trans reported reported' reported'' have.records (rec ∷ []) have.grows grows;
  counted = omega (arith, have.counted, length-append have.events (event ∷ []));
  state = taken
      ∙ (ap (λ (s : Setup). state_after s now.state at event) have.setup
      ∙ (ap (λ (S : State). state_after before.setup S at event) have.state ∙ sym (after_more before.setup before.state at have.events event)));
}

-- where no event is due the run is whole
pub none_left : (at : Moment) (before now after : BookView) (reported reported' reported'' : Option (List (List ℕ))) (count : ℕ) → HaveHappened at before now reported reported' count → count ≤ 100000 → RunsNext at now after reported' reported'' false → MadeRun at before after reported reported'' count
unfolding run_length
none_left at before now after reported reported' reported'' count have few (none, stays, same) = record {
  events = have.events;
  records = have.records;
  kept = have.kept;
  grows = Grows-kept reported reported' reported'' have.records have.grows stays;
  is_run = record {
    are_due = have.are_due;
    few = omega (arith, few, have.counted);
    ends = inr (due_here at before now reported reported' count None have none);
  };
  counted = have.counted;
  state = same ∙ have.state;
}

-- and where it has its greatest length
pub full_run : (at : Moment) (before now : BookView) (reported reported' : Option (List (List ℕ))) (count : ℕ) → HaveHappened at before now reported reported' count → count ≡ 100000 → MadeRun at before now reported reported' count
unfolding run_length
full_run at before now reported reported' count have full = record {
  events = have.events;
  records = have.records;
  kept = have.kept;
  grows = have.grows;
  is_run = record { are_due = have.are_due; few = omega (arith, full, have.counted); ends = inl (have.counted ∙ full) };
  counted = have.counted;
  state = have.state;
}

-- where the next event didn't happen, the bank stands where those before it left it
pub work_stopped : (at : Moment) (before now after : BookView) (reported reported' reported'' : Option (List (List ℕ))) (landed : Option Bool) (count : ℕ) (undone : DeskFault) → HaveHappened at before now reported reported' count → count < 100000 → after.setup ≡ now.setup → LeavesNext at now after reported' reported'' landed undone → StoppedWork at before after reported reported'' landed undone
unfolding run_length
work_stopped at before now after reported reported' reported'' landed count NoMemory have few own (stays, same) = record {
  events = have.events;
  records = have.records;
  begun = record { are_due = have.are_due; few = omega (arith, few, have.counted); kept = have.kept; state = same ∙ have.state };
  grows = Grows-kept reported reported' reported'' have.records have.grows stays;
}
work_stopped at before now after reported reported' reported'' landed count AppendFailed have few own (event, rec, next, codes, lands, same) = record {
  events = have.events;
  records = have.records;
  begun = record { are_due = have.are_due; few = omega (arith, few, have.counted); kept = have.kept; state = same ∙ have.state };
  between = reported';
  grows = have.grows;
  event = event;
  rec = rec;
  room = omega (arith, few, have.counted);
  next = ap (λ (s : Setup). due s after.state at) own ∙ (ap (λ (S : State). due now.setup S at) same ∙ next);
  codes = codes;
  lands = lands;
}
