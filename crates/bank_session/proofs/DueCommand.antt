-- How the command `due` ends, and exactly where.
use Rattle.std.proofs.Common.{◌≡◌, ℕ, Bool, List, [], ◌∷◌, Option, Result, Ok, Err, ◌⊎◌, inl, inr, arith, refl, sym, subst}
use Rattle.std.proofs.KnownBytes.{Keeps-refl}
use Rattle.ofx_ports.specs.Faults.{Rose}
use Rattle.ofx_ports.specs.Known.{Grows}
use Rattle.ofx_types.specs.declared.number.Moment.{Moment}
use Rattle.ofx_types.specs.declared.told.Told.{Told}
use Rattle.ofx_types.specs.declared.told.Note.TheVariants.{Plain}
use Rattle.bank_model.specs.declared.setup.Setup.{Setup}
use Rattle.bank_model.specs.declared.event.State.{State}
use Rattle.bank_frames.specs.Frames.{due_work}
use Rattle.bank_opening.specs.Reports.{reported_of, reported}
use Rattle.bank_opening.specs.declared.stop.Stop.{Stop}
use Rattle.bank_opening.specs.declared.stop.Stop.TheVariants as stops
use Rattle.bank_opening.specs.OneBank.{OneBank}
use Rattle.bank_opening.proofs.OneSetup.{OneSetup}
use Rattle.bank_session.specs.Answers.{IsPrefixKept}
use Rattle.bank_session.specs.PortsView.{PortsView, ports_view}
use Rattle.bank_session.specs.Stopping.{stop_of}
use Rattle.bank_session.specs.DueEnd.{DueEnds}
use Rattle.bank_session.specs.Run.{EndsWithBank, EndsSo}
use Rattle.bank_session.specs.Statuses.{IsDueInterrupted, RefusesSetup, RefusesRecord, RefusesIllegal, DoesAll, IsDueCommand}
use Rattle.bank_desk.specs.declared.fault.DeskFault.{DeskFault}
use Rattle.bank_desk.specs.declared.fault.DeskFault.TheVariants.{NoMemory, AppendFailed}
use Rattle.bank_session.proofs.Unopened.{Unopened, unopened, unopened_setup, unopened_record, unopened_illegal, unopened_otherwise, interrupted_otherwise, opens_or_interrupted, wider, status_is, unspelled_setup, IsBankOf, record_refused, illegal_refused}

-- what was due isn't done, after the clock's one answer
pub due_undone : (setup : Setup) (start : State) (setup_left setup_left' left held : Option (List ℕ)) (setup_faults setup_faults' faults writes : ℕ) (records records' : Option (List (List ℕ))) (keeps keeps' : ℕ) (shown shown' : Option (List Moment)) (unsettled unsettled' : Bool) (moment : Moment) (undone : DeskFault) →
    Grows shown shown' (moment ∷ []) → ((kept : List (List ℕ)) × IsPrefixKept setup moment start due_work kept × Grows records records' kept) → (undone ≡ AppendFailed → Rose keeps keeps') →
    DueEnds setup start (ports_view setup_left setup_faults left faults held writes records keeps shown unsettled) (ports_view setup_left' setup_faults' left faults held writes records' keeps' shown' unsettled') (Err (stop_of undone))
due_undone setup start setup_left setup_left' left held setup_faults setup_faults' faults writes records records' keeps keeps' shown shown' unsettled unsettled' moment NoMemory reported prefix rose = record {
  unread = Keeps-refl left;
  unwritten = Keeps-refl held;
  next = moment ∷ [];
  few = omega arith;
  moments = reported;
  records = prefix.0;
  work = inr (moment, refl, prefix.1);
  kept = prefix.2;
}
due_undone setup start setup_left setup_left' left held setup_faults setup_faults' faults writes records records' keeps keeps' shown shown' unsettled unsettled' moment AppendFailed reported prefix rose = (
  record {
    moment = moment;
    records = prefix.0;
    work = prefix.1;
    unread = Keeps-refl left;
    kept = prefix.2;
    unwritten = Keeps-refl held;
    moments = reported;
  },
  rose refl,
)

-- ---- exactly where

-- how the command ends in a bank
done_or_interrupted : (before after : PortsView) (end : Result (Unit {0}) Stop) → EndsWithBank DueEnds before after end → (reported_of end ≡ reported 0 Plain) ⊎ IsDueInterrupted before after (reported_of end)
done_or_interrupted before after (Ok done) h = inl refl
done_or_interrupted before after (Err stops.WriteFailed) h = inr (inr (inl (refl, h.ends.1)))
done_or_interrupted before after (Err stops.KeeperFailed) h = inr (inr (inr (inl (refl, h.ends.1))))
done_or_interrupted before after (Err stops.NoMemory) h = inr (inr (inr (inr refl)))
done_or_interrupted before after (Err stops.ReadFailed) h = absurd h.ends
done_or_interrupted before after (Err (stops.Frame offset)) h = absurd h.ends
done_or_interrupted before after (Err stops.Usage) h = absurd h.ends
done_or_interrupted before after (Err (stops.Setup line)) h = absurd h.ends
done_or_interrupted before after (Err (stops.Records fault)) h = absurd h.ends
done_or_interrupted before after (Err (stops.Letter fault)) h = absurd h.ends

-- what the command comes to: it has no bank, or does what is due in the one that it has
data Comes (before after : PortsView) (what : Told) : Type 0 where
  without : Unopened before after what → Comes before after what
  with_bank : (setup : Setup) (start : State) → IsBankOf before setup start → (what ≡ reported 0 Plain) ⊎ IsDueInterrupted before after what → Comes before after what

with_its_bank : (before after : PortsView) (end : Result (Unit {0}) Stop) → EndsWithBank DueEnds before after end → Comes before after (reported_of end)
with_its_bank before after end h =
    with_bank h.setup h.start (record { found = h.found; holds = h.holds }) (done_or_interrupted before after end h)

comes : (before after : PortsView) (end : Result (Unit {0}) Stop) → EndsSo DueEnds before after end → Comes before after (reported_of end)
comes before after (Ok done) h = with_its_bank before after (Ok done) h
comes before after (Err stop) (inl h) = without (unopened before after stop h)
comes before after (Err stop) (inr h) = with_its_bank before after (Err stop) h

reported_comes : (before after : PortsView) (end : Result (Unit {0}) Stop) (what : Told) → what ≡ reported_of end → EndsSo DueEnds before after end → Comes before after what
reported_comes before after end what e ends = subst (Comes before after) (sym e) (comes before after end ends)

refuses_setup : (before after : PortsView) (what : Told) → Comes before after what → RefusesSetup IsDueInterrupted before after what
refuses_setup before after what (without how) text left none = unopened_setup before after what how text left none
refuses_setup before after what (with_bank setup start bank how) text left none = absurd (unspelled_setup before text setup left none bank.found)

refuses_record : OneSetup → OneBank → (before after : PortsView) (what : Told) → Comes before after what → RefusesRecord IsDueInterrupted before after what
refuses_record one opening before after what (without how) setup records number offset has unformed =
    unopened_record one opening before after what how setup records number offset has unformed
refuses_record one opening before after what (with_bank found start bank how) setup records number offset has unformed =
    absurd (record_refused one opening before setup found start records number offset has unformed bank)

refuses_illegal : OneSetup → OneBank → (before after : PortsView) (what : Told) → Comes before after what → RefusesIllegal IsDueInterrupted before after what
refuses_illegal one opening before after what (without how) setup records number has illegal =
    unopened_illegal one opening before after what how setup records number has illegal
refuses_illegal one opening before after what (with_bank found start bank how) setup records number has illegal =
    absurd (illegal_refused one opening before setup found start records number has illegal bank)

does_all : OneSetup → OneBank → (before after : PortsView) (what : Told) → Comes before after what → DoesAll before after what
does_all one opening before after what (without how) setup start opens = inr (opens_or_interrupted one opening before after what setup start opens how)
does_all one opening before after what (with_bank found state bank how) setup start opens = how

-- what the command comes to, by its end
pub is_due_command : OneSetup → OneBank → (before after : PortsView) (end : Result (Unit {0}) Stop) (what : Told) → what ≡ reported_of end → EndsSo DueEnds before after end → IsDueCommand before after what
is_due_command one opening before after end what e ends =
    let how = reported_comes before after end what e ends in
    record {
      command = record {
        ends = record { end = end; reported_is = e; ends = ends };
        refuses_setup = refuses_setup before after what how;
        refuses_record = refuses_record one opening before after what how;
        refuses_illegal = refuses_illegal one opening before after what how;
      };
      does_all = does_all one opening before after what how;
    }

-- it doesn't end as arguments without a form do
never_two : (before after : PortsView) (what : Told) → Comes before after what → what.status.0 ≡ 2 → ⊥
never_two before after what (without how) two = unopened_otherwise before after what how two
never_two before after what (with_bank setup start bank (inl e)) two = absurd (omega (arith, status_is what 0 Plain e two))
never_two before after what (with_bank setup start bank (inr why)) two = interrupted_otherwise before after what (wider before after what why) two

pub due_never_usage : (before after : PortsView) (end : Result (Unit {0}) Stop) (what : Told) → what ≡ reported_of end → EndsSo DueEnds before after end → what.status.0 ≡ 2 → ⊥
due_never_usage before after end what e ends two = never_two before after what (reported_comes before after end what e ends) two
