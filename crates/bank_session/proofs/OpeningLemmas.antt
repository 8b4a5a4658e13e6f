-- What a command that has a bank comes to since before its bank opened.
use Rattle.std.proofs.Common.{◌≡◌, ◌≢◌, ℕ, ◌≤◌, Bool, true, false, refl, List, [], Option, Result, Ok, Err, inl, inr, sym, subst}
use Rattle.ofx_ports.specs.Known.{Stays, Grows}
use Rattle.ofx_ports.proofs.KnownLaws.{Stays-trans, Grows-nil, Grows-trans, Grows-kept}
use Rattle.ofx_ports.proofs.FaultLaws.{Rose-later}
use Rattle.ofx_types.specs.declared.number.Moment.{Moment}
use Rattle.bank_model.specs.declared.setup.Setup.{Setup}
use Rattle.bank_model.specs.declared.event.State.{State}
use Rattle.bank_core.specs.BookView.{BookView}
use Rattle.bank_model.specs.SetupForm.{IsWithinLimits}
use Rattle.bank_replay.specs.Opening.{RecordsGive}
use Rattle.bank_opening.specs.SetupRead.{IsSetupOf}
use Rattle.bank_opening.specs.declared.stop.Stop.{Stop}
use Rattle.bank_opening.specs.declared.stop.Stop.TheVariants as stops
use Rattle.bank_session.specs.Answers.{Turn}
use Rattle.bank_session.specs.PortsView.{PortsView}
use Rattle.bank_session.specs.RunEnd.{Taken, RunEnds}
use Rattle.bank_session.specs.DueEnd.{DueEnds}
use Rattle.bank_session.specs.MailEnd.{LeftAlone, LetterEnds, MailEnds}
use Rattle.bank_session.specs.Run.{Settles, EndsSo}

-- ---- since before the bank opened

-- what it found when it opened
pub record Opened (before : PortsView) (records : Option (List (List ℕ))) (keeps : ℕ) : Type 0 where
  pub list : Stays before.records records
  pub later : before.keeper_faults ≤ keeps

-- the bank that opened has this setup, and stands for the records
pub record IsOpened (before : PortsView) (bank : BookView) (setup : Setup) : Type 0 where
  pub found : IsSetupOf before.setup_left setup
  pub own : bank.setup ≡ setup
  pub within : IsWithinLimits setup
  pub holds : RecordsGive setup before.records bank.state

is_within : (before : PortsView) (bank : BookView) (setup : Setup) → IsOpened before bank setup → IsWithinLimits bank.setup
is_within before bank setup is = subst IsWithinLimits (sym is.own) is.within

is_found : (before : PortsView) (bank : BookView) (setup : Setup) → IsOpened before bank setup → IsSetupOf before.setup_left bank.setup
is_found before bank setup is = subst (IsSetupOf before.setup_left) (sym is.own) is.found

it_holds : (before : PortsView) (bank : BookView) (setup : Setup) → IsOpened before bank setup → RecordsGive bank.setup before.records bank.state
it_holds before bank setup is = subst (λ (s : Setup). RecordsGive s before.records bank.state) (sym is.own) is.holds

-- the outside as it was then
abbrev pub at_opening : PortsView → Option (List (List ℕ)) → ℕ → Bool → PortsView
at_opening before records keeps unsettled = record before { records = records; keeper_faults = keeps; unsettled = unsettled }

-- what has grown since
grown : (before after : PortsView) (records : Option (List (List ℕ))) (keeps : ℕ) (more : List (List ℕ)) → Opened before records keeps → Grows records after.records more → Grows before.records after.records more
grown before after records keeps more opened grows =
    Grows-trans before.records records after.records [] more (Grows-kept before.records before.records records [] (Grows-nil before.records) opened.list) grows

stayed : (before after : PortsView) (records : Option (List (List ℕ))) (keeps : ℕ) → Opened before records keeps → Stays records after.records → Stays before.records after.records
stayed before after records keeps opened stays = Stays-trans before.records records after.records opened.list stays

-- ---- a run over frames

taken_since : (setup : Setup) (start : State) (before after : PortsView) (records : Option (List (List ℕ))) (keeps : ℕ) (unsettled : Bool) (turns : List Turn) (state : State) (ahead : List ℕ) →
    Taken setup start (at_opening before records keeps unsettled) after turns state ahead → Taken setup start before after turns state ahead
taken_since setup start before after records keeps unsettled turns state ahead taken = record { are_turns = taken.are_turns; few = taken.few; read = taken.read }

pub run_since : (setup : Setup) (start : State) (at : Option Moment) (before after : PortsView) (records : Option (List (List ℕ))) (keeps : ℕ) (unsettled : Bool) (end : Result (Unit {0}) Stop) →
    Opened before records keeps → RunEnds at setup start (at_opening before records keeps unsettled) after end → RunEnds at setup start before after end
run_since setup start at before after records keeps unsettled (Ok done) opened h = record {
  turns = h.turns;
  state = h.state;
  ahead = h.ahead;
  taken = taken_since setup start before after records keeps unsettled h.turns h.state h.ahead h.taken;
  at_end = h.at_end;
  kept = grown before after records keeps _ opened h.kept;
  written = h.written;
  moments = h.moments;
}
run_since setup start at before after records keeps unsettled (Err (stops.Frame offset)) opened h = record {
  turns = h.turns;
  state = h.state;
  ahead = h.ahead;
  taken = taken_since setup start before after records keeps unsettled h.turns h.state h.ahead h.taken;
  more = h.more;
  offset_is = h.offset_is;
  kept = grown before after records keeps _ opened h.kept;
  written = h.written;
  moments = h.moments;
}
run_since setup start at before after records keeps unsettled (Err stops.ReadFailed) opened (h, rose) = (
  record {
    turns = h.turns;
    state = h.state;
    ahead = h.ahead;
    taken = taken_since setup start before after records keeps unsettled h.turns h.state h.ahead h.taken;
    no_frame = h.no_frame;
    kept = grown before after records keeps _ opened h.kept;
    written = h.written;
    moments = h.moments;
  },
  rose,
)
run_since setup start at before after records keeps unsettled (Err stops.WriteFailed) opened (h, rose) = (
  record {
    turns = h.turns;
    state = h.state;
    ahead = h.ahead;
    taken = taken_since setup start before after records keeps unsettled h.turns h.state h.ahead h.taken;
    content = h.content;
    moment = h.moment;
    line = h.line;
    records = h.records;
    next = h.next;
    count = h.count;
    room = h.room;
    fits = h.fits;
    begins = h.begins;
    answers = h.answers;
    kept = grown before after records keeps _ opened h.kept;
    written = h.written;
    moments = h.moments;
  },
  rose,
)
run_since setup start at before after records keeps unsettled (Err stops.KeeperFailed) opened (h, rose) = (
  record {
    turns = h.turns;
    state = h.state;
    ahead = h.ahead;
    taken = taken_since setup start before after records keeps unsettled h.turns h.state h.ahead h.taken;
    content = h.content;
    moment = h.moment;
    records = h.records;
    room = h.room;
    fits = h.fits;
    begins = h.begins;
    work = h.work;
    kept = grown before after records keeps _ opened h.kept;
    written = h.written;
    moments = h.moments;
  },
  Rose-later before.keeper_faults keeps after.keeper_faults opened.later rose,
)
run_since setup start at before after records keeps unsettled (Err stops.NoMemory) opened h = record {
  turns = h.turns;
  state = h.state;
  ahead = h.ahead;
  taken = taken_since setup start before after records keeps unsettled h.turns h.state h.ahead h.taken;
  written = h.written;
  next = h.next;
  few = h.few;
  moments = h.moments;
  records = h.records;
  refused = h.refused;
  kept = grown before after records keeps _ opened h.kept;
}
run_since setup start at before after records keeps unsettled (Err stops.Usage) opened h = absurd h
run_since setup start at before after records keeps unsettled (Err (stops.Setup line)) opened h = absurd h
run_since setup start at before after records keeps unsettled (Err (stops.Records fault)) opened h = absurd h
run_since setup start at before after records keeps unsettled (Err (stops.Letter fault)) opened h = absurd h

-- ---- the command `due`

pub due_since : (setup : Setup) (start : State) (before after : PortsView) (records : Option (List (List ℕ))) (keeps : ℕ) (unsettled : Bool) (end : Result (Unit {0}) Stop) →
    Opened before records keeps → DueEnds setup start (at_opening before records keeps unsettled) after end → DueEnds setup start before after end
due_since setup start before after records keeps unsettled (Ok done) opened h = record {
  moment = h.moment;
  line = h.line;
  records = h.records;
  state = h.state;
  does = h.does;
  unread = h.unread;
  kept = grown before after records keeps _ opened h.kept;
  written = h.written;
  moments = h.moments;
}
due_since setup start before after records keeps unsettled (Err stops.WriteFailed) opened (h, rose) = (
  record {
    moment = h.moment;
    line = h.line;
    records = h.records;
    state = h.state;
    count = h.count;
    does = h.does;
    unread = h.unread;
    kept = grown before after records keeps _ opened h.kept;
    written = h.written;
    moments = h.moments;
  },
  rose,
)
due_since setup start before after records keeps unsettled (Err stops.KeeperFailed) opened (h, rose) = (
  record {
    moment = h.moment;
    records = h.records;
    work = h.work;
    unread = h.unread;
    kept = grown before after records keeps _ opened h.kept;
    unwritten = h.unwritten;
    moments = h.moments;
  },
  Rose-later before.keeper_faults keeps after.keeper_faults opened.later rose,
)
due_since setup start before after records keeps unsettled (Err stops.NoMemory) opened h = record {
  unread = h.unread;
  unwritten = h.unwritten;
  next = h.next;
  few = h.few;
  moments = h.moments;
  records = h.records;
  work = h.work;
  kept = grown before after records keeps _ opened h.kept;
}
due_since setup start before after records keeps unsettled (Err stops.ReadFailed) opened h = absurd h
due_since setup start before after records keeps unsettled (Err (stops.Frame offset)) opened h = absurd h
due_since setup start before after records keeps unsettled (Err stops.Usage) opened h = absurd h
due_since setup start before after records keeps unsettled (Err (stops.Setup line)) opened h = absurd h
due_since setup start before after records keeps unsettled (Err (stops.Records fault)) opened h = absurd h
due_since setup start before after records keeps unsettled (Err (stops.Letter fault)) opened h = absurd h

-- ---- the command `mail`

left_since : (before after : PortsView) (records : Option (List (List ℕ))) (keeps : ℕ) (unsettled : Bool) → Opened before records keeps → LeftAlone (at_opening before records keeps unsettled) after → LeftAlone before after
left_since before after records keeps unsettled opened h = record {
  unkept = stayed before after records keeps opened h.unkept;
  unwritten = h.unwritten;
  unseen = h.unseen;
}

letter_since : (bank : BookView) (name subject body : List ℕ) (before after : PortsView) (records : Option (List (List ℕ))) (keeps : ℕ) (unsettled : Bool) (end : Result (Unit {0}) Stop) →
    Opened before records keeps → LetterEnds bank name subject body (at_opening before records keeps unsettled) after end → LetterEnds bank name subject body before after end
letter_since bank name subject body before after records keeps unsettled (Ok done) opened h = record {
  user = h.user;
  moment = h.moment;
  line = h.line;
  rec = h.rec;
  state = h.state;
  named = h.named;
  writes = h.writes;
  kept = grown before after records keeps _ opened h.kept;
  written = h.written;
  moments = h.moments;
}
letter_since bank name subject body before after records keeps unsettled (Err stops.WriteFailed) opened (h, rose) = (
  record {
    user = h.user;
    moment = h.moment;
    line = h.line;
    rec = h.rec;
    state = h.state;
    count = h.count;
    named = h.named;
    writes = h.writes;
    kept = grown before after records keeps _ opened h.kept;
    written = h.written;
    moments = h.moments;
  },
  rose,
)
letter_since bank name subject body before after records keeps unsettled (Err stops.KeeperFailed) opened (h, rose) = (
  record {
    user = h.user;
    moment = h.moment;
    rec = h.rec;
    named = h.named;
    legal = h.legal;
    codes = h.codes;
    kept = elim h.kept [
      | inl stays ↦ inl (stayed before after records keeps opened stays)
      | inr grows ↦ inr (grown before after records keeps _ opened grows)
    ];
    unwritten = h.unwritten;
    moments = h.moments;
  },
  Rose-later before.keeper_faults keeps after.keeper_faults opened.later rose,
)
letter_since bank name subject body before after records keeps unsettled (Err stops.NoMemory) opened h = record {
  unkept = stayed before after records keeps opened h.unkept;
  unwritten = h.unwritten;
  next = h.next;
  few = h.few;
  moments = h.moments;
}
letter_since bank name subject body before after records keeps unsettled (Err (stops.Letter fault)) opened (cause, left) = (cause, left_since before after records keeps unsettled opened left)
letter_since bank name subject body before after records keeps unsettled (Err stops.ReadFailed) opened h = absurd h
letter_since bank name subject body before after records keeps unsettled (Err (stops.Frame offset)) opened h = absurd h
letter_since bank name subject body before after records keeps unsettled (Err stops.Usage) opened h = absurd h
letter_since bank name subject body before after records keeps unsettled (Err (stops.Setup line)) opened h = absurd h
letter_since bank name subject body before after records keeps unsettled (Err (stops.Records fault)) opened h = absurd h

pub mail_since : (bank : BookView) (name subject : List ℕ) (before after : PortsView) (records : Option (List (List ℕ))) (keeps : ℕ) (unsettled : Bool) (end : Result (Unit {0}) Stop) →
    Opened before records keeps → MailEnds name subject bank.setup bank.state (at_opening before records keeps unsettled) after end → MailEnds name subject bank.setup bank.state before after end
mail_since bank name subject before after records keeps unsettled (Ok done) opened h = record {
  body = h.body;
  is_body = h.is_body;
  at_end = h.at_end;
  ends = letter_since bank name subject h.body before after records keeps unsettled (Ok done) opened h.ends;
}
mail_since bank name subject before after records keeps unsettled (Err stop) opened (inl h) = inl (record { cause = h.cause; left = left_since before after records keeps unsettled opened h.left })
mail_since bank name subject before after records keeps unsettled (Err stop) opened (inr h) = inr (record {
  body = h.body;
  is_body = h.is_body;
  at_end = h.at_end;
  ends = letter_since bank name subject h.body before after records keeps unsettled (Err stop) opened h.ends;
})

-- ---- any of them

-- an append is to be settled exactly where it failed
settles : (end : Result (Unit {0}) Stop) (unsettled : Bool) → (end ≢ Err stops.KeeperFailed → unsettled ≡ false) → (end ≡ Err stops.KeeperFailed → unsettled ≡ true) → Settles end unsettled
settles (Ok done) unsettled settled failed = settled (λ e. cc)
settles (Err stops.KeeperFailed) unsettled settled failed = failed refl
settles (Err stops.ReadFailed) unsettled settled failed = settled (λ e. cc)
settles (Err stops.WriteFailed) unsettled settled failed = settled (λ e. cc)
settles (Err stops.NoMemory) unsettled settled failed = settled (λ e. cc)
settles (Err stops.Usage) unsettled settled failed = settled (λ e. cc)
settles (Err (stops.Setup line)) unsettled settled failed = settled (λ e. cc)
settles (Err (stops.Frame offset)) unsettled settled failed = settled (λ e. cc)
settles (Err (stops.Records fault)) unsettled settled failed = settled (λ e. cc)
settles (Err (stops.Letter fault)) unsettled settled failed = settled (λ e. cc)

-- what was done in the bank was done since before it opened
pub with_bank : (Works : Setup → State → PortsView → PortsView → Result (Unit {0}) Stop → Type 0) (bank : BookView) (setup : Setup) (before after : PortsView) (end : Result (Unit {0}) Stop) →
    IsOpened before bank setup → (end ≢ Err stops.KeeperFailed → after.unsettled ≡ false) → (end ≡ Err stops.KeeperFailed → after.unsettled ≡ true) → Works bank.setup bank.state before after end → EndsSo Works before after end
with_bank Works bank setup before after (Ok done) is settled failed ends = record {
  setup = bank.setup;
  start = bank.state;
  found = is_found before bank setup is;
  within = is_within before bank setup is;
  holds = it_holds before bank setup is;
  ends = ends;
  settled = settled (λ e. cc);
}
with_bank Works bank setup before after (Err stop) is settled failed ends = inr (record {
  setup = bank.setup;
  start = bank.state;
  found = is_found before bank setup is;
  within = is_within before bank setup is;
  holds = it_holds before bank setup is;
  ends = ends;
  settled = settles (Err stop) after.unsettled settled failed;
})
