-- How the turns of a run join.
use Rattle.std.proofs.Common.{◌≡◌, ◌≢◌, ℕ, ◌<◌, ◌≤◌, ◌+◌, List, [], ◌∷◌, ◌++◌, length, Option, None, Some, IfSome, Result, Ok, Err, ◌⊎◌, inl, inr, arith, refl, sym, ap, ◌∙◌, subst, length-append, append-nil}
use Rattle.std.specs.Io.KnownBytes.{Keeps, Consumes, IsAtEnd, prepend_known}
use Rattle.std.proofs.KnownBytes.{Appends-nil, Appends-trans, Consumes-trans, Consumes-kept, Appends-kept, Keeps-refl}
use Rattle.std.proofs.lemmas.List.{flat_map_more}
use Rattle.ofx_types.specs.declared.number.Moment.{Moment}
use Rattle.bank_model.specs.declared.setup.Setup.{Setup}
use Rattle.bank_model.specs.declared.event.State.{State}
use Rattle.bank_core.specs.BookView.{BookView}
use Rattle.bank_frames.specs.Frames.{Content, request, due_work, frame_head, frame_of, Fits, BeginsNoFrame}
use Rattle.bank_opening.specs.declared.stop.Stop.{Stop}
use Rattle.bank_opening.specs.declared.stop.Stop.TheVariants as stops
use Rattle.bank_session.specs.Answers.{AnswersFrame, Turn, AreTurns, read_in, written_in, records_in, AreMoments, IsPrefixKept, IsKeptWhereRefused}
use Rattle.bank_frames.specs.NextFrame.{IsNoFrame}
use Rattle.bank_session.specs.PortsView.{PortsView}
use Rattle.bank_session.specs.Turns.{TurnView, turn_view, FrameAnswered, FrameStops}
use Rattle.bank_session.specs.TurnResult.{TurnMade, NoTurn, TurnStops}
use Rattle.bank_session.specs.RunEnd.{Taken, Finished, StoppedBetween, StoppedAtFrame, RunEnds}
use Rattle.bank_session.specs.AfterLastFrame.{AfterLastFrame}
use Rattle.bank_session.proofs.BetweenTurns.{BetweenTurns}
use Rattle.bank_frames.proofs.Agreement.{head_is_short}
use Rattle.ofx_ports.proofs.KnownLaws.{Stays-refl, Grows-trans, Grows-kept}
use Rattle.ofx_ports.proofs.FaultLaws.{Rose-later}
use Rattle.bank_session.proofs.ReportedLemmas.{grows_nothing}
use Rattle.bank_session.proofs.MomentLemmas.{no_moments, more_moments, kept_moments, one_more_moment}

-- what a run finds around it, and what is around it while some bytes are ahead
abbrev pub found_in : PortsView → TurnView
found_in out = turn_view out.input_left out.input_faults out.held out.out_faults out.records out.keeper_faults out.shown

abbrev pub left_in : List ℕ → PortsView → TurnView
left_in ahead out = turn_view (prepend_known ahead out.input_left) out.input_faults out.held out.out_faults out.records out.keeper_faults out.shown

-- a turn after the turns so far
one_more : (setup : Setup) (before mid after : State) (turns : List Turn) (turn : Turn) → AreTurns setup before turns mid → Fits turn.content → AnswersFrame setup turn.at mid turn.content turn.line turn.records after → AreTurns setup before (turns ++ turn ∷ []) after
one_more setup before mid after [] turn same fits says = (after, fits, subst (λ (s : State). AnswersFrame setup turn.at s turn.content turn.line turn.records after) same says, refl)
one_more setup before mid after (first ∷ turns) turn (next, there, said, rest) fits says = (next, there, said, one_more setup next mid after turns turn rest fits says)

-- what was read, written and kept with one more turn
read_more : (turns : List Turn) (turn : Turn) → read_in turns ++ frame_of turn.content ≡ read_in (turns ++ turn ∷ [])
read_more turns turn = flat_map_more (λ (t : Turn). frame_of t.content) [] turns turn

written_more : (turns : List Turn) (turn : Turn) → written_in turns ++ turn.line ≡ written_in (turns ++ turn ∷ [])
written_more turns turn = flat_map_more (λ (t : Turn). t.line) [] turns turn

records_more : (turns : List Turn) (turn : Turn) → records_in turns ++ turn.records ≡ records_in (turns ++ turn ∷ [])
records_more turns turn = flat_map_more (λ (t : Turn). t.records) [] turns turn

-- what holds of a bank's setup holds of the run's
of_run : (own setup : Setup) (P : Setup → Type 0) → own ≡ setup → P own → P setup
of_run own setup P same known = subst P same known

-- no turn is taken yet
pub holds_first : (at : Option Moment) (book : BookView) (left : Option (List ℕ)) (reads : ℕ) (held : Option (List ℕ)) (writes : ℕ) (records : Option (List (List ℕ))) (keeps : ℕ) (shown : Option (List Moment)) →
    BetweenTurns book.setup book.state at (turn_view left reads held writes records keeps shown) 0 0 book (turn_view (prepend_known [] left) reads held writes records keeps shown)
holds_first at book left reads held writes records keeps shown = record {
  turns = [];
  counted = refl;
  offset_is = refl;
  own = refl;
  are_turns = refl;
  read = nothing_ahead left;
  kept = grows_nothing records records (Stays-refl records);
  written = Appends-nil held;
  moments = no_moments at shown shown (Stays-refl shown);
  reads = omega arith;
  writes = omega arith;
  keeps = omega arith;
}
  where
    nothing_ahead : (left : Option (List ℕ)) → Consumes left (prepend_known [] left) []
    nothing_ahead None = tt
    nothing_ahead (Some xs) = refl

-- one turn more is taken
pub next_turn : (setup : Setup) (start : State) (at : Option Moment) (found now then : TurnView) (count offset : ℕ) (book after : BookView) (size : ℕ) →
    BetweenTurns setup start at found count offset book now → TurnMade at book after now then size → now.reads ≤ then.reads → now.writes ≤ then.writes → now.keeps ≤ then.keeps →
    BetweenTurns setup start at found (count + 1) (offset + size) after then
next_turn setup start at found now then count offset book after size present made reads writes keeps =
    let it : FrameAnswered made.moment size book after now then = made.happened in
    let turn : Turn = record { content = it.content; at = made.moment; line = it.line; records = it.answers.0 } in
    let says : AnswersFrame setup made.moment book.state it.content it.line it.answers.0 after.state = subst (λ (s : Setup). AnswersFrame s made.moment book.state it.content it.line it.answers.0 after.state) present.own it.answers.1 in
    record {
      turns = present.turns ++ turn ∷ [];
      counted = omega (arith, present.counted, length-append present.turns (turn ∷ []));
      offset_is = omega (arith, present.offset_is, it.size_is, ap length (read_more present.turns turn), length-append (read_in present.turns) (frame_of it.content));
      own = it.setup ∙ present.own;
      are_turns = one_more setup start book.state after.state present.turns turn present.are_turns it.fits says;
      read = rw (sym (read_more present.turns turn)) (Consumes-trans found.coming now.coming then.coming _ _ present.read it.read);
      kept = rw (sym (records_more present.turns turn)) (Grows-trans found.records now.records then.records _ _ present.kept it.answers.2);
      written = rw (sym (written_more present.turns turn)) (Appends-trans found.held now.held then.held _ _ present.written it.written);
      moments = rw (sym (one_more_moment present.turns turn)) (more_moments at found.shown now.shown then.shown _ _ present.moments made.moments);
      reads = omega (arith, present.reads, reads);
      writes = omega (arith, present.writes, writes);
      keeps = omega (arith, present.keeps, keeps);
    }

content_is_small : (content : Content) → Fits content → length (frame_of content) ≤ 262156
content_is_small (request file) fits = omega (arith, fits, head_is_short (length file) fits, length-append (frame_head (length file)) file)
content_is_small due_work fits = omega arith

-- a frame has at most 262,156 bytes
pub frame_is_small : (at : Option Moment) (book after : BookView) (now then : TurnView) (size : ℕ) → TurnMade at book after now then size → size ≤ 262156
frame_is_small at book after now then size made =
    let it : FrameAnswered made.moment size book after now then = made.happened in
    omega (arith, it.size_is, content_is_small it.content it.fits)

-- the turns of a run that stands, with what is still to come
taken_of : (setup : Setup) (start : State) (at : Option Moment) (before after : PortsView) (count offset : ℕ) (book : BookView) (now : TurnView) (ahead : List ℕ) →
    (present : BetweenTurns setup start at (found_in before) count offset book now) → count ≤ 1000000 → Keeps now.coming (prepend_known ahead after.input_left) → Taken setup start before after present.turns book.state ahead
taken_of setup start at before after count offset book now ahead present few kept = record {
  are_turns = present.are_turns;
  few = omega (arith, present.counted);
  read = Consumes-kept before.input_left now.coming (prepend_known ahead after.input_left) _ present.read kept;
}

-- what is refused as a frame is more
stuck : (later : Option (List ℕ)) (full : Type 0) → IfSome later IsNoFrame → IfSome later (λ rest. (rest ≢ []) × (BeginsNoFrame rest ⊎ full))
stuck None full h = tt
stuck (Some rest) full h = (h.0, inl h.1)

-- where no frame comes it stops at the offset after the frames so far
pub stopped_at_frame : (setup : Setup) (start : State) (at : Option Moment) (before after : PortsView) (count offset : ℕ) (book : BookView) (now : TurnView) (ahead : List ℕ) →
    BetweenTurns setup start at (found_in before) count offset book now → count ≤ 1000000 → NoTurn now (left_in ahead after) → IfSome (prepend_known ahead after.input_left) IsNoFrame → StoppedAtFrame setup start at before after offset
stopped_at_frame setup start at before after count offset book now ahead present few none no_frame = record {
  turns = present.turns;
  state = book.state;
  ahead = ahead;
  taken = taken_of setup start at before after count offset book now ahead present few none.unread;
  more = stuck (prepend_known ahead after.input_left) _ no_frame;
  offset_is = present.offset_is;
  kept = Grows-kept before.records now.records after.records _ present.kept none.unkept;
  written = Appends-kept before.held now.held after.held _ present.written none.unwritten;
  moments = kept_moments at before.shown now.shown after.shown _ present.moments none.unseen;
}

-- a run that finds nothing more has answered every frame
pub finished : (setup : Setup) (start : State) (at : Option Moment) (before after : PortsView) (count offset : ℕ) (book : BookView) (now : TurnView) (ahead : List ℕ) →
    BetweenTurns setup start at (found_in before) count offset book now → count ≤ 1000000 → NoTurn now (left_in ahead after) → IsAtEnd (prepend_known ahead after.input_left) → Finished setup start at before after
finished setup start at before after count offset book now ahead present few none at_end = record {
  turns = present.turns;
  state = book.state;
  ahead = ahead;
  taken = taken_of setup start at before after count offset book now ahead present few none.unread;
  at_end = at_end;
  kept = Grows-kept before.records now.records after.records _ present.kept none.unkept;
  written = Appends-kept before.held now.held after.held _ present.written none.unwritten;
  moments = kept_moments at before.shown now.shown after.shown _ present.moments none.unseen;
}

-- where a frame isn't answered whole the run stops
stopped_in_frame : (setup : Setup) (start : State) (at : Option Moment) (before after : PortsView) (count offset : ℕ) (book : BookView) (now : TurnView) (ahead : List ℕ) (moment : Moment) (stop : Stop) →
    BetweenTurns setup start at (found_in before) count offset book now → count < 1000000 → AreMoments at now.shown after.shown (moment ∷ []) → FrameStops moment book now (left_in ahead after) stop → RunEnds at setup start before after (Err stop)
stopped_in_frame setup start at before after count offset book now ahead moment stops.WriteFailed present few moments h = (
  record {
    turns = present.turns;
    state = book.state;
    ahead = ahead;
    taken = taken_of setup start at before after count offset book now ahead present (omega (arith, few)) h.0.stays.unread;
    content = h.0.content;
    moment = moment;
    line = h.0.line;
    records = h.0.answers.0;
    next = h.0.after.state;
    count = h.0.count;
    room = omega (arith, few, present.counted);
    fits = h.0.stays.fits;
    begins = h.0.stays.begins;
    answers = of_run book.setup setup (λ (s : Setup). AnswersFrame s moment book.state h.0.content h.0.line h.0.answers.0 h.0.after.state) present.own h.0.answers.1;
    kept = Grows-trans before.records now.records after.records _ _ present.kept h.0.answers.2;
    written = Appends-trans before.held now.held after.held _ _ present.written h.0.written;
    moments = more_moments at before.shown now.shown after.shown _ _ present.moments moments;
  },
  Rose-later before.out_faults now.writes after.out_faults present.writes h.1,
)
stopped_in_frame setup start at before after count offset book now ahead moment stops.KeeperFailed present few moments h = (
  record {
    turns = present.turns;
    state = book.state;
    ahead = ahead;
    taken = taken_of setup start at before after count offset book now ahead present (omega (arith, few)) h.0.stays.unread;
    content = h.0.content;
    moment = moment;
    records = h.0.keeps.0;
    room = omega (arith, few, present.counted);
    fits = h.0.stays.fits;
    begins = h.0.stays.begins;
    work = of_run book.setup setup (λ (s : Setup). IsPrefixKept s moment book.state h.0.content h.0.keeps.0) present.own h.0.keeps.1;
    kept = Grows-trans before.records now.records after.records _ _ present.kept h.0.keeps.2;
    written = Appends-kept before.held now.held after.held _ present.written h.0.unwritten;
    moments = more_moments at before.shown now.shown after.shown _ _ present.moments moments;
  },
  Rose-later before.keeper_faults now.keeps after.keeper_faults present.keeps h.1,
)
stopped_in_frame setup start at before after count offset book now ahead moment stops.NoMemory present few moments h = record {
  turns = present.turns;
  state = book.state;
  ahead = ahead;
  taken = taken_of setup start at before after count offset book now ahead present (omega (arith, few)) h.stays.unread;
  written = Appends-kept before.held now.held after.held _ present.written h.unwritten;
  next = moment ∷ [];
  few = omega arith;
  moments = more_moments at before.shown now.shown after.shown _ _ present.moments moments;
  records = h.keeps.0;
  refused = inr (record {
    content = h.content;
    moment = moment;
    fits = h.stays.fits;
    begins = h.stays.begins;
    at = refl;
    work = of_run book.setup setup (λ (s : Setup). IsKeptWhereRefused s moment book.state h.content h.keeps.0) present.own h.keeps.1;
  });
  kept = Grows-trans before.records now.records after.records _ _ present.kept h.keeps.2;
}
stopped_in_frame setup start at before after count offset book now ahead moment stops.ReadFailed present few moments h = absurd h
stopped_in_frame setup start at before after count offset book now ahead moment stops.Usage present few moments h = absurd h
stopped_in_frame setup start at before after count offset book now ahead moment (stops.Setup line) present few moments h = absurd h
stopped_in_frame setup start at before after count offset book now ahead moment (stops.Frame other) present few moments h = absurd h
stopped_in_frame setup start at before after count offset book now ahead moment (stops.Records fault) present few moments h = absurd h
stopped_in_frame setup start at before after count offset book now ahead moment (stops.Letter fault) present few moments h = absurd h

-- where a read fails it stops before a frame
stopped_in_read : (setup : Setup) (start : State) (at : Option Moment) (before after : PortsView) (count offset : ℕ) (book : BookView) (now : TurnView) (ahead : List ℕ) →
    BetweenTurns setup start at (found_in before) count offset book now → count < 1000000 → TurnStops at book now (left_in ahead after) ahead stops.ReadFailed → RunEnds at setup start before after (Err stops.ReadFailed)
stopped_in_read setup start at before after count offset book now ahead present few h = (
  record {
    turns = present.turns;
    state = book.state;
    ahead = ahead;
    taken = taken_of setup start at before after count offset book now ahead present (omega (arith, few)) h.0.unread;
    no_frame = inl h.1.0;
    kept = Grows-kept before.records now.records after.records _ present.kept h.0.unkept;
    written = Appends-kept before.held now.held after.held _ present.written h.0.unwritten;
    moments = kept_moments at before.shown now.shown after.shown _ present.moments h.0.unseen;
  },
  Rose-later before.input_faults now.reads after.input_faults present.reads h.1.1,
)

-- where a turn fails the run stops
pub stopped_in_turn : (setup : Setup) (start : State) (at : Option Moment) (before after : PortsView) (count offset : ℕ) (book : BookView) (now : TurnView) (ahead : List ℕ) (stop : Stop) →
    BetweenTurns setup start at (found_in before) count offset book now → count < 1000000 → TurnStops at book now (left_in ahead after) ahead stop → RunEnds at setup start before after (Err stop)
stopped_in_turn setup start at before after count offset book now ahead stops.ReadFailed present few h = stopped_in_read setup start at before after count offset book now ahead present few h
stopped_in_turn setup start at before after count offset book now ahead stop present few h = stopped_in_frame setup start at before after count offset book now ahead h.moment stop present few h.moments h.happened

-- bytes after the most frames
over : (later : Option (List ℕ)) (full : Type 0) → full → IfSome later (λ rest. rest ≢ []) → IfSome later (λ rest. (rest ≢ []) × (BeginsNoFrame rest ⊎ full))
over None full is_full h = tt
over (Some rest) full is_full h = (h, inr is_full)

-- after the last frame that a run answers the input ends, or the run stops
pub ended_after : (setup : Setup) (start : State) (at : Option Moment) (before after : PortsView) (count offset : ℕ) (book : BookView) (coming : Option (List ℕ)) (reads : ℕ) (ahead : List ℕ) (end : Result (Unit {0}) Stop) →
    BetweenTurns setup start at (found_in before) count offset book (turn_view coming reads after.held after.out_faults after.records after.keeper_faults after.shown) → count ≡ 1000000 → AfterLastFrame coming offset ahead after.input_left reads after.input_faults end → RunEnds at setup start before after end
ended_after setup start at before after count offset book coming reads ahead (Ok done) present full h = record {
  turns = present.turns;
  state = book.state;
  ahead = ahead;
  taken = taken_of setup start at before after count offset book _ ahead present (omega (arith, full)) h.0;
  at_end = h.1;
  kept = present.kept;
  written = present.written;
  moments = present.moments;
}
ended_after setup start at before after count offset book coming reads ahead (Err (stops.Frame at_offset)) present full h = record {
  turns = present.turns;
  state = book.state;
  ahead = ahead;
  taken = taken_of setup start at before after count offset book _ ahead present (omega (arith, full)) h.1;
  more = over (prepend_known ahead after.input_left) _ (present.counted ∙ full) h.2;
  offset_is = h.0 ∙ present.offset_is;
  kept = present.kept;
  written = present.written;
  moments = present.moments;
}
ended_after setup start at before after count offset book coming reads ahead (Err stops.ReadFailed) present full h = (
  record {
    turns = present.turns;
    state = book.state;
    ahead = ahead;
    taken = taken_of setup start at before after count offset book _ ahead present (omega (arith, full)) h.0;
    no_frame = inr (present.counted ∙ full);
    kept = present.kept;
    written = present.written;
    moments = present.moments;
  },
  Rose-later before.input_faults reads after.input_faults present.reads h.1,
)
ended_after setup start at before after count offset book coming reads ahead (Err stops.NoMemory) present full h = absurd h
ended_after setup start at before after count offset book coming reads ahead (Err stops.WriteFailed) present full h = absurd h
ended_after setup start at before after count offset book coming reads ahead (Err stops.KeeperFailed) present full h = absurd h
ended_after setup start at before after count offset book coming reads ahead (Err stops.Usage) present full h = absurd h
ended_after setup start at before after count offset book coming reads ahead (Err (stops.Setup line)) present full h = absurd h
ended_after setup start at before after count offset book coming reads ahead (Err (stops.Records fault)) present full h = absurd h
ended_after setup start at before after count offset book coming reads ahead (Err (stops.Letter fault)) present full h = absurd h

-- a run that stops before its first frame has taken no turn
pub stopped_at_once : (at : Option Moment) (book : BookView) (before after : PortsView) → BetweenTurns book.setup book.state at (found_in before) 0 0 book (left_in [] after) → StoppedBetween book.setup book.state at before after
stopped_at_once at book before after present = record {
  turns = present.turns;
  state = book.state;
  ahead = [];
  taken = taken_of book.setup book.state at before after 0 0 book _ [] present (omega arith) (Keeps-refl _);
  written = present.written;
  next = [];
  few = omega arith;
  moments = rw append-nil present.moments;
  records = [];
  refused = inl refl;
  kept = rw append-nil present.kept;
}

-- a frame that is ahead is more
pub frame_is_more : (ahead : List ℕ) (left : Option (List ℕ)) → 0 < length ahead → IfSome (prepend_known ahead left) (λ rest. rest ≢ [])
frame_is_more ahead None some = tt
frame_is_more [] (Some xs) some = absurd (omega (arith, some))
frame_is_more (x ∷ ahead) (Some xs) some = λ e. cc
