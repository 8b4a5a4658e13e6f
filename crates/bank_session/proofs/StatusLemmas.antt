-- An input is split into frames in one way, so each end of a run comes exactly where it should.
use Rattle.std.proofs.Common.{◌≡◌, ◌≢◌, ℕ, ◌≤◌, List, [], ◌∷◌, ◌++◌, length, Option, None, Some, IfSome, Result, Ok, Err, ◌⊎◌, inl, inr, codes, arith, refl, sym, ap, ◌∙◌, subst, append_assoc, append-nil, length-append, take, suc}
use Rattle.std.specs.List.{flat_map}
use Rattle.std.specs.Io.KnownBytes.{Consumes, IsAtEnd, prepend_known}
use Rattle.std.proofs.lemmas.List.{append_cancel_left, take_at}
use Rattle.ofx_types.specs.declared.number.Moment.{Moment}
use Rattle.bank_model.specs.declared.setup.Setup.{Setup}
use Rattle.bank_model.specs.declared.event.State.{State}
use Rattle.bank_frames.specs.Frames.{Content, request, due_work, IsLength, frame, frame_head, frame_of, Fits, BeginsNoFrame}
use Rattle.bank_opening.specs.Reports.{reported_of, reported}
use Rattle.bank_opening.specs.declared.stop.Stop.{Stop}
use Rattle.bank_opening.specs.declared.stop.Stop.TheVariants as stops
use Rattle.bank_opening.specs.OneBank.{OneBank}
use Rattle.bank_opening.proofs.OneSetup.{OneSetup}
use Rattle.bank_session.specs.Answers.{Turn, AreTurns, read_in}
use Rattle.bank_session.specs.Determined.{AllFit, OneSplit, goes_on, falls_short, contents_of}
use Rattle.bank_session.specs.RunEnd.{Taken, Finished, StoppedAtFrame, RunEnds}
use Rattle.bank_session.specs.PortsView.{PortsView}
use Rattle.bank_session.specs.Run.{EndsWithBank, EndsSo}
use Rattle.ofx_types.specs.declared.told.Told.{Told}
use Rattle.ofx_types.specs.declared.told.Note.TheVariants.{Place}
use Rattle.bank_session.specs.Statuses.{IsInterrupted, RefusesSetup, RefusesRecord, RefusesIllegal, BringsFrames, AnswersAll, RefusesFrame, IsRun}
use Rattle.bank_frames.proofs.Agreement.{heads_agree, kinds_apart}
use Rattle.bank_session.proofs.Unopened.{Unopened, unopened, unopened_setup, unopened_record, unopened_illegal, unopened_otherwise, opens_or_interrupted, or_interrupted, wider, unspelled_setup, IsBankOf, record_refused, illegal_refused}

-- two files in frames before the same bytes are one
one_frame : (a b x y : List ℕ) → IsLength (length a) → IsLength (length b) → frame a ++ x ≡ frame b ++ y → (a ≡ b) × (x ≡ y)
one_frame a b x y small_a small_b e =
    let heads = heads_agree (length a) (length b) (a ++ x) (b ++ y) small_a small_b (sym (append_assoc (frame_head (length a)) a x) ∙ (e ∙ append_assoc (frame_head (length b)) b y)) in
    let same : a ≡ b = sym (take_at a x (length a) refl) ∙ (ap (take (length a)) heads.1 ∙ (ap (λ (n : ℕ). take n (b ++ y)) heads.0 ∙ take_at b y (length b) refl)) in
    (same, append_cancel_left b x y (ap (λ (l : List ℕ). l ++ x) (sym same) ∙ heads.1))

one_content : (a b : Content) (x y : List ℕ) → Fits a → Fits b → frame_of a ++ x ≡ frame_of b ++ y → (a ≡ b) × (x ≡ y)
one_content (request a) (request b) x y fits fits' e =
    let same = one_frame a b x y fits fits' e in (ap (λ (file : List ℕ). request file) same.0, same.1)
one_content (request a) due_work x y fits fits' e = absurd (kinds_apart (length a) (a ++ x) y (sym (append_assoc (frame_head (length a)) a x) ∙ e))
one_content due_work (request b) x y fits fits' e = absurd (kinds_apart (length b) (b ++ y) x (sym (append_assoc (frame_head (length b)) b y) ∙ sym e))
one_content due_work due_work x y fits fits' e = (refl, append_cancel_left (codes "DUE" ++ 10 ∷ []) x y e)

-- an input is split in one way
pub one_split : (contents others : List Content) (rest tail : List ℕ) → AllFit contents → AllFit others → flat_map frame_of contents ++ rest ≡ flat_map frame_of others ++ tail → OneSplit contents others rest tail
one_split contents [] rest tail fits fits' e = goes_on contents refl (sym e)
one_split [] (other ∷ others) rest tail fits fits' e = falls_short (other ∷ others) refl e
one_split (content ∷ contents) (other ∷ others) rest tail fits fits' e =
    let first = one_content content other (flat_map frame_of contents ++ rest) (flat_map frame_of others ++ tail) fits.0 fits'.0 (sym (append_assoc (frame_of content) (flat_map frame_of contents) rest) ∙ (e ∙ append_assoc (frame_of other) (flat_map frame_of others) tail)) in
    elim (one_split contents others rest tail fits.1 fits'.1 first.1) [
      | goes_on more same then ↦ goes_on more (ap (λ (c : Content). c ∷ contents) first.0 ∙ ap (λ (l : List Content). other ∷ l) same) then
      | falls_short more same then ↦ falls_short more (ap (λ (c : Content). c ∷ others) (sym first.0) ∙ ap (λ (l : List Content). content ∷ l) same) then
    ]

contents_read : (turns : List Turn) → read_in turns ≡ flat_map frame_of (contents_of turns)
contents_read [] = refl
contents_read (turn ∷ turns) = ap (λ (l : List ℕ). frame_of turn.content ++ l) (contents_read turns)

contents_counted : (turns : List Turn) → length (contents_of turns) ≡ length turns
contents_counted [] = refl
contents_counted (turn ∷ turns) = ap suc (contents_counted turns)

turns_fit : (setup : Setup) (before after : State) (turns : List Turn) → AreTurns setup before turns after → AllFit (contents_of turns)
turns_fit setup before after [] same = tt
turns_fit setup before after (turn ∷ turns) (mid, fits, says, rest) = (fits, turns_fit setup mid after turns rest)

rest_fits : (prefix more : List Content) → AllFit (prefix ++ more) → AllFit more
rest_fits [] more fits = fits
rest_fits (content ∷ prefix) more fits = rest_fits prefix more fits.1

nothing_after : (prefix rest : List ℕ) → [] ≡ prefix ++ rest → rest ≡ []
nothing_after [] rest e = sym e
nothing_after (x ∷ prefix) rest e = cc

-- what is consumed of told bytes leaves told bytes
left_reported : (all taken : List ℕ) (coming : Option (List ℕ)) → Consumes (Some all) coming taken → (rest : List ℕ) × (coming ≡ Some rest) × (all ≡ taken ++ rest)
left_reported all taken None h = absurd h
left_reported all taken (Some rest) h = (rest, refl, h)

-- a frame before bytes begins them
begun : (bytes : List ℕ) (content : Content) (rest tail : List ℕ) → BeginsNoFrame bytes → Fits content → bytes ≡ (frame_of content ++ rest) ++ tail → ⊥
begun bytes content rest tail none fits e = none content (rest ++ tail) fits (e ∙ append_assoc (frame_of content) rest tail)

-- how the turns of a run split an input that is reported
split_taken : (setup : Setup) (start : State) (before after : PortsView) (ahead : List ℕ) (turns : List Turn) (state : State) (contents : List Content) (rest : List ℕ) → BringsFrames before contents rest → Taken setup start before after turns state ahead →
    (tail : List ℕ) × (prepend_known ahead after.input_left ≡ Some tail) × OneSplit contents (contents_of turns) rest tail
split_taken setup start before after ahead turns state contents rest gives taken =
    let P : Option (List ℕ) → Type 0 = λ left. Consumes left (prepend_known ahead after.input_left) (read_in turns) in
    let suffix = left_reported (flat_map frame_of contents ++ rest) (read_in turns) (prepend_known ahead after.input_left) (subst P gives.input_is taken.read) in
    (suffix.0, suffix.1, one_split contents (contents_of turns) rest suffix.0 gives.fit (turns_fit setup _ state turns taken.are_turns) (suffix.2 ∙ ap (λ (l : List ℕ). l ++ suffix.0) (contents_read turns)))

-- a run over frames and nothing else doesn't stop at a frame
no_more_split : (contents : List Content) (turns : List Turn) (tail : List ℕ) → AllFit contents → length contents ≤ 1000000 → OneSplit contents (contents_of turns) [] tail → tail ≢ [] → (BeginsNoFrame tail ⊎ (length turns ≡ 1000000)) → ⊥
no_more_split contents turns tail fits few (goes_on [] same then) some more = some then
no_more_split contents turns tail fits few (goes_on (m ∷ ms) same then) some (inl none) =
    let fits' : AllFit (contents_of turns ++ (m ∷ ms)) = subst AllFit same fits in
    begun tail m (flat_map frame_of ms) [] none (rest_fits (contents_of turns) (m ∷ ms) fits').0 then
no_more_split contents turns tail fits few (goes_on (m ∷ ms) same then) some (inr full) =
    omega (arith, few, full, ap length same, length-append (contents_of turns) (m ∷ ms), contents_counted turns)
no_more_split contents turns tail fits few (falls_short more same then) some more' = some (nothing_after (flat_map frame_of more) tail then)

-- nor does a run end where more is to come
no_end_split : (contents : List Content) (turns : List Turn) (rest tail : List ℕ) → AllFit (contents_of turns) → length turns ≤ 1000000 → OneSplit contents (contents_of turns) rest tail → rest ≢ [] → (BeginsNoFrame rest ⊎ (length contents ≡ 1000000)) → tail ≡ [] → ⊥
no_end_split contents turns rest tail fits few (goes_on more same then) some stuck end = some (nothing_after (flat_map frame_of more) rest (sym end ∙ then))
no_end_split contents turns rest tail fits few (falls_short [] same then) some stuck end = some (then ∙ end)
no_end_split contents turns rest tail fits few (falls_short (m ∷ ms) same then) some (inl none) end =
    let fits' : AllFit (contents ++ (m ∷ ms)) = subst AllFit same fits in
    begun rest m (flat_map frame_of ms) tail none (rest_fits contents (m ∷ ms) fits').0 then
no_end_split contents turns rest tail fits few (falls_short (m ∷ ms) same then) some (inr full) end =
    omega (arith, few, full, ap length same, length-append contents (m ∷ ms), contents_counted turns)

-- where a run stops at a frame it has read the contents of the input
stuck_split : (contents : List Content) (turns : List Turn) (rest tail : List ℕ) → AllFit contents → AllFit (contents_of turns) → length contents ≤ 1000000 → length turns ≤ 1000000 → OneSplit contents (contents_of turns) rest tail →
    (BeginsNoFrame rest ⊎ (length contents ≡ 1000000)) → (BeginsNoFrame tail ⊎ (length turns ≡ 1000000)) → contents ≡ contents_of turns
stuck_split contents turns rest tail fits fits' few few' (goes_on [] same then) stuck stuck' = same ∙ append-nil (contents_of turns)
stuck_split contents turns rest tail fits fits' few few' (goes_on (m ∷ ms) same then) stuck (inl none) =
    let more : AllFit (contents_of turns ++ (m ∷ ms)) = subst AllFit same fits in
    absurd (begun tail m (flat_map frame_of ms) rest none (rest_fits (contents_of turns) (m ∷ ms) more).0 then)
stuck_split contents turns rest tail fits fits' few few' (goes_on (m ∷ ms) same then) stuck (inr full) =
    absurd (omega (arith, few, full, ap length same, length-append (contents_of turns) (m ∷ ms), contents_counted turns))
stuck_split contents turns rest tail fits fits' few few' (falls_short [] same then) stuck stuck' = sym (append-nil contents) ∙ sym same
stuck_split contents turns rest tail fits fits' few few' (falls_short (m ∷ ms) same then) (inl none) stuck' =
    let more : AllFit (contents ++ (m ∷ ms)) = subst AllFit same fits' in
    absurd (begun rest m (flat_map frame_of ms) tail none (rest_fits contents (m ∷ ms) more).0 then)
stuck_split contents turns rest tail fits fits' few few' (falls_short (m ∷ ms) same then) (inr full) stuck' =
    absurd (omega (arith, few', full, ap length same, length-append contents (m ∷ ms), contents_counted turns))

-- what follows the frames of a run that stopped at a frame
more_left : (setup : Setup) (start : State) (at : Option Moment) (before after : PortsView) (offset : ℕ) (stopped : StoppedAtFrame setup start at before after offset) (tail : List ℕ) → prepend_known stopped.ahead after.input_left ≡ Some tail → (tail ≢ []) × (BeginsNoFrame tail ⊎ (length stopped.turns ≡ 1000000))
more_left setup start at before after offset stopped tail e =
    let P : Option (List ℕ) → Type 0 = λ coming. IfSome coming (λ rest. (rest ≢ []) × (BeginsNoFrame rest ⊎ (length stopped.turns ≡ 1000000))) in
    subst P e stopped.more

no_more : (setup : Setup) (start : State) (at : Option Moment) (before after : PortsView) (offset : ℕ) (contents : List Content) → BringsFrames before contents [] → StoppedAtFrame setup start at before after offset → ⊥
no_more setup start at before after offset contents gives stopped =
    let split = split_taken setup start before after stopped.ahead stopped.turns stopped.state contents [] gives stopped.taken in
    let more = more_left setup start at before after offset stopped split.0 split.1 in
    no_more_split contents stopped.turns split.0 gives.fit gives.few split.2 more.0 more.1

-- a run that stops at a frame does so after the contents of the input
at_offset : (setup : Setup) (start : State) (at : Option Moment) (before after : PortsView) (offset : ℕ) (contents : List Content) (rest : List ℕ) → BringsFrames before contents rest → (BeginsNoFrame rest ⊎ (length contents ≡ 1000000)) → StoppedAtFrame setup start at before after offset → offset ≡ length (flat_map frame_of contents)
at_offset setup start at before after offset contents rest gives stuck stopped =
    let split = split_taken setup start before after stopped.ahead stopped.turns stopped.state contents rest gives stopped.taken in
    let more = more_left setup start at before after offset stopped split.0 split.1 in
    let same : contents ≡ contents_of stopped.turns =
    stuck_split contents stopped.turns rest split.0 gives.fit (turns_fit setup _ stopped.state stopped.turns stopped.taken.are_turns) gives.few stopped.taken.few split.2 stuck more.1 in
    stopped.offset_is ∙ ap length (contents_read stopped.turns ∙ ap (λ (l : List Content). flat_map frame_of l) (sym same))

no_end : (setup : Setup) (start : State) (at : Option Moment) (before after : PortsView) (contents : List Content) (rest : List ℕ) → BringsFrames before contents rest → rest ≢ [] → (BeginsNoFrame rest ⊎ (length contents ≡ 1000000)) → Finished setup start at before after → ⊥
no_end setup start at before after contents rest gives some stuck finished =
    let split = split_taken setup start before after finished.ahead finished.turns finished.state contents rest gives finished.taken in
    no_end_split contents finished.turns rest split.0 (turns_fit setup _ finished.state finished.turns finished.taken.are_turns) finished.taken.few split.2 some stuck (subst IsAtEnd split.1 finished.at_end)

-- ---- a run over frames

-- how a run ends that has a bank
bank_answers : (at : Option Moment) (before after : PortsView) (end : Result (Unit {0}) Stop) → EndsWithBank (RunEnds at) before after end → AnswersAll before after (reported_of end)
bank_answers at before after (Ok done) h = λ contents gives. inl refl
bank_answers at before after (Err (stops.Frame offset)) h = λ contents gives. absurd (no_more h.setup h.start at before after offset contents gives h.ends)
bank_answers at before after (Err stops.ReadFailed) h = λ contents gives. inr (inl (refl, inr h.ends.1))
bank_answers at before after (Err stops.WriteFailed) h = λ contents gives. inr (inr (inl (refl, h.ends.1)))
bank_answers at before after (Err stops.KeeperFailed) h = λ contents gives. inr (inr (inr (inl (refl, h.ends.1))))
bank_answers at before after (Err stops.NoMemory) h = λ contents gives. inr (inr (inr (inr refl)))
bank_answers at before after (Err stops.Usage) h = absurd h.ends
bank_answers at before after (Err (stops.Setup line)) h = absurd h.ends
bank_answers at before after (Err (stops.Records fault)) h = absurd h.ends
bank_answers at before after (Err (stops.Letter fault)) h = absurd h.ends

bank_refuses : (at : Option Moment) (before after : PortsView) (end : Result (Unit {0}) Stop) → EndsWithBank (RunEnds at) before after end → RefusesFrame before after (reported_of end)
bank_refuses at before after (Ok done) h = λ contents rest gives some stuck. absurd (no_end h.setup h.start at before after contents rest gives some stuck h.ends)
bank_refuses at before after (Err (stops.Frame offset)) h =
    λ contents rest gives some stuck. inl (ap (λ (k : ℕ). reported 4 (Place k)) (at_offset h.setup h.start at before after offset contents rest gives stuck h.ends))
bank_refuses at before after (Err stops.ReadFailed) h = λ contents rest gives some stuck. inr (inl (refl, inr h.ends.1))
bank_refuses at before after (Err stops.WriteFailed) h = λ contents rest gives some stuck. inr (inr (inl (refl, h.ends.1)))
bank_refuses at before after (Err stops.KeeperFailed) h = λ contents rest gives some stuck. inr (inr (inr (inl (refl, h.ends.1))))
bank_refuses at before after (Err stops.NoMemory) h = λ contents rest gives some stuck. inr (inr (inr (inr refl)))
bank_refuses at before after (Err stops.Usage) h = absurd h.ends
bank_refuses at before after (Err (stops.Setup line)) h = absurd h.ends
bank_refuses at before after (Err (stops.Records fault)) h = absurd h.ends
bank_refuses at before after (Err (stops.Letter fault)) h = absurd h.ends

bank_otherwise : (at : Option Moment) (before after : PortsView) (end : Result (Unit {0}) Stop) → EndsWithBank (RunEnds at) before after end → (reported_of end).status.0 ≡ 2 → ⊥
bank_otherwise at before after (Ok done) h two = absurd (omega (arith, two))
bank_otherwise at before after (Err (stops.Frame offset)) h two = absurd (omega (arith, two))
bank_otherwise at before after (Err stops.ReadFailed) h two = absurd (omega (arith, two))
bank_otherwise at before after (Err stops.WriteFailed) h two = absurd (omega (arith, two))
bank_otherwise at before after (Err stops.KeeperFailed) h two = absurd (omega (arith, two))
bank_otherwise at before after (Err stops.NoMemory) h two = absurd (omega (arith, two))
bank_otherwise at before after (Err stops.Usage) h two = h.ends
bank_otherwise at before after (Err (stops.Setup line)) h two = h.ends
bank_otherwise at before after (Err (stops.Records fault)) h two = h.ends
bank_otherwise at before after (Err (stops.Letter fault)) h two = h.ends

-- what a run comes to: it has no bank, or ends with the one that it has
data Comes (at : Option Moment) (before after : PortsView) (what : Told) : Type 0 where
  without : Unopened before after what → Comes at before after what
  with_bank : (setup : Setup) (start : State) → IsBankOf before setup start → AnswersAll before after what → RefusesFrame before after what → (what.status.0 ≡ 2 → ⊥) → Comes at before after what

with_its_bank : (at : Option Moment) (before after : PortsView) (end : Result (Unit {0}) Stop) → EndsWithBank (RunEnds at) before after end → Comes at before after (reported_of end)
with_its_bank at before after end h =
    with_bank h.setup h.start (record { found = h.found; holds = h.holds }) (bank_answers at before after end h) (bank_refuses at before after end h) (bank_otherwise at before after end h)

comes : (at : Option Moment) (before after : PortsView) (end : Result (Unit {0}) Stop) → EndsSo (RunEnds at) before after end → Comes at before after (reported_of end)
comes at before after (Ok done) h = with_its_bank at before after (Ok done) h
comes at before after (Err stop) (inl h) = without (unopened before after stop h)
comes at before after (Err stop) (inr h) = with_its_bank at before after (Err stop) h

reported_comes : (at : Option Moment) (before after : PortsView) (end : Result (Unit {0}) Stop) (what : Told) → what ≡ reported_of end → EndsSo (RunEnds at) before after end → Comes at before after what
reported_comes at before after end what e ends = subst (Comes at before after) (sym e) (comes at before after end ends)

refuses_setup : (at : Option Moment) (before after : PortsView) (what : Told) → Comes at before after what → RefusesSetup IsInterrupted before after what
refuses_setup at before after what (without how) text left none = or_interrupted before after what _ (unopened_setup before after what how text left none)
refuses_setup at before after what (with_bank setup start bank answers refuses never) text left none = absurd (unspelled_setup before text setup left none bank.found)

refuses_record : OneSetup → OneBank → (at : Option Moment) (before after : PortsView) (what : Told) → Comes at before after what → RefusesRecord IsInterrupted before after what
refuses_record one opening at before after what (without how) setup records number offset has unformed =
    or_interrupted before after what _ (unopened_record one opening before after what how setup records number offset has unformed)
refuses_record one opening at before after what (with_bank found start bank answers refuses never) setup records number offset has unformed =
    absurd (record_refused one opening before setup found start records number offset has unformed bank)

refuses_illegal : OneSetup → OneBank → (at : Option Moment) (before after : PortsView) (what : Told) → Comes at before after what → RefusesIllegal IsInterrupted before after what
refuses_illegal one opening at before after what (without how) setup records number has illegal =
    or_interrupted before after what _ (unopened_illegal one opening before after what how setup records number has illegal)
refuses_illegal one opening at before after what (with_bank found start bank answers refuses never) setup records number has illegal =
    absurd (illegal_refused one opening before setup found start records number has illegal bank)

refuses_frame : OneSetup → OneBank → (at : Option Moment) (before after : PortsView) (what : Told) → Comes at before after what → RefusesFrame before after what
refuses_frame one opening at before after what (without how) contents rest gives some stuck =
    inr (wider before after what (opens_or_interrupted one opening before after what gives.setup gives.start gives.opens how))
refuses_frame one opening at before after what (with_bank setup start bank answers refuses never) contents rest gives some stuck = refuses contents rest gives some stuck

answers_all : OneSetup → OneBank → (at : Option Moment) (before after : PortsView) (what : Told) → Comes at before after what → AnswersAll before after what
answers_all one opening at before after what (without how) contents gives =
    inr (wider before after what (opens_or_interrupted one opening before after what gives.setup gives.start gives.opens how))
answers_all one opening at before after what (with_bank setup start bank answers refuses never) contents gives = answers contents gives

-- what a run comes to, by its end
pub is_run : OneSetup → OneBank → (at : Option Moment) (before after : PortsView) (end : Result (Unit {0}) Stop) (what : Told) → what ≡ reported_of end → EndsSo (RunEnds at) before after end → IsRun at before after what
is_run one opening at before after end what e ends =
    let how = reported_comes at before after end what e ends in
    record {
      command = record {
        ends = record { end = end; reported_is = e; ends = ends };
        refuses_setup = refuses_setup at before after what how;
        refuses_record = refuses_record one opening at before after what how;
        refuses_illegal = refuses_illegal one opening at before after what how;
      };
      refuses_frame = refuses_frame one opening at before after what how;
      answers_all = answers_all one opening at before after what how;
    }

-- no run ends as arguments without a form do
never_two : (at : Option Moment) (before after : PortsView) (what : Told) → Comes at before after what → what.status.0 ≡ 2 → ⊥
never_two at before after what (without how) two = unopened_otherwise before after what how two
never_two at before after what (with_bank setup start bank answers refuses never) two = never two

pub never_usage : (at : Option Moment) (before after : PortsView) (end : Result (Unit {0}) Stop) (what : Told) → what ≡ reported_of end → EndsSo (RunEnds at) before after end → what.status.0 ≡ 2 → ⊥
never_usage at before after end what e ends two = never_two at before after what (reported_comes at before after end what e ends) two
