-- How the steps of a turn join.
use Rattle.std.proofs.Common.{◌≡◌, ℕ, ◌<◌, ◌+◌, ◌-◌, ◌^◌, List, [], ◌∷◌, ◌++◌, length, ◌≤◌, length-append, drop, Option, None, Some, IfSome, arith, refl, sym, ap, ◌∙◌, append_assoc, length-drop}
use Rattle.std.specs.Io.KnownBytes.{Keeps, Consumes, prepend_known}
use Rattle.std.proofs.KnownBytes.{prepend_known-read}
use Rattle.std.proofs.lemmas.List.{drop-drop, take-append-drop, length-take-le}
use Rattle.ofx_ports.specs.Faults.{Rose}
use Rattle.ofx_types.specs.declared.number.Moment.{Moment}
use Rattle.bank_core.specs.BookView.{BookView}
use Rattle.bank_frames.specs.Frames.{Content, IsLength, length_line, frame, frame_head, frame_of, Fits}
use Rattle.bank_opening.specs.declared.stop.Stop.{Stop}
use Rattle.bank_opening.specs.declared.stop.Stop.TheVariants as stops
use Rattle.bank_session.specs.Answers.{AreMoments}
use Rattle.bank_frames.specs.NextFrame.{HoldsFile, HoldsFrame, file_in, content_in, size_of}
use Rattle.bank_session.specs.Stopping.{stop_of}
use Rattle.bank_session.specs.Turns.{TurnView, HasNoLine, FrameStays, FrameStops}
use Rattle.bank_session.specs.TurnResult.{TurnStops}
use Rattle.bank_frames.specs.declared.frame_head.FrameSize.{FrameSize}
use Rattle.bank_frames.specs.declared.frames.Frame.{Frame}
use Rattle.bank_frames.specs.declared.frames.Frame.TheVariants.{File, Due}
use Rattle.bank_desk.specs.declared.fault.DeskFault.{DeskFault}
use Rattle.bank_desk.specs.declared.fault.DeskFault.TheVariants.{NoMemory, AppendFailed}
use Rattle.bank_frames.proofs.Agreement.{head_is_short, parted, parted_due}

-- the file in a frame that is ahead
file_length : (ahead : List ℕ) (size : FrameSize) → HoldsFile ahead size → length (file_in ahead size) ≡ size.file
file_length ahead size holds =
    length-take-le (size.head + size.file - size.head) (drop size.head ahead) (omega (arith, holds.whole, length-drop size.head ahead)) ∙ omega arith

file_fits : (ahead : List ℕ) (size : FrameSize) → HoldsFile ahead size → IsLength (length (file_in ahead size))
file_fits ahead size holds = omega (arith, file_length ahead size holds, holds.begins.length_fits)

-- what is ahead is the frame, and what follows it
frame_ahead : (ahead : List ℕ) (size : FrameSize) → HoldsFile ahead size → ahead ≡ frame (file_in ahead size) ++ drop (size.head + size.file) ahead
frame_ahead ahead size holds =
    let same : size.head + (size.head + size.file - size.head) ≡ size.head + size.file = omega arith in
    let suffix : drop size.head ahead ≡ file_in ahead size ++ drop (size.head + size.file) ahead =
    sym (take-append-drop (size.head + size.file - size.head) (drop size.head ahead))
    ∙ ap (λ (l : List ℕ). file_in ahead size ++ l) (drop-drop (size.head + size.file - size.head) size.head ahead ∙ ap (λ (k : ℕ). drop k ahead) same) in
    parted ahead size holds.begins
    ∙ (ap (λ (l : List ℕ). frame_head size.file ++ l) suffix
    ∙ (ap (λ (n : ℕ). frame_head n ++ (file_in ahead size ++ drop (size.head + size.file) ahead)) (sym (file_length ahead size holds))
    ∙ sym (append_assoc (frame_head (length (file_in ahead size))) (file_in ahead size) (drop (size.head + size.file) ahead))))

-- its size is that of its two parts
frame_size : (ahead : List ℕ) (size : FrameSize) → HoldsFile ahead size → size.head + size.file ≡ length (frame (file_in ahead size))
frame_size ahead size holds =
    let file : length (file_in ahead size) ≡ size.file = file_length ahead size holds in
    let head : length (frame_head size.file) ≡ size.head = sym (ap length holds.begins.head) ∙ length-take-le size.head ahead holds.begins.head_there in
    let same : length (frame_head (length (file_in ahead size))) ≡ size.head = ap (λ (n : ℕ). length (frame_head n)) file ∙ head in
    omega (arith, file, same, length-append (frame_head (length (file_in ahead size))) (file_in ahead size))

-- what a frame that is ahead holds, and what follows it
pub content_fits : (ahead : List ℕ) (frame : Frame) → HoldsFrame ahead frame → Fits (content_in ahead frame)
content_fits ahead (File size) holds = file_fits ahead size holds
content_fits ahead Due holds = tt

pub content_ahead : (ahead : List ℕ) (frame : Frame) → HoldsFrame ahead frame → ahead ≡ frame_of (content_in ahead frame) ++ drop (size_of frame) ahead
content_ahead ahead (File size) holds = frame_ahead ahead size holds
content_ahead ahead Due holds = parted_due ahead holds

pub content_size : (ahead : List ℕ) (frame : Frame) → HoldsFrame ahead frame → size_of frame ≡ length (frame_of (content_in ahead frame))
content_size ahead (File size) holds = frame_size ahead size holds
content_size ahead Due holds = refl

pub size_within : (ahead : List ℕ) (frame : Frame) → HoldsFrame ahead frame → size_of frame ≤ length ahead
size_within ahead (File size) holds = holds.whole
size_within ahead Due holds = omega (arith, ap length (parted_due ahead holds))

-- its size is a number of 64 bits
pub whole_fits : (ahead : List ℕ) (frame : Frame) → HoldsFrame ahead frame → size_of frame < 2 ^ 64
whole_fits ahead (File size) holds =
    let head : length (frame_head size.file) ≡ size.head = sym (ap length holds.begins.head) ∙ length-take-le size.head ahead holds.begins.head_there in
    omega (arith, head, holds.begins.length_fits, head_is_short size.file holds.begins.length_fits)
whole_fits ahead Due holds = omega arith

head_there : (n : ℕ) → 0 < length (frame_head n)
unfolding frame_head
head_there n = omega (arith, length-append (length_line n) (10 ∷ []))

-- a frame has bytes
pub frame_there : (ahead : List ℕ) (frame : Frame) → HoldsFrame ahead frame → 0 < length ahead
frame_there ahead Due holds = omega (arith, ap length (parted_due ahead holds))
frame_there ahead (File size) holds =
    omega (arith, ap length (parted ahead size holds.begins), length-append (frame_head size.file) (drop size.head ahead), head_there size.file)

-- a frame that is used up is consumed of what was to come
pub frame_consumed : (coming left : Option (List ℕ)) (ahead later bytes : List ℕ) → Keeps coming (prepend_known ahead left) → ahead ≡ bytes ++ later → Consumes coming (prepend_known later left) bytes
frame_consumed coming left ahead later bytes kept e = (prepend_known-read coming left ahead later bytes ⊥ kept e (λ h. absurd h)).0

-- what is ahead begins what is to come
begins_coming : (left : Option (List ℕ)) (ahead bytes tail : List ℕ) → ahead ≡ bytes ++ tail → IfSome (prepend_known ahead left) (λ rest. (more : List ℕ) × (rest ≡ bytes ++ more))
begins_coming None ahead bytes tail e = tt
begins_coming (Some xs) ahead bytes tail e = (tail ++ xs, ap (λ (l : List ℕ). l ++ xs) e ∙ append_assoc bytes tail xs)

-- a frame that isn't used up
pub stays_there : (found left : TurnView) (rest : Option (List ℕ)) (ahead : List ℕ) (frame : Frame) → HoldsFrame ahead frame → Keeps found.coming (prepend_known ahead rest) → left.coming ≡ prepend_known ahead rest → FrameStays (content_in ahead frame) found left
stays_there found left rest ahead frame holds kept same = record {
  fits = content_fits ahead frame holds;
  unread = rw same kept;
  begins = rw same (begins_coming rest ahead (frame_of (content_in ahead frame)) _ (content_ahead ahead frame holds));
}

-- a frame without a line stops the run
pub frame_undone : (at : Moment) (before : BookView) (undone : DeskFault) (content : Content) (found left : TurnView) → FrameStays content found left → HasNoLine at before content found.records left.records undone → Keeps found.held left.held → (undone ≡ AppendFailed → Rose found.keeps left.keeps) → FrameStops at before found left (stop_of undone)
frame_undone at before NoMemory content found left stays none unwritten rose =
    record { content = content; stays = stays; keeps = none; unwritten = unwritten }
frame_undone at before AppendFailed content found left stays none unwritten rose =
    (record { content = content; stays = stays; keeps = none; unwritten = unwritten }, rose refl)

-- a frame that stops the run does so at its moment
pub turn_stopped : (at : Option Moment) (moment : Moment) (before : BookView) (found left : TurnView) (ahead : List ℕ) (stop : Stop) → AreMoments at found.shown left.shown (moment ∷ []) → FrameStops moment before found left stop → TurnStops at before found left ahead stop
turn_stopped at moment before found left ahead stops.ReadFailed moments stopped = absurd stopped
turn_stopped at moment before found left ahead stops.WriteFailed moments stopped = record { moment = moment; moments = moments; happened = stopped }
turn_stopped at moment before found left ahead stops.KeeperFailed moments stopped = record { moment = moment; moments = moments; happened = stopped }
turn_stopped at moment before found left ahead stops.NoMemory moments stopped = record { moment = moment; moments = moments; happened = stopped }
turn_stopped at moment before found left ahead stops.Usage moments stopped = absurd stopped
turn_stopped at moment before found left ahead (stops.Setup line) moments stopped = absurd stopped
turn_stopped at moment before found left ahead (stops.Frame offset) moments stopped = absurd stopped
turn_stopped at moment before found left ahead (stops.Records fault) moments stopped = absurd stopped
turn_stopped at moment before found left ahead (stops.Letter fault) moments stopped = absurd stopped
