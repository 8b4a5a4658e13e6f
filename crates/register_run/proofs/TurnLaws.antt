-- How the frames of a run join.
use Rattle.std.proofs.Common.{◌≡◌, ◌≢◌, ℕ, ◌<◌, ◌≤◌, ◌+◌, ◌-◌, ◌*◌, inl, inr, List, [], ◌∷◌, ◌++◌, length, take, drop, Option, None, Some, IfSome, Result, Ok, Err, ◌⊎◌, arith, refl, sym, ap, subst, ◌∙◌, append_assoc, append-nil, length-append, length-drop}
use Rattle.std.specs.List.{flat_map, AllByRecursion}
use Rattle.std.specs.Io.KnownBytes.{Keeps, Consumes, Appends, IsAtEnd, prepend_known}
use Rattle.std.proofs.KnownBytes.{Consumes-nil, Appends-nil, Appends-trans, Consumes-trans, Consumes-kept, Appends-kept, Keeps-refl}
use Rattle.std.proofs.lemmas.List.{flat_map_more, take_all}
use Rattle.bank_frames.specs.Frames.{frame, frame_head}
use Rattle.file_register.specs.declared.line.Line.{Line}
use Rattle.register_run.specs.Frames.{Fits}
use Rattle.register_run.specs.NextFrame.{IsFrame, IsNoFrame}
use Rattle.register_run.specs.Answers.{AnswersFile, AnswersFiles}
use Rattle.register_run.specs.Turns.{AnswersWhole, AnswersInPart, AnswersOne, TakesFrame, TakesInPart, IsIdle, RunsTurn, Taken, Finishes, StopsAtFrame, StopsBetween, StopsInLine, AnswersAll, EndsInput}
use Rattle.register_run.specs.Keeping.{Prints}
use Rattle.register_run.specs.declared.stop.Stop.{Stop}
use Rattle.register_run.specs.declared.stop.Stop.TheVariants as stops
use Rattle.register_run.proofs.FrameLaws.{frame_read}
use Rattle.register_run.proofs.HeadLines.{head_is_short}

-- ---- one frame

-- the file is all that follows the first line
pub whole_rest : (bytes : List ℕ) (head : ℕ) → take (length bytes - head) (drop head bytes) ≡ drop head bytes
whole_rest bytes head = take_all (length bytes - head) (drop head bytes) (omega (arith, length-drop head bytes))

pub line_printed : (lines after : List Line) (file line : List ℕ) (held held' : Option (List ℕ)) (result : Result (Unit {0}) Stop) → AnswersFile lines file line after → Prints line held held' result
    → AnswersOne lines file held after held' result
line_printed lines after file line held held' (Ok done) answers prints = record { line = line; answers = answers; printed = prints }
line_printed lines after file line held held' (Err stops.WriteFailed) answers prints = record { line = line; after = after; answers = answers; part = prints }
line_printed lines after file line held held' (Err stops.NoMemory) answers prints = absurd prints
line_printed lines after file line held held' (Err stops.ReadFailed) answers prints = prints
line_printed lines after file line held held' (Err stops.StoreFailed) answers prints = prints
line_printed lines after file line held held' (Err (stops.BadStore at)) answers prints = prints
line_printed lines after file line held held' (Err (stops.Frame at)) answers prints = prints

pub turn_made : (lines after : List Line) (left left' held held' : Option (List ℕ)) (bytes seen : List ℕ) (head : ℕ) → Keeps left (prepend_known bytes left') → IsFrame bytes head → seen ≡ bytes
    → AnswersWhole lines (drop head seen) held after held' → TakesFrame lines left held after left' held' (length bytes)
turn_made lines after left left' held held' bytes seen head kept is same answers = record {
  file = drop head bytes;
  fits = is.fits;
  size_is = ap length is.whole;
  read = frame_read left left' bytes head kept is;
  answers = subst (λ (l : List ℕ). AnswersWhole lines (drop head l) held after held') same answers;
}

pub turn_undone : (lines after : List Line) (left left' held held' : Option (List ℕ)) (bytes seen : List ℕ) (head : ℕ) (stop : Stop) → Keeps left (prepend_known bytes left') → IsFrame bytes head → seen ≡ bytes
    → AnswersOne lines (drop head seen) held after held' (Err stop) → RunsTurn lines left held after left' held' (Err stop)
turn_undone lines after left left' held held' bytes seen head stops.WriteFailed kept is same answers = record {
  file = drop head bytes;
  fits = is.fits;
  read = frame_read left left' bytes head kept is;
  answers = subst (λ (l : List ℕ). AnswersInPart lines (drop head l) held held') same answers;
}
turn_undone lines after left left' held held' bytes seen head stops.NoMemory kept is same answers = answers
turn_undone lines after left left' held held' bytes seen head stops.ReadFailed kept is same answers = absurd answers
turn_undone lines after left left' held held' bytes seen head stops.StoreFailed kept is same answers = answers
turn_undone lines after left left' held held' bytes seen head (stops.BadStore at) kept is same answers = answers
turn_undone lines after left left' held held' bytes seen head (stops.Frame at) kept is same answers = answers

-- an answer reads nothing
pub never_reads : (lines after : List Line) (file : List ℕ) (held held' : Option (List ℕ)) (stop : Stop) → AnswersOne lines file held after held' (Err stop) → stop ≡ stops.ReadFailed → ⊥
never_reads lines after file held held' stop answers same = subst (λ (s : Stop). AnswersOne lines file held after held' (Err s)) same answers

-- a frame has at most 67,108,878 bytes
pub frame_is_small : (lines after : List Line) (left left' held held' : Option (List ℕ)) (size : ℕ) → TakesFrame lines left held after left' held' size → size ≤ 67108878
frame_is_small lines after left left' held held' size made =
    let small : length made.file ≤ 67108864 = made.fits in
    omega (arith, made.size_is, small, head_is_short (length made.file) small, length-append (frame_head (length made.file)) made.file)

-- ---- all frames

-- the frames so far
pub record Current (lines : List Line) (left held : Option (List ℕ)) (count offset : ℕ) (now : List Line) (left' held' : Option (List ℕ)) : Type 0 where
  pub files : List (List ℕ)
  pub fit : AllByRecursion Fits files
  pub counted : length files ≡ count
  pub offset_is : offset ≡ length (flat_map frame files)
  pub text : List ℕ
  pub answers : AnswersFiles lines files text now
  pub read : Consumes left left' (flat_map frame files)
  pub printed : Appends held held' text

pub holds_first : (lines : List Line) (left held : Option (List ℕ)) → Current lines left held 0 0 lines left held
holds_first lines left held = record {
  files = [];
  fit = tt;
  counted = refl;
  offset_is = refl;
  text = [];
  answers = (refl, refl);
  read = Consumes-nil left;
  printed = Appends-nil held;
}

fits_more : (files : List (List ℕ)) (file : List ℕ) → AllByRecursion Fits files → Fits file → AllByRecursion Fits (files ++ file ∷ [])
fits_more [] file all fits = (fits, tt)
fits_more (first ∷ files) file all fits = (all.0, fits_more files file all.1 fits)

files_more : (lines mid after : List Line) (files : List (List ℕ)) (file text line : List ℕ) → AnswersFiles lines files text mid → AnswersFile mid file line after
    → AnswersFiles lines (files ++ file ∷ []) (text ++ line) after
files_more lines mid after [] file text line h one =
    (line, after, [], subst (λ (now : List Line). AnswersFile now file line after) h.1 one, (refl, refl), ap (λ (t : List ℕ). t ++ line) h.0 ∙ sym (append-nil line))
files_more lines mid after (first ∷ files) file text line h one =
    let rest = files_more h.1 mid after files file h.2 line h.4 one in
    (h.0, h.1, h.2 ++ line, h.3, rest, ap (λ (t : List ℕ). t ++ line) h.5 ∙ append_assoc h.0 h.2 line)

pub next_turn : (lines : List Line) (left held : Option (List ℕ)) (count offset : ℕ) (now : List Line) (left' held' : Option (List ℕ)) (after : List Line) (left'' held'' : Option (List ℕ)) (size : ℕ)
    → Current lines left held count offset now left' held' → TakesFrame now left' held' after left'' held'' size → Current lines left held (count + 1) (offset + size) after left'' held''
next_turn lines left held count offset now left' held' after left'' held'' size present turn =
    let joined : flat_map frame present.files ++ frame turn.file ≡ flat_map frame (present.files ++ turn.file ∷ []) = flat_map_more frame [] present.files turn.file in
    record {
      files = present.files ++ turn.file ∷ [];
      fit = fits_more present.files turn.file present.fit turn.fits;
      counted = omega (arith, present.counted, length-append present.files (turn.file ∷ []));
      offset_is = omega (arith, present.offset_is, turn.size_is, ap length joined, length-append (flat_map frame present.files) (frame turn.file));
      text = present.text ++ turn.answers.line;
      answers = files_more lines now after present.files turn.file present.text turn.answers.line present.answers turn.answers.answers;
      read = rw (sym joined) (Consumes-trans left left' left'' _ _ present.read turn.read);
      printed = Appends-trans held held' held'' _ _ present.printed turn.answers.printed;
    }

taken_of : (lines : List Line) (left held : Option (List ℕ)) (count offset : ℕ) (now : List Line) (left' held' : Option (List ℕ)) (present : Current lines left held count offset now left' held')
    → count ≤ 1000000 → (rest held'' : Option (List ℕ)) → Keeps left' rest → Keeps held' held'' → Taken lines left held present.files now rest held''
taken_of lines left held count offset now left' held' present few rest held'' kept printed = record {
  fit = present.fit;
  few = omega (arith, present.counted);
  text = present.text;
  answers = present.answers;
  read = Consumes-kept left left' rest _ present.read kept;
  printed = Appends-kept held held' held'' _ present.printed printed;
}

stuck : (rest : Option (List ℕ)) (full : Type 0) → IfSome rest IsNoFrame → IfSome rest (λ bytes. IsNoFrame bytes ⊎ ((bytes ≢ []) × full))
stuck None full h = tt
stuck (Some bytes) full h = inl h

full_up : (rest : Option (List ℕ)) (full : Type 0) → full → IfSome rest (λ bytes. bytes ≢ []) → IfSome rest (λ bytes. IsNoFrame bytes ⊎ ((bytes ≢ []) × full))
full_up None full is h = tt
full_up (Some bytes) full is h = inr (h, is)

-- the register after an idle turn
idle_lines : (lines : List Line) (left held : Option (List ℕ)) (files : List (List ℕ)) (now after : List Line) (left' held' : Option (List ℕ)) → after ≡ now
    → Taken lines left held files now left' held' → Taken lines left held files after left' held'
idle_lines lines left held files now after left' held' same taken = subst (λ (l : List Line). Taken lines left held files l left' held') (sym same) taken

pub finished : (lines : List Line) (left held : Option (List ℕ)) (count offset : ℕ) (now after : List Line) (left' held' left'' held'' : Option (List ℕ))
    → Current lines left held count offset now left' held' → count ≤ 1000000 → IsIdle now held' after held'' → Keeps left' left'' → IsAtEnd left''
    → Finishes lines left held after left'' held''
finished lines left held count offset now after left' held' left'' held'' present few idle kept ends = record {
  files = present.files;
  taken = idle_lines lines left held present.files now after left'' held'' idle.stays (taken_of lines left held count offset now left' held' present few left'' held'' kept idle.printed);
  at_end = ends;
}

pub stopped_at_frame : (lines : List Line) (left held : Option (List ℕ)) (count offset : ℕ) (now : List Line) (left' held' held'' : Option (List ℕ))
    → Current lines left held count offset now left' held' → count ≤ 1000000 → Keeps held' held'' → IfSome left' IsNoFrame → StopsAtFrame lines left held held'' offset
stopped_at_frame lines left held count offset now left' held' held'' present few printed none = record {
  files = present.files;
  lines' = now;
  rest = left';
  taken = taken_of lines left held count offset now left' held' present few left' held'' (Keeps-refl left') printed;
  offset_is = present.offset_is;
  more = stuck left' (length present.files ≡ 1000000) none;
}

stopped_full : (lines : List Line) (left held : Option (List ℕ)) (count offset : ℕ) (now : List Line) (left' held' held'' : Option (List ℕ))
    → Current lines left held count offset now left' held' → count ≡ 1000000 → Keeps held' held'' → IfSome left' (λ bytes. bytes ≢ []) → StopsAtFrame lines left held held'' offset
stopped_full lines left held count offset now left' held' held'' present full printed more = record {
  files = present.files;
  lines' = now;
  rest = left';
  taken = taken_of lines left held count offset now left' held' present (omega (arith, full)) left' held'' (Keeps-refl left') printed;
  offset_is = present.offset_is;
  more = full_up left' (length present.files ≡ 1000000) (present.counted ∙ full) more;
}

pub stopped_between : (lines : List Line) (left held : Option (List ℕ)) (count offset : ℕ) (now : List Line) (left' held' held'' : Option (List ℕ))
    → Current lines left held count offset now left' held' → count ≤ 1000000 → Keeps held' held'' → StopsBetween lines left held held''
stopped_between lines left held count offset now left' held' held'' present few printed = record {
  files = present.files;
  lines' = now;
  rest = left';
  taken = taken_of lines left held count offset now left' held' present few left' held'' (Keeps-refl left') printed;
}

stopped_in_line : (lines : List Line) (left held : Option (List ℕ)) (count offset : ℕ) (now : List Line) (left' held' left'' held'' : Option (List ℕ))
    → Current lines left held count offset now left' held' → count ≤ 1000000 → TakesInPart now left' held' left'' held'' → StopsInLine lines left held held''
stopped_in_line lines left held count offset now left' held' left'' held'' present few next = record {
  files = present.files;
  lines' = now;
  rest = left';
  between = held';
  taken = taken_of lines left held count offset now left' held' present few left' held' (Keeps-refl left') (Keeps-refl held');
  after = left'';
  next = next;
}

-- a turn that stops ends the run
pub stopped_in_turn : (lines : List Line) (left held : Option (List ℕ)) (count offset : ℕ) (now after : List Line) (left' held' left'' held'' : Option (List ℕ)) (stop : Stop)
    → Current lines left held count offset now left' held' → count ≤ 1000000 → RunsTurn now left' held' after left'' held'' (Err stop) → AnswersAll lines left held after left'' held'' (Err stop)
stopped_in_turn lines left held count offset now after left' held' left'' held'' stops.ReadFailed present few turn = stopped_between lines left held count offset now left' held' held'' present few turn
stopped_in_turn lines left held count offset now after left' held' left'' held'' stops.NoMemory present few turn = stopped_between lines left held count offset now left' held' held'' present few turn
stopped_in_turn lines left held count offset now after left' held' left'' held'' stops.WriteFailed present few turn = stopped_in_line lines left held count offset now left' held' left'' held'' present few turn
stopped_in_turn lines left held count offset now after left' held' left'' held'' stops.StoreFailed present few turn = turn
stopped_in_turn lines left held count offset now after left' held' left'' held'' (stops.BadStore at) present few turn = turn
stopped_in_turn lines left held count offset now after left' held' left'' held'' (stops.Frame at) present few turn = absurd turn

-- after the most frames the input is at its end, or goes on
pub ended_after : (lines : List Line) (left held : Option (List ℕ)) (count offset : ℕ) (now : List Line) (left' held' left'' : Option (List ℕ)) (result : Result (Unit {0}) Stop)
    → Current lines left held count offset now left' held' → count ≡ 1000000 → EndsInput offset left' left'' result → AnswersAll lines left held now left'' held' result
ended_after lines left held count offset now left' held' left'' (Ok done) present full ends =
    finished lines left held count offset now now left' held' left'' held' present (omega (arith, full)) (record { stays = refl; printed = Keeps-refl held' }) ends.0 ends.1
ended_after lines left held count offset now left' held' left'' (Err (stops.Frame at)) present full ends =
    subst (StopsAtFrame lines left held held') (sym ends.0) (stopped_full lines left held count offset now left' held' held' present full (Keeps-refl held') ends.1)
ended_after lines left held count offset now left' held' left'' (Err stops.ReadFailed) present full ends =
    stopped_between lines left held count offset now left' held' held' present (omega (arith, full)) (Keeps-refl held')
ended_after lines left held count offset now left' held' left'' (Err stops.NoMemory) present full ends =
    stopped_between lines left held count offset now left' held' held' present (omega (arith, full)) (Keeps-refl held')
ended_after lines left held count offset now left' held' left'' (Err stops.WriteFailed) present full ends = absurd ends
ended_after lines left held count offset now left' held' left'' (Err stops.StoreFailed) present full ends = ends
ended_after lines left held count offset now left' held' left'' (Err (stops.BadStore at)) present full ends = ends
