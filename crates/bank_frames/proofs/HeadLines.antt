-- The first line of a frame is found where it is.
use Rattle.std.proofs.Common.{◌≡◌, ◌≢◌, ℕ, zero, suc, ◌<◌, ◌≤◌, ◌+◌, List, [], ◌∷◌, ◌++◌, length, take, get_or, codes, arith, refl, sym, ap, ◌∙◌, append_assoc, length-append}
use Rattle.std.specs.Fmt.{decimal}
use Rattle.std.proofs.lemmas.List.{get_or_at, get_or_append_left, take_at, take-append-le, take_more, length-take-le}
use Rattle.std.proofs.lemmas.Fmt.{length-decimal-le}
use Rattle.bank_frames.specs.Frames.{Content, request, due_work, IsLength, length_line, frame_head, frame_of, Fits, BeginsNoFrame}
use Rattle.bank_frames.specs.FirstLine.{EndsLine, HasNoLineEnd}
use Rattle.bank_frames.specs.FrameHead.{BeginsFrame, BeginsDue, IsNoFirstLine}
use Rattle.bank_frames.proofs.Lengths.{no_line_feed}

pub line_is_short : (n : ℕ) → IsLength n → length (length_line n) < 12
line_is_short n small = omega (arith, length-decimal-le 6 n (omega arith) (omega arith) (omega arith))

-- a line without LF, ended by one
line_ended : (line rest : List ℕ) → length line < 12 → ((k : ℕ) → k < length line → get_or line k 0 ≢ 10) → EndsLine (line ++ 10 ∷ rest) (length line)
line_ended line rest short clean = record {
  near = short;
  there = omega (arith, length-append line (10 ∷ rest));
  is_end = get_or_at line 10 rest 0 (length line) refl;
  is_first = λ k h e. clean k h (sym (get_or_append_left line (10 ∷ rest) 0 k h) ∙ e);
}

-- a first line is the line of its length and an LF
pub head_regrouped : (n : ℕ) (rest : List ℕ) → frame_head n ++ rest ≡ length_line n ++ 10 ∷ rest
unfolding frame_head
head_regrouped n rest = simp append_assoc

pub head_ends_line : (n : ℕ) (rest : List ℕ) → IsLength n → EndsLine (frame_head n ++ rest) (length (length_line n))
head_ends_line n rest small =
    rw (head_regrouped n rest) (line_ended (length_line n) rest (line_is_short n small) (λ k h. no_line_feed n k (omega arith) h))

-- the first line of a frame without its LF, and what follows it
abbrev pub line_of : Content → List ℕ
line_of (request file) = length_line (length file)
line_of due_work = codes "DUE"

abbrev body_of : Content → List ℕ
body_of (request file) = file
body_of due_work = []

regrouped : (content : Content) (rest : List ℕ) → frame_of content ++ rest ≡ line_of content ++ 10 ∷ (body_of content ++ rest)
regrouped (request file) rest = append_assoc (frame_head (length file)) file rest ∙ head_regrouped (length file) (file ++ rest)
regrouped due_work rest = refl

line_short : (content : Content) → Fits content → length (line_of content) < 12
line_short (request file) fits = line_is_short (length file) fits
line_short due_work fits = omega arith

no_line_feed_in : (content : Content) (k : ℕ) → Fits content → k < length (line_of content) → get_or (line_of content) k 0 ≢ 10
no_line_feed_in (request file) k fits h e = let small : length file ≤ 262144 = fits in no_line_feed (length file) k (omega arith) h e
no_line_feed_in due_work zero fits h e = absurd (omega (arith, e))
no_line_feed_in due_work (suc zero) fits h e = absurd (omega (arith, e))
no_line_feed_in due_work (suc (suc zero)) fits h e = absurd (omega (arith, e))
no_line_feed_in due_work (suc (suc (suc k))) fits h e = absurd (omega (arith, h))

-- where a frame begins its first line ends
pub ends_line : (bytes : List ℕ) (content : Content) (rest : List ℕ) → Fits content → bytes ≡ frame_of content ++ rest → EndsLine bytes (length (line_of content))
ends_line bytes content rest fits e =
    rw (e ∙ regrouped content rest) (line_ended (line_of content) (body_of content ++ rest) (line_short content fits) (λ k h. no_line_feed_in content k fits h))

-- the first LF is found once
pub one_end : (bytes : List ℕ) (i j : ℕ) → EndsLine bytes i → EndsLine bytes j → i ≡ j
one_end bytes i j a b =
    let not_less : i < j → ⊥ = λ h. b.is_first i h a.is_end in
    let not_more : j < i → ⊥ = λ h. a.is_first j h b.is_end in
    omega (arith, not_less, not_more)

-- what follows makes no difference to a line that has ended
extended : (bytes more : List ℕ) (end : ℕ) → EndsLine bytes end → EndsLine (bytes ++ more) end
extended bytes more end a = record {
  near = a.near;
  there = omega (arith, a.there, length-append bytes more);
  is_end = get_or_append_left bytes more 0 end a.there ∙ a.is_end;
  is_first = λ k h e. a.is_first k h (sym (get_or_append_left bytes more 0 k (omega (arith, a.there))) ∙ e);
}

-- without an LF in its place no frame begins
pub no_frame_without_end : (bytes : List ℕ) → HasNoLineEnd bytes → BeginsNoFrame bytes
no_frame_without_end bytes none content rest fits e =
    let ends = ends_line bytes content rest fits e in
    none _ ends.near ends.there ends.is_end

-- nor with whatever follows, once the offsets of an LF are all there
pub no_frame_later : (bytes : List ℕ) → HasNoLineEnd bytes → 12 ≤ length bytes → (more : List ℕ) → BeginsNoFrame (bytes ++ more)
no_frame_later bytes none long more content rest fits e =
    let ends = ends_line (bytes ++ more) content rest fits e in
    let near : length (line_of content) < length bytes = omega (arith, ends.near) in
    none _ ends.near near (sym (get_or_append_left bytes more 0 _ near) ∙ ends.is_end)

no_content : (content : Content) (line : List ℕ) → Fits content → IsNoFirstLine line → line ≡ line_of content → ⊥
no_content (request file) line fits none e = none.no_file (length file) fits e
no_content due_work line fits none e = none.no_due e

-- where the line is no frame's first one no frame begins, whatever follows
pub no_frame_after : (bytes : List ℕ) (end : ℕ) → EndsLine bytes end → IsNoFirstLine (take end bytes) → (more : List ℕ) → BeginsNoFrame (bytes ++ more)
no_frame_after bytes end ends none more content rest fits e =
    let here = ends_line (bytes ++ more) content rest fits e in
    let same : end ≡ length (line_of content) = one_end (bytes ++ more) _ _ (extended bytes more end ends) here in
    let prefix : take end (bytes ++ more) ≡ take end bytes = take-append-le end bytes more (omega (arith, ends.there)) in
    let line : take end (bytes ++ more) ≡ line_of content =
    ap (take end) (e ∙ regrouped content rest) ∙ take_at (line_of content) (10 ∷ (body_of content ++ rest)) end (sym same) in
    no_content content (take end bytes) fits none (sym prefix ∙ line)

-- a line of a length and its LF are the first line of a frame
pub begins_frame : (bytes : List ℕ) (end n : ℕ) → EndsLine bytes end → IsLength n → take end bytes ≡ length_line n → BeginsFrame bytes (record { head = end + 1; file = n })
unfolding frame_head
begins_frame bytes end n ends small line = record {
  length_fits = small;
  head_there = omega (arith, ends.there);
  head = take_more bytes end 0 ends.there ∙ (ap (λ (l : List ℕ). l ++ get_or bytes end 0 ∷ []) line ∙ ap (λ (b : ℕ). length_line n ++ b ∷ []) ends.is_end);
}

-- the line of a call for due work and its LF are its frame
pub begins_due : (bytes : List ℕ) (end : ℕ) → EndsLine bytes end → take end bytes ≡ codes "DUE" → BeginsDue bytes
begins_due bytes end ends line =
    let three : end ≡ 3 = sym (length-take-le end bytes (omega (arith, ends.there))) ∙ ap length line in
    ap (λ (k : ℕ). take (k + 1) bytes) (sym three)
    ∙ (take_more bytes end 0 ends.there ∙ (ap (λ (l : List ℕ). l ++ get_or bytes end 0 ∷ []) line ∙ ap (λ (b : ℕ). codes "DUE" ++ b ∷ []) ends.is_end))
