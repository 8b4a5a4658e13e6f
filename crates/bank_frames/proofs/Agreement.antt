-- Two frames before the same bytes are one.
use Rattle.std.proofs.Common.{◌≡◌, ◌≢◌, ℕ, ◌<◌, ◌≤◌, ◌-◌, List, [], ◌∷◌, ◌++◌, length, take, drop, get_or, arith, refl, sym, ap, ◌∙◌, append_assoc, append-nil, length-append, length-drop}
use Rattle.std.specs.Fmt.{decimal}
use Rattle.std.proofs.lemmas.List.{take_at, drop_at, length-take-le, take-append-drop}
use Rattle.std.proofs.lemmas.Fmt.{decimal_injective}
use Rattle.bank_frames.specs.Frames.{request, due_work, IsLength, length_line, frame_head, frame, frame_of, BeginsNoFrame}
use Rattle.bank_frames.specs.FrameHead.{BeginsFrame, BeginsDue}
use Rattle.bank_frames.specs.declared.frame_head.FrameSize.{FrameSize}
use Rattle.bank_frames.proofs.HeadLines.{head_ends_line, one_end, line_is_short, head_regrouped}

-- the lengths of two first lines before the same bytes
same_line : (m n : ℕ) (x y : List ℕ) → IsLength m → IsLength n → frame_head m ++ x ≡ frame_head n ++ y → length_line m ≡ length_line n
same_line m n x y small_m small_n e =
    let same_end : length (length_line m) ≡ length (length_line n) = one_end (frame_head m ++ x) _ _ (head_ends_line m x small_m) (rw e (head_ends_line n y small_n)) in
    sym (take_at (length_line m) (10 ∷ x) (length (length_line n)) same_end)
    ∙ (ap (take (length (length_line n))) (sym (head_regrouped m x) ∙ (e ∙ head_regrouped n y))
    ∙ take_at (length_line n) (10 ∷ y) (length (length_line n)) refl)

pub heads_agree : (m n : ℕ) (x y : List ℕ) → IsLength m → IsLength n → frame_head m ++ x ≡ frame_head n ++ y → (m ≡ n) × (x ≡ y)
heads_agree m n x y small_m small_n e =
    let line : length_line m ≡ length_line n = same_line m n x y small_m small_n e in
    let digits : decimal m ≡ decimal n = ap (drop 5) line in
    let same : m ≡ n = decimal_injective m n (omega arith) (omega arith) digits in
    let lengths : length (frame_head m) ≡ length (frame_head n) = ap (λ (k : ℕ). length (frame_head k)) same in
    (same, sym (drop_at (frame_head m) x (length (frame_head n)) lengths) ∙ (ap (drop (length (frame_head n))) e ∙ drop_at (frame_head n) y (length (frame_head n)) refl))

-- a first line has at most 12 bytes
pub head_is_short : (n : ℕ) → IsLength n → length (frame_head n) ≤ 12
unfolding frame_head
head_is_short n small = omega (arith, line_is_short n small, length-append (length_line n) (10 ∷ []))

-- the bytes that begin a frame are its first line and the rest
pub parted : (bytes : List ℕ) (size : FrameSize) → BeginsFrame bytes size → bytes ≡ frame_head size.file ++ drop size.head bytes
parted bytes size begins = sym (take-append-drop size.head bytes) ∙ ap (λ (l : List ℕ). l ++ drop size.head bytes) begins.head

pub parted_due : (bytes : List ℕ) → BeginsDue bytes → bytes ≡ frame_of due_work ++ drop 4 bytes
parted_due bytes begins = sym (take-append-drop 4 bytes) ∙ ap (λ (l : List ℕ). l ++ drop 4 bytes) begins

-- frames of the two kinds begin with other letters
pub kinds_apart : (n : ℕ) (x y : List ℕ) → frame_head n ++ x ≡ frame_of due_work ++ y → ⊥
unfolding frame_head
kinds_apart n x y e = let first : 70 ≡ 68 = ap (λ (l : List ℕ). get_or l 0 0) e in absurd (omega (arith, first))

too_short : (bytes : List ℕ) (size : FrameSize) → BeginsFrame bytes size → length bytes - size.head < size.file → BeginsNoFrame bytes
too_short bytes size begins short (request file) rest small e =
    let same = heads_agree size.file (length file) (drop size.head bytes) (file ++ rest) begins.length_fits small (sym (parted bytes size begins) ∙ (e ∙ append_assoc (frame_head (length file)) file rest)) in
    omega (arith, same.0, ap length same.1, length-drop size.head bytes, length-append file rest)
too_short bytes size begins short due_work rest fits e = kinds_apart size.file (drop size.head bytes) rest (sym (parted bytes size begins) ∙ e)

-- a frame that isn't whole is none, if nothing follows
pub unfinished : (bytes : List ℕ) (size : FrameSize) → BeginsFrame bytes size → length bytes - size.head < size.file → (length bytes < 524288) × BeginsNoFrame bytes
unfinished bytes size begins short =
    let head : size.head ≤ 12 = omega (arith, head_is_short size.file begins.length_fits, sym (length-take-le size.head bytes begins.head_there) ∙ ap length begins.head) in
    let low : size.file ≤ 262144 = begins.length_fits in (
      omega (arith, begins.head_there),
      too_short bytes size begins short,
    )

-- where no frame begins, whatever follows, there are bytes
pub some_bytes : (bytes : List ℕ) → ((more : List ℕ) → BeginsNoFrame (bytes ++ more)) → bytes ≢ []
some_bytes bytes none e =
    none (frame []) (request []) [] (omega arith) (ap (λ (l : List ℕ). l ++ frame []) e ∙ sym (append-nil (frame [])))
