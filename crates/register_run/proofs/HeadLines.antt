-- The first line of a frame ends once, and says how long its file is.
use Rattle.std.proofs.Common.{◌≡◌, ◌≢◌, ℕ, suc, ◌<◌, ◌≤◌, ◌-◌, List, [], ◌∷◌, ◌++◌, length, take, drop, get_or, Option, None, Some, IfSome, IfNone, arith, refl, sym, ap, subst, ◌∙◌, append_assoc, length-append}
use Rattle.std.specs.Fmt.{decimal}
use Rattle.std.proofs.lemmas.List.{get_or_at, get_or_append_left}
use Rattle.std.proofs.lemmas.Fmt.{length-decimal-le, decimal_injective}
use Rattle.bank_frames.proofs.Lengths.{no_line_feed}
use Rattle.bank_frames.specs.Frames.{length_line, frame_head, frame}
use Rattle.register_run.specs.Frames.{IsLength, Fits, BeginsNoFrame}
use Rattle.register_run.specs.Heads.{HasNoLineEnd, IsLine, IsHead, IsNoHead}
use Rattle.register_run.specs.NextFrame.{IsFrame}

-- ---- line ends

clean_line : (n : ℕ) → IsLength n → HasNoLineEnd (length_line n)
clean_line n small k h = no_line_feed n k (omega arith) h

line_is_short : (n : ℕ) → IsLength n → length (length_line n) < 14
line_is_short n small = omega (arith, length-decimal-le 8 n (omega arith) (omega arith) (omega arith))

pub head_is_short : (n : ℕ) → IsLength n → length (frame_head n) ≤ 14
unfolding frame_head
head_is_short n small = omega (arith, line_is_short n small, length-append (length_line n) (10 ∷ []))

-- lists that are parted at their first LF are parted alike
one_end : (line other rest more : List ℕ) → HasNoLineEnd line → HasNoLineEnd other → line ++ 10 ∷ rest ≡ other ++ 10 ∷ more → (line ≡ other) × (rest ≡ more)
one_end [] [] rest more p q e = (refl, cc)
one_end [] (b ∷ other) rest more p q e = let first : b ≡ 10 = cc in absurd (q 0 (omega arith) first)
one_end (b ∷ line) [] rest more p q e = let first : b ≡ 10 = cc in absurd (p 0 (omega arith) first)
one_end (b ∷ line) (d ∷ other) rest more p q e =
    let tails : line ++ 10 ∷ rest ≡ other ++ 10 ∷ more = cc in
    let parts = one_end line other rest more (λ k h. p (suc k) (omega (arith, h))) (λ k h. q (suc k) (omega (arith, h))) tails in
    let heads : b ≡ d = cc in
    (ap (λ (l : List ℕ). b ∷ l) parts.0 ∙ ap (λ (c : ℕ). c ∷ other) heads, parts.1)

head_parts : (n : ℕ) (rest : List ℕ) → frame_head n ++ rest ≡ length_line n ++ 10 ∷ rest
unfolding frame_head
head_parts n rest = simp append_assoc

frame_parts : (file rest : List ℕ) → frame file ++ rest ≡ length_line (length file) ++ 10 ∷ (file ++ rest)
frame_parts file rest = append_assoc (frame_head (length file)) file rest ∙ head_parts (length file) (file ++ rest)

-- ---- no frame

-- without an LF no frame begins
pub no_frame_without_end : (bytes : List ℕ) → HasNoLineEnd bytes → BeginsNoFrame bytes
no_frame_without_end bytes none file rest fits e =
    let whole : bytes ≡ length_line (length file) ++ 10 ∷ (file ++ rest) = e ∙ frame_parts file rest in
    let at = length (length_line (length file)) in
    none at (omega (arith, ap length whole, length-append (length_line (length file)) (10 ∷ (file ++ rest))))
    (ap (λ (l : List ℕ). get_or l at 0) whole ∙ get_or_at (length_line (length file)) 10 (file ++ rest) 0 at refl)

-- nor with whatever follows, once the places of an LF are all there
pub no_frame_later : (bytes : List ℕ) → HasNoLineEnd bytes → length bytes ≡ 14 → (more : List ℕ) → BeginsNoFrame (bytes ++ more)
no_frame_later bytes none long more file rest fits e =
    let whole : bytes ++ more ≡ length_line (length file) ++ 10 ∷ (file ++ rest) = e ∙ frame_parts file rest in
    let at = length (length_line (length file)) in
    let near : at < length bytes = omega (arith, line_is_short (length file) fits, long) in
    none at near (sym (get_or_append_left bytes more 0 at near) ∙ (ap (λ (l : List ℕ). get_or l at 0) whole ∙ get_or_at (length_line (length file)) 10 (file ++ rest) 0 at refl))

-- nor after a line that is none of a frame
pub no_frame_after : (bytes : List ℕ) → IsLine bytes → IsNoHead bytes → (more : List ℕ) → BeginsNoFrame (bytes ++ more)
unfolding frame_head
no_frame_after bytes is none more file rest fits e =
    let here : is.line ++ 10 ∷ more ≡ length_line (length file) ++ 10 ∷ (file ++ rest) =
    sym (append_assoc is.line (10 ∷ []) more) ∙ (ap (λ (l : List ℕ). l ++ more) (sym is.ended) ∙ (e ∙ frame_parts file rest)) in
    let same = one_end is.line (length_line (length file)) more (file ++ rest) is.clean (clean_line (length file) fits) here in
    none (length file) fits (is.ended ∙ ap (λ (l : List ℕ). l ++ 10 ∷ []) same.0)

-- nor where the file is cut
pub no_frame_cut : (head : List ℕ) (size : ℕ) (body : List ℕ) → IsHead head size → length body < size → BeginsNoFrame (head ++ body)
no_frame_cut head size body is short file rest fits e =
    let here : length_line size ++ 10 ∷ body ≡ length_line (length file) ++ 10 ∷ (file ++ rest) =
    sym (head_parts size body) ∙ (ap (λ (l : List ℕ). l ++ body) (sym is.is_head) ∙ (e ∙ frame_parts file rest)) in
    let same = one_end (length_line size) (length_line (length file)) body (file ++ rest) (clean_line size is.fits) (clean_line (length file) fits) here in
    let digits : decimal size ≡ decimal (length file) = ap (drop 5) same.0 in
    let small : size ≤ 67108864 = is.fits in
    let fits' : length file ≤ 67108864 = fits in
    let one : size ≡ length file = decimal_injective size (length file) (omega arith) (omega arith) digits in
    absurd (omega (arith, one, short, ap length same.1, length-append file rest))

-- ---- frames

drop_prefix : (xs ys : List ℕ) → drop (length xs) (xs ++ ys) ≡ ys
drop_prefix [] ys = refl
drop_prefix (x ∷ xs) ys = drop_prefix xs ys

pub is_frame : (head : List ℕ) (size : ℕ) (body : List ℕ) → IsHead head size → length body ≡ size → IsFrame (head ++ body) (length head)
is_frame head size body is full = record {
  within = omega (arith, length-append head body);
  fits = subst Fits (sym (drop_prefix head body)) (rw full is.fits);
  whole = ap (λ (l : List ℕ). l ++ body) (is.is_head ∙ ap frame_head (sym full)) ∙ ap frame (sym (drop_prefix head body));
}

-- ---- the size that a line announces

pub head_is : (bytes line : List ℕ) (n : ℕ) → bytes ≡ line ++ 10 ∷ [] → IsLength n → line ≡ length_line n → IsHead bytes n
unfolding frame_head
head_is bytes line n ended fits same = record { fits = fits; is_head = ended ∙ ap (λ (l : List ℕ). l ++ 10 ∷ []) same }

pub no_head_is : (bytes line : List ℕ) → bytes ≡ line ++ 10 ∷ [] → HasNoLineEnd line → ((n : ℕ) → IsLength n → line ≡ length_line n → ⊥) → IsNoHead bytes
unfolding frame_head
no_head_is bytes line ended clean none n fits e = none n fits (one_end line (length_line n) [] [] clean (clean_line n fits) (sym ended ∙ e)).0

take_front : (line : List ℕ) (b : ℕ) → take (length line) (line ++ b ∷ []) ≡ line
take_front [] b = refl
take_front (x ∷ line) b = ap (λ (l : List ℕ). x ∷ l) (take_front line b)

-- the bytes before the LF
pub prefix_is : (bytes : List ℕ) (is : IsLine bytes) → take (length bytes - 1) bytes ≡ is.line
prefix_is bytes is =
    let offset : length bytes - 1 ≡ length is.line = omega (arith, ap length is.ended, length-append is.line (10 ∷ [])) in
    rw offset (ap (take (length is.line)) is.ended ∙ take_front is.line 10)

pub heads : (bytes prefix : List ℕ) (r : Option ℕ) (is : IsLine bytes) → prefix ≡ is.line → IfSome r (λ n. IsLength n × (prefix ≡ length_line n)) → IfSome r (IsHead bytes)
heads bytes prefix None is same h = tt
heads bytes prefix (Some n) is same h = head_is bytes is.line n is.ended h.0 (sym same ∙ h.1)

pub no_heads : (bytes prefix : List ℕ) (r : Option ℕ) (is : IsLine bytes) → prefix ≡ is.line → IfNone r ((n : ℕ) → IsLength n → prefix ≡ length_line n → ⊥) → IfNone r (IsNoHead bytes)
no_heads bytes prefix None is same h = no_head_is bytes is.line is.ended is.clean (λ n fits e. h n fits (same ∙ e))
no_heads bytes prefix (Some n) is same h = tt
