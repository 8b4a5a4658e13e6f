-- What comes next in an input, from what was read of it.
use Rattle.std.proofs.Common.{◌≡◌, ◌≢◌, ℕ, ◌<◌, ◌+◌, true, false, List, [], ◌∷◌, ◌++◌, length, drop, Option, None, Some, IfSome, Ok, arith, refl, sym, ap, subst, ◌∙◌, append-nil, length-append}
use Rattle.std.specs.Io.KnownBytes.{Keeps, Consumes, IsAtEnd, prepend_known}
use Rattle.bank_frames.specs.Frames.{frame_head, frame}
use Rattle.register_run.specs.Frames.{BeginsNoFrame}
use Rattle.register_run.specs.Heads.{HasNoLineEnd, IsLine, IsHead, IsNoHead}
use Rattle.register_run.specs.NextFrame.{IsFrame, IsNoFrame, IsNext, EndsAs, ReadsBody}
use Rattle.register_run.specs.declared.frames.Next.{Next}
use Rattle.register_run.specs.declared.frames.Next.TheVariants as nexts
use Rattle.register_run.proofs.HeadLines.{no_frame_without_end, no_frame_later, no_frame_after, no_frame_cut, is_frame}

prefix_empty : (prefix rest : List ℕ) → prefix ++ rest ≡ [] → prefix ≡ []
prefix_empty [] rest e = refl
prefix_empty (x ∷ prefix) rest e = cc

-- what holds whatever follows holds of what is left
any_rest : (bytes : List ℕ) (left : Option (List ℕ)) → bytes ≢ [] → ((more : List ℕ) → BeginsNoFrame (bytes ++ more)) → IfSome (prepend_known bytes left) IsNoFrame
any_rest bytes None some none = tt
any_rest bytes (Some xs) some none = (λ empty. some (prefix_empty bytes xs empty), none xs)

-- and what holds of the last bytes does
last_rest : (bytes : List ℕ) (left : Option (List ℕ)) → IsAtEnd left → bytes ≢ [] → BeginsNoFrame bytes → IfSome (prepend_known bytes left) IsNoFrame
last_rest bytes None ends some none = tt
last_rest bytes (Some xs) ends some none =
    let whole : bytes ++ xs ≡ bytes = ap (λ (l : List ℕ). bytes ++ l) ends ∙ append-nil bytes in
    rw whole (some, none)

pub no_end : (bytes : List ℕ) (left : Option (List ℕ)) → HasNoLineEnd bytes → length bytes ≡ 14 → IfSome (prepend_known bytes left) IsNoFrame
no_end bytes left clean long =
    any_rest bytes left (λ empty. let none : length bytes ≡ 0 = ap length empty in omega (arith, none, long)) (no_frame_later bytes clean long)

cut_line : (bytes : List ℕ) (left : Option (List ℕ)) → HasNoLineEnd bytes → IsAtEnd left → bytes ≢ [] → IfSome (prepend_known bytes left) IsNoFrame
cut_line bytes left clean ends some = last_rest bytes left ends some (no_frame_without_end bytes clean)

-- the end of the input ends the line
pub line_ends_input : (bytes : List ℕ) (left : Option (List ℕ)) (next : Next) → HasNoLineEnd bytes → IsAtEnd left → EndsAs bytes next → IsNext bytes left next
line_ends_input bytes left (nexts.Frame head) clean ends last = absurd last
line_ends_input bytes left nexts.End clean ends last = (last, ends)
line_ends_input bytes left nexts.NoFrame clean ends last = cut_line bytes left clean ends last

line_there : (bytes : List ℕ) → IsLine bytes → bytes ≢ []
line_there bytes is empty = let none : length bytes ≡ 0 = ap length empty in absurd (omega (arith, none, ap length is.ended, length-append is.line (10 ∷ [])))

pub no_head : (bytes : List ℕ) (left : Option (List ℕ)) → IsLine bytes → IsNoHead bytes → IfSome (prepend_known bytes left) IsNoFrame
no_head bytes left is none = any_rest bytes left (line_there bytes is) (no_frame_after bytes is none)

head_there : (head : List ℕ) (size : ℕ) → IsHead head size → head ≢ []
unfolding frame_head
head_there head size is empty = let none : 0 ≡ length head = ap length (sym empty) in absurd (omega (arith, none, ap length is.is_head))

pub whole_file : (head : List ℕ) (size : ℕ) (before : Option (List ℕ)) (new : List ℕ) (after : Option (List ℕ)) → IsHead head size
    → ReadsBody head (length head + size) before new after (Ok true) → IsFrame new (length head)
whole_file head size before new after is body =
    let full : length new ≡ length head + size = body.full in
    let count : length body.bytes ≡ size = omega (arith, full, ap length body.grown, length-append head body.bytes) in
    subst (λ (l : List ℕ). IsFrame l (length head)) (sym body.grown) (is_frame head size body.bytes is count)

pub cut_file : (head : List ℕ) (size : ℕ) (before : Option (List ℕ)) (new : List ℕ) (after : Option (List ℕ)) → IsHead head size
    → ReadsBody head (length head + size) before new after (Ok false) → IfSome (prepend_known new after) IsNoFrame
cut_file head size before new after is body =
    let short : length body.bytes < size = omega (arith, body.full.0, ap length body.grown, length-append head body.bytes) in
    let none : BeginsNoFrame new = subst BeginsNoFrame (sym body.grown) (no_frame_cut head size body.bytes is short) in
    last_rest new after body.full.1 (λ empty. head_there head size is (prefix_empty head body.bytes (sym body.grown ∙ empty))) none

-- ---- what a frame or its lack says of the input

pub frame_read : (before after : Option (List ℕ)) (bytes : List ℕ) (head : ℕ) → Keeps before (prepend_known bytes after) → IsFrame bytes head → Consumes before after (frame (drop head bytes))
frame_read before after bytes head kept is = subst (Consumes before after) is.whole (lost before after kept)
  where
    lost : (a b : Option (List ℕ)) → Keeps a (prepend_known bytes b) → Consumes a b bytes
    lost None b h = tt
    lost (Some xs) None h = absurd h
    lost (Some xs) (Some ys) h = sym h

pub none_comes : (before after : Option (List ℕ)) (bytes : List ℕ) → Keeps before (prepend_known bytes after) → IfSome (prepend_known bytes after) IsNoFrame → IfSome before IsNoFrame
none_comes None after bytes kept none = tt
none_comes (Some xs) None bytes kept none = absurd kept
none_comes (Some xs) (Some ys) bytes kept none = subst IsNoFrame kept none

pub ends_here : (before after : Option (List ℕ)) (bytes : List ℕ) → Keeps before (prepend_known bytes after) → bytes ≡ [] → Keeps before after
ends_here None after bytes kept none = tt
ends_here (Some xs) None bytes kept none = absurd kept
ends_here (Some xs) (Some ys) bytes kept none = ap (λ (l : List ℕ). l ++ ys) (sym none) ∙ kept

-- a frame that comes is more
pub frame_comes : (before after : Option (List ℕ)) (bytes : List ℕ) (head : ℕ) → Keeps before (prepend_known bytes after) → IsFrame bytes head → IfSome before (λ rest. rest ≢ [])
unfolding frame_head
frame_comes None after bytes head kept is = tt
frame_comes (Some xs) None bytes head kept is = absurd kept
frame_comes (Some xs) (Some ys) bytes head kept is = λ empty.
    let none : bytes ≡ [] = prefix_empty bytes ys (kept ∙ empty) in
    let short : length bytes ≡ 0 = ap length none in
    absurd (omega (arith, short, ap length is.whole))

pub rest_there : (before : Option (List ℕ)) → IfSome before IsNoFrame → IfSome before (λ rest. rest ≢ [])
rest_there None h = tt
rest_there (Some xs) h = h.0
