-- The pieces of bytes: a whole tag at their start, a `<` that begins none, and text.
use Rattle.std.proofs.Common.{◌≡◌, ℕ, suc, if◌then◌else◌, ◌+◌, ◌-◌, ◌<◌, Bool, true, false, ◌&&◌, ◌==◌, nat_eq, nat_le, List, [], ◌∷◌, ◌++◌, length, drop, eqb-true, ne_eqb, refl, sym, ap, ◌∙◌, append-nil, add-one, arith}
use Rattle.std.proofs.lemmas.Bool.{and_parts, or_parts, and_right, and_left, false_from_ne_true, both_ways}
use Rattle.std.specs.List.{list_all, list_any, before_first, after_first, starts_with}
use Rattle.ofx_types.specs.TagNames.{is_name, is_name_byte}
use Rattle.ofx_types.specs.TagFault.{Located, start_piece, end_piece, text_piece, no_tag, at_offset, is_open, is_close, is_prefix_of_tag, text_pieces, pieces_at, pieces_after, next_text}
use Rattle.ofx_tape.proofs.Runs.{no_such_byte, all_avoid, any_run, before_run, after_run, stops, before_stop, before_at, before_past, after_past, all_stopped}

-- nothing is left, or a `<` comes next
abbrev pub is_at_tag : List ℕ → Bool
is_at_tag rest = stops is_open rest

-- ---- names

pub name_bytes : (name : List ℕ) → is_name name ≡ true → list_all is_name_byte name ≡ true
name_bytes name named = (and_parts (nat_le 1 (length name) && nat_le (length name) 32) (list_all is_name_byte name) named).1

-- no byte of a name is one that no name has
pub name_avoids : (c : ℕ) (name : List ℕ) → is_name_byte c ≡ false → list_all is_name_byte name ≡ true → list_any (λ b. b == c) name ≡ false
name_avoids c name refused all = all_avoid is_name_byte (λ b. b == c) name (λ b passes. no_such_byte is_name_byte b c passes refused) all

-- ---- text

-- no piece of text comes before a tag
pub no_text : (size : ℕ) (rest : List ℕ) → is_at_tag rest ≡ true → text_pieces size rest ≡ []
unfolding text_pieces
no_text size rest at = rw (before_stop is_open [] rest refl at) refl

pub some_is_not_none : (n : ℕ) → (suc n == 0) ≡ false
some_is_not_none n = ne_eqb (suc n) 0 (λ e. omega arith)

-- text up to the next tag is one piece
pub some_text : (size : ℕ) (run rest : List ℕ) → 0 < length run → list_any is_open run ≡ false → is_at_tag rest ≡ true →
    text_pieces size (run ++ rest) ≡ at_offset (size - length (run ++ rest)) (text_piece run) ∷ []
unfolding text_pieces
some_text size [] rest some avoids at = absurd (omega arith)
some_text size (b ∷ run) rest some avoids at = rw (before_stop is_open (b ∷ run) rest avoids at, some_is_not_none (length run)) refl

-- text is passed over
pub after_text : (size : ℕ) (run rest : List ℕ) → list_any is_open run ≡ false → pieces_after size (run ++ rest) ≡ pieces_after size rest
unfolding pieces_after
after_text size [] rest avoids = refl
after_text size (b ∷ run) rest avoids =
    let parts = or_parts (is_open b) (list_any is_open run) avoids in
    rw (parts.0) (after_text size run rest parts.1)

-- ---- whole tags

start_at : (size offset : ℕ) (suffix : List ℕ) (others : List Located) (name after : List ℕ) →
    before_first is_close suffix ≡ name → after_first is_close suffix ≡ after → list_any is_close suffix ≡ true → is_name name ≡ true →
    pieces_at size offset suffix others ≡ at_offset offset (start_piece name) ∷ (text_pieces size after ++ others)
unfolding pieces_at
start_at size offset suffix others name after inside_is after_is closes named = rw (closes, inside_is, after_is, named) refl

-- A whole start tag is a piece, and what is after it follows.
pub whole_start : (size : ℕ) (name rest : List ℕ) → is_name name ≡ true →
    pieces_after size (60 ∷ (name ++ 62 ∷ rest))
    ≡ at_offset (size - length (60 ∷ (name ++ 62 ∷ rest))) (start_piece name) ∷ (text_pieces size rest ++ pieces_after size rest)
unfolding pieces_after
whole_start size name rest named =
    let avoids = name_avoids 62 name refl (name_bytes name named) in
    rw (add-one, after_text size name (62 ∷ rest) (name_avoids 60 name refl (name_bytes name named)))
    (start_at size _ (name ++ 62 ∷ rest) (pieces_after size rest) name rest
    (before_run is_close name (62 ∷ rest) avoids ∙ append-nil name)
    (after_run is_close name (62 ∷ rest) avoids)
    (any_run is_close name (62 ∷ rest) avoids) named)

-- what holds another byte than those of names is no name
no_name : (inside : List ℕ) → list_all is_name_byte inside ≡ false → is_name inside ≡ false
no_name inside stopped = and_right (nat_le 1 (length inside) && nat_le (length inside) 32) (list_all is_name_byte inside) stopped

end_at : (size offset : ℕ) (suffix : List ℕ) (others : List Located) (name after : List ℕ) →
    before_first is_close suffix ≡ 47 ∷ name → after_first is_close suffix ≡ after → list_any is_close suffix ≡ true → is_name name ≡ true →
    pieces_at size offset suffix others ≡ at_offset offset (end_piece name) ∷ (text_pieces size after ++ others)
unfolding pieces_at
end_at size offset suffix others name after inside_is after_is closes named =
    rw (closes, inside_is, after_is, no_name (47 ∷ name) refl, named) refl

-- So is a whole end tag.
pub whole_end : (size : ℕ) (name rest : List ℕ) → is_name name ≡ true →
    pieces_after size (60 ∷ 47 ∷ (name ++ 62 ∷ rest))
    ≡ at_offset (size - length (60 ∷ 47 ∷ (name ++ 62 ∷ rest))) (end_piece name) ∷ (text_pieces size rest ++ pieces_after size rest)
unfolding pieces_after
whole_end size name rest named =
    let avoids = name_avoids 62 name refl (name_bytes name named) in
    let suffix = name ++ 62 ∷ rest in
    rw (add-one (length (47 ∷ suffix)), after_text size name (62 ∷ rest) (name_avoids 60 name refl (name_bytes name named)))
    (end_at size _ (47 ∷ suffix) (pieces_after size rest) name rest
    (before_past is_close 47 suffix refl ∙ ap (λ x. 47 ∷ x) (before_run is_close name (62 ∷ rest) avoids ∙ append-nil name))
    (after_past is_close 47 suffix refl ∙ after_run is_close name (62 ∷ rest) avoids)
    (any_run is_close name (62 ∷ rest) avoids) named)

-- ---- a `<` that begins no whole tag

none_at : (size offset : ℕ) (suffix : List ℕ) (others : List Located) (is_unfinished : Bool) →
    (list_any is_close suffix && is_name (before_first is_close suffix)) ≡ false →
    (list_any is_close suffix && starts_with nat_eq (before_first is_close suffix) (47 ∷ []) && is_name (drop 1 (before_first is_close suffix))) ≡ false →
    is_prefix_of_tag suffix ≡ is_unfinished →
    pieces_at size offset suffix others ≡ at_offset offset (no_tag is_unfinished) ∷ []
unfolding pieces_at
none_at size offset suffix others is_unfinished no_start no_end prefix = rw (no_start, no_end, prefix) refl

-- what comes before the first `>` is no name where a byte that is in no name ends it
no_name_inside : (name : List ℕ) (b : ℕ) (more : List ℕ) → list_all is_name_byte name ≡ true → is_name_byte b ≡ false →
    ((b == 62) && is_name name) ≡ false → is_name (before_first is_close (name ++ b ∷ more)) ≡ false
no_name_inside name b more all refused stops = go (b == 62) refl
  where
    whole : before_first is_close (name ++ b ∷ more) ≡ name ++ before_first is_close (b ∷ more)
    whole = before_run is_close name (b ∷ more) (name_avoids 62 name refl all)

    go : (c : Bool) → (b == 62) ≡ c → is_name (before_first is_close (name ++ b ∷ more)) ≡ false
    go true e = rw (whole ∙ ap (λ x. name ++ x) (before_at is_close b more e) ∙ append-nil name) (rw e at stops)
    go false e = rw (whole ∙ ap (λ x. name ++ x) (before_past is_close b more e)) (no_name (name ++ b ∷ before_first is_close more) (all_stopped is_name_byte name b (before_first is_close more) refused))

not_slash : (b : ℕ) → (b == 47) ≡ false → nat_eq 47 b ≡ false
not_slash b other = false_from_ne_true (nat_eq 47 b) (λ same. let e = eqb-true 47 b same in both_ways (b == 47) other (rw (← e) refl))

no_slash_next : (c : Bool) (b : ℕ) → (c && (b == 47)) ≡ false → (c && (nat_eq 47 b && true)) ≡ false
no_slash_next true b other = rw (not_slash b other)
no_slash_next false b other = refl

no_slash : (name rest : List ℕ) → list_all is_name_byte name ≡ true → ((length name == 0) && starts_with nat_eq rest (47 ∷ [])) ≡ false →
    starts_with nat_eq (name ++ rest) (47 ∷ []) ≡ false
no_slash [] rest all other = other
no_slash (b ∷ name) rest all other =
    rw (not_slash b (no_such_byte is_name_byte b 47 (and_parts (is_name_byte b) (list_all is_name_byte name) all).0 refl)) refl

slash_inside : (name : List ℕ) (b : ℕ) (more : List ℕ) → list_all is_name_byte name ≡ true →
    ((length name == 0) && (b == 47)) ≡ false → starts_with nat_eq (before_first is_close (name ++ b ∷ more)) (47 ∷ []) ≡ false
slash_inside name b more all other = go (b == 62) refl
  where
    whole : before_first is_close (name ++ b ∷ more) ≡ name ++ before_first is_close (b ∷ more)
    whole = before_run is_close name (b ∷ more) (name_avoids 62 name refl all)

    go : (c : Bool) → (b == 62) ≡ c → starts_with nat_eq (before_first is_close (name ++ b ∷ more)) (47 ∷ []) ≡ false
    go true e = rw (whole ∙ ap (λ x. name ++ x) (before_at is_close b more e)) (no_slash name [] all (and_right (length name == 0) false refl))
    go false e = rw (whole ∙ ap (λ x. name ++ x) (before_past is_close b more e)) (no_slash name (b ∷ before_first is_close more) all (no_slash_next (length name == 0) b other))

-- what is after a byte that is in no name, and no `/` in front, begins no tag
prefix_refused : (name : List ℕ) (b : ℕ) (more : List ℕ) → list_all is_name_byte name ≡ true → is_name_byte b ≡ false →
    ((length name == 0) && (b == 47)) ≡ false → is_prefix_of_tag (name ++ b ∷ more) ≡ false
prefix_refused name b more all refused other = rw (slash, all_stopped is_name_byte name b more refused) (and_right (nat_le (length (name ++ b ∷ more)) 32) false refl)
  where
    slash : starts_with nat_eq (name ++ b ∷ more) (47 ∷ []) ≡ false
    slash = no_slash name (b ∷ more) all (no_slash_next (length name == 0) b other)

-- A `<` begins no tag where the bytes of a name after it end in another byte: no `>` after a name, and no `/` after none.
pub broken_start : (size : ℕ) (name : List ℕ) (b : ℕ) (more : List ℕ) → list_all is_name_byte name ≡ true → is_name_byte b ≡ false →
    ((b == 62) && is_name name) ≡ false → ((length name == 0) && (b == 47)) ≡ false →
    pieces_after size (60 ∷ (name ++ b ∷ more)) ≡ at_offset (size - length (60 ∷ (name ++ b ∷ more))) (no_tag false) ∷ []
unfolding pieces_after
broken_start size name b more all refused stops other =
    let suffix = name ++ b ∷ more in
    rw (add-one (length suffix)) (none_at size (size - suc (length suffix)) suffix (pieces_after size suffix) false
    (and_right (list_any is_close suffix) (is_name (before_first is_close suffix)) (no_name_inside name b more all refused stops))
    (and_left (list_any is_close suffix && starts_with nat_eq (before_first is_close suffix) (47 ∷ [])) (is_name (drop 1 (before_first is_close suffix)))
    (and_right (list_any is_close suffix) (starts_with nat_eq (before_first is_close suffix) (47 ∷ [])) (slash_inside name b more all other)))
    (prefix_refused name b more all refused other))

-- Nor does it after a `/`.
pub broken_end : (size : ℕ) (name : List ℕ) (b : ℕ) (more : List ℕ) → list_all is_name_byte name ≡ true → is_name_byte b ≡ false →
    ((b == 62) && is_name name) ≡ false →
    pieces_after size (60 ∷ 47 ∷ (name ++ b ∷ more)) ≡ at_offset (size - length (60 ∷ 47 ∷ (name ++ b ∷ more))) (no_tag false) ∷ []
unfolding pieces_after
broken_end size name b more all refused stops =
    let suffix = name ++ b ∷ more in
    let inside : before_first is_close (47 ∷ suffix) ≡ 47 ∷ before_first is_close suffix = before_past is_close 47 suffix refl in
    let any = list_any is_close suffix in
    rw (add-one (length (47 ∷ suffix))) (none_at size (size - suc (length (47 ∷ suffix))) (47 ∷ suffix) (pieces_after size suffix) false
    (rw inside (and_right any (is_name (47 ∷ before_first is_close suffix)) (no_name (47 ∷ before_first is_close suffix) refl)))
    (rw inside (and_right (any && true) (is_name (before_first is_close suffix)) (no_name_inside name b more all refused stops)))
    (and_right (nat_le (length suffix) 32) (list_all is_name_byte suffix) (all_stopped is_name_byte name b more refused)))

and_true : (c : Bool) → (c && true) ≡ c
and_true true = refl
and_true false = refl

-- A name that ends with the body may be the prefix of a tag.
pub unfinished_start : (size : ℕ) (name : List ℕ) → list_all is_name_byte name ≡ true →
    pieces_after size (60 ∷ name) ≡ at_offset (size - length (60 ∷ name)) (no_tag (nat_le (length name) 32)) ∷ []
unfolding pieces_after
unfinished_start size name all =
    let none = name_avoids 62 name refl all in
    rw (add-one (length name)) (none_at size (size - suc (length name)) name (pieces_after size name) (nat_le (length name) 32)
    (rw none refl) (rw none refl)
    (rw (slash, all) (and_true (nat_le (length name) 32))))
  where
    slash : starts_with nat_eq name (47 ∷ []) ≡ false
    slash = ap (λ x. starts_with nat_eq x (47 ∷ [])) (sym (append-nil name)) ∙ no_slash name [] all (and_right (length name == 0) false refl)

pub unfinished_end : (size : ℕ) (name : List ℕ) → list_all is_name_byte name ≡ true →
    pieces_after size (60 ∷ 47 ∷ name) ≡ at_offset (size - length (60 ∷ 47 ∷ name)) (no_tag (nat_le (length name) 32)) ∷ []
unfolding pieces_after
unfinished_end size name all =
    let none = name_avoids 62 name refl all in
    rw (add-one (length (47 ∷ name))) (none_at size (size - suc (length (47 ∷ name))) (47 ∷ name) (pieces_after size name) (nat_le (length name) 32)
    (rw none refl) (rw none refl)
    (rw all (and_true (nat_le (length name) 32))))

-- ---- the text that comes next

no_text_at : (size offset : ℕ) (suffix : List ℕ) (others : List Located) → next_text (pieces_at size offset suffix others) ≡ []
unfolding pieces_at
no_text_at size offset suffix others =
    go (list_any is_close suffix && is_name (before_first is_close suffix))
    (list_any is_close suffix && starts_with nat_eq (before_first is_close suffix) (47 ∷ []) && is_name (drop 1 (before_first is_close suffix)))
  where
    go : (start end : Bool) → next_text (if start then at_offset offset (start_piece (before_first is_close suffix)) ∷ text_pieces size (after_first is_close suffix) ++ others
        else (if end then at_offset offset (end_piece (drop 1 (before_first is_close suffix))) ∷ text_pieces size (after_first is_close suffix) ++ others
        else at_offset offset (no_tag (is_prefix_of_tag suffix)) ∷ [])) ≡ []
    go true end = refl
    go false true = refl
    go false false = refl

-- where a tag comes next, no text does
pub no_next_text : (size : ℕ) (rest : List ℕ) → is_at_tag rest ≡ true → next_text (pieces_after size rest) ≡ []
unfolding pieces_after
no_next_text size [] at = refl
no_next_text size (b ∷ rest) at = rw at (no_text_at size (size - (length rest + 1)) rest (pieces_after size rest))

-- the text up to the next tag
pub next_text_is : (size : ℕ) (run rest : List ℕ) → list_any is_open run ≡ false → is_at_tag rest ≡ true →
    next_text (text_pieces size (run ++ rest) ++ pieces_after size rest) ≡ run
next_text_is size [] rest avoids at = rw (no_text size rest at) (no_next_text size rest at)
next_text_is size (b ∷ run) rest avoids at = rw (some_text size (b ∷ run) rest (omega arith) avoids at) refl
