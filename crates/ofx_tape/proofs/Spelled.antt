-- What bytes that spell elements and aggregates begin and end with.
use Rattle.std.proofs.Common.{◌≡◌, ℕ, ◌-◌, true, false, ◌||◌, ◌==◌, List, [], ◌++◌, inl, inr, refl, sym, ap, ◌∙◌, append_assoc}
use Rattle.std.proofs.lemmas.Bool.{or_parts, not-true}
use Rattle.std.specs.List.{list_all, list_any}
use Rattle.ofx_types.specs.TextRules.{is_white, is_refused_in_text}
use Rattle.ofx_types.specs.Sheet.{tag}
use Rattle.ofx_types.specs.TagForm.{end_tag, IsWhite, is_value_byte, Tree, nothing, element, aggregate, Closes, Spells}
use Rattle.ofx_types.specs.TagFault.{is_open}
use Rattle.ofx_tape.proofs.Runs.{no_such_byte, all_avoid}
use Rattle.ofx_tape.proofs.Pieces.{is_at_tag}

-- no `<` is in white space, nor in a value
pub white_avoids : (text : List ℕ) → IsWhite text → list_any is_open text ≡ false
white_avoids text white = all_avoid is_white is_open text (λ b passes. no_such_byte is_white b 60 passes refl) white

value_byte : (b : ℕ) → is_value_byte b ≡ true → (is_open b ≡ false) × (is_refused_in_text b ≡ false)
value_byte b h = or_parts (b == 60) (is_refused_in_text b) (not-true ((b == 60) || is_refused_in_text b) h)

pub value_avoids : (text : List ℕ) → list_all is_value_byte text ≡ true → list_any is_open text ≡ false
value_avoids text all = all_avoid is_value_byte is_open text (λ b passes. (value_byte b passes).0) all

pub value_allowed : (text : List ℕ) → list_all is_value_byte text ≡ true → list_any is_refused_in_text text ≡ false
value_allowed text all = all_avoid is_value_byte is_refused_in_text text (λ b passes. (value_byte b passes).1) all

-- What is spelled begins with a tag, where its rest does.
pub spelled_at_tag : (size room : ℕ) (bytes : List ℕ) (tree : Tree) (rest : List ℕ) → Spells size room bytes tree rest → is_at_tag rest ≡ true → is_at_tag bytes ≡ true
spelled_at_tag size room bytes nothing rest spells at = rw spells at
spelled_at_tag size room bytes (element offset name text suffix) rest spells at = rw (spells.4) refl
spelled_at_tag size room bytes (aggregate offset name text inner suffix) rest spells at = rw (spells.6) refl

-- so does what closes an element
pub closing_at_tag : (name closing more : List ℕ) → Closes name closing more → is_at_tag more ≡ true → is_at_tag (closing ++ more) ≡ true
closing_at_tag name closing more (inl ended) at = rw (ended.2) refl
closing_at_tag name closing more (inr open_end) at = rw (open_end.0) at

-- bytes that end in others
pub record EndsIn (bytes rest : List ℕ) : Type 0 where
  pub prefix : List ℕ
  pub split : bytes ≡ prefix ++ rest

pub ends_here : (bytes : List ℕ) → EndsIn bytes bytes
ends_here bytes = record { prefix = []; split = refl }

pub ends_further : (bytes more rest : List ℕ) → EndsIn bytes more → EndsIn more rest → EndsIn bytes rest
ends_further bytes more rest first then = record {
  prefix = first.prefix ++ then.prefix;
  split = first.split ∙ ap (λ x. first.prefix ++ x) then.split ∙ sym (append_assoc first.prefix then.prefix rest);
}

pub ends_after : (prefix bytes rest : List ℕ) → EndsIn bytes rest → EndsIn (prefix ++ bytes) rest
ends_after prefix bytes rest ends = record {
  prefix = prefix ++ ends.prefix;
  split = ap (λ x. prefix ++ x) ends.split ∙ sym (append_assoc prefix ends.prefix rest);
}

-- what is spelled ends in its rest
pub spelled_ends : (size room : ℕ) (bytes : List ℕ) (tree : Tree) (rest : List ℕ) → Spells size room bytes tree rest → EndsIn bytes rest
spelled_ends size room bytes nothing rest spells = rw spells (ends_here rest)
spelled_ends size room bytes (element offset name text suffix) rest spells =
    let (closing, more, is_one, located, split, further) = spells in
    rw split (ends_after (tag name) (text ++ (closing ++ more)) rest
    (ends_after text (closing ++ more) rest
    (ends_after closing more rest (spelled_ends size room more suffix rest further))))
spelled_ends size room bytes (aggregate offset name text inner suffix) rest spells =
    let (within, white, more, is_one, has_room, located, split, inside, further) = spells in
    rw split (ends_after (tag name) (text ++ within) rest
    (ends_after text within rest
    (ends_further within (end_tag name ++ (white ++ more)) rest
    (spelled_ends size (room - 1) within inner (end_tag name ++ (white ++ more)) inside)
    (ends_after (end_tag name) (white ++ more) rest
    (ends_after white more rest (spelled_ends size room more suffix rest further))))))
