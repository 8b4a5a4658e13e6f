-- Bytes that are neither white space nor control bytes are a text as they are, and so are a number's digits.
use Rattle.std.proofs.Common.{◌≡◌, ℕ, ◌+◌, ◌%◌, ◌<◌, ◌≤◌, ◌^◌, false, List, [], ◌∷◌, ◌++◌, length, reverse, None, refl, ap, ◌∙◌, arith}
use Rattle.std.specs.Prelude.{position}
use Rattle.std.specs.Fmt.{decimal}
use Rattle.std.specs.List.{position_or_len}
use Rattle.std.proofs.lemmas.Bool.{le-ltb}
use Rattle.std.proofs.lemmas.Fmt.{decimal_by_steps}
use Rattle.std.proofs.lemmas.Grind.{common_steps}
use Rattle.std.proofs.lemmas.List.{reverse-append, reverse-reverse}
use Rattle.ofx_types.specs.TextRules.{is_white, trim_start, trim_end, trimmed, is_refused_in_text}

-- Each byte stands above the blank.
abbrev pub IsVisible : List ℕ → Type 0
IsVisible [] = Unit {0}
IsVisible (b ∷ bytes) = (32 < b) × IsVisible bytes

pub visible_append : (xs ys : List ℕ) → IsVisible xs → IsVisible ys → IsVisible (xs ++ ys)
visible_append [] ys p q = q
visible_append (x ∷ xs) ys p q = (p.0, visible_append xs ys p.1 q)

pub not_white : (b : ℕ) → 32 < b → is_white b ≡ false
not_white b above = grind (arith, common_steps)

not_refused : (b : ℕ) → 32 < b → is_refused_in_text b ≡ false
not_refused b above = grind (arith, common_steps)

pub visible_start : (bytes : List ℕ) → IsVisible bytes → trim_start bytes ≡ bytes
visible_start [] p = refl
visible_start (b ∷ bytes) p = rw (not_white b p.0) refl

pub visible_reverse : (bytes : List ℕ) → IsVisible bytes → IsVisible (reverse bytes)
visible_reverse [] p = tt
visible_reverse (b ∷ bytes) p =
    rw (reverse-append (b ∷ []) bytes) (visible_append (reverse bytes) (b ∷ []) (visible_reverse bytes p.1) (p.0, tt))

pub visible_trimmed : (bytes : List ℕ) → IsVisible bytes → trimmed bytes ≡ bytes
visible_trimmed bytes p =
    ap trim_end (visible_start bytes p) ∙ ap reverse (visible_start (reverse bytes) (visible_reverse bytes p)) ∙ reverse-reverse bytes

visible_past : (bytes : List ℕ) → IsVisible bytes → position_or_len is_refused_in_text bytes ≡ length bytes
visible_past [] p = refl
visible_past (b ∷ bytes) p = rw (not_refused b p.0, visible_past bytes p.1) (omega arith)

pub visible_clean : (bytes : List ℕ) → IsVisible bytes → position is_refused_in_text bytes ≡ None
visible_clean bytes p = rw (visible_past bytes p, le-ltb (length bytes) (length bytes) (omega arith)) refl

pub decimal_visible : (n : ℕ) → n < 2 ^ 64 → IsVisible (decimal n)
decimal_visible = decimal_by_steps (λ n ds. IsVisible ds)
    (λ n h. (omega arith, tt))
    (λ n ds h p. visible_append ds ((48 + n % 10) ∷ []) p (omega arith, tt))

pub decimal_trimmed : (n : ℕ) → n < 2 ^ 64 → trimmed (decimal n) ≡ decimal n
decimal_trimmed n less = visible_trimmed (decimal n) (decimal_visible n less)
