-- Bytes that end within a request target, against the offsets that the code finds in them.
use Rattle.std.proofs.Common.{◌≡◌, ℕ, ◌+◌, ◌-◌, true, false, ltb, List, [], ◌∷◌, ◌++◌, length, get_or, take, drop, Some, None, refl, sym, ap, subst, ◌∙◌, arith, append_assoc, length-append, length-drop}
use Rattle.std.specs.List.{list_all, position, position_or_len}
use Rattle.std.proofs.Math.Seq.{take-append_seam, drop-append-add}
use Rattle.std.proofs.lemmas.Bool.{eqb-true, ne_eqb, lt-ltb, false≢true, and_parts, and_from, ltb-true}
use Rattle.std.proofs.lemmas.List.{take-append-drop, drop_more, take_all}
use Rattle.std.proofs.lemmas.List.Elements.{All-head, All-tail}
use Rattle.std.proofs.lemmas.List.Sums.{AllPass-from_list_all, list_all-from_AllPass}
use Rattle.std.proofs.lemmas.List.Quantifiers.{position-Some}
use Rattle.httparse.specs.Grammar.{is_token_byte, is_token, is_uri_byte, AllPass, IsToken, LineEnd, crlf, lf, print_end, print_blank, EndsInTarget}
use Rattle.httparse.specs.Pieces.{is_newline}
use Rattle.httparse.proofs.PieceLemmas.{space_ends_token, token_is_no_newline}
use Rattle.http_front.specs.Targets.{is_space, BeginsNoLine, HoldsAfterBlank, OpensTarget}

-- ---- the method ends at the first space

no_space : (b : ℕ) → is_token_byte b ≡ true → is_space b ≡ false
no_space b token = ne_eqb b 32 (λ e. false≢true (sym space_ends_token ∙ subst (λ (v : ℕ). is_token_byte v ≡ true) e token))

space_after : (method rest : List ℕ) → AllPass is_token_byte method → position_or_len is_space (method ++ 32 ∷ rest) ≡ length method
space_after [] rest all = refl
space_after (b ∷ method) rest all =
    let first = no_space b (All-head (λ v. is_token_byte v ≡ true) b method all) in
    let later = space_after method rest (All-tail (λ v. is_token_byte v ≡ true) b method all) in
    rw first (rw later (omega arith))

space_is : (method rest : List ℕ) → AllPass is_token_byte method → position is_space (method ++ 32 ∷ rest) ≡ Some (length method)
space_is method rest all =
    let at = space_after method rest all in
    let within : ltb (length method) (length (method ++ 32 ∷ rest)) ≡ true = lt-ltb _ _ (simp length-append (omega arith)) in
    rw (at, within) refl

token_test : (method : List ℕ) → IsToken method → is_token method ≡ true
token_test method token = and_from _ _ (lt-ltb _ _ token.0) (list_all-from_AllPass is_token_byte method token.1)

pub token_from : (method : List ℕ) → is_token method ≡ true → IsToken method
token_from method test = let both = and_parts _ _ test in (ltb-true _ _ both.0, AllPass-from_list_all is_token_byte method both.1)

rest : (method target : List ℕ) → drop (length method + 1) (method ++ 32 ∷ target) ≡ target
rest method target = drop-append-add method (32 ∷ target) 1

pub opened : (line : List ℕ) (end : ℕ) → position is_space line ≡ Some end → OpensTarget line →
    (is_token (take end line) ≡ true) × (list_all is_uri_byte (drop (end + 1) line) ≡ true)
opened line end at (method, target, token, all, split) =
    let same : end ≡ length method = cc (space_is method target token.1, ap (position is_space) split) in
    let prefix : take end line ≡ method = rw (same, split) (take-append_seam method (32 ∷ target)) in
    let back : drop (end + 1) line ≡ target = rw (same, split) (rest method target) in
    (ap is_token prefix ∙ token_test method token, ap (list_all is_uri_byte) back ∙ list_all-from_AllPass is_uri_byte target all)

pub opens : (line : List ℕ) (end : ℕ) → position is_space line ≡ Some end → is_token (take end line) ≡ true →
    list_all is_uri_byte (drop (end + 1) line) ≡ true → OpensTarget line
opens line end at token all =
    let found = position-Some is_space line end 0 at in
    let space : get_or line end 0 ≡ 32 = eqb-true _ _ found.1 in (
      take end line,
      drop (end + 1) line,
      token_from (take end line) token,
      AllPass-from_list_all is_uri_byte (drop (end + 1) line) all,
      sym (take-append-drop end line) ∙ ap (λ (l : List ℕ). take end line ++ l) (drop_more line end 0 found.0 ∙ ap (λ (b : ℕ). b ∷ drop (end + 1) line) space),
    )

pub unopened : (line : List ℕ) → position is_space line ≡ None → ¬ (OpensTarget line)
unopened line none (method, target, token, all, split) = cc (space_is method target token.1, ap (position is_space) split)

-- ---- empty lines

ends_same : (a b : LineEnd) (r s : List ℕ) → print_end a ++ r ≡ print_end b ++ s → r ≡ s
ends_same crlf crlf r s e = cc
ends_same crlf lf r s e = cc
ends_same lf crlf r s e = cc
ends_same lf lf r s e = cc

blank_same : (a b : List LineEnd) (r s : List ℕ) → BeginsNoLine r → BeginsNoLine s → print_blank a ++ r ≡ print_blank b ++ s → r ≡ s
blank_same [] [] r s no_r no_s e = e
blank_same [] (y ∷ b) r s no_r no_s e = absurd (no_r y (print_blank b ++ s) (e ∙ append_assoc (print_end y) (print_blank b) s))
blank_same (x ∷ a) [] r s no_r no_s e = absurd (no_s x (print_blank a ++ r) (sym e ∙ append_assoc (print_end x) (print_blank a) r))
blank_same (x ∷ a) (y ∷ b) r s no_r no_s e =
    blank_same a b r s no_r no_s (ends_same x y _ _ (sym (append_assoc (print_end x) (print_blank a) r) ∙ e ∙ append_assoc (print_end y) (print_blank b) s))

no_token : (end : LineEnd) (b : ℕ) (r s : List ℕ) → is_newline b ≡ false → ¬ (b ∷ r ≡ print_end end ++ s)
no_token crlf b r s other e = let is : b ≡ 13 = cc in false≢true (sym other ∙ ap is_newline is)
no_token lf b r s other e = let is : b ≡ 10 = cc in false≢true (sym other ∙ ap is_newline is)

no_line : (method rest : List ℕ) → IsToken method → BeginsNoLine (method ++ rest)
no_line [] rest token end more e = absurd (omega (arith, token.0))
no_line (b ∷ method) rest token end more e =
    no_token end b (method ++ rest) more (token_is_no_newline b (All-head (λ v. is_token_byte v ≡ true) b method token.1)) e

print_more : (blank : List LineEnd) (end : LineEnd) (text : List ℕ) → print_blank (blank ++ end ∷ []) ++ text ≡ print_blank blank ++ (print_end end ++ text)
print_more [] end text = append_assoc (print_end end) [] text
print_more (x ∷ blank) end text =
    append_assoc (print_end x) (print_blank (blank ++ end ∷ [])) text ∙ ap (λ (l : List ℕ). print_end x ++ l) (print_more blank end text)
    ∙ sym (append_assoc (print_end x) (print_blank blank) (print_end end ++ text))

pub line_more : (bytes text rest : List ℕ) → HoldsAfterBlank bytes text → (end : LineEnd) → text ≡ print_end end ++ rest → HoldsAfterBlank bytes rest
line_more bytes text rest (blank, split) end e =
    (blank ++ end ∷ [], split ∙ ap (λ (l : List ℕ). print_blank blank ++ l) e ∙ sym (print_more blank end rest))

pub ends : (bytes text : List ℕ) → HoldsAfterBlank bytes text → OpensTarget text → EndsInTarget bytes
ends bytes text (blank, split) (method, target, token, all, e) =
    (blank, method, target, token, all, split ∙ ap (λ (l : List ℕ). print_blank blank ++ l) e ∙ sym (append_assoc (print_blank blank) method (32 ∷ target)))

pub ended : (bytes text : List ℕ) → HoldsAfterBlank bytes text → BeginsNoLine text → EndsInTarget bytes → OpensTarget text
ended bytes text (blank, split) none (lines, method, target, token, all, e) =
    (method, target, token, all, blank_same blank lines text (method ++ 32 ∷ target) none (no_line method (32 ∷ target) token) (sym split ∙ e ∙ append_assoc (print_blank lines) method (32 ∷ target)))

-- the bytes from an offset on
pub rest_is : (line : List ℕ) (n : ℕ) → drop n line ≡ take (length line - n) (drop n line)
rest_is line n = sym (take_all _ (drop n line) (omega (arith, length-drop n line)))
