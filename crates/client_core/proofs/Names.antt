-- The names of files and deeds are such as the header and the elements take.
use Rattle.std.proofs.Common.{◌≡◌, ◌≢◌, ℕ, ◌+◌, ◌<◌, ◌≤◌, Bool, true, false, cond, nat_eq, List, [], ◌∷◌, ◌++◌, length, codes, None, refl, sym, ap, ◌∙◌, length-append, arith}
use Rattle.std.specs.Prelude.{position}
use Rattle.std.specs.Char.{is_ascii_alphanumeric}
use Rattle.std.specs.Fmt.{decimal}
use Rattle.std.specs.List.{list_all, position_or_len}
use Rattle.std.proofs.lemmas.Bool.{and_parts, le-ltb}
use Rattle.std.proofs.lemmas.Bool.Decides.{nat_tests}
use Rattle.std.proofs.lemmas.Fmt.{decimal_nonempty, length-decimal-le}
use Rattle.std.proofs.lemmas.Grind.{common_steps}
use Rattle.ofx_types.specs.TextRules.{is_refused_in_text, is_refused_in_uid, IsText, IsTrnUid, IsFileUid}
use Rattle.ofx_types.specs.TextOutcome.{trnuid_fault, file_uid_fault}
use Rattle.ofx_types.proofs.Bytes.{bytes_eq_other, not_zero}
use Rattle.ofx_types.proofs.Trimming.{no_text_fault}
use Rattle.bank_model.specs.Sound.{IsTextWithin, IsClientUid}
use Rattle.client_saved.specs.Bounds.{IsName}
use Rattle.client_core.specs.Making.{file_name, deed_name}
use Rattle.bank_model.proofs.Visible.{IsVisible, visible_append, visible_trimmed, visible_clean, decimal_visible}

-- ---- bytes that are no white space and no control bytes

uid_takes : (b : ℕ) → 32 < b → is_refused_in_uid b ≡ false
uid_takes b above = grind (arith, common_steps)

past_uid : (bytes : List ℕ) → IsVisible bytes → position_or_len is_refused_in_uid bytes ≡ length bytes
past_uid [] p = refl
past_uid (b ∷ bytes) p = rw (uid_takes b p.0, past_uid bytes p.1) (omega arith)

clean_uid : (bytes : List ℕ) → IsVisible bytes → position is_refused_in_uid bytes ≡ None
clean_uid bytes p = rw (past_uid bytes p, le-ltb (length bytes) (length bytes) (omega arith)) refl

visible_text : (bytes : List ℕ) → IsVisible bytes → length bytes ≤ 64 → IsText bytes
visible_text bytes p short = record { is_trimmed = visible_trimmed bytes p; is_clean = visible_clean bytes p; is_short = omega arith }

-- ---- names

letter_visible : (b : ℕ) → is_ascii_alphanumeric b ≡ true → 32 < b
letter_visible b is = grind (arith, nat_tests)

letters_visible : (name : List ℕ) → list_all is_ascii_alphanumeric name ≡ true → IsVisible name
letters_visible [] all = tt
letters_visible (b ∷ name) all =
    let both = and_parts (is_ascii_alphanumeric b) (list_all is_ascii_alphanumeric name) all in
    (letter_visible b both.0, letters_visible name both.1)

pub token_within : (n : ℕ) → n ≤ 9999999999 → IsTextWithin 64 (decimal n)
token_within n most =
    let short = length-decimal-le 10 n (omega arith) (omega arith) (omega arith) in
    record { is_text = visible_text (decimal n) (decimal_visible n (omega arith)) (omega arith); is_there = decimal_nonempty n (omega arith); is_within = omega arith }

part_visible : (n : ℕ) → n ≤ 9999999999 → IsVisible (45 ∷ decimal n)
part_visible n most = (omega arith, decimal_visible n (omega arith))

part_short : (n : ℕ) → n ≤ 9999999999 → length (45 ∷ decimal n) ≤ 11
part_short n most = let short = length-decimal-le 10 n (omega arith) (omega arith) (omega arith) in omega arith

file_visible : (name : List ℕ) (n : ℕ) → IsName name → n ≤ 9999999999 → IsVisible (file_name name n)
unfolding file_name
file_visible name n is most = visible_append name (45 ∷ decimal n) (letters_visible name is.1) (part_visible n most)

file_short : (name : List ℕ) (n : ℕ) → IsName name → n ≤ 9999999999 → length (file_name name n) ≤ 23
unfolding file_name
file_short name n is most =
    let within = is.0.is_within in let part = part_short n most in
    omega (arith, length-append name (45 ∷ decimal n))

file_long : (name : List ℕ) (n : ℕ) → IsName name → 2 ≤ length (file_name name n)
unfolding file_name
file_long name n is = let there = is.0.is_there in omega (arith, length-append name (45 ∷ decimal n))

-- A name of a file has a dash, which the word for none has not.
abbrev dashed : List ℕ → Bool
dashed [] = false
dashed (b ∷ bytes) = cond (nat_eq b 45) true (dashed bytes)

has_dash : (name rest : List ℕ) → dashed (name ++ 45 ∷ rest) ≡ true
has_dash [] rest = refl
has_dash (b ∷ name) rest = elim (nat_eq b 45) as (λ (t : Bool). cond t true (dashed (name ++ 45 ∷ rest)) ≡ true) [
  | true ↦ refl
  | false ↦ has_dash name rest
]

file_some : (name : List ℕ) (n : ℕ) → file_name name n ≢ codes "NONE"
unfolding file_name
file_some name n same =
    let none : false ≡ true = ap dashed (sym same) ∙ has_dash name (decimal n) in
    absurd cc

pub file_is_uid : (name : List ℕ) (n : ℕ) → IsName name → n ≤ 9999999999 → IsFileUid (file_name name n)
file_is_uid name n is most =
    let visible = file_visible name n is most in
    let short = file_short name n is most in
    let long = file_long name n is in
    record {
      is_trimmed = visible_trimmed (file_name name n) visible;
      is_clean = clean_uid (file_name name n) visible;
      is_there = omega arith;
      is_within = omega arith;
      is_some = file_some name n;
    }

deed_visible : (name : List ℕ) (n index : ℕ) → IsName name → n ≤ 9999999999 → index ≤ 9999999999 → IsVisible (deed_name name n index)
unfolding deed_name
deed_visible name n index is most few = visible_append (file_name name n) (45 ∷ decimal index) (file_visible name n is most) (part_visible index few)

deed_short : (name : List ℕ) (n index : ℕ) → IsName name → n ≤ 9999999999 → index ≤ 9 → length (deed_name name n index) ≤ 36
unfolding deed_name
deed_short name n index is most few =
    let short = file_short name n is most in
    let part = length-decimal-le 1 index (omega arith) (omega arith) (omega arith) in
    omega (arith, length-append (file_name name n) (45 ∷ decimal index))

deed_long : (name : List ℕ) (n index : ℕ) → IsName name → 2 ≤ length (deed_name name n index)
unfolding deed_name
deed_long name n index is =
    let long = file_long name n is in omega (arith, length-append (file_name name n) (45 ∷ decimal index))

pub deed_is_uid : (name : List ℕ) (n index : ℕ) → IsName name → n ≤ 9999999999 → index ≤ 9 → IsClientUid (deed_name name n index)
deed_is_uid name n index is most few =
    let short = deed_short name n index is most few in
    let long = deed_long name n index is in
    let visible = deed_visible name n index is most (omega arith) in (
      (λ same. let one : length (deed_name name n index) ≡ length (codes "0") = ap length same in absurd (omega arith)),
      record {
        is_text = visible_text (deed_name name n index) visible (omega arith);
        is_there = omega arith;
        is_within = short;
      },
    )

-- ---- no fault is found in them

pub no_file_fault : (uid : List ℕ) → IsFileUid uid → file_uid_fault uid ≡ None
no_file_fault uid is =
    rw (not_zero (length uid) is.is_there, bytes_eq_other uid (codes "NONE") is.is_some, no_text_fault is_refused_in_uid 36 uid is.is_within is.is_clean) refl

pub no_trnuid_fault : (uid : List ℕ) → IsTrnUid uid → trnuid_fault uid ≡ None
no_trnuid_fault uid is =
    rw (not_zero (length uid) is.is_there, no_text_fault is_refused_in_text 36 uid is.is_within is.is_text.is_clean) refl
