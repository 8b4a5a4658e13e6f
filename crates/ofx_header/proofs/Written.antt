-- A written header: its pieces, and how each of its lines spells what it says.
use Rattle.std.proofs.Common.{◌≡◌, ℕ, suc, ◌+◌, ◌-◌, ◌≤◌, Bool, true, false, not, cond, List, [], ◌∷◌, ◌++◌, length, reverse, position, codes, nat_eq, nat_lt, Option, None, Some, IfSome, refl, sym, ap, ◌∙◌, append_assoc, arith}
use Rattle.std.proofs.lemmas.Grind.{common_steps}
use Rattle.std.proofs.lemmas.List.{length-append, reverse-append}
use Rattle.std.specs.Fmt.{decimal, digits}
use Rattle.std.specs.List.{list_all, position_or_len}
use Rattle.std.specs.Str.{bytes_eq}
use Rattle.ofx_types.specs.TextRules.{is_white, trim_start, trim_end, trimmed, is_refused_in_uid, IsFileUid}
use Rattle.ofx_types.specs.TextOutcome.{refused_at}
use Rattle.ofx_types.specs.declared.text.TextFault.TheVariants.{Empty, TooLong}
use Rattle.ofx_types.specs.Sheet.{ended, header_line, header_text, uid_text}
use Rattle.ofx_types.specs.HeaderForm.{IsHeaderLine, IsUidValue, is_version}
use Rattle.ofx_types.proofs.Bytes.{bytes_eq_other, not_zero}
use Rattle.ofx_header.specs.HeaderLaws.{WrittenIsSpelled}
use Rattle.ofx_header.proofs.Lines.{is_on_line, all_joined}
use Rattle.ofx_header.proofs.Meanings.{of_known}

-- ---- in pieces

seven : (o a b c d e f g : List ℕ) → ((((((o ++ a) ++ b) ++ c) ++ d) ++ e) ++ f) ++ g ≡ o ++ (a ++ (b ++ (c ++ (d ++ (e ++ (f ++ g))))))
seven o a b c d e f g = simp append_assoc

line_before : (name value rest : List ℕ) → header_line name value ++ rest ≡ name ++ 58 ∷ (value ++ 13 ∷ 10 ∷ rest)
line_before name value rest = simp append_assoc

-- the fixed text before the version
abbrev pub to_version : List ℕ
to_version = header_line (codes "OFXHEADER") (codes "100") ++ (header_line (codes "DATA") (codes "OFXSGML") ++ codes "VERSION:")

-- the fixed text between the version and the older uid
abbrev pub to_older : List ℕ → List ℕ
to_older rest =
    header_line (codes "SECURITY") (codes "NONE") ++ (header_line (codes "ENCODING") (codes "USASCII")
    ++ (header_line (codes "CHARSET") (codes "1252") ++ (header_line (codes "COMPRESSION") (codes "NONE") ++ rest)))

text_is : (version : ℕ) (older newer : Option (List ℕ)) →
    header_text version older newer
    ≡ to_version ++ (decimal version ++ ((13 ∷ 10 ∷ to_older (codes "OLDFILEUID:")) ++ (uid_text older ++ (codes "\r\nNEWFILEUID:" ++ (uid_text newer ++ 13 ∷ 10 ∷ 13 ∷ 10 ∷ [])))))
unfolding header_text
text_is version older newer =
    ap (λ (t : List ℕ). header_line (codes "OFXHEADER") (codes "100") ++ (header_line (codes "DATA") (codes "OFXSGML") ++ t))
    (line_before (codes "VERSION") (decimal version) _
    ∙ ap (λ (t : List ℕ). codes "VERSION:" ++ (decimal version ++ 13 ∷ 10 ∷ to_older t))
    (line_before (codes "OLDFILEUID") (uid_text older) _
    ∙ ap (λ (t : List ℕ). codes "OLDFILEUID:" ++ (uid_text older ++ 13 ∷ 10 ∷ t)) (line_before (codes "NEWFILEUID") (uid_text newer) (ended []))))

-- a header in its seven pieces
pub pieces : (o0 o1 o2 o3 o4 o5 o6 o7 : List ℕ) (version : ℕ) (older newer : Option (List ℕ)) →
    o1 ≡ o0 ++ to_version → o2 ≡ o1 ++ decimal version → o3 ≡ o2 ++ (13 ∷ 10 ∷ to_older (codes "OLDFILEUID:")) → o4 ≡ o3 ++ uid_text older →
    o5 ≡ o4 ++ codes "\r\nNEWFILEUID:" → o6 ≡ o5 ++ uid_text newer → o7 ≡ o6 ++ 13 ∷ 10 ∷ 13 ∷ 10 ∷ [] → o7 ≡ o0 ++ header_text version older newer
pieces o0 o1 o2 o3 o4 o5 o6 o7 version older newer p q r s t u v =
    v ∙ rw (u, t, s, r, q, p) (seven o0 to_version (decimal version) (13 ∷ 10 ∷ to_older (codes "OLDFILEUID:")) (uid_text older) (codes "\r\nNEWFILEUID:") (uid_text newer) (13 ∷ 10 ∷ 13 ∷ 10 ∷ []))
    ∙ ap (λ x. o0 ++ x) (sym (text_is version older newer))

-- ---- each line is spelled so

one_white : (xs : List ℕ) → trim_end (xs ++ 13 ∷ []) ≡ trim_end xs
one_white xs = ap (λ (l : List ℕ). reverse (trim_start l)) (reverse-append xs (13 ∷ []))

-- the CR before a line's LF is trimmed
cr_trimmed : (xs : List ℕ) → trimmed (xs ++ 13 ∷ []) ≡ trimmed xs
cr_trimmed [] = refl
cr_trimmed (x ∷ xs) =
    elim (is_white x) as (λ b. trim_end (cond b (trim_start (xs ++ 13 ∷ [])) (x ∷ (xs ++ 13 ∷ []))) ≡ trim_end (cond b (trim_start xs) (x ∷ xs)))
    [ true ↦ cr_trimmed xs | false ↦ one_white (x ∷ xs) ]

-- a value as it is on a line
record IsPlainValue (value : List ℕ) : Type 0 where
  is_trimmed : trimmed value ≡ value
  on_line : list_all is_on_line value ≡ true

line_split : (name value : List ℕ) → header_line name value ≡ name ++ 58 ∷ ((value ++ 13 ∷ []) ++ 10 ∷ [])
line_split name value = simp append_assoc

line_is : (name value : List ℕ) → IsPlainValue value → IsHeaderLine name value (header_line name value)
line_is name value is = record {
  raw = value ++ 13 ∷ [];
  spelled = line_split name value;
  on_line = all_joined value (13 ∷ []) is.on_line refl;
  meant = sym (cr_trimmed value ∙ is.is_trimmed);
}

plain_version : (version : ℕ) → is_version version ≡ true → IsPlainValue (decimal version)
unfolding digits
plain_version version h =
    of_known (λ n. IsPlainValue (decimal n)) version
    (record { is_trimmed = refl; on_line = refl }) (record { is_trimmed = refl; on_line = refl })
    (record { is_trimmed = refl; on_line = refl }) (record { is_trimmed = refl; on_line = refl }) h

no_index : (there : Bool) (offset : ℕ) → cond there (Some offset) None ≡ None → there ≡ false
no_index true offset h = cc
no_index false offset h = refl

on_line_byte : (b : ℕ) → is_refused_in_uid b ≡ false → is_on_line b ≡ true
on_line_byte b h = grind (arith, common_steps)

first_clean : (refused : Bool) (offset size : ℕ) → nat_lt (cond (not refused) (1 + offset) 0) (suc size) ≡ false → (refused ≡ false) × (nat_lt offset size ≡ false)
first_clean true offset size h = absurd (grind (arith, common_steps))
first_clean false offset size h = (refl, grind (arith, common_steps))

-- no LF is in a uid
clean_on_line : (xs : List ℕ) → nat_lt (position_or_len is_refused_in_uid xs) (length xs) ≡ false → list_all is_on_line xs ≡ true
clean_on_line [] h = refl
clean_on_line (x ∷ xs) h =
    let parts = first_clean (is_refused_in_uid x) (position_or_len is_refused_in_uid xs) (length xs) h in
    rw (on_line_byte x parts.0, clean_on_line xs parts.1) refl

plain_uid : (uid : Option (List ℕ)) → IfSome uid IsFileUid → IsPlainValue (uid_text uid)
plain_uid None h = record { is_trimmed = refl; on_line = refl }
plain_uid (Some uid) is = record { is_trimmed = is.is_trimmed; on_line = clean_on_line uid (no_index _ _ is.is_clean) }

passes : (empty named long : Bool) (n : ℕ) (refused : Option ℕ) → empty ≡ false → named ≡ false → long ≡ false → refused ≡ None →
    cond empty (Some Empty) (cond named (Some Empty) (cond long (Some (TooLong n)) (refused_at refused))) ≡ None
passes empty named long n refused p q r s = rw (p, q, r, s) refl

is_within : (n : ℕ) → n ≤ 36 → nat_lt 36 n ≡ false
is_within n h = grind (arith, common_steps)

-- a uid has no fault
uid_is : (uid : Option (List ℕ)) → IfSome uid IsFileUid → IsUidValue (uid_text uid) uid
uid_is None h = refl
uid_is (Some uid) is = (
  refl,
  passes (nat_eq (length uid) 0) (bytes_eq uid (codes "NONE")) (nat_lt 36 (length uid)) (length uid) (position is_refused_in_uid uid)
      (not_zero (length uid) is.is_there) (bytes_eq_other uid (codes "NONE") is.is_some) (is_within (length uid) is.is_within) is.is_clean,
)

-- ---- the whole

lines_then : (a b c d e f g h i empty body : List ℕ) →
    (a ++ (b ++ (c ++ (d ++ (e ++ (f ++ (g ++ (h ++ (i ++ empty))))))))) ++ body ≡ a ++ (b ++ (c ++ (d ++ (e ++ (f ++ (g ++ (h ++ (i ++ (empty ++ body)))))))))
lines_then a b c d e f g h i empty body = simp append_assoc

all_but_two : (a b c d e f g h i body : List ℕ) → let text = a ++ (b ++ (c ++ (d ++ (e ++ (f ++ (g ++ (h ++ (i ++ 13 ∷ 10 ∷ [])))))))) in
    length text - 2 + length (13 ∷ 10 ∷ body) ≡ length (text ++ body)
all_but_two a b c d e f g h i body = simp length-append (omega arith)

-- the lines that have one value, and those that have another in each file
abbrev format : List ℕ
format = header_line (codes "OFXHEADER") (codes "100")

abbrev content : List ℕ
content = header_line (codes "DATA") (codes "OFXSGML")

abbrev version_line : ℕ → List ℕ
version_line version = header_line (codes "VERSION") (decimal version)

abbrev security : List ℕ
security = header_line (codes "SECURITY") (codes "NONE")

abbrev encoding : List ℕ
encoding = header_line (codes "ENCODING") (codes "USASCII")

abbrev charset : List ℕ
charset = header_line (codes "CHARSET") (codes "1252")

abbrev compression : List ℕ
compression = header_line (codes "COMPRESSION") (codes "NONE")

abbrev older_line : Option (List ℕ) → List ℕ
older_line uid = header_line (codes "OLDFILEUID") (uid_text uid)

abbrev newer_line : Option (List ℕ) → List ℕ
newer_line uid = header_line (codes "NEWFILEUID") (uid_text uid)

pub written_is_spelled : WrittenIsSpelled
unfolding header_text
written_is_spelled version older newer body known old new = record {
  line_1 = format;
  line_2 = content;
  line_3 = version_line version;
  line_4 = security;
  line_5 = encoding;
  line_6 = charset;
  line_7 = compression;
  line_8 = older_line older;
  line_9 = newer_line newer;
  charset = codes "1252";
  older_value = uid_text older;
  newer_value = uid_text newer;
  body = 13 ∷ 10 ∷ body;
  spelled = lines_then format content (version_line version) security encoding charset compression (older_line older) (newer_line newer) (ended []) body;
  size_is = all_but_two format content (version_line version) security encoding charset compression (older_line older) (newer_line newer) body;
  format = line_is (codes "OFXHEADER") (codes "100") (record { is_trimmed = refl; on_line = refl });
  content = line_is (codes "DATA") (codes "OFXSGML") (record { is_trimmed = refl; on_line = refl });
  has_version = line_is (codes "VERSION") (decimal version) (plain_version version known);
  is_known = known;
  security = line_is (codes "SECURITY") (codes "NONE") (record { is_trimmed = refl; on_line = refl });
  encoding = line_is (codes "ENCODING") (codes "USASCII") (record { is_trimmed = refl; on_line = refl });
  has_charset = line_is (codes "CHARSET") (codes "1252") (record { is_trimmed = refl; on_line = refl });
  is_let_pass = refl;
  compression = line_is (codes "COMPRESSION") (codes "NONE") (record { is_trimmed = refl; on_line = refl });
  has_older = line_is (codes "OLDFILEUID") (uid_text older) (plain_uid older old);
  is_older = uid_is older old;
  has_newer = line_is (codes "NEWFILEUID") (uid_text newer) (plain_uid newer new);
  is_newer = uid_is newer new;
}
