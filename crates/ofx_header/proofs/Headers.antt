-- Whole headers: what is read is spelled so, what is spelled so is read, and a fault is the first one.
use Rattle.std.proofs.Common.{◌≡◌, ℕ, ◌+◌, ◌≤◌, List, [], ◌∷◌, ◌++◌, length, drop, codes, Option, None, Result, Ok, Err, refl, sym, ap, subst, ◌∙◌, arith, rules}
use Rattle.std.proofs.lemmas.List.{length-append, length-drop}
use Rattle.std.specs.Fmt.{decimal}
use Rattle.ofx_types.specs.HeaderForm.{IsHeaderLine, SpellsHeader, HeaderRule, rule, fixed, fault_from, header_fault, is_charset}
use Rattle.ofx_types.specs.declared.fault.HeaderFault.{HeaderFault}
use Rattle.ofx_header.specs.HeaderReading.{◌>>=◌, line_at, fixed_in, charset_in, version_in, uid_in, HeaderParts, writing_at, header_at}
use Rattle.ofx_header.proofs.Lines.{bind_ok, IsFound, IsMark, line_then, line_again, fault_of, fault_step}
use Rattle.ofx_header.proofs.Meanings.{fixed_allowed, charset_allowed, version_allowed, uid_allowed, fixed_means, charset_means, IsVersionText, version_means, uid_means, fixed_again, charset_again, version_again, uid_again}

-- ---- what is read is spelled so

-- one answer has one value
pub ok_is : {A : Type 0} (x y : A) (read : Result A HeaderFault) → read ≡ Ok x → read ≡ Ok y → x ≡ y
ok_is x y read p q = cc

-- the four lines that say how the bytes are written
record IsWriting (bytes : List ℕ) (at next : ℕ) : Type 0 where
  security_end : ℕ
  encoding_end : ℕ
  charset_end : ℕ
  security : IsFound (fixed_in (codes "NONE")) (codes "SECURITY") bytes at tt security_end
  encoding : IsFound (fixed_in (codes "USASCII")) (codes "ENCODING") bytes security_end tt encoding_end
  charset : IsFound charset_in (codes "CHARSET") bytes encoding_end tt charset_end
  compression : IsFound (fixed_in (codes "NONE")) (codes "COMPRESSION") bytes charset_end tt next

line_last : (wanted : List ℕ) (number : ℕ) (tag bytes : List ℕ) (at next : ℕ) → at ≤ length bytes →
    (line_at (fixed_in wanted) number (tag ++ 58 ∷ []) bytes at >>= λ x. Ok x.1) ≡ Ok next → IsFound (fixed_in wanted) tag bytes at tt next
line_last wanted number tag bytes at next h read =
    let steps = line_then (fixed_in wanted) number tag bytes at (λ x. Ok x.1) next h read in
    subst (IsFound (fixed_in wanted) tag bytes at tt) (ok_is steps.0.1 next (Ok steps.0.1) refl steps.2) steps.1

writing_found : (bytes : List ℕ) (at next : ℕ) → at ≤ length bytes → writing_at bytes at ≡ Ok next → IsWriting bytes at next
unfolding writing_at
writing_found bytes at next h read =
    let security = line_then (fixed_in (codes "NONE")) 4 (codes "SECURITY") bytes at _ next h read in
    let encoding = line_then (fixed_in (codes "USASCII")) 5 (codes "ENCODING") bytes security.0.1 _ next security.1.within security.2 in
    let charset = line_then charset_in 6 (codes "CHARSET") bytes encoding.0.1 _ next encoding.1.within encoding.2 in
    let compression = line_last (codes "NONE") 7 (codes "COMPRESSION") bytes charset.0.1 next charset.1.within charset.2 in
    record {
      security_end = security.0.1;
      encoding_end = encoding.0.1;
      charset_end = charset.0.1;
      security = security.1;
      encoding = encoding.1;
      charset = charset.1;
      compression = compression;
    }

-- the nine lines
record IsRead (bytes : List ℕ) (parts : HeaderParts) : Type 0 where
  format_end : ℕ
  content_end : ℕ
  version_end : ℕ
  written_end : ℕ
  older_end : ℕ
  format : IsFound (fixed_in (codes "100")) (codes "OFXHEADER") bytes 0 tt format_end
  content : IsFound (fixed_in (codes "OFXSGML")) (codes "DATA") bytes format_end tt content_end
  version : IsFound version_in (codes "VERSION") bytes content_end parts.version version_end
  written : IsWriting bytes version_end written_end
  older : IsFound uid_in (codes "OLDFILEUID") bytes written_end parts.older older_end
  newer : IsFound uid_in (codes "NEWFILEUID") bytes older_end parts.newer parts.size

parts_read : (bytes : List ℕ) (parts : HeaderParts) → header_at bytes ≡ Ok parts → IsRead bytes parts
unfolding header_at
parts_read bytes parts read =
    let format = line_then (fixed_in (codes "100")) 1 (codes "OFXHEADER") bytes 0 _ parts (omega arith) read in
    let content = line_then (fixed_in (codes "OFXSGML")) 2 (codes "DATA") bytes format.0.1 _ parts format.1.within format.2 in
    let version = line_then version_in 3 (codes "VERSION") bytes content.0.1 _ parts content.1.within content.2 in
    let written = bind_ok (writing_at bytes version.0.1) _ parts version.2 in
    let is_written : IsWriting bytes version.0.1 written.0 = writing_found bytes version.0.1 written.0 version.1.within written.1 in
    let older = line_then uid_in 8 (codes "OLDFILEUID") bytes written.0 _ parts is_written.compression.within written.2 in
    let newer = line_then uid_in 9 (codes "NEWFILEUID") bytes older.0.1 _ parts older.1.within older.2 in
    let said : HeaderParts = record { version = version.0.0; older = older.0.0; newer = newer.0.0; size = newer.0.1 } in
    let last : said ≡ parts = ok_is said parts (Ok said) refl newer.2 in
    subst (IsRead bytes) last (record {
      format_end = format.0.1;
      content_end = content.0.1;
      version_end = version.0.1;
      written_end = written.0;
      older_end = older.0.1;
      format = format.1;
      content = content.1;
      version = version.1;
      written = is_written;
      older = older.1;
      newer = newer.1;
    })

valued : (tag value other line : List ℕ) → value ≡ other → IsHeaderLine tag value line → IsHeaderLine tag other line
valued tag value other line e is = record { raw = is.raw; spelled = is.spelled; on_line = is.on_line; meant = sym e ∙ is.meant }

fixed_line : (wanted tag bytes : List ℕ) (at next : ℕ) (found : IsFound (fixed_in wanted) tag bytes at tt next) → IsHeaderLine tag wanted found.line
fixed_line wanted tag bytes at next found = valued tag found.value wanted found.line (fixed_means wanted found.value tt found.means) found.is_line

pub header_found : (bytes : List ℕ) (parts : HeaderParts) → header_at bytes ≡ Ok parts → SpellsHeader bytes parts.version parts.older parts.newer parts.size
header_found bytes parts read = spelled (parts_read bytes parts read)
  where
    spelled : IsRead bytes parts → SpellsHeader bytes parts.version parts.older parts.newer parts.size
    spelled is =
        let version : IsVersionText is.version.value parts.version = version_means is.version.value parts.version is.version.means in
        record {
          line_1 = is.format.line;
          line_2 = is.content.line;
          line_3 = is.version.line;
          line_4 = is.written.security.line;
          line_5 = is.written.encoding.line;
          line_6 = is.written.charset.line;
          line_7 = is.written.compression.line;
          line_8 = is.older.line;
          line_9 = is.newer.line;
          charset = is.written.charset.value;
          older_value = is.older.value;
          newer_value = is.newer.value;
          body = drop parts.size bytes;
          spelled =
              is.format.split ∙ ap (λ r. is.format.line ++ r) (is.content.split ∙ ap (λ r. is.content.line ++ r) (is.version.split ∙ ap (λ r. is.version.line ++ r)
              (is.written.security.split ∙ ap (λ r. is.written.security.line ++ r) (is.written.encoding.split ∙ ap (λ r. is.written.encoding.line ++ r)
              (is.written.charset.split ∙ ap (λ r. is.written.charset.line ++ r) (is.written.compression.split ∙ ap (λ r. is.written.compression.line ++ r)
              (is.older.split ∙ ap (λ r. is.older.line ++ r) is.newer.split)))))));
          size_is = omega (arith, length-drop parts.size bytes, is.newer.within);
          format = fixed_line (codes "100") (codes "OFXHEADER") bytes _ _ is.format;
          content = fixed_line (codes "OFXSGML") (codes "DATA") bytes _ _ is.content;
          has_version = valued (codes "VERSION") is.version.value (decimal parts.version) is.version.line version.spelled is.version.is_line;
          is_known = version.is_known;
          security = fixed_line (codes "NONE") (codes "SECURITY") bytes _ _ is.written.security;
          encoding = fixed_line (codes "USASCII") (codes "ENCODING") bytes _ _ is.written.encoding;
          has_charset = is.written.charset.is_line;
          is_let_pass = charset_means is.written.charset.value tt is.written.charset.means;
          compression = fixed_line (codes "NONE") (codes "COMPRESSION") bytes _ _ is.written.compression;
          has_older = is.older.is_line;
          is_older = uid_means is.older.value parts.older is.older.means;
          has_newer = is.newer.is_line;
          is_newer = uid_means is.newer.value parts.newer is.newer.means;
        }

-- ---- what is spelled so is read

read_from : (bytes : List ℕ) (version : ℕ) (older newer : Option (List ℕ)) (a b c d e f g h i : ℕ) →
    line_at (fixed_in (codes "100")) 1 (codes "OFXHEADER:") bytes 0 ≡ Ok (tt, a) → line_at (fixed_in (codes "OFXSGML")) 2 (codes "DATA:") bytes a ≡ Ok (tt, b) →
    line_at version_in 3 (codes "VERSION:") bytes b ≡ Ok (version, c) → line_at (fixed_in (codes "NONE")) 4 (codes "SECURITY:") bytes c ≡ Ok (tt, d) →
    line_at (fixed_in (codes "USASCII")) 5 (codes "ENCODING:") bytes d ≡ Ok (tt, e) → line_at charset_in 6 (codes "CHARSET:") bytes e ≡ Ok (tt, f) →
    line_at (fixed_in (codes "NONE")) 7 (codes "COMPRESSION:") bytes f ≡ Ok (tt, g) → line_at uid_in 8 (codes "OLDFILEUID:") bytes g ≡ Ok (older, h) →
    line_at uid_in 9 (codes "NEWFILEUID:") bytes h ≡ Ok (newer, i) → header_at bytes ≡ Ok (record { version = version; older = older; newer = newer; size = i })
unfolding header_at writing_at
read_from bytes version older newer a b c d e f g h i l1 l2 l3 l4 l5 l6 l7 l8 l9 = rw (l1, l2, l3, l4, l5, l6, l7, l8, l9) refl

-- a line that has one value is read
fixed_read : (number : ℕ) (tag wanted line bytes rest : List ℕ) (at : ℕ) → IsMark tag → IsHeaderLine tag wanted line → drop at bytes ≡ line ++ rest →
    (line_at (fixed_in wanted) number (tag ++ 58 ∷ []) bytes at ≡ Ok (tt, at + length line)) × (drop (at + length line) bytes ≡ rest)
fixed_read number tag wanted line bytes rest at mark is split =
    line_again (fixed_in wanted) number tag wanted line bytes rest at tt mark is (fixed_again wanted) split

-- the body comes after the nine lines
lengths : (a b c d e f g h i body bytes : List ℕ) (size : ℕ) → bytes ≡ a ++ (b ++ (c ++ (d ++ (e ++ (f ++ (g ++ (h ++ (i ++ body)))))))) → size + length body ≡ length bytes →
    0 + length a + length b + length c + length d + length e + length f + length g + length h + length i ≡ size
lengths a b c d e f g h i body bytes size split is =
    let whole = simp length-append at (ap length split) in omega (arith, whole)

pub header_again : (bytes : List ℕ) (version : ℕ) (older newer : Option (List ℕ)) (size : ℕ) → SpellsHeader bytes version older newer size →
    header_at bytes ≡ Ok (record { version = version; older = older; newer = newer; size = size })
header_again bytes version older newer size is =
    let format = fixed_read 1 (codes "OFXHEADER") (codes "100") is.line_1 bytes _ 0 refl is.format is.spelled in
    let content = fixed_read 2 (codes "DATA") (codes "OFXSGML") is.line_2 bytes _ _ refl is.content format.1 in
    let versioned = line_again version_in 3 (codes "VERSION") (decimal version) is.line_3 bytes _ _ version refl is.has_version (version_again version is.is_known) content.1 in
    let security = fixed_read 4 (codes "SECURITY") (codes "NONE") is.line_4 bytes _ _ refl is.security versioned.1 in
    let encoding = fixed_read 5 (codes "ENCODING") (codes "USASCII") is.line_5 bytes _ _ refl is.encoding security.1 in
    let charset = line_again charset_in 6 (codes "CHARSET") is.charset is.line_6 bytes _ _ tt refl is.has_charset (charset_again is.charset is.is_let_pass) encoding.1 in
    let compression = fixed_read 7 (codes "COMPRESSION") (codes "NONE") is.line_7 bytes _ _ refl is.compression charset.1 in
    let older_line = line_again uid_in 8 (codes "OLDFILEUID") is.older_value is.line_8 bytes _ _ older refl is.has_older (uid_again is.older_value older is.is_older) compression.1 in
    let newer_line = line_again uid_in 9 (codes "NEWFILEUID") is.newer_value is.line_9 bytes _ _ newer refl is.has_newer (uid_again is.newer_value newer is.is_newer) older_line.1 in
    let last = lengths is.line_1 is.line_2 is.line_3 is.line_4 is.line_5 is.line_6 is.line_7 is.line_8 is.line_9 is.body bytes size is.spelled is.size_is in
    read_from bytes version older newer _ _ _ _ _ _ _ _ _ format.0 content.0 versioned.0 security.0 encoding.0 charset.0 compression.0 older_line.0 newer_line.0
    ∙ ap (λ n. Ok (record { version = version; older = older; newer = newer; size = n })) last

-- ---- a fault is the first one

bind_assoc : {A B C : Type 0} (r : Result A HeaderFault) (f : A → Result B HeaderFault) (g : B → Result C HeaderFault) → ((r >>= f) >>= g) ≡ (r >>= λ x. f x >>= g)
bind_assoc (Ok x) f g = refl
bind_assoc (Err fault) f g = refl

writing_rules : List HeaderRule → List HeaderRule
writing_rules rules = fixed (codes "SECURITY") (codes "NONE") ∷ fixed (codes "ENCODING") (codes "USASCII") ∷ rule (codes "CHARSET") is_charset ∷ fixed (codes "COMPRESSION") (codes "NONE") ∷ rules

writing_step : {B : Type 0} (bytes : List ℕ) (at : ℕ) (rules : List HeaderRule) (next : ℕ → Result B HeaderFault) → at ≤ length bytes →
    ((n : ℕ) → n ≤ length bytes → fault_from rules 8 n (drop n bytes) ≡ fault_of (next n)) →
    fault_from (writing_rules rules) 4 at (drop at bytes) ≡ fault_of (writing_at bytes at >>= next)
unfolding writing_rules writing_at
writing_step bytes at rules next h later =
    simp bind_assoc
    (fault_step (fixed_in (codes "NONE")) _ 4 (codes "SECURITY") bytes at _ _ (fixed_allowed (codes "NONE")) h (λ security security_in.
    fault_step (fixed_in (codes "USASCII")) _ 5 (codes "ENCODING") bytes security.1 _ _ (fixed_allowed (codes "USASCII")) security_in (λ encoding encoding_in.
    fault_step charset_in _ 6 (codes "CHARSET") bytes encoding.1 _ _ charset_allowed encoding_in (λ charset charset_in.
    fault_step (fixed_in (codes "NONE")) _ 7 (codes "COMPRESSION") bytes charset.1 _ _ (fixed_allowed (codes "NONE")) charset_in (λ compression compression_in.
    later compression.1 compression_in)))))

no_rules : (number at : ℕ) (bytes : List ℕ) → fault_from [] number at bytes ≡ None
unfolding fault_from
no_rules number at bytes = refl

pub header_fault_is : (bytes : List ℕ) → header_fault bytes ≡ fault_of (header_at bytes)
unfolding header_at writing_rules
header_fault_is bytes =
    fault_step (fixed_in (codes "100")) _ 1 (codes "OFXHEADER") bytes 0 _ _ (fixed_allowed (codes "100")) (omega arith) (λ format format_in.
    fault_step (fixed_in (codes "OFXSGML")) _ 2 (codes "DATA") bytes format.1 _ _ (fixed_allowed (codes "OFXSGML")) format_in (λ content content_in.
    fault_step version_in _ 3 (codes "VERSION") bytes content.1 _ _ version_allowed content_in (λ version versioned_in.
    writing_step bytes version.1 _ _ versioned_in (λ written written_in.
    fault_step uid_in _ 8 (codes "OLDFILEUID") bytes written _ _ uid_allowed written_in (λ older older_in.
    fault_step uid_in _ 9 (codes "NEWFILEUID") bytes older.1 _ _ uid_allowed older_in (λ newer newer_in. no_rules 10 newer.1 _))))))
