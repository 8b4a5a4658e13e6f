-- The heads that are written, as heads of the grammar.
use Rattle.std.proofs.Common.{◌≡◌, ℕ, ◌+◌, ◌^◌, ◌<◌, ◌≤◌, ◌⊎◌, inl, inr, Bool, true, false, ◌||◌, cond, eqb, List, [], ◌∷◌, ◌++◌, length, codes, reverse, map, Some, None, refl, sym, ap, subst, ◌∙◌, arith, append_assoc, length-append, append-nil, lit<, lit≤}
use Rattle.std.specs.Prelude.{All, IsTrue}
use Rattle.std.specs.Char.{is_ascii_digit}
use Rattle.std.specs.Fmt.{decimal, digits}
use Rattle.std.specs.List.{flat_map, list_all}
use Rattle.std.specs.Str.{IsAscii}
use Rattle.std.specs.Str.Parse.{digits_value}
use Rattle.std.proofs.lemmas.Bool.{and_from, le-leb, or_cases, eqb-true}
use Rattle.std.proofs.lemmas.Bool.{cond-false}
use Rattle.std.proofs.lemmas.Fmt.{decimal_is_IsNumeral, length-decimal-le}
use Rattle.std.proofs.lemmas.Grind.{common_steps}
use Rattle.std.proofs.lemmas.List.Elements.{All-cons, All-nil, All-weaker}
use Rattle.std.proofs.lemmas.List.Sums.{AllPass-from_list_all}
use Rattle.std.proofs.lemmas.Str.{IsUtf8-from_ascii}
use Rattle.std.proofs.lemmas.Str.Ascii.{IsAscii-cons, IsAscii-nil}
use Rattle.httparse.specs.Grammar.{is_token_byte, is_uri_byte, is_value_byte, is_ows, skip_ows, trim_ows, AllPass, IsToken, crlf, Field, print_field, IsField, RequestHead, IsRequestHead, print_request, ResponseHead, IsResponseHead, print_response}
use Rattle.httparse.specs.Spans.{name_and_value}
use Rattle.httparse.proofs.GrammarLemmas.{cons-append, print_response-append, print_request-append}
use Rattle.httparse.proofs.TrimLemmas.{AllPass-reverse, trim_ows_space}
use Rattle.ofx_types.specs.NumberReading.{number_at}
use Rattle.ofx_types.proofs.Numbers.{decimal_digits}
use Rattle.http_front.specs.Fields.{usable_length, says_close}
use Rattle.http_front.proofs.TargetLemmas.{token_from}
use Rattle.http_front.specs.Heads.{BeginsResponse, head_of_response, BeginsRequest, head_of_request}
use Rattle.http_front.specs.HeadText.{IsReplyCode, phrase, media_type, field_line, ending, status_line, reply_head, post_head}

-- ---- numbers

length_again : (n : ℕ) → n < 10 ^ 9 → number_at 9 (decimal n) ≡ Some n
unfolding number_at
length_again n most =
    let number = decimal_is_IsNumeral n (omega arith) in
    let short = length-decimal-le 9 n (omega arith) (omega arith) (omega arith) in
    ap (λ b. cond b (Some (digits_value 10 (decimal n))) None)
    (and_from _ _ (and_from _ _ (le-leb 1 (length (decimal n)) (let there = number.0.0 in omega arith)) (le-leb (length (decimal n)) 9 short)) (decimal_digits n (omega arith)))
    ∙ ap (λ (m : ℕ). Some m) number.1

-- a digit is a byte of a value, and no white space
digit_is : (b : ℕ) → is_ascii_digit b ≡ true → (is_value_byte b ≡ true) × (is_ows b ≡ false)
digit_is b h = grind (arith, common_steps)

digits_pass : (n : ℕ) → n < 2 ^ 64 → AllPass is_ascii_digit (decimal n)
digits_pass n h = AllPass-from_list_all is_ascii_digit (decimal n) (decimal_digits n h)

not_skipped : (bytes : List ℕ) → AllPass is_ascii_digit bytes → skip_ows bytes ≡ bytes
not_skipped [] all = refl
not_skipped (b ∷ bytes) all = cond-false _ _ _ (digit_is b (all 0 0 (omega arith))).1

trimmed : (n : ℕ) → n < 2 ^ 64 → trim_ows (32 ∷ decimal n) ≡ decimal n
trimmed n h =
    let all = digits_pass n h in
    trim_ows_space (decimal n) (not_skipped (decimal n) all) (not_skipped (reverse (decimal n)) (AllPass-reverse is_ascii_digit (decimal n) all))

number_clean : (n : ℕ) → n < 2 ^ 64 → AllPass is_value_byte (decimal n)
number_clean n h = All-weaker (λ b. IsTrue (is_ascii_digit b)) (λ b. IsTrue (is_value_byte b)) (λ b digit. (digit_is b digit).0) (decimal n) (digits_pass n h)

-- ---- fields

-- one field as it is written
abbrev written : List ℕ → List ℕ → Field
written name value = record { name = name; raw = 32 ∷ value; end = crlf }

field_is : (name value : List ℕ) → IsToken name → AllPass is_value_byte value → IsField (written name value)
field_is name value token clean = record { name = token; raw = All-cons (λ b. IsTrue (is_value_byte b)) 32 value refl clean }

clean_text : (text : List ℕ) → list_all is_value_byte text ≡ true → AllPass is_value_byte text
clean_text text h = AllPass-from_list_all is_value_byte text h

type_name : IsToken (codes "Content-Type")
unfolding is_token_byte
type_name = token_from (codes "Content-Type") refl

length_name : IsToken (codes "Content-Length")
unfolding is_token_byte
length_name = token_from (codes "Content-Length") refl

connection_name : IsToken (codes "Connection")
unfolding is_token_byte
connection_name = token_from (codes "Connection") refl

allow_name : IsToken (codes "Allow")
unfolding is_token_byte
allow_name = token_from (codes "Allow") refl

host_name : IsToken (codes "Host")
unfolding is_token_byte
host_name = token_from (codes "Host") refl

post_name : IsToken (codes "POST")
unfolding is_token_byte
post_name = token_from (codes "POST") refl

-- ---- the codes of replies

-- what holds of the eight codes holds of each
of_code : (P : ℕ → Type 0) (code : ℕ) → P 200 → P 400 → P 404 → P 405 → P 411 → P 413 → P 500 → P 503 → IsReplyCode code → P code
of_code P code a b c d e f g h is =
    either (either (either (either (either (either (either (at 200 a) (at 400 b)) (at 404 c)) (at 405 d)) (at 411 e)) (at 413 f)) (at 500 g)) (at 503 h) is
  where
    at : (n : ℕ) → P n → eqb code n ≡ true → P code
    at n p same = subst P (sym (eqb-true code n same)) p

    either : {x y : Bool} → (x ≡ true → P code) → (y ≡ true → P code) → (x || y) ≡ true → P code
    either {x} {y} first second any = by (or_cases x y any)
      where
        by : (x ≡ true) ⊎ (y ≡ true) → P code
        by (inl one) = first one
        by (inr other) = second other

-- its digits and its phrase
record IsKnown (code : ℕ) : Type 0 where
  pub three : length (decimal code) ≡ 3
  pub clean : list_all is_value_byte (phrase code) ≡ true
  pub short : length (phrase code) ≤ 40
  pub small : code < 1000

known_200 : IsKnown 200
unfolding digits
known_200 = record { three = refl; clean = refl; short = lit≤ tt; small = lit< tt }

known_400 : IsKnown 400
unfolding digits
known_400 = record { three = refl; clean = refl; short = lit≤ tt; small = lit< tt }

known_404 : IsKnown 404
unfolding digits
known_404 = record { three = refl; clean = refl; short = lit≤ tt; small = lit< tt }

known_405 : IsKnown 405
unfolding digits
known_405 = record { three = refl; clean = refl; short = lit≤ tt; small = lit< tt }

known_411 : IsKnown 411
unfolding digits
known_411 = record { three = refl; clean = refl; short = lit≤ tt; small = lit< tt }

known_413 : IsKnown 413
unfolding digits
known_413 = record { three = refl; clean = refl; short = lit≤ tt; small = lit< tt }

known_500 : IsKnown 500
unfolding digits
known_500 = record { three = refl; clean = refl; short = lit≤ tt; small = lit< tt }

known_503 : IsKnown 503
unfolding digits
known_503 = record { three = refl; clean = refl; short = lit≤ tt; small = lit< tt }

known : (code : ℕ) → IsReplyCode code → IsKnown code
known code is = of_code IsKnown code known_200 known_400 known_404 known_405 known_411 known_413 known_500 known_503 is

media_clean : (code : ℕ) → list_all is_value_byte (media_type code) ≡ true
media_clean code = by (eqb code 200)
  where
    by : (b : Bool) → list_all is_value_byte (cond b (codes "application/x-ofx") (codes "text/plain")) ≡ true
    by true = refl
    by false = refl

ending_clean : (last : Bool) → list_all is_value_byte (ending last) ≡ true
ending_clean true = refl
ending_clean false = refl

-- ---- replies

-- the fields of a reply, with or without the one of methods
abbrev reply_fields : Bool → List ℕ → List ℕ → List ℕ → List Field
reply_fields true media number close =
    written (codes "Allow") (codes "POST") ∷ written (codes "Content-Type") media ∷ written (codes "Content-Length") number ∷ written (codes "Connection") close ∷ []
reply_fields false media number close =
    written (codes "Content-Type") media ∷ written (codes "Content-Length") number ∷ written (codes "Connection") close ∷ []

abbrev reply_tree : Bool → List ℕ → List ℕ → List ℕ → List ℕ → List ℕ → ResponseHead
reply_tree methods code phrase_ media number close = record {
  blank = [];
  minor = 1;
  digits = code;
  reason = Some phrase_;
  line_end = crlf;
  fields = reply_fields methods media number close;
  last = crlf;
}

-- the text of it
abbrev reply_text : Bool → List ℕ → List ℕ → List ℕ → List ℕ → List ℕ → List ℕ
reply_text methods code phrase_ media number close =
    (codes "HTTP/1.1 " ++ (code ++ (codes " " ++ (phrase_ ++ codes "\r\n"))))
    ++ (cond methods (field_line (codes "Allow") (codes "POST")) []
    ++ (field_line (codes "Content-Type") media
    ++ (field_line (codes "Content-Length") number
    ++ (field_line (codes "Connection") close
    ++ codes "\r\n"))))

regroup : (version code phrase_ end fields : List ℕ) →
    version ++ 32 ∷ (code ++ ((32 ∷ phrase_) ++ (end ++ ((fields ++ end) ++ [])))) ≡ ((version ++ 32 ∷ []) ++ (code ++ ((32 ∷ []) ++ (phrase_ ++ end)))) ++ (fields ++ end)
regroup version code phrase_ end fields = simp (append_assoc, append-nil, cons-append)

three : (a b c end : List ℕ) → (a ++ (b ++ (c ++ []))) ++ end ≡ a ++ (b ++ (c ++ end))
three a b c end = simp (append_assoc, append-nil)

four : (a b c d end : List ℕ) → (a ++ (b ++ (c ++ (d ++ [])))) ++ end ≡ a ++ (b ++ (c ++ (d ++ end)))
four a b c d end = simp (append_assoc, append-nil)

-- the lines of the fields, and the empty line
abbrev reply_lines : Bool → List ℕ → List ℕ → List ℕ → List ℕ
reply_lines methods media number close =
    cond methods (field_line (codes "Allow") (codes "POST")) []
    ++ (field_line (codes "Content-Type") media
    ++ (field_line (codes "Content-Length") number
    ++ (field_line (codes "Connection") close
    ++ codes "\r\n")))

lines_printed : (methods : Bool) (media number close : List ℕ) → flat_map print_field (reply_fields methods media number close) ++ codes "\r\n" ≡ reply_lines methods media number close
lines_printed true media number close =
    four (field_line (codes "Allow") (codes "POST")) (field_line (codes "Content-Type") media) (field_line (codes "Content-Length") number) (field_line (codes "Connection") close) (codes "\r\n")
lines_printed false media number close =
    three (field_line (codes "Content-Type") media) (field_line (codes "Content-Length") number) (field_line (codes "Connection") close) (codes "\r\n")

reply_printed : (methods : Bool) (code phrase_ media number close : List ℕ) → print_response (reply_tree methods code phrase_ media number close) ≡ reply_text methods code phrase_ media number close
reply_printed methods code phrase_ media number close =
    let tree = reply_tree methods code phrase_ media number close in
    sym (append-nil (print_response tree)) ∙ print_response-append tree []
    ∙ regroup (codes "HTTP/1.1") code phrase_ (codes "\r\n") (flat_map print_field (reply_fields methods media number close))
    ∙ ap (λ (l : List ℕ). (codes "HTTP/1.1 " ++ (code ++ (codes " " ++ (phrase_ ++ codes "\r\n")))) ++ l) (lines_printed methods media number close)

three_fields : (a b c : Field) → IsField a → IsField b → IsField c → All IsField (a ∷ b ∷ c ∷ [])
three_fields a b c x y z = All-cons IsField a (b ∷ c ∷ []) x (All-cons IsField b (c ∷ []) y (All-cons IsField c [] z (All-nil IsField)))

common_are : (media number close : List ℕ) → AllPass is_value_byte media → AllPass is_value_byte number → AllPass is_value_byte close →
    All IsField (reply_fields false media number close)
common_are media number close x y z =
    three_fields (written (codes "Content-Type") media) (written (codes "Content-Length") number) (written (codes "Connection") close)
    (field_is (codes "Content-Type") media type_name x) (field_is (codes "Content-Length") number length_name y) (field_is (codes "Connection") close connection_name z)

reply_fields_are : (methods : Bool) (media number close : List ℕ) → AllPass is_value_byte media → AllPass is_value_byte number → AllPass is_value_byte close →
    All IsField (reply_fields methods media number close)
reply_fields_are true media number close x y z =
    All-cons IsField (written (codes "Allow") (codes "POST")) (reply_fields false media number close) (field_is (codes "Allow") (codes "POST") allow_name (clean_text (codes "POST") refl))
    (common_are media number close x y z)
reply_fields_are false media number close x y z = common_are media number close x y z

reply_fields_few : (methods : Bool) (media number close : List ℕ) → length (reply_fields methods media number close) ≤ 64
reply_fields_few true media number close = lit≤ tt
reply_fields_few false media number close = lit≤ tt

reply_length : (methods : Bool) (media number close : List ℕ) → usable_length (map name_and_value (reply_fields methods media number close)) ≡ number_at 9 (trim_ows (32 ∷ number))
unfolding usable_length
reply_length true media number close = refl
reply_length false media number close = refl

-- ---- sizes

methods_short : (methods : Bool) → length (cond methods (field_line (codes "Allow") (codes "POST")) []) ≤ 13
methods_short true = lit≤ tt
methods_short false = lit≤ tt

media_short : (code : ℕ) → length (media_type code) ≤ 40
media_short code = by (eqb code 200)
  where
    by : (b : Bool) → length (cond b (codes "application/x-ofx") (codes "text/plain")) ≤ 40
    by true = lit≤ tt
    by false = lit≤ tt

ending_short : (last : Bool) → length (ending last) ≤ 40
ending_short true = lit≤ tt
ending_short false = lit≤ tt

reply_short : (methods : Bool) (code phrase_ media number close : List ℕ) → length code ≤ 40 → length phrase_ ≤ 40 → length media ≤ 40 → length number ≤ 40 → length close ≤ 40 →
    length (reply_text methods code phrase_ media number close) ≤ 8192
reply_short methods code phrase_ media number close a b c d e = simp length-append (omega (arith, methods_short methods))

-- what is written for a reply
reply_head_is : (code size : ℕ) (last : Bool) → reply_head code size last ≡ reply_text (eqb code 405) (decimal code) (phrase code) (media_type code) (decimal size) (ending last)
unfolding reply_head status_line
reply_head_is code size last = refl

pub reply_read : (code size : ℕ) (last : Bool) (rest : List ℕ) → IsReplyCode code → size < 10 ^ 9 →
    let text = reply_head code size last in
    (h : ResponseHead) × BeginsResponse (text ++ rest) h rest × (head_of_response h ≡ record { code = code; length = Some size; size = length text })
reply_read code size last rest is small =
    let facts = known code is in
    let methods = eqb code 405 in
    let tree = reply_tree methods (decimal code) (phrase code) (media_type code) (decimal size) (ending last) in
    let printed : print_response tree ≡ reply_head code size last =
    reply_printed methods (decimal code) (phrase code) (media_type code) (decimal size) (ending last) ∙ sym (reply_head_is code size last) in
    let number_short = length-decimal-le 9 size (omega arith) (omega arith) (omega arith) in
    let short : length (reply_text methods (decimal code) (phrase code) (media_type code) (decimal size) (ending last)) ≤ 8192 =
    reply_short methods (decimal code) (phrase code) (media_type code) (decimal size) (ending last)
    (omega (arith, facts.three)) facts.short (media_short code) (omega (arith, number_short)) (ending_short last) in
    let is_head : IsResponseHead tree = record {
      minor = lit≤ tt;
      digits = (facts.three, digits_pass code (omega (arith, facts.small)));
      reason = clean_text (phrase code) facts.clean;
      fields = reply_fields_are methods (media_type code) (decimal size) (ending last) (clean_text (media_type code) (media_clean code)) (number_clean size (omega arith)) (clean_text (ending last) (ending_clean last));
    } in
    let fits : length (print_response tree) ≤ 8192 = rw (printed, reply_head_is code size last) short in
    let reported_code : digits_value 10 (decimal code) ≡ code = (decimal_is_IsNumeral code (omega (arith, facts.small))).1 in
    let reported_length : usable_length (map name_and_value tree.fields) ≡ Some size =
    reply_length methods (media_type code) (decimal size) (ending last) ∙ ap (number_at 9) (trimmed size (omega arith)) ∙ length_again size small in
    (tree, ((is_head, ap (λ (l : List ℕ). l ++ rest) (sym printed)), (fits, reply_fields_few methods (media_type code) (decimal size) (ending last))), λ i. record { code = reported_code i; length = reported_length i; size = length (printed i) })

-- ---- the client's request

abbrev post_fields : List ℕ → List Field
post_fields number =
    written (codes "Host") (codes "localhost") ∷ written (codes "Content-Type") (codes "application/x-ofx") ∷ written (codes "Content-Length") number ∷ []

abbrev post_tree : List ℕ → RequestHead
post_tree number = record {
  blank = [];
  method = codes "POST";
  target = codes "/ofx";
  minor = 1;
  line_end = crlf;
  fields = post_fields number;
  last = crlf;
}

post_lines : (number : List ℕ) → (flat_map print_field (post_fields number) ++ codes "\r\n") ++ [] ≡
    field_line (codes "Host") (codes "localhost") ++ (field_line (codes "Content-Type") (codes "application/x-ofx") ++ (field_line (codes "Content-Length") number ++ codes "\r\n"))
post_lines number =
    append-nil _ ∙ three (field_line (codes "Host") (codes "localhost")) (field_line (codes "Content-Type") (codes "application/x-ofx")) (field_line (codes "Content-Length") number) (codes "\r\n")

post_printed : (size : ℕ) → print_request (post_tree (decimal size)) ≡ post_head size
unfolding post_head
post_printed size =
    let tree = post_tree (decimal size) in
    sym (append-nil (print_request tree)) ∙ print_request-append tree [] ∙ ap (λ (l : List ℕ). codes "POST /ofx HTTP/1.1\r\n" ++ l) (post_lines (decimal size))

target_ascii : IsAscii (codes "/ofx")
target_ascii =
    IsAscii-cons 47 (codes "ofx") (lit< tt) (IsAscii-cons 111 (codes "fx") (lit< tt) (IsAscii-cons 102 (codes "x") (lit< tt) (IsAscii-cons 120 [] (lit< tt) IsAscii-nil)))

post_is : (number : List ℕ) → AllPass is_value_byte number → IsRequestHead (post_tree number)
post_is number clean = record {
  method = post_name;
  target = (lit< tt, AllPass-from_list_all is_uri_byte (codes "/ofx") refl);
  target_text = IsUtf8-from_ascii (codes "/ofx") target_ascii;
  minor = lit≤ tt;
  fields = three_fields (written (codes "Host") (codes "localhost")) (written (codes "Content-Type") (codes "application/x-ofx")) (written (codes "Content-Length") number)
      (field_is (codes "Host") (codes "localhost") host_name (clean_text (codes "localhost") refl)) (field_is (codes "Content-Type") (codes "application/x-ofx") type_name (clean_text (codes "application/x-ofx") refl))
      (field_is (codes "Content-Length") number length_name clean);
}

post_length : (number : List ℕ) → usable_length (map name_and_value (post_fields number)) ≡ number_at 9 (trim_ows (32 ∷ number))
unfolding usable_length
post_length number = refl

post_goes_on : (number : List ℕ) → says_close (map name_and_value (post_fields number)) ≡ false
unfolding says_close
post_goes_on number = refl

post_short : (size : ℕ) → length (decimal size) ≤ 40 → length (post_head size) ≤ 8192
unfolding post_head
post_short size short = simp length-append (omega arith)

pub post_read : (size : ℕ) (rest : List ℕ) → size < 10 ^ 9 →
    let text = post_head size in
    (h : RequestHead) × BeginsRequest (text ++ rest) h rest
    × (head_of_request h ≡ record { method_is_post = true; path_is_ofx = true; length = Some size; last = false; size = length text })
post_read size rest small =
    let tree = post_tree (decimal size) in
    let printed = post_printed size in
    let number_short = length-decimal-le 9 size (omega arith) (omega arith) (omega arith) in
    let fits : length (print_request tree) ≤ 8192 = rw printed (post_short size (omega (arith, number_short))) in
    let reported_length : usable_length (map name_and_value tree.fields) ≡ Some size =
    post_length (decimal size) ∙ ap (number_at 9) (trimmed size (omega arith)) ∙ length_again size small in
    let reported_last = post_goes_on (decimal size) in
    (tree, ((post_is (decimal size) (number_clean size (omega arith)), ap (λ (l : List ℕ). l ++ rest) (sym printed)), (fits, lit≤ tt)), λ i. record { method_is_post = true; path_is_ofx = true; length = reported_length i; last = reported_last i; size = length (printed i) })
