-- Answers by their cases, and how many fields so many bytes can have.
use Rattle.std.proofs.Common.{◌≡◌, ◌≢◌, ℕ, ◌+◌, ◌*◌, ◌<◌, ◌≤◌, suc, ◌↔◌, ◌⊎◌, inl, inr, Bool, List, [], ◌∷◌, ◌++◌, length, Result, Ok, Err, refl, ap, ◌∙◌, arith, length-append, append-nil}
use Rattle.std.specs.Prelude.{All, IsTrue, IfOk}
use Rattle.std.specs.List.{flat_map}
use Rattle.std.proofs.lemmas.List.Elements.{All-head, All-tail}
use Rattle.httparse.specs.declared.Error.{Error}
use Rattle.httparse.specs.declared.Error.TheVariants.{HeaderName, HeaderValue, NewLine, Status, Token, TooManyHeaders, Version}
use Rattle.httparse.specs.Grammar.{LineEnd, crlf, lf, print_end, Field, print_field, IsField, RequestHead, IsRequestHead, print_request, NeverHasRequest, MayBecomeRequest, EndsInTarget, ResponseHead, IsResponseHead, print_response, NeverHasResponse}
use Rattle.httparse.specs.Spans.{RequestExceeds, ResponseExceeds}
use Rattle.http_front.specs.declared.head.HeadFault.{HeadFault}
use Rattle.http_front.specs.declared.head.HeadFault.TheVariants.{NotYet, Bad}
use Rattle.http_front.specs.Heads.{BeginsRequest, BeginsResponse, AwaitsRequest, AwaitsResponse, Judges}

-- ---- answers by their cases exclude each other

pub judged_found : {H A : Type 0} (begins : H → Type 0) (head_of : H → A) (awaits : Type 0) (r : Result A HeadFault) → Judges begins head_of awaits r →
    ((g h : H) → begins g → begins h → g ≡ h) → ((h : H) → begins h → ¬ awaits) → (h : H) → begins h → r ≡ Ok (head_of h)
judged_found begins head_of awaits (Ok head) (g, at, is) one none h here = ap Ok (is ∙ ap head_of (one g h at here))
judged_found begins head_of awaits (Err NotYet) judged one none h here = absurd (none h here judged)
judged_found begins head_of awaits (Err Bad) judged one none h here = absurd (judged.0 h here)

pub judged_bad : {H A : Type 0} (begins : H → Type 0) (head_of : H → A) (awaits : Type 0) (r : Result A HeadFault) → Judges begins head_of awaits r →
    (r ≡ Err Bad) ↔ (((h : H) → ¬ (begins h)) × ¬ awaits)
judged_bad begins head_of awaits (Ok head) (g, at, is) = (λ e. absurd cc, λ none. absurd (none.0 g at))
judged_bad begins head_of awaits (Err NotYet) judged = (λ e. absurd cc, λ none. absurd (none.1 judged))
judged_bad begins head_of awaits (Err Bad) judged = (λ e. judged, λ none. refl)

-- a head at the start, its size and the bytes
pub judged_within : {H A : Type 0} (begins : H → Type 0) (head_of : H → A) (awaits : Type 0) (size : A → ℕ) (most : ℕ) (r : Result A HeadFault) → Judges begins head_of awaits r →
    ((h : H) → begins h → (0 < size (head_of h)) × (size (head_of h) ≤ most) × (size (head_of h) ≤ 8192)) → IfOk r (λ head. (0 < size head) × (size head ≤ most) × (size head ≤ 8192))
judged_within begins head_of awaits size most (Ok head) (g, at, is) sized = rw is (sized g at)
judged_within begins head_of awaits size most (Err e) judged sized = tt

-- ---- each field takes three bytes

end_long : (end : LineEnd) → 1 ≤ length (print_end end)
end_long crlf = omega arith
end_long lf = omega arith

field_long : (f : Field) → IsField f → 3 ≤ length (print_field f)
field_long f is = simp length-append (omega (arith, is.name.0, end_long f.end))

joined_long : (a b : List ℕ) (m : ℕ) → 3 ≤ length a → 3 * m ≤ length b → 3 * suc m ≤ length (a ++ b)
joined_long a b m h k = omega (arith, length-append a b)

fields_long : (fields : List Field) → All IsField fields → 3 * length fields ≤ length (flat_map print_field fields)
fields_long [] all = omega arith
fields_long (f ∷ fields) all =
    joined_long (print_field f) (flat_map print_field fields) (length fields) (field_long f (All-head IsField f fields all)) (fields_long fields (All-tail IsField f fields all))

request_long : (h : RequestHead) → IsRequestHead h → 3 * length h.fields + 2 ≤ length (print_request h)
unfolding print_request
request_long h is = simp length-append (omega (arith, fields_long h.fields is.fields))

-- 2,731 fields don't stand in fewer than 8,192 bytes
crowded : (buf : List ℕ) (room : ℕ) → length buf < 8192 → 2730 ≤ room → ¬ (RequestExceeds room buf)
crowded buf room short wide (prefix, rest, split, h, reads, many) =
    omega (arith, request_long h reads.0, ap length split, ap length reads.1, length-append prefix rest, length-append prefix (print_end lf), length-append (print_request h) [])

which : (e : Error) → (e ≡ TooManyHeaders) ⊎ (e ≢ TooManyHeaders)
which HeaderName = inr (λ e. cc)
which HeaderValue = inr (λ e. cc)
which NewLine = inr (λ e. cc)
which Status = inr (λ e. cc)
which Token = inr (λ e. cc)
which TooManyHeaders = inl refl
which Version = inr (λ e. cc)

-- bytes that never become a head
never_awaits : (buf : List ℕ) (ends : Bool) → length buf < 8192 → NeverHasRequest buf → (IsTrue ends ↔ EndsInTarget buf) → IsTrue ends ↔ AwaitsRequest buf
never_awaits buf ends short never open_target = (
  λ yes. record { short = short; none = λ h rest reads. never [] h rest (reads.0, append-nil buf ∙ reads.1); may = inr (open_target.0 yes) },
  λ awaits. still awaits.may,
)
  where
    still : MayBecomeRequest buf → IsTrue ends
    still (inl (more, h, reads)) = absurd (never more h [] reads)
    still (inr target) = open_target.1 target

pub refused_awaits : {A : Type 0} (r : Result A Error) (buf : List ℕ) (room : ℕ) (e : Error) (ends : Bool) → length buf < 8192 → 2730 ≤ room →
    (e ≢ TooManyHeaders → NeverHasRequest buf) → r ≡ Err e → (r ≡ Err TooManyHeaders → RequestExceeds room buf) →
    (IsTrue ends ↔ EndsInTarget buf) → IsTrue ends ↔ AwaitsRequest buf
refused_awaits r buf room e ends short wide invalid same many open_target = by (which e)
  where
    by : (e ≡ TooManyHeaders) ⊎ (e ≢ TooManyHeaders) → IsTrue ends ↔ AwaitsRequest buf
    by (inl is) = absurd (crowded buf room short wide (many (same ∙ ap Err is)))
    by (inr other) = never_awaits buf ends short (invalid other) open_target

-- ---- replies

response_long : (h : ResponseHead) → IsResponseHead h → 3 * length h.fields + 1 ≤ length (print_response h)
unfolding print_response
response_long h is = simp length-append (omega (arith, fields_long h.fields is.fields))

crowded_response : (buf : List ℕ) (room : ℕ) → length buf < 8192 → 2730 ≤ room → ¬ (ResponseExceeds room buf)
crowded_response buf room short wide (prefix, rest, split, h, reads, many) =
    omega (arith, response_long h reads.0, ap length split, ap length reads.1, length-append prefix rest, length-append prefix (print_end lf), length-append (print_response h) [])

pub refused_response : {A : Type 0} (r : Result A Error) (buf : List ℕ) (room : ℕ) (e : Error) → length buf < 8192 → 2730 ≤ room →
    (e ≢ TooManyHeaders → NeverHasResponse buf) → r ≡ Err e → (r ≡ Err TooManyHeaders → ResponseExceeds room buf) → ¬ (AwaitsResponse buf)
refused_response r buf room e short wide invalid same many awaits = by (which e)
  where
    by : (e ≡ TooManyHeaders) ⊎ (e ≢ TooManyHeaders) → ⊥
    by (inl is) = crowded_response buf room short wide (many (same ∙ ap Err is))
    by (inr other) = let may = awaits.may in invalid other may.0 may.1 [] may.2

-- ---- sizes

pub request_sized : (buf : List ℕ) (h : RequestHead) (rest : List ℕ) → BeginsRequest buf h rest →
    (0 < length (print_request h)) × (length (print_request h) ≤ length buf) × (length (print_request h) ≤ 8192)
request_sized buf h rest here =
    (omega (arith, request_long h here.0.0), omega (arith, ap length here.0.1, length-append (print_request h) rest), here.1.0)

pub response_sized : (buf : List ℕ) (h : ResponseHead) (rest : List ℕ) → BeginsResponse buf h rest →
    (0 < length (print_response h)) × (length (print_response h) ≤ length buf) × (length (print_response h) ≤ 8192)
response_sized buf h rest here =
    (omega (arith, response_long h here.0.0), omega (arith, ap length here.0.1, length-append (print_response h) rest), here.1.0)
