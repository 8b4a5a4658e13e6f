-- What the answer of a reading says, by cases on it, and what follows for headers alone.
use Rattle.std.proofs.Common.{◌≡◌, ℕ, ◌+◌, ◌≤◌, List, ◌++◌, length, drop, Option, None, Some, Result, Ok, Err, IfOk, IfErr, IsOkAnd, refl, sym, ap, ◌∙◌, append_assoc, arith}
use Rattle.std.proofs.lemmas.List.{length-append}
use Rattle.std.proofs.Math.Seq.{drop-append_seam}
use Rattle.ofx_types.specs.HeaderForm.{SpellsHeader, header_fault}
use Rattle.ofx_types.specs.FileForm.{HasHeader}
use Rattle.ofx_types.specs.declared.fault.HeaderFault.{HeaderFault}
use Rattle.ofx_header.specs.HeaderReading.{ReadsHeader, HeaderParts, parts_of, header_at}
use Rattle.ofx_header.specs.HeaderLaws.{OneHeader, SpelledIsFaultless, FaultlessIsSpelled, BodyIsAfter}
use Rattle.ofx_header.specs.declared.values.Header.{Header}
use Rattle.ofx_header.proofs.Lines.{fault_of}
use Rattle.ofx_header.proofs.Headers.{ok_is, header_found, header_again, header_fault_is}

abbrev pub Answers : List ℕ → Result (Header × ℕ) HeaderFault → Type 0
Answers bytes answer = ReadsHeader (λ x. parts_of x.0 x.1) answer (header_at bytes)

pub spelled_of_answer : (bytes : List ℕ) (answer : Result (Header × ℕ) HeaderFault) → Answers bytes answer →
    IfOk answer (λ x. SpellsHeader bytes x.0.version x.0.older x.0.newer x.1)
spelled_of_answer bytes (Ok x) h = header_found bytes (parts_of x.0 x.1) h
spelled_of_answer bytes (Err fault) h = tt

pub read_of_answer : (bytes : List ℕ) (answer : Result (Header × ℕ) HeaderFault) → Answers bytes answer →
    (version : ℕ) (older newer : Option (List ℕ)) (size : ℕ) → SpellsHeader bytes version older newer size →
    IsOkAnd answer (λ x. (x.0.version ≡ version) × (x.0.older ≡ older) × (x.0.newer ≡ newer) × (x.1 ≡ size))
read_of_answer bytes (Ok x) h version older newer size spelled =
    let same = ok_is _ _ (header_at bytes) h (header_again bytes version older newer size spelled) in
    (ap (λ p. p.version) same, ap (λ p. p.older) same, ap (λ p. p.newer) same, ap (λ p. p.size) same)
read_of_answer bytes (Err fault) h version older newer size spelled =
    let again = header_again bytes version older newer size spelled in cc

pub fault_of_answer : (bytes : List ℕ) (answer : Result (Header × ℕ) HeaderFault) → Answers bytes answer → IfErr answer (λ fault. header_fault bytes ≡ Some fault)
fault_of_answer bytes (Ok x) h = tt
fault_of_answer bytes (Err fault) h = header_fault_is bytes ∙ ap fault_of h

no_fault : (found : Option HeaderFault) (fault : HeaderFault) → found ≡ None → found ≡ Some fault → ⊥
no_fault found fault p q = cc

one_fault : (found : Option HeaderFault) (a b : HeaderFault) → found ≡ Some a → found ≡ Some b → a ≡ b
one_fault found a b p q = cc

pub refused_of_answer : (bytes : List ℕ) (answer : Result (Header × ℕ) HeaderFault) → Answers bytes answer → (fault : HeaderFault) → header_fault bytes ≡ Some fault → answer ≡ Err fault
refused_of_answer bytes (Ok x) h fault e = absurd (no_fault (header_fault bytes) fault (header_fault_is bytes ∙ ap fault_of h) e)
refused_of_answer bytes (Err other) h fault e = ap (λ f. Err f) (one_fault (header_fault bytes) other fault (header_fault_is bytes ∙ ap fault_of h) e)

-- ---- headers alone

pub one_header : OneHeader
one_header bytes v w o p n q s t first second =
    let same = ok_is _ _ (header_at bytes) (header_again bytes v o n s first) (header_again bytes w p q t second) in
    (ap (λ x. x.version) same, ap (λ x. x.older) same, ap (λ x. x.newer) same, ap (λ x. x.size) same)

pub spelled_is_faultless : SpelledIsFaultless
spelled_is_faultless bytes version older newer size spelled = header_fault_is bytes ∙ ap fault_of (header_again bytes version older newer size spelled)

found_where : (bytes : List ℕ) (read : Result HeaderParts HeaderFault) → header_at bytes ≡ read → fault_of read ≡ None → (size : ℕ) × HasHeader bytes size
found_where bytes (Ok parts) e h = (parts.size, record { version = parts.version; older = parts.older; newer = parts.newer; spelled = header_found bytes parts e })
found_where bytes (Err fault) e h = cc

pub faultless_is_spelled : FaultlessIsSpelled
faultless_is_spelled bytes h = found_where bytes (header_at bytes) refl (sym (header_fault_is bytes) ∙ h)

rest : (bytes prefix body : List ℕ) (size : ℕ) → bytes ≡ prefix ++ body → size + length body ≡ length bytes → (size ≤ length bytes) × (drop size bytes ≡ body)
rest bytes prefix body size e h =
    let whole : length bytes ≡ length prefix + length body = ap length e ∙ length-append prefix body in
    let offset : size ≡ length prefix = omega arith in
    (omega arith, rw (offset, e) (drop-append_seam prefix body))

lines_then : (a b c d e f g h i body : List ℕ) →
    a ++ (b ++ (c ++ (d ++ (e ++ (f ++ (g ++ (h ++ (i ++ body)))))))) ≡ (a ++ (b ++ (c ++ (d ++ (e ++ (f ++ (g ++ (h ++ i)))))))) ++ body
lines_then a b c d e f g h i body = simp append_assoc

pub body_is_after : BodyIsAfter
body_is_after bytes version older newer size is =
    rest bytes _ is.body size (is.spelled ∙ lines_then is.line_1 is.line_2 is.line_3 is.line_4 is.line_5 is.line_6 is.line_7 is.line_8 is.line_9 is.body) is.size_is
