-- What making a text or a uid answers, and why.
use Rattle.std.specs.Prelude.{◌≡◌, ℕ, Bool, ◌==◌, nat_lt, List, length, position, Option, None, Some, Result, MatchResult, codes, if◌then◌else◌}
use Rattle.std.specs.Str.{bytes_eq}
use Rattle.ofx_types.specs.declared.text.TextFault.{TextFault}
use Rattle.ofx_types.specs.declared.text.TextFault.TheVariants.{Empty, TooLong, BadByte, OutOfMemory}
use Rattle.ofx_types.specs.TextRules.{trimmed, is_refused_in_text, is_refused_in_uid}

-- a byte that is refused, at its offset
abbrev pub refused_at : Option ℕ → Option TextFault
refused_at None = None
refused_at (Some at) = Some (BadByte at)

-- what is wrong with trimmed bytes: too many of them, and otherwise the first byte that is refused
abbrev pub text_fault : (ℕ → Bool) → ℕ → List ℕ → Option TextFault
text_fault is_refused most text =
    if nat_lt most (length text) then Some (TooLong (length text)) else refused_at (position is_refused text)

-- A transaction uid has 1 to 36 bytes.
abbrev pub trnuid_fault : List ℕ → Option TextFault
trnuid_fault text = if length text == 0 then Some Empty else text_fault is_refused_in_text 36 text

-- A file uid has 1 to 36 bytes, and `NONE` is the word for none.
abbrev pub file_uid_fault : List ℕ → Option TextFault
file_uid_fault text =
    if length text == 0 then Some Empty
    else (if bytes_eq text (codes "NONE") then Some Empty else text_fault is_refused_in_uid 36 text)

-- A refusal is the fault, or want of memory where there is none.
abbrev pub IsRefusal : Option TextFault → TextFault → Type 0
IsRefusal None refusal = refusal ≡ OutOfMemory
IsRefusal (Some fault) refusal = refusal ≡ fault

-- With no fault the answer is the trimmed bytes, unless memory is refused. With a fault it is that fault.
abbrev pub IsTextOf : ℕ → List ℕ → Result (List ℕ) TextFault → Type 0
IsTextOf most bytes answer = MatchResult answer
    (λ text. (text_fault is_refused_in_text most (trimmed bytes) ≡ None) × (text ≡ trimmed bytes))
    (IsRefusal (text_fault is_refused_in_text most (trimmed bytes)))

-- The same of a uid, which takes no memory.
abbrev pub IsUidOf : (List ℕ → Option TextFault) → List ℕ → Result (List ℕ) TextFault → Type 0
IsUidOf fault_of bytes answer = MatchResult answer
    (λ uid. (fault_of (trimmed bytes) ≡ None) × (uid ≡ trimmed bytes))
    (λ refusal. fault_of (trimmed bytes) ≡ Some refusal)
