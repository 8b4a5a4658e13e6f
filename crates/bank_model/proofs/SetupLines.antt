-- The lines of bytes, and the owners of an account, read one after the other as a loop does.
use Rattle.std.proofs.Common.{◌≡◌, ℕ, ◌+◌, ◌<◌, ◌⊎◌, Bool, true, false, cond, eqb, append_assoc, List, [], ◌∷◌, ◌++◌, length, Option, Some, None, Result, Ok, Err, refl, sym, ap, ◌∙◌, subst, arith, inl, inr}
use Rattle.std.specs.List.{AllByRecursion, join_with_byte}
use Rattle.std.specs.Str.Lines.{strip_carriage_return}
use Rattle.std.proofs.lemmas.List.Splits.{join_with_byte-slice_split, length-slice_split}
use Rattle.ofx_types.specs.declared.number.UserId.{UserId}
use Rattle.bank_model.specs.declared.setup.User.{User}
use Rattle.bank_model.specs.declared.setup.draft.SetupDraft.{SetupDraft}
use Rattle.bank_model.specs.SetupForm.{AreLines}
use Rattle.bank_model.specs.SetupFault.{ended_lines, lines_in}
use Rattle.bank_model.specs.SetupReading.{◌>>=◌, cut, line_at, last_part, left_in, words_of, owner_more, owners_from, or_fault_at, with_line, with_lines}
use Rattle.bank_model.proofs.SetupWords.{bind_some, some_is, parts_of, parts_next, parts_last, words_next, words_last, return_back, is_free, line_there_lf, line_there_crlf}

-- ---- what a step took or refused

pub took : {A : Type 0} (taken : Bool) (next : Option A) (x : A) → taken ≡ true → next ≡ cond taken (Some x) None → next ≡ Some x
took true next x h e = e
took false next x h e = absurd cc

pub refused_one : {A : Type 0} (taken : Bool) (next : Option A) (x : A) → taken ≡ false → next ≡ cond taken (Some x) None → next ≡ None
refused_one true next x h e = absurd cc
refused_one false next x h e = e

-- ---- owners

pub owners_next : (users : List User) (owners : List UserId) (names name others : List ℕ) → Some (name, others) ≡ cut 32 names → owners_from users owners (words_of names) ≡ (owner_more users owners name >>= λ more. owners_from users more (words_of others))
unfolding owners_from
owners_next users owners names name others h = rw (words_next names name others h) refl

alone : {A : Type 0} (found : Option A) → (found >>= λ x. Some x) ≡ found
alone None = refl
alone (Some x) = refl

pub owners_last : (users : List User) (owners : List UserId) (names : List ℕ) → None ≡ cut 32 names → owners_from users owners (words_of names) ≡ owner_more users owners names
unfolding owners_from
owners_last users owners names h = rw (words_last names h) (alone (owner_more users owners names))

-- ---- lines

-- a part before an LF is a line, and what is left comes after it
ended_more : (part : List ℕ) (parts : List (List ℕ)) → 0 < length parts → (ended_lines (part ∷ parts) ≡ strip_carriage_return part ∷ ended_lines parts) × (last_part (part ∷ parts) ≡ last_part parts)
ended_more part [] some = absurd (omega (arith, some))
ended_more part (next ∷ parts) some = (refl, refl)

-- the first line, and the lines after it
pub lines_next : (bytes line rest : List ℕ) → line_at bytes ≡ Some (line, rest) → (lines_in bytes ≡ line ∷ lines_in rest) × (left_in bytes ≡ left_in rest)
unfolding line_at lines_in left_in
lines_next bytes line rest h =
    let a = bind_some (cut 10 bytes) (λ parts. Some (strip_carriage_return parts.0, parts.1)) (line, rest) h in
    let split : parts_of 10 bytes ≡ a.0.0 ∷ parts_of 10 a.0.1 = parts_next 10 bytes a.0.0 a.0.1 (sym a.1) in
    let more = ended_more a.0.0 (parts_of 10 a.0.1) (omega (arith, length-slice_split (λ (b : ℕ). eqb b 10) a.0.1)) in
    let e : (strip_carriage_return a.0.0, a.0.1) ≡ (line, rest) = some_is (strip_carriage_return a.0.0, a.0.1) (line, rest) a.2 in (
      ap ended_lines split ∙ more.0 ∙ ap (λ (p : List ℕ × List ℕ). p.0 ∷ lines_in p.1) e,
      ap last_part split ∙ more.1 ∙ ap (λ (p : List ℕ × List ℕ). left_in p.1) e,
    )

abbrev stripped : List ℕ × List ℕ → Option (List ℕ × List ℕ)
stripped parts = Some (strip_carriage_return parts.0, parts.1)

uncut : (found : Option (List ℕ × List ℕ)) → (found >>= stripped) ≡ None → None ≡ found
uncut None h = refl
uncut (Some parts) h = absurd cc

-- bytes that begin with no line have none, and all of them are left
pub lines_last : (bytes : List ℕ) → line_at bytes ≡ None → (lines_in bytes ≡ []) × (left_in bytes ≡ bytes)
unfolding line_at lines_in left_in
lines_last bytes h =
    let split : parts_of 10 bytes ≡ bytes ∷ [] = parts_last 10 bytes (uncut (cut 10 bytes) h) in
    (ap ended_lines split, ap last_part split)

end_back : (bytes line rest : List ℕ) → bytes ≡ line ++ 10 ∷ rest → (bytes ≡ strip_carriage_return line ++ 10 ∷ rest) ⊎ (bytes ≡ strip_carriage_return line ++ 13 ∷ 10 ∷ rest)
end_back bytes line rest whole =
    elim (return_back line) [
      | inl same ↦ inl (whole ∙ ap (λ (l : List ℕ). l ++ 10 ∷ rest) same)
      | inr longer ↦ inr (whole ∙ ap (λ (l : List ℕ). l ++ 10 ∷ rest) longer ∙ append_assoc (strip_carriage_return line) (13 ∷ []) (10 ∷ rest))
    ]

parts_lines : (parts : List (List ℕ)) → last_part parts ≡ [] → AreLines (join_with_byte 10 parts) (ended_lines parts)
parts_lines [] h = refl
parts_lines (part ∷ []) h = h
parts_lines (part ∷ next ∷ parts) h =
    (join_with_byte 10 (next ∷ parts), end_back (join_with_byte 10 (part ∷ next ∷ parts)) part (join_with_byte 10 (next ∷ parts)) refl, parts_lines (next ∷ parts) h)

-- bytes of which nothing is left are their lines
pub lines_back : (bytes : List ℕ) → left_in bytes ≡ [] → AreLines bytes (lines_in bytes)
unfolding lines_in left_in
lines_back bytes h = subst (λ (l : List ℕ). AreLines l (ended_lines (parts_of 10 bytes))) (join_with_byte-slice_split 10 bytes) (parts_lines (parts_of 10 bytes) h)

-- a line and its end, before the rest
abbrev pub IsEnded : List ℕ → List ℕ → List ℕ → Type 0
IsEnded bytes line rest = (bytes ≡ line ++ 10 ∷ rest) ⊎ (bytes ≡ line ++ 13 ∷ 10 ∷ rest)

-- no LF or CR is in the line
abbrev pub IsClean : List ℕ → Type 0
IsClean line = (is_free 10 line ≡ true) × (is_free 13 line ≡ true)

line_there : (bytes line rest : List ℕ) → IsClean line → IsEnded bytes line rest → line_at bytes ≡ Some (line, rest)
line_there bytes line rest clean ended =
    elim ended [
      | inl lf ↦ ap line_at lf ∙ line_there_lf line rest clean.0 clean.1
      | inr crlf ↦ ap line_at crlf ∙ line_there_crlf line rest clean.0
    ]

-- clean lines that stand there are read, and nothing is left
pub lines_there : (bytes : List ℕ) (lines : List (List ℕ)) → AllByRecursion IsClean lines → AreLines bytes lines → (lines_in bytes ≡ lines) × (left_in bytes ≡ [])
unfolding lines_in left_in
lines_there bytes [] clean are = (ap lines_in are, ap left_in are)
lines_there bytes (line ∷ lines) clean are =
    let first = lines_next bytes line are.0 (line_there bytes line are.0 clean.0 are.1) in
    let rest = lines_there are.0 lines clean.1 are.2 in
    (first.0 ∙ ap (λ (l : List (List ℕ)). line ∷ l) rest.0, first.1 ∙ rest.1)

-- ---- lines taken into a draft

pub taken_next : (n : ℕ) (d next : SetupDraft) (bytes line rest : List ℕ) → line_at bytes ≡ Some (line, rest) → with_line n d line ≡ Some next → with_lines n d (lines_in bytes) ≡ with_lines (n + 1) next (lines_in rest)
unfolding with_lines
taken_next n d next bytes line rest h k = rw ((lines_next bytes line rest h).0, k) refl

pub taken_refused : (n : ℕ) (d : SetupDraft) (bytes line rest : List ℕ) → line_at bytes ≡ Some (line, rest) → with_line n d line ≡ None → with_lines n d (lines_in bytes) ≡ Err n
unfolding with_lines
taken_refused n d bytes line rest h k = rw ((lines_next bytes line rest h).0, k) refl

pub taken_last : (n : ℕ) (d : SetupDraft) (bytes : List ℕ) → line_at bytes ≡ None → with_lines n d (lines_in bytes) ≡ Ok d
unfolding with_lines
taken_last n d bytes h = rw (lines_last bytes h).0 refl

-- what goes on with a draft had one
pub taken_some : (n : ℕ) (found : Option SetupDraft) (further : SetupDraft → Result SetupDraft ℕ) (d : SetupDraft) → or_fault_at n found further ≡ Ok d → (next : SetupDraft) × (found ≡ Some next) × (further next ≡ Ok d)
taken_some n None further d h = absurd cc
taken_some n (Some next) further d h = (next, refl, h)

pub ok_is : (d e : SetupDraft) → (let r : Result SetupDraft ℕ = Ok d in r) ≡ Ok e → d ≡ e
ok_is d e h = cc
