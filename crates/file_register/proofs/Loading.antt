-- What is reported of a text that is loaded.
use Rattle.std.proofs.Common.{◌≡◌, ◌≢◌, ℕ, List, [], ◌∷◌, Result, Ok, Err, refl, sym, ap, subst, ◌∙◌, ◌⊎◌, inl, inr}
use Rattle.std.specs.Prelude.{IfOk, IsErrAnd}
use Rattle.record_fields.specs.Fields.{IsBytes}
use Rattle.file_register.specs.Coding.{register_text}
use Rattle.file_register.specs.Reading.{register_read}
use Rattle.file_register.specs.SavedText.{IsTextOf, IsFirstFault, GivesLines}
use Rattle.file_register.specs.declared.line.Line.{Line}
use Rattle.file_register.specs.declared.saving.RegisterFault.{RegisterFault}
use Rattle.file_register.specs.declared.saving.RegisterFault.TheVariants as faults
use Rattle.file_register.proofs.TextLaws.{read_was_saved, saved_is_read}

abbrev Outcome : Type 0
Outcome = Result (List Line) RegisterFault

abbrev given : List Line → Outcome
given lines = Ok lines

abbrev refused : RegisterFault → Outcome
refused fault = Err fault

abbrev read : List Line → Result (List Line) ℕ
read lines = Ok lines

abbrev located : ℕ → Result (List Line) ℕ
located at = Err at

-- what a call answers for a text
pub record Loads (text : List ℕ) (r : Result (List Line) RegisterFault) : Type 0 where
  pub empty : text ≡ [] → r ≡ Ok []
  pub some : text ≢ [] → GivesLines r (register_read text)

some_byte : (b : ℕ) (bytes : List ℕ) → b ∷ bytes ≢ []
some_byte b bytes h = cc

no_text : (lines : List Line) → register_text lines ≢ []
unfolding register_text
no_text lines h = some_byte _ _ h

pub found_text : (text : List ℕ) (r : Result (List Line) RegisterFault) → IsBytes text → Loads text r → IfOk r (λ lines. IsTextOf text lines)
found_text text (Err fault) bytes h = tt
found_text [] (Ok lines) bytes h = let e : given lines ≡ given [] = h.empty refl in inl (refl, cc)
found_text (b ∷ text) (Ok lines) bytes h = inr (read_was_saved (b ∷ text) lines bytes (h.some (some_byte b text)))

gives : (r : Result (List Line) RegisterFault) (lines : List Line) → GivesLines r (Ok lines) → (r ≡ Ok lines) ⊎ (r ≡ Err faults.OutOfMemory)
gives (Ok others) lines h = let e : read lines ≡ read others = h in inl (let same : others ≡ lines = cc in ap given same)
gives (Err (faults.Bad at)) lines h = let e : read lines ≡ located at = h in absurd cc
gives (Err faults.OutOfMemory) lines h = inr refl

pub text_found : (text : List ℕ) (r : Result (List Line) RegisterFault) (lines : List Line) → Loads text r → IsTextOf text lines → (r ≡ Ok lines) ⊎ (r ≡ Err faults.OutOfMemory)
text_found text r lines h (inl none) = inl (h.empty none.0 ∙ ap given (sym none.1))
text_found text r lines h (inr saved) =
    let some : text ≢ [] = λ none. no_text lines (sym saved.spelled ∙ none) in
    gives r lines (subst (GivesLines r) (saved_is_read text lines saved) (h.some some))

pub refused_at : (text : List ℕ) (r : Result (List Line) RegisterFault) (at : ℕ) → Loads text r → r ≡ Err (faults.Bad at) → IsFirstFault text at
refused_at [] r at h is = let e : refused (faults.Bad at) ≡ given [] = sym is ∙ h.empty refl in absurd cc
refused_at (b ∷ text) r at h is = (some_byte b text, subst (λ (q : Outcome). GivesLines q (register_read (b ∷ text))) is (h.some (some_byte b text)))

pub fault_refused : (text : List ℕ) (r : Result (List Line) RegisterFault) (at : ℕ) → Loads text r → IsFirstFault text at
    → IsErrAnd r (λ reported. (reported ≡ faults.Bad at) ⊎ (reported ≡ faults.OutOfMemory))
fault_refused text (Ok lines) at h fault = let e : read lines ≡ located at = sym (h.some fault.0) ∙ fault.1 in absurd cc
fault_refused text (Err (faults.Bad offset)) at h fault = let e : located offset ≡ located at = sym (h.some fault.0) ∙ fault.1 in let same : offset ≡ at = cc in inl (ap faults.Bad same)
fault_refused text (Err faults.OutOfMemory) at h fault = inr refl

-- ---- one register, or one fault

pub one_register_text : (text : List ℕ) (lines others : List Line) → IsTextOf text lines → IsTextOf text others → lines ≡ others
one_register_text text lines others (inl p) (inl q) = p.1 ∙ sym q.1
one_register_text text lines others (inl p) (inr q) = absurd (no_text others (sym q.spelled ∙ p.0))
one_register_text text lines others (inr p) (inl q) = absurd (no_text lines (sym p.spelled ∙ q.0))
one_register_text text lines others (inr p) (inr q) = let e : read lines ≡ read others = sym (saved_is_read text lines p) ∙ saved_is_read text others q in cc

pub one_fault : (text : List ℕ) (at other : ℕ) → IsFirstFault text at → IsFirstFault text other → at ≡ other
one_fault text at other p q = let e : located at ≡ located other = sym p.1 ∙ q.1 in cc

pub faults_save_nothing : (text : List ℕ) (at : ℕ) (lines : List Line) → IsFirstFault text at → IsTextOf text lines → ⊥
faults_save_nothing text at lines p (inl q) = p.0 q.0
faults_save_nothing text at lines p (inr q) = let e : located at ≡ read lines = sym p.1 ∙ saved_is_read text lines q in cc

abbrev IsSavedOrFaulty : List ℕ → Type 0
IsSavedOrFaulty text = ((lines : List Line) × IsTextOf text lines) ⊎ ((at : ℕ) × IsFirstFault text at)

pub saved_or_faulty : (text : List ℕ) → IsBytes text → ((lines : List Line) × IsTextOf text lines) ⊎ ((at : ℕ) × IsFirstFault text at)
saved_or_faulty [] bytes = inl ([], inl (refl, refl))
saved_or_faulty (b ∷ text) bytes = by_cases (register_read (b ∷ text)) refl
  where
    by_cases : (r : Result (List Line) ℕ) → register_read (b ∷ text) ≡ r → IsSavedOrFaulty (b ∷ text)
    by_cases (Ok lines) h = inl (lines, inr (read_was_saved (b ∷ text) lines bytes h))
    by_cases (Err at) h = inr (at, (some_byte b text, h))
