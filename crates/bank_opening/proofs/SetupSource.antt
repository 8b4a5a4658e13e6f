-- The fault of a setup that is longer than what is read of it.
use Rattle.std.proofs.Common.{◌≡◌, ℕ, ◌<◌, ◌≤◌, ◌+◌, List, [], ◌++◌, length, Option, None, Some, inl, inr, arith, sym, ap, ◌∙◌, subst, append-nil, length-append}
use Rattle.std.specs.Io.KnownBytes.{Keeps, IsAtEnd, prepend_known}
use Rattle.std.proofs.lemmas.List.{take-append-le}
use Rattle.std.proofs.lemmas.Bool.{cases_lt}
use Rattle.bank_model.specs.SetupForm.{SpellsSetup}
use Rattle.bank_model.specs.SetupFault.{lines_in, lines_within, BeginSetup, IsWrongAt, IsSetupFault}
use Rattle.bank_model.specs.declared.setup.Setup.{Setup}
use Rattle.bank_opening.specs.SetupRead.{IsNoSetup}

-- bytes after the most that a setup may have make no difference to its lines
same_lines : (ahead more : List ℕ) → 262144 < length ahead → lines_within ahead ≡ lines_within (ahead ++ more)
same_lines ahead more long = ap lines_in (sym (take-append-le 262144 ahead more (omega (arith, long))))

-- nor to its fault
longer_fault : (ahead more : List ℕ) (line : ℕ) → 262144 < length ahead → IsSetupFault ahead line → IsSetupFault (ahead ++ more) line
unfolding IsSetupFault
longer_fault ahead more line long (inl wrong) = inl (subst (λ (lines : List (List ℕ)). IsWrongAt lines line) (same_lines ahead more long) wrong)
longer_fault ahead more line long (inr (inl lacking)) = inr (inl (record {
  number = subst (λ (lines : List (List ℕ)). line ≡ length lines + 1) (same_lines ahead more long) lacking.number;
  begun = subst BeginSetup (same_lines ahead more long) lacking.begun;
  lacking = λ setup are. omega (arith, long, are.small, length-append ahead more);
}))
longer_fault ahead more line long (inr (inr wide)) = absurd (omega (arith, long, wide.whole.small))

-- what is read shows the fault of all the bytes
no_setup : (all ahead rest : List ℕ) (line : ℕ) → ahead ++ rest ≡ all → (length ahead ≤ 262144 → rest ≡ []) → ((setup : Setup) → SpellsSetup ahead setup → ⊥) → IsSetupFault ahead line → ((setup : Setup) → SpellsSetup all setup → ⊥) × IsSetupFault all line
no_setup all ahead rest line e at_end none fault = elim (cases_lt 262144 (length ahead)) [
  | inl long ↦ (
    λ setup spells. omega (arith, long, spells.small, ap length e, length-append ahead rest),
    subst (λ (bytes : List ℕ). IsSetupFault bytes line) e (longer_fault ahead rest line long fault),
  )
  | inr short ↦ (
      let same : ahead ≡ all = sym (append-nil ahead) ∙ (ap (λ (l : List ℕ). ahead ++ l) (sym (at_end short)) ∙ e) in
      (subst (λ (bytes : List ℕ). (setup : Setup) → SpellsSetup bytes setup → ⊥) same none, subst (λ (bytes : List ℕ). IsSetupFault bytes line) same fault)
      )
]

pub fault_of_all : (left left' : Option (List ℕ)) (ahead : List ℕ) (line : ℕ) → Keeps (prepend_known [] left) (prepend_known ahead left') → (length ahead ≤ 262144 → IsAtEnd left') →
    ((setup : Setup) → SpellsSetup ahead setup → ⊥) → IsSetupFault ahead line → IsNoSetup left line
fault_of_all None left' ahead line kept at_end none fault = tt
fault_of_all (Some all) None ahead line kept at_end none fault = absurd kept
fault_of_all (Some all) (Some rest) ahead line kept at_end none fault = no_setup all ahead rest line kept at_end none fault
