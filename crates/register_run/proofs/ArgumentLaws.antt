-- The arguments of a run.
use Rattle.std.proofs.Common.{◌≡◌, ℕ, ◌<◌, ◌≤◌, Bool, IsTrue, List, [], ◌∷◌, length, get_or, codes, arith, sym, ap, ◌∙◌}
use Rattle.register_run.specs.Runs.{AreArguments}

-- the first of two arguments is the command
pub are_named : (arguments : List (List ℕ)) (command bytes : List ℕ) (test : Bool) → 2 ≤ length arguments → length arguments < 3 → command ≡ get_or arguments 0 command → bytes ≡ command
    → (IsTrue test → bytes ≡ codes "import") × (bytes ≡ codes "import" → IsTrue test) → (IsTrue test → AreArguments arguments) × (AreArguments arguments → IsTrue test)
are_named [] command bytes test two three is same spells = absurd (omega (arith, two))
are_named (word ∷ []) command bytes test two three is same spells = absurd (omega (arith, two))
are_named (word ∷ (store ∷ [])) command bytes test two three is same spells = (
  λ yes. record { store = store; spelled = ap (λ (l : List ℕ). l ∷ store ∷ []) (sym is ∙ (sym same ∙ spells.0 yes)) },
  λ are. let first : word ≡ codes "import" = cc are.spelled in spells.1 (same ∙ (is ∙ first)),
)
are_named (word ∷ (store ∷ (more ∷ rest))) command bytes test two three is same spells = absurd (omega (arith, three))
