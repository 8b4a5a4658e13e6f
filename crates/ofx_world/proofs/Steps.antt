-- Steps one after another.
use Rattle.std.proofs.Common.{◌≡◌, ◌-◌, ◌≤◌, List, [], ◌∷◌, ◌++◌, length, get_or, take, drop, refl, sym, ap, subst, arith, ◌∙◌}
use Rattle.std.proofs.lemmas.List.{take_rest}
use Rattle.std.specs.List.{AllByRecursion}
use Rattle.ofx_world.specs.Kept.{HasLawfulClock}
use Rattle.ofx_world.specs.World.{WorldView, IsStep, AreSteps, IsCut, AreCutSteps}
use Rattle.ofx_world.specs.declared.step.Step.{Step}

-- A step, and then the others.
pub first_step : (before between after : WorldView) (step : Step) (more : List Step) → IsStep before step between → AreSteps between more after
    → AreSteps before (step ∷ more) after
first_step before between after step more is rest = (between, is, rest)

pub no_steps : (world : WorldView) → AreSteps world [] world
no_steps world = refl

-- A step, and then the others up to one that is refused.
pub first_cut : (before between after : WorldView) (step : Step) (more : List Step) → IsStep before step between → AreCutSteps between more after
    → AreCutSteps before (step ∷ more) after
first_cut before between after step more is rest = record {
  done = step ∷ rest.done;
  refused = rest.refused;
  left = rest.left;
  parts = ap (λ (steps : List Step). step ∷ steps) rest.parts;
  between = rest.between;
  steps = (between, is, rest.steps);
  cut = rest.cut;
}

-- The first step is refused.
pub cut_now : (before after : WorldView) (step : Step) (more : List Step) → IsCut before after → AreCutSteps before (step ∷ more) after
cut_now before after step more cut = record {
  done = [];
  refused = step;
  left = more;
  parts = refl;
  between = before;
  steps = refl;
  cut = cut;
}

-- ---- steps that are left

-- The first of them, and those after it.
parts : (left : List Step) (step : Step) → 1 ≤ length left → step ≡ get_or left 0 step → left ≡ step ∷ take (length left - 1) (drop 1 left)
parts [] step some here = absurd (omega (arith, some))
parts (first ∷ more) step some here = ap (λ (s : Step). s ∷ more) (sym here) ∙ ap (λ (steps : List Step). step ∷ steps) (sym (take_rest (first ∷ more) 1))

module _ (all left : List Step) (step : Step) (some : 1 ≤ length left) (here : step ≡ get_or left 0 step) (begun before between : WorldView) (is : IsStep before step between) where
  -- Once the first is made, the others end all of them,
  pub steps_on : ((after : WorldView) → AreSteps before left after → AreSteps begun all after) → (after : WorldView)
      → AreSteps between (take (length left - 1) (drop 1 left)) after → AreSteps begun all after
  steps_on ended after rest = ended after (subst (λ (steps : List Step). AreSteps before steps after) (sym (parts left step some here)) (between, is, rest))

  -- and so do those up to one that is refused.
  pub cut_on : ((after : WorldView) → AreCutSteps before left after → AreCutSteps begun all after) → (after : WorldView)
      → AreCutSteps between (take (length left - 1) (drop 1 left)) after → AreCutSteps begun all after
  cut_on ended after rest =
      ended after (subst (λ (steps : List Step). AreCutSteps before steps after) (sym (parts left step some here))
      (first_cut before between after step (take (length left - 1) (drop 1 left)) is rest))

  -- They are as lawful as all were.
  pub lawful_on : AllByRecursion HasLawfulClock left → AllByRecursion HasLawfulClock (take (length left - 1) (drop 1 left))
  lawful_on lawful = (subst (AllByRecursion HasLawfulClock) (parts left step some here) lawful).1
