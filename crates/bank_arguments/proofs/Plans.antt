-- The arguments of `serve`.
use Rattle.std.proofs.Common.{◌≡◌, ℕ, ◌<◌, ◌≤◌, List, [], ◌∷◌, length, get_or, codes, Option, None, Some, arith, sym, ap, ◌∙◌, subst}
use Rattle.bank_arguments.specs.Plans.{AreServeArguments, ReadsNumbers, ReadsPlan}
use Rattle.bank_arguments.specs.declared.command.Plan.{Plan}

-- six words
six : (arguments : List (List ℕ)) (a b c d e f : List ℕ) → 6 ≤ length arguments → length arguments < 7
    → a ≡ get_or arguments 0 a → b ≡ get_or arguments 1 b → c ≡ get_or arguments 2 c → d ≡ get_or arguments 3 d → e ≡ get_or arguments 4 e → f ≡ get_or arguments 5 f
    → arguments ≡ a ∷ b ∷ c ∷ d ∷ e ∷ f ∷ []
six [] a b c d e f long short ea eb ec ed ee ef = absurd (omega (arith, long))
six (s ∷ []) a b c d e f long short ea eb ec ed ee ef = absurd (omega (arith, long))
six (s ∷ t ∷ []) a b c d e f long short ea eb ec ed ee ef = absurd (omega (arith, long))
six (s ∷ t ∷ u ∷ []) a b c d e f long short ea eb ec ed ee ef = absurd (omega (arith, long))
six (s ∷ t ∷ u ∷ v ∷ []) a b c d e f long short ea eb ec ed ee ef = absurd (omega (arith, long))
six (s ∷ t ∷ u ∷ v ∷ w ∷ []) a b c d e f long short ea eb ec ed ee ef = absurd (omega (arith, long))
six (s ∷ t ∷ u ∷ v ∷ w ∷ x ∷ []) a b c d e f long short ea eb ec ed ee ef = cc
six (s ∷ t ∷ u ∷ v ∷ w ∷ x ∷ y ∷ more) a b c d e f long short ea eb ec ed ee ef = absurd (omega (arith, short))

read_six : (arguments : List (List ℕ)) (setup records port workers most : List ℕ) (found : Option Plan) → arguments ≡ codes "serve" ∷ setup ∷ records ∷ port ∷ workers ∷ most ∷ []
    → ReadsNumbers port workers most found → ReadsPlan arguments found
read_six arguments setup records port workers most None spelled read = λ plan are.
    let same : (codes "serve" ∷ are.setup ∷ are.records ∷ are.port ∷ are.workers ∷ are.most ∷ []) ≡ (codes "serve" ∷ setup ∷ records ∷ port ∷ workers ∷ most ∷ []) = sym are.spelled ∙ spelled in
    let third : are.port ≡ port = ap (λ (l : List (List ℕ)). get_or l 3 []) same in
    let fourth : are.workers ≡ workers = ap (λ (l : List (List ℕ)). get_or l 4 []) same in
    let fifth : are.most ≡ most = ap (λ (l : List (List ℕ)). get_or l 5 []) same in
    read plan.port plan.workers plan.most (rw third at are.port_is) (rw fourth at are.workers_are) (rw fifth at are.most_is)
read_six arguments setup records port workers most (Some plan) spelled read = record {
  setup = setup;
  records = records;
  port = port;
  workers = workers;
  most = most;
  spelled = spelled;
  port_is = read.0;
  workers_are = read.1;
  most_is = read.2;
}

pub plan_read : (arguments : List (List ℕ)) (command setup records port workers most : List ℕ) (found : Option Plan) → 6 ≤ length arguments → length arguments < 7
    → command ≡ get_or arguments 0 command → setup ≡ get_or arguments 1 setup → records ≡ get_or arguments 2 records → port ≡ get_or arguments 3 port → workers ≡ get_or arguments 4 workers → most ≡ get_or arguments 5 most
    → command ≡ codes "serve" → ReadsNumbers port workers most found → ReadsPlan arguments found
plan_read arguments command setup records port workers most found long short e0 e1 e2 e3 e4 e5 is_serve read =
    let all = six arguments command setup records port workers most long short e0 e1 e2 e3 e4 e5 in
    let spelled : arguments ≡ codes "serve" ∷ setup ∷ records ∷ port ∷ workers ∷ most ∷ [] = cc in
    read_six arguments setup records port workers most found spelled read
