-- The arguments of the command `serve`.
use Rattle.std.specs.Prelude.{◌≡◌, ℕ, List, [], ◌∷◌, codes, Option, None, Some}
use Rattle.program_arguments.specs.Numbers.{IsNumber}
use Rattle.bank_arguments.specs.declared.command.Plan.{Plan}

-- The word `serve`, the path of the setup, where the records are kept, the port, how many workers there are, and how many
-- connections each of them serves, where 0 is without an end.
pub record AreServeArguments (arguments : List (List ℕ)) (plan : Plan) : Type 0 where
  pub setup : List ℕ
  pub records : List ℕ
  pub port : List ℕ
  pub workers : List ℕ
  pub most : List ℕ
  pub spelled : arguments ≡ codes "serve" ∷ setup ∷ records ∷ port ∷ workers ∷ most ∷ []
  pub port_is : IsNumber 1 65535 port plan.port
  pub workers_are : IsNumber 1 64 workers plan.workers
  pub most_is : IsNumber 0 4294967295 most plan.most

-- Other arguments have no form.
abbrev pub IsServeUsage : List (List ℕ) → Type 0
IsServeUsage arguments = (plan : Plan) → AreServeArguments arguments plan → ⊥

-- Three arguments are read exactly where they are numbers within their bounds.
abbrev pub ReadsNumbers : List ℕ → List ℕ → List ℕ → Option Plan → Type 0
ReadsNumbers port workers most None = (p w m : ℕ) → IsNumber 1 65535 port p → IsNumber 1 64 workers w → IsNumber 0 4294967295 most m → ⊥
ReadsNumbers port workers most (Some plan) =
    IsNumber 1 65535 port plan.port × IsNumber 1 64 workers plan.workers × IsNumber 0 4294967295 most plan.most

-- Arguments are read exactly where they have their form.
abbrev pub ReadsPlan : List (List ℕ) → Option Plan → Type 0
ReadsPlan arguments None = IsServeUsage arguments
ReadsPlan arguments (Some plan) = AreServeArguments arguments plan
