-- Workers and their jobs, place by place.
use Rattle.std.proofs.Common.{◌≡◌, ℕ, List, length, map, Option, None, Some, refl, sym, ap, ◌∙◌, subst}
use Rattle.std.specs.List.{slice_get}
use Rattle.std.specs.Fn.{Shared, FnReturns}
use Rattle.std.specs.Fork.{GivesJobs}
use Rattle.std.proofs.lemmas.List.{length-map}
use Rattle.std.specs.Option.{option_map}
use Rattle.std.proofs.lemmas.Option.{slice_get-map, slice_get_within, get_or_from_slice_get}

same_some : {A B : Type 0} (f : A → B) (o : Option A) (b : B) → option_map f o ≡ Some b → (a : A) × (o ≡ Some a) × (f a ≡ b)
same_some f None b e = cc
same_some f (Some a) b e = (a, refl, cc)

-- a job has the doorway and the clock of the worker at its offset
pub record IsJobOf {J D C : Type 0} (door_of : J → D) (clock_of : J → C) (jobs : List J) (i : ℕ) (worker : D × C) : Type 0 where
  pub job : J
  pub at : slice_get jobs i ≡ Some job
  pub door : door_of job ≡ worker.0
  pub clock : clock_of job ≡ worker.1

pub job_of : {J D C : Type 0} (door_of : J → D) (clock_of : J → C) (jobs : List J) (workers : List (D × C)) → map door_of jobs ≡ map (λ worker. worker.0) workers
    → map clock_of jobs ≡ map (λ worker. worker.1) workers
    → (i : ℕ) (worker : D × C) → slice_get workers i ≡ Some worker → IsJobOf door_of clock_of jobs i worker
job_of {J} {D} {C} door_of clock_of jobs workers doors clocks i worker at =
    let first : (D × C) → D = λ w. w.0 in
    let second : (D × C) → C = λ w. w.1 in
    let door_there : option_map door_of (slice_get jobs i) ≡ Some worker.0 =
    sym (slice_get-map door_of jobs i) ∙ (ap (λ (l : List D). slice_get l i) doors ∙ (slice_get-map first workers i ∙ ap (option_map first) at)) in
    let clock_there : option_map clock_of (slice_get jobs i) ≡ Some worker.1 =
    sym (slice_get-map clock_of jobs i) ∙ (ap (λ (l : List C). slice_get l i) clocks ∙ (slice_get-map second workers i ∙ ap (option_map second) at)) in
    let found = same_some door_of (slice_get jobs i) worker.0 door_there in
    let again = same_some clock_of (slice_get jobs i) worker.1 clock_there in
    let one : found.0 ≡ again.0 = cc in
    record { job = found.0; at = found.1; door = found.2; clock = ap clock_of one ∙ again.2 }

pub as_many : {J D C : Type 0} (door_of : J → D) (jobs : List J) (workers : List (D × C)) → map door_of jobs ≡ map (λ worker. worker.0) workers → length jobs ≡ length workers
as_many {J} {D} {C} door_of jobs workers doors =
    let first : (D × C) → D = λ w. w.0 in
    sym (length-map jobs door_of) ∙ (ap length doors ∙ length-map workers first)

-- the call at each place is that of the job there, and gave what is there
pub each_call : {F J R : Type 0} (g : Shared F (J × Unit {0}) R) (f : F) (js : List J) (rs : List R) → GivesJobs g f js rs
    → (i : ℕ) (j : J) (r : R) → slice_get js i ≡ Some j → slice_get rs i ≡ Some r → FnReturns g f (j, tt) r
each_call g f js rs gives i j r at ended =
    let made = (gives i r (slice_get_within js i j at)).1 in
    let same : made.job ≡ j = sym (made.job_is j) ∙ get_or_from_slice_get js i j j at in
    subst (λ x. FnReturns g f (x, tt) r) same (subst (λ y. FnReturns g f (made.job, tt) y) (get_or_from_slice_get rs i r r ended) made.call)
