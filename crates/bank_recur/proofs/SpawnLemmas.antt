-- The first of all next transfers, where it is made by a last day, is what the rules make first by it.
use Rattle.std.proofs.Common.{◌≡◌, ℕ, ℤ, ◌⊎◌, inl, inr, Bool, true, false, ◌||◌, ◌&&◌, cond, eqb, nat_lt, List, [], ◌∷◌, ◌++◌, fold, Option, None, Some, refl, sym, ap, ◌∙◌, subst, arith}
use Rattle.std.proofs.lemmas.Bool.{eqb-true}
use Rattle.std.proofs.lemmas.Bool.Decides.{nat_tests}
use Rattle.std.proofs.lemmas.Grind.{flat_map-append}
use Rattle.std.proofs.lemmas.Int.{ints}
use Rattle.std.proofs.lemmas.List.{append-nil}
use Rattle.std.proofs.lemmas.List.Folds.{flat_map-map}
use Rattle.std.specs.Option.{option_map}
use Rattle.std.specs.Prelude.{int_le, int_lt}
use Rattle.std.specs.List.{AllByRecursion, flat_map}
use Rattle.ofx_types.specs.declared.number.Day.{Day}
use Rattle.ofx_types.specs.declared.transfer.Change.{Change}
use Rattle.ofx_types.specs.declared.transfer.Change.TheVariants.{NewTransfer, SetTransfer, DropTransfer, NewModel, SetModel, DropModel, NewMail}
use Rattle.bank_model.specs.declared.entry.Entry.{Entry}
use Rattle.bank_model.specs.Models.{model_of, is_model_dropped, next_occurrence}
use Rattle.bank_model.specs.Due.{Task, date_in_series, if_by, date_to_make, date_if_any, is_before, or_earlier, first_task, task_on, makes, to_make}
use Rattle.bank_recur.specs.Ahead.{IsAhead}
use Rattle.bank_recur.specs.ModelsView.{Series, ModelsView, series_found, is_cancelled_series, id_made, ids_made, Represents}
use Rattle.bank_recur.specs.Spawning.{date_ahead, date_ahead_of, date_by, date_found}
use Rattle.bank_recur.specs.Upcoming.{UpcomingView, IsFirst, day_in}
use Rattle.bank_recur.specs.declared.spawn.Spawn.{Spawn}
use Rattle.bank_recur.proofs.RepresentsLemmas.{occurrence_is}

-- ---- what is to be made, series by series

abbrev made_of : Day → List Entry → ℕ → List Task
made_of last entries id = task_on id (date_to_make last id entries)

makes_id : (last : Day) (entries : List Entry) (change : Change) → makes last entries change ≡ flat_map (made_of last entries) (id_made change)
makes_id last entries (NewTransfer row) = refl
makes_id last entries (SetTransfer row) = refl
makes_id last entries (DropTransfer id) = refl
makes_id last entries (NewModel row) = sym (append-nil (made_of last entries row.id))
makes_id last entries (SetModel row pending) = refl
makes_id last entries (DropModel id pending) = refl
makes_id last entries (NewMail mail) = refl

makes_ids : (last : Day) (all entries : List Entry) → flat_map (λ (entry : Entry). makes last all entry.change) entries ≡ flat_map (made_of last all) (ids_made entries)
makes_ids last all [] = refl
makes_ids last all (entry ∷ entries) =
    ap (λ ts. ts ++ flat_map (λ (e : Entry). makes last all e.change) entries) (makes_id last all entry.change)
    ∙ ap (λ ts. flat_map (made_of last all) (id_made entry.change) ++ ts) (makes_ids last all entries)
    ∙ sym (flat_map-append (made_of last all) (id_made entry.change) (ids_made entries))

to_make_series : (last : Day) (models : ModelsView) (entries : List Entry) → Represents models entries → to_make last entries ≡ flat_map (λ (one : Series). made_of last entries one.row.id) models.series
unfolding to_make
to_make_series last models entries holds =
    makes_ids last entries entries
    ∙ ap (flat_map (made_of last entries)) (sym holds.order)
    ∙ flat_map-map (made_of last entries) (λ (one : Series). one.row.id) models.series

-- ---- one by its id

pub date_is : (last : Day) (models : ModelsView) (entries : List Entry) (id : ℕ) → Represents models entries → date_found last (series_found id models.series) ≡ date_to_make last id entries
unfolding date_to_make
date_is last models entries id holds = looked (series_found id models.series) refl
  where
    looked : (found : Option Series) → series_found id models.series ≡ found → date_found last found ≡ date_if_any last id entries (model_of id entries)
    looked None is = sym (ap (date_if_any last id entries) (sym (holds.rows id) ∙ ap (option_map (λ (o : Series). o.row)) is))
    looked (Some one) is =
        let row : model_of id entries ≡ Some one.row = sym (holds.rows id) ∙ ap (option_map (λ (o : Series). o.row)) is in
        let dropped : is_model_dropped id entries ≡ one.cancelled = sym (holds.dropped id) ∙ ap is_cancelled_series is in
        sym (ap (date_if_any last id entries) row
        ∙ ap (λ b. cond b None (if_by last (date_in_series one.row (next_occurrence id entries)))) dropped
        ∙ ap (λ n. cond one.cancelled None (if_by last (date_in_series one.row n))) (sym (occurrence_is id one models entries holds is)))

-- ---- the first of tasks

-- a test on what equals two numbers
pub early_by : (x y first last : ℤ) (early : Bool) → x ≡ first → y ≡ last → int_le x y ≡ early → int_le first last ≡ early
early_by x y first last early one other is = sym (ap (λ n. int_le n y) one ∙ ap (int_le first) other) ∙ is

too_late : (x y last : ℤ) (i j : ℕ) → (int_lt x y || (int_le x y && nat_lt i j)) ≡ false → int_le x last ≡ true → int_le y last ≡ false → ⊥
too_late x y last i j late early after = grind (arith, ints, nat_tests)

same_task : (x y : ℤ) (i j : ℕ) → (int_lt x y || (int_le x y && nat_lt i j)) ≡ false → (int_lt y x || (int_le y x && nat_lt j i)) ≡ false → (x ≡ y) × (i ≡ j)
same_task x y i j late early = (grind (arith, ints, nat_tests), grind (arith, ints, nat_tests))

abbrev Has : Task → List Task → Type 0
Has task [] = ⊥
Has task (other ∷ tasks) = (other ≡ task) ⊎ Has task tasks

has_after : (task : Task) (prefix rest : List Task) → Has task rest → Has task (prefix ++ rest)
has_after task [] rest has = has
has_after task (other ∷ prefix) rest has = inr (has_after task prefix rest has)

-- No task that was met comes before it.
abbrev IsLate : Task → Option Task → Type 0
IsLate task None = Unit {0}
IsLate task (Some other) = is_before other task ≡ false

still_late : (task other : Task) (met : Option Task) → IsLate task met → is_before other task ≡ false → IsLate task (or_earlier met other)
still_late task other None late is = is
still_late task other (Some first) late is = chosen (is_before other first)
  where
    chosen : (b : Bool) → IsLate task (cond b (Some other) (Some first))
    chosen true = is
    chosen false = late

taken : (task : Task) (met : Option Task) → IsLate task met → or_earlier met task ≡ Some task
taken task None late = refl
taken task (Some first) late = chosen (is_before task first) refl
  where
    chosen : (b : Bool) → is_before task first ≡ b → cond b (Some task) (Some first) ≡ Some task
    chosen true e = refl
    chosen false e =
        let same = same_task first.day.0 task.day.0 first.id task.id late e in
        (λ i. Some (record { day = record { 0 = same.0 i }; id = same.1 i }))

stays : (task : Task) (tasks : List Task) → AllByRecursion (λ (other : Task). is_before other task ≡ false) tasks → fold or_earlier (Some task) tasks ≡ Some task
stays task [] late = refl
stays task (other ∷ tasks) late = ap (λ b. fold or_earlier (cond b (Some other) (Some task)) tasks) late.0 ∙ stays task tasks late.1

-- A task that no other one comes before is the first.
least : (task : Task) (met : Option Task) (tasks : List Task) → IsLate task met → AllByRecursion (λ (other : Task). is_before other task ≡ false) tasks → Has task tasks → fold or_earlier met tasks ≡ Some task
least task met [] late all has = absurd has
least task met (other ∷ tasks) late all (inl same) = ap (λ (t : Task). fold or_earlier (or_earlier met t) tasks) same ∙ ap (λ first. fold or_earlier first tasks) (taken task met late) ∙ stays task tasks all.1
least task met (other ∷ tasks) late all (inr has) = least task (or_earlier met other) tasks (still_late task other met late all.0) all.1 has

-- ---- the dates ahead are those of what is to be made

-- What is to be made is among the next transfers, and its day is no later than the last one.
record IsMade (last : Day) (upcoming : UpcomingView) (task : Task) : Type 0 where
  ahead : day_in task.id upcoming.spawns ≡ Some task.day
  early : int_le task.day.0 last.0 ≡ true

date_parts : (last : Day) (one : Series) (day : Day) → date_by last one ≡ Some day → (date_ahead one ≡ Some day) × (int_le day.0 last.0 ≡ true)
date_parts last one day is = dropped one.cancelled (date_in_series one.row one.occurrence) is
  where
    early : (b : Bool) (date : Day) → int_le date.0 last.0 ≡ b → cond b (Some date) None ≡ Some day → (Some date ≡ Some day) × (int_le day.0 last.0 ≡ true)
    early true date e is = (is, let same : date ≡ day = cc in ap (λ (d : Day). int_le d.0 last.0) (sym same) ∙ e)
    early false date e is = cc

    dated : (date : Option Day) → if_by last date ≡ Some day → (date ≡ Some day) × (int_le day.0 last.0 ≡ true)
    dated None is = cc
    dated (Some date) is = early (int_le date.0 last.0) date refl is

    dropped : (b : Bool) (date : Option Day) → cond b None (if_by last date) ≡ Some day → (cond b None date ≡ Some day) × (int_le day.0 last.0 ≡ true)
    dropped true date is = cc
    dropped false date is = dated date is

date_from : (last : Day) (one : Series) (day : Day) → date_ahead one ≡ Some day → int_le day.0 last.0 ≡ true → date_by last one ≡ Some day
date_from last one day is early = dropped one.cancelled (date_in_series one.row one.occurrence) is
  where
    dropped : (b : Bool) (date : Option Day) → cond b None date ≡ Some day → cond b None (if_by last date) ≡ Some day
    dropped true date is = cc
    dropped false date is = ap (if_by last) is ∙ ap (λ b. cond b (Some day) None) early

module _ (last : Day) (models : ModelsView) (entries : List Entry) (upcoming : UpcomingView) (ahead : IsAhead models.series upcoming) (holds : Represents models entries) where
  made : (id : ℕ) (day : Day) → date_to_make last id entries ≡ Some day → IsMade last upcoming (record { day = day; id = id })
  made id day is = looked (series_found id models.series) refl (date_is last models entries id holds ∙ is)
    where
      looked : (found : Option Series) → series_found id models.series ≡ found → date_found last (series_found id models.series) ≡ Some day → IsMade last upcoming (record { day = day; id = id })
      looked None same is = let none = ap (date_found last) (sym same) ∙ is in cc
      looked (Some one) same is =
          let parts = date_parts last one day (ap (date_found last) (sym same) ∙ is) in
          record { ahead = ahead.days id ∙ ap date_ahead_of same ∙ parts.0; early = parts.1 }

  all_made : (series : List Series) → AllByRecursion (IsMade last upcoming) (flat_map (λ (one : Series). made_of last entries one.row.id) series)
  all_made [] = tt
  all_made (one ∷ series) = joined (date_to_make last one.row.id entries) refl (all_made series)
    where
      joined : (date : Option Day) → date_to_make last one.row.id entries ≡ date → AllByRecursion (IsMade last upcoming) (flat_map (λ (o : Series). made_of last entries o.row.id) series) → AllByRecursion (IsMade last upcoming) (task_on one.row.id date ++ flat_map (λ (o : Series). made_of last entries o.row.id) series)
      joined None is more = more
      joined (Some day) is more = (made one.row.id day is, more)

  has_made : (id : ℕ) (day : Day) (one : Series) (series : List Series) → series_found id series ≡ Some one → date_to_make last id entries ≡ Some day → Has (record { day = day; id = id }) (flat_map (λ (o : Series). made_of last entries o.row.id) series)
  has_made id day one [] found is = cc
  has_made id day one (s ∷ series) found is =
      named (λ more. has_after (record { day = day; id = id }) (made_of last entries s.row.id) (flat_map (λ (o : Series). made_of last entries o.row.id) series) (has_made id day one series more is)) (eqb s.row.id id) refl found
    where
      named : (series_found id series ≡ Some one → Has (record { day = day; id = id }) (made_of last entries s.row.id ++ flat_map (λ (o : Series). made_of last entries o.row.id) series)) → (b : Bool) → eqb s.row.id id ≡ b → cond b (Some s) (series_found id series) ≡ Some one → Has (record { day = day; id = id }) (made_of last entries s.row.id ++ flat_map (λ (o : Series). made_of last entries o.row.id) series)
      named more true e found =
          let same = eqb-true s.row.id id e in
          subst (λ (tasks : List Task). Has (record { day = day; id = id }) (tasks ++ flat_map (λ (o : Series). made_of last entries o.row.id) series)) (sym (ap (made_of last entries) same ∙ ap (task_on id) is)) (inl refl)
      named more false e found = more found

  has_first : (first : Spawn) → day_in first.id upcoming.spawns ≡ Some first.day → int_le first.day.0 last.0 ≡ true → Has (record { day = first.day; id = first.id }) (flat_map (λ (one : Series). made_of last entries one.row.id) models.series)
  has_first first is early = looked (series_found first.id models.series) refl (sym (ahead.days first.id) ∙ is)
    where
      looked : (found : Option Series) → series_found first.id models.series ≡ found → date_ahead_of (series_found first.id models.series) ≡ Some first.day → Has (record { day = first.day; id = first.id }) (flat_map (λ (one : Series). made_of last entries one.row.id) models.series)
      looked None same is = let none = ap date_ahead_of (sym same) ∙ is in cc
      looked (Some one) same is =
          let date = date_from last one first.day (ap date_ahead_of (sym same) ∙ is) early in
          has_made first.id first.day one models.series same (sym (date_is last models entries first.id holds) ∙ ap (date_found last) same ∙ date)

  late_made : (first : Spawn) → ((id : ℕ) (day : Day) → day_in id upcoming.spawns ≡ Some day → is_before (record { day = day; id = id }) (record { day = first.day; id = first.id }) ≡ false) → (tasks : List Task) → AllByRecursion (IsMade last upcoming) tasks → AllByRecursion (λ (other : Task). is_before other (record { day = first.day; id = first.id }) ≡ false) tasks
  late_made first least [] all = tt
  late_made first least (other ∷ tasks) all = (least other.id other.day all.0.ahead, late_made first least tasks all.1)

  -- Nothing is made where the first is made after the last day.
  none_made : (first : Spawn) → ((id : ℕ) (day : Day) → day_in id upcoming.spawns ≡ Some day → is_before (record { day = day; id = id }) (record { day = first.day; id = first.id }) ≡ false) → int_le first.day.0 last.0 ≡ false → (tasks : List Task) → AllByRecursion (IsMade last upcoming) tasks → first_task tasks ≡ None
  none_made first least late [] all = refl
  none_made first least late (other ∷ tasks) all = absurd (too_late other.day.0 first.day.0 last.0 other.id first.id (least other.id other.day all.0.ahead) all.0.early late)

  nothing_made : ((id : ℕ) → day_in id upcoming.spawns ≡ None) → (tasks : List Task) → AllByRecursion (IsMade last upcoming) tasks → first_task tasks ≡ None
  nothing_made none [] all = refl
  nothing_made none (other ∷ tasks) all = let is : Some other.day ≡ None = sym all.0.ahead ∙ none other.id in cc

  pub first_made : (first : Spawn) → IsFirst (Some first) upcoming.spawns → int_le first.day.0 last.0 ≡ true → first_task (to_make last entries) ≡ Some (record { day = first.day; id = first.id })
  first_made first is early =
      ap first_task (to_make_series last models entries holds)
      ∙ least (record { day = first.day; id = first.id }) None (flat_map (λ (one : Series). made_of last entries one.row.id) models.series) tt (late_made first is.1 (flat_map (λ (one : Series). made_of last entries one.row.id) models.series) (all_made models.series)) (has_first first is.0 early)

  pub none_by : (first : Spawn) → IsFirst (Some first) upcoming.spawns → int_le first.day.0 last.0 ≡ false → first_task (to_make last entries) ≡ None
  none_by first is late =
      ap first_task (to_make_series last models entries holds)
      ∙ none_made first is.1 late (flat_map (λ (one : Series). made_of last entries one.row.id) models.series) (all_made models.series)

  pub none_ahead : IsFirst None upcoming.spawns → first_task (to_make last entries) ≡ None
  none_ahead none =
      ap first_task (to_make_series last models entries holds)
      ∙ nothing_made none (flat_map (λ (one : Series). made_of last entries one.row.id) models.series) (all_made models.series)
