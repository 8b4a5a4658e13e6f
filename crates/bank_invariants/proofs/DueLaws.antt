-- What is due may be done, and a run of due work is one.
use Rattle.std.proofs.Common.{◌≡◌, ℕ, zero, suc, ◌≤◌, ◌⊎◌, inl, inr, Bool, true, false, cond, eqb, fold, List, [], ◌∷◌, map, filter, length, Option, None, Some, refl, sym, ap, ◌∙◌, subst, arith}
use Rattle.std.specs.Prelude.{is_some, int_le}
use Rattle.std.specs.List.{AllByRecursion, flat_map}
use Rattle.std.specs.Option.{IfSome, option_map}
use Rattle.std.proofs.lemmas.Bool.{and_from, eq-eqb}
use Rattle.ofx_types.specs.declared.number.Day.{Day}
use Rattle.ofx_types.specs.declared.number.Moment.{Moment}
use Rattle.ofx_types.specs.declared.transfer.TransferRow.{TransferRow}
use Rattle.ofx_types.specs.declared.transfer.Change.{Change}
use Rattle.ofx_types.specs.declared.transfer.Change.TheVariants.{NewTransfer, SetTransfer, DropTransfer, NewModel, SetModel, DropModel, NewMail}
use Rattle.bank_model.specs.declared.entry.Entry.{Entry}
use Rattle.bank_model.specs.declared.setup.Setup.{Setup}
use Rattle.bank_model.specs.declared.event.State.{State}
use Rattle.bank_model.specs.declared.event.Event.{Event}
use Rattle.bank_model.specs.declared.event.Event.TheVariants.{Spawn}
use Rattle.bank_model.specs.Ledger.{row_of}
use Rattle.bank_model.specs.Models.{is_waiting, all_waiting, next_occurrence}
use Rattle.bank_model.specs.Due.{Task, has_number, last_day, is_to_post, may_post, date_to_make, is_before, or_earlier, first_task, task_on, makes, to_make, task_of, to_post}
use Rattle.bank_model.specs.Rules.{raised, state_after, IsLegal, post_event, spawn_or_post, due}
use Rattle.bank_model.specs.DueRun.{after_events, AreDue, run_length, IsDueRun}
use Rattle.bank_model.proofs.SetupWords.{some_is}
use Rattle.bank_model.proofs.Lists.{all_append}
use Rattle.bank_invariants.proofs.PendingLemmas.{IsHere, all_here}

-- ---- the first of some tasks is one of them

earlier_of : (P : Task → Type 0) (first task : Task) (b : Bool) → P first → P task → IfSome (cond b (Some task) (Some first)) P
earlier_of P first task true here there = there
earlier_of P first task false here there = here

or_earlier_of : (P : Task → Type 0) (before : Option Task) (task : Task) → IfSome before P → P task → IfSome (or_earlier before task) P
or_earlier_of P None task has here = here
or_earlier_of P (Some first) task has here = earlier_of P first task (is_before task first) has here

first_of : (P : Task → Type 0) (before : Option Task) (tasks : List Task) → IfSome before P → AllByRecursion P tasks → IfSome (fold or_earlier before tasks) P
first_of P before [] has all = has
first_of P before (task ∷ tasks) has all = first_of P (or_earlier before task) tasks (or_earlier_of P before task has all.0) all.1

-- ---- recurring transfers

abbrev pub Makes : Day → List Entry → Task → Type 0
Makes last entries task = date_to_make last task.id entries ≡ Some task.day

task_makes : (last : Day) (entries : List Entry) (id : ℕ) (date : Option Day) → date_to_make last id entries ≡ date → AllByRecursion (Makes last entries) (task_on id date)
task_makes last entries id None is = tt
task_makes last entries id (Some day) is = (is, tt)

change_makes : (last : Day) (entries : List Entry) (change : Change) → AllByRecursion (Makes last entries) (makes last entries change)
change_makes last entries (NewTransfer row) = tt
change_makes last entries (SetTransfer row) = tt
change_makes last entries (DropTransfer id) = tt
change_makes last entries (NewModel row) = task_makes last entries row.id (date_to_make last row.id entries) refl
change_makes last entries (SetModel row also) = tt
change_makes last entries (DropModel id also) = tt
change_makes last entries (NewMail mail) = tt

all_make : (last : Day) (all entries : List Entry) → AllByRecursion (Makes last all) (flat_map (λ (entry : Entry). makes last all entry.change) entries)
all_make last all [] = tt
all_make last all (entry ∷ entries) = all_append _ (makes last all entry.change) _ (change_makes last all entry.change) (all_make last all entries)

pub first_makes : (last : Day) (entries : List Entry) → IfSome (first_task (to_make last entries)) (Makes last entries)
unfolding to_make
first_makes last entries = first_of (Makes last entries) None _ tt (all_make last entries entries)

-- ---- transfers

abbrev pub IsPostable : Day → Task → Option TransferRow → Type 0
IsPostable day task None = ⊥
IsPostable day task (Some row) = (is_to_post day row ≡ true) × (task_of row ≡ task)

abbrev pub Posts : Day → List Entry → Task → Type 0
Posts day entries task = IsPostable day task (row_of task.id entries)

posts_kept : (day : Day) (entries : List Entry) (rows : List TransferRow) → AllByRecursion (IsHere entries) rows → AllByRecursion (Posts day entries) (map task_of (filter (λ (row : TransferRow). int_le row.due.0 day.0) rows))
posts_kept day entries [] here = tt
posts_kept day entries (row ∷ rows) here =
    (elim (int_le row.due.0 day.0) as (λ b. int_le row.due.0 day.0 ≡ b → AllByRecursion (Posts day entries) (map task_of (cond b (row ∷ filter (λ (r : TransferRow). int_le r.due.0 day.0) rows) (filter (λ (r : TransferRow). int_le r.due.0 day.0) rows)))) [
      | true ↦ (λ is. (subst (IsPostable day (task_of row)) (sym here.0.0) (and_from (is_waiting row.code) (int_le row.due.0 day.0) here.0.1 is, refl), posts_kept day entries rows here.1))
      | false ↦ (λ is. posts_kept day entries rows here.1)
    ]) refl

pub first_posts : (day : Day) (entries : List Entry) → IfSome (first_task (to_post day entries)) (Posts day entries)
unfolding to_post
first_posts day entries = first_of (Posts day entries) None _ tt (posts_kept day entries (all_waiting entries) (all_here entries))

-- ---- what is due may be done

post_may : (setup : Setup) (S : State) (task : Task) (found : Option TransferRow) → IsPostable S.day task found → has_number setup S ≡ true → may_post setup S found ≡ true
post_may setup S task None is left = absurd is
post_may setup S task (Some row) is left = and_from (is_to_post S.day row) (has_number setup S) is.0 left

legal_post : (setup : Setup) (S : State) (at : Moment) (task : Option Task) (event : Event) → IfSome task (Posts (raised S at).day S.entries) → has_number setup (raised S at) ≡ true → option_map post_event task ≡ Some event → IsLegal setup S at event
legal_post setup S at None event has left is = cc
legal_post setup S at (Some task) event has left is =
    subst (IsLegal setup S at) (some_is (post_event task) event is) (post_may setup (raised S at) task (row_of task.id S.entries) has left)

legal_either : (setup : Setup) (S : State) (at : Moment) (task : Option Task) (event : Event) → IfSome task (Makes (last_day setup (raised S at).day) S.entries) → has_number setup (raised S at) ≡ true → spawn_or_post (raised S at) task ≡ Some event → IsLegal setup S at event
legal_either setup S at None event has left is = legal_post setup S at (first_task (to_post (raised S at).day S.entries)) event (first_posts (raised S at).day S.entries) left is
legal_either setup S at (Some task) event has left is =
    subst (IsLegal setup S at) (some_is (Spawn task.id (next_occurrence task.id S.entries)) event is)
    (and_from _ (has_number setup (raised S at)) (and_from (is_some (date_to_make (last_day setup (raised S at).day) task.id S.entries)) (eqb (next_occurrence task.id S.entries) (next_occurrence task.id S.entries)) (ap is_some has) (eq-eqb (next_occurrence task.id S.entries) (next_occurrence task.id S.entries) refl)) left)

legal_in : (setup : Setup) (S : State) (at : Moment) (event : Event) (left : Bool) → has_number setup (raised S at) ≡ left → cond left (spawn_or_post (raised S at) (first_task (to_make (last_day setup (raised S at).day) S.entries))) None ≡ Some event → IsLegal setup S at event
legal_in setup S at event true left is = legal_either setup S at _ event (first_makes (last_day setup (raised S at).day) S.entries) left is
legal_in setup S at event false left is = cc

pub legal_due : (setup : Setup) (S : State) (at : Moment) (event : Event) → due setup S at ≡ Some event → IsLegal setup S at event
unfolding due
legal_due setup S at event is = legal_in setup S at event (has_number setup (raised S at)) refl is

pub legal_if_due : (setup : Setup) (S : State) (at : Moment) (found : Option Event) → found ≡ due setup S at → IfSome found (IsLegal setup S at)
legal_if_due setup S at None is = tt
legal_if_due setup S at (Some event) is = legal_due setup S at event (sym is)

-- ---- runs of due work

same_run : (setup : Setup) (S : State) (at : Moment) (most : ℕ) (events other : List Event) → AreDue setup S at events → AreDue setup S at other → length events ≤ most → length other ≤ most → (length events ≡ most) ⊎ (due setup (after_events setup S at events) at ≡ None) → (length other ≡ most) ⊎ (due setup (after_events setup S at other) at ≡ None) → events ≡ other
same_run setup S at most [] [] are others few fewer ends other_ends = refl
same_run setup S at most [] (event ∷ more) are others few fewer (inl full) other_ends = absurd (omega arith)
same_run setup S at most [] (event ∷ more) are others few fewer (inr none) other_ends = absurd (let both : None ≡ Some event = sym none ∙ others.0 in cc)
same_run setup S at most (event ∷ more) [] are others few fewer ends (inl full) = absurd (omega arith)
same_run setup S at most (event ∷ more) [] are others few fewer ends (inr none) = absurd (let both : None ≡ Some event = sym none ∙ are.0 in cc)
same_run setup S at zero (event ∷ more) (first ∷ rest) are others few fewer ends other_ends = absurd (omega arith)
same_run setup S at (suc most) (event ∷ more) (first ∷ rest) are others few fewer ends other_ends =
    let same : event ≡ first = some_is event first (sym are.0 ∙ others.0) in
    let suffix : AreDue setup (state_after setup S at event) at rest = subst (λ (e : Event). AreDue setup (state_after setup S at e) at rest) (sym same) others.1 in
    let other_end : (length rest ≡ most) ⊎ (due setup (after_events setup (state_after setup S at event) at rest) at ≡ None) =
    subst (λ (e : Event). (length rest ≡ most) ⊎ (due setup (after_events setup (state_after setup S at e) at rest) at ≡ None)) (sym same) (one_less rest most _ other_ends) in
    ap (λ (e : Event). e ∷ more) same ∙ ap (λ (l : List Event). first ∷ l) (same_run setup (state_after setup S at event) at most more rest are.1 suffix (omega arith) (omega arith) (one_less more most _ ends) other_end)
  where
    one_less : (list : List Event) (most : ℕ) (P : Type 0) → (suc (length list) ≡ suc most) ⊎ P → (length list ≡ most) ⊎ P
    one_less list most P (inl full) = inl (omega arith)
    one_less list most P (inr none) = inr none

pub one_run : (setup : Setup) (S : State) (at : Moment) (events other : List Event) → IsDueRun setup S at events → IsDueRun setup S at other → events ≡ other
one_run setup S at events other run run_other = same_run setup S at run_length events other run.are_due run_other.are_due run.few run_other.few run.ends run_other.ends
