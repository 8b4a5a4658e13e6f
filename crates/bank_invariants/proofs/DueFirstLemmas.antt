-- What is due is the earliest of what the bank may do by itself.
use Rattle.std.proofs.Common.{◌≡◌, ℕ, ◌⊎◌, inl, inr, Bool, true, false, ◌&&◌, ◌||◌, cond, eqb, fold, List, [], ◌∷◌, ◌++◌, map, filter, ℤ, Option, None, Some, refl, sym, ap, ◌∙◌, subst, append_assoc, arith}
use Rattle.std.specs.Prelude.{is_some, int_le, int_lt, nat_lt, option_to_list}
use Rattle.std.specs.List.{AllByRecursion, flat_map}
use Rattle.std.specs.Option.{IfSome, option_map}
use Rattle.std.proofs.lemmas.Bool.{and_parts, eqb-true}
use Rattle.std.proofs.lemmas.Bool.Decides.{nat_tests}
use Rattle.std.proofs.lemmas.Int.{ints}
use Rattle.std.proofs.lemmas.List.{append-nil}
use Rattle.ofx_types.specs.declared.number.Day.{Day}
use Rattle.ofx_types.specs.declared.number.Moment.{Moment}
use Rattle.ofx_types.specs.declared.transfer.TransferRow.{TransferRow}
use Rattle.ofx_types.specs.declared.transfer.XferCode.TheVariants.{Cancelled}
use Rattle.ofx_types.specs.declared.transfer.Change.{Change}
use Rattle.ofx_types.specs.declared.transfer.Change.TheVariants.{NewTransfer, SetTransfer, DropTransfer, NewModel, SetModel, DropModel, NewMail}
use Rattle.ofx_types.specs.declared.recurring.ModelRow.{ModelRow}
use Rattle.bank_model.specs.declared.entry.Entry.{Entry}
use Rattle.bank_model.specs.declared.setup.Setup.{Setup}
use Rattle.bank_model.specs.declared.event.State.{State}
use Rattle.bank_model.specs.declared.event.Event.TheVariants.{Post, Spawn}
use Rattle.bank_model.specs.Ledger.{is_dropped, with_code, last_row, row_of}
use Rattle.bank_model.specs.Models.{is_waiting, made_in, all_waiting, model_in, if_model_named, or_model_before, model_of, next_occurrence}
use Rattle.bank_model.specs.Due.{Task, has_number, last_day, is_to_post, may_post, date_if_any, date_to_make, is_before, or_earlier, first_task, task_on, makes, to_make, task_of, to_post}
use Rattle.bank_model.specs.Rules.{raised, IsLegal, post_event, spawn_or_post, due}
use Rattle.bank_transfers.specs.Growth.{row_after}
use Rattle.bank_transfers.proofs.GrowthLemmas.{row_of-push}
use Rattle.bank_recur.proofs.GrowthLemmas.{model_of-push}
use Rattle.bank_invariants.specs.SoundStates.{IsSoundState, IsLawful, IsOfWaiting}
use Rattle.bank_invariants.specs.DueFirst.{NoneSpawns, NonePosts, MakesFor, SpawnsFirst, PostsFirst}
use Rattle.bank_invariants.proofs.SoundStateLemmas.{AreLawfulAt}
use Rattle.bank_invariants.proofs.SeriesLemmas.{lawful_next}
use Rattle.bank_invariants.proofs.DueLaws.{Makes, first_makes, IsPostable, Posts, first_posts}

-- ---- the first of some tasks comes after none of them

not_before_itself : (x : ℤ) (i : ℕ) → (int_lt x x || (int_le x x && nat_lt i i)) ≡ false
not_before_itself x i = grind (arith, ints, nat_tests)

not_before_earlier : (x y z : ℤ) (i j k : ℕ) → (int_lt x y || (int_le x y && nat_lt i j)) ≡ false → (int_lt z y || (int_le z y && nat_lt k j)) ≡ true → (int_lt x z || (int_le x z && nat_lt i k)) ≡ false
not_before_earlier x y z i j k late early = grind (arith, ints, nat_tests)

-- A first task is found, and the task isn't before it.
abbrev NotBefore : Task → Option Task → Type 0
NotBefore task None = ⊥
NotBefore task (Some first) = is_before task first ≡ false

earlier_still : (task first next : Task) (b : Bool) → is_before next first ≡ b → is_before task first ≡ false → NotBefore task (cond b (Some next) (Some first))
earlier_still task first next true early late = not_before_earlier task.day.0 first.day.0 next.day.0 task.id first.id next.id late early
earlier_still task first next false early late = late

not_before_later : (task : Task) (before : Option Task) (tasks : List Task) → NotBefore task before → NotBefore task (fold or_earlier before tasks)
not_before_later task before [] late = late
not_before_later task None (next ∷ tasks) late = absurd late
not_before_later task (Some first) (next ∷ tasks) late =
    not_before_later task (or_earlier (Some first) next) tasks (earlier_still task first next (is_before next first) refl late)

not_before_next : (task : Task) (before : Option Task) → NotBefore task (or_earlier before task)
not_before_next task None = not_before_itself task.day.0 task.id
not_before_next task (Some first) = next (is_before task first) refl
  where
    next : (b : Bool) → is_before task first ≡ b → NotBefore task (cond b (Some task) (Some first))
    next true early = not_before_itself task.day.0 task.id
    next false late = late

none_before : (before : Option Task) (tasks : List Task) → AllByRecursion (λ (task : Task). NotBefore task (fold or_earlier before tasks)) tasks
none_before before [] = tt
none_before before (task ∷ tasks) =
    (not_before_later task (or_earlier before task) tasks (not_before_next task before), none_before (or_earlier before task) tasks)

-- ---- entries that have a change of a kind

-- One of the entries has such a change.
abbrev Has : (Change → Type 0) → List Entry → Type 0
Has Q [] = ⊥
Has Q (entry ∷ entries) = Q entry.change ⊎ Has Q entries

has_prefix : (Q : Change → Type 0) (before entries : List Entry) → Has Q before → Has Q (before ++ entries)
has_prefix Q [] entries has = absurd has
has_prefix Q (entry ∷ before) entries (inl here) = inl here
has_prefix Q (entry ∷ before) entries (inr there) = inr (has_prefix Q before entries there)

has_last : (Q : Change → Type 0) (before : List Entry) (entry : Entry) → Q entry.change → Has Q (before ++ entry ∷ [])
has_last Q [] entry here = inl here
has_last Q (other ∷ before) entry here = inr (has_last Q before entry here)

-- What entries have only by such a change, or because those before it had it.
abbrev Begins : (Change → Type 0) → (List Entry → Bool) → Type 0
Begins Q found = (before : List Entry) (entry : Entry) → IsLawful before entry.change → found (before ++ entry ∷ []) ≡ true → Q entry.change ⊎ (found before ≡ true)

begun_after : (Q : Change → Type 0) (found : List Entry → Bool) → Begins Q found → (before entries : List Entry) → AreLawfulAt (before ++ entries) → (found before ≡ true → Has Q before) → found (before ++ entries) ≡ true → Has Q (before ++ entries)
begun_after Q found begins before [] lawful known is = subst (Has Q) (sym (append-nil before)) (known (subst (λ (l : List Entry). found l ≡ true) (append-nil before) is))
begun_after Q found begins before (entry ∷ entries) lawful known is =
    let grouped : (before ++ entry ∷ []) ++ entries ≡ before ++ entry ∷ entries = append_assoc before (entry ∷ []) entries in
    subst (Has Q) grouped
    (begun_after Q found begins (before ++ entry ∷ []) entries (subst AreLawfulAt (sym grouped) lawful)
    (λ more. either (begins before entry (lawful_next before entries entry lawful) more))
    (subst (λ (l : List Entry). found l ≡ true) (sym grouped) is))
  where
    either : Q entry.change ⊎ (found before ≡ true) → Has Q (before ++ entry ∷ [])
    either (inl here) = has_last Q before entry here
    either (inr there) = has_prefix Q before (entry ∷ []) (known there)

-- Lawful entries that have it have such a change.
begun : (Q : Change → Type 0) (found : List Entry → Bool) → Begins Q found → (found [] ≡ true → ⊥) → (entries : List Entry) → AreLawfulAt entries → found entries ≡ true → Has Q entries
begun Q found begins never entries lawful is = begun_after Q found begins [] entries lawful never is

both_parts : {X : Type 0} (P : X → Type 0) (xs ys : List X) → AllByRecursion P (xs ++ ys) → AllByRecursion P xs × AllByRecursion P ys
both_parts P [] ys all = (tt, all)
both_parts P (x ∷ xs) ys all = let rest = both_parts P xs ys all.1 in ((all.0, rest.0), rest.1)

-- what holds of all that changes give holds of what such a change gives
given_by : {X : Type 0} (P : X → Type 0) (G : Type 0) (Q : Change → Type 0) (gives : Change → List X) → ((change : Change) → Q change → AllByRecursion P (gives change) → G) → (entries : List Entry) → Has Q entries → AllByRecursion P (flat_map (λ (entry : Entry). gives entry.change) entries) → G
given_by P G Q gives by [] has all = absurd has
given_by P G Q gives by (entry ∷ entries) (inl here) all = by entry.change here (both_parts P (gives entry.change) _ all).0
given_by P G Q gives by (entry ∷ entries) (inr there) all = given_by P G Q gives by entries there (both_parts P (gives entry.change) _ all).1

-- ---- recurring transfers

abbrev MakesModel : ℕ → Change → Type 0
MakesModel id (NewTransfer row) = ⊥
MakesModel id (SetTransfer row) = ⊥
MakesModel id (DropTransfer gone) = ⊥
MakesModel id (NewModel row) = row.id ≡ id
MakesModel id (SetModel row also) = ⊥
MakesModel id (DropModel gone also) = ⊥
MakesModel id (NewMail mail) = ⊥

model_new : (id : ℕ) (found : Option ModelRow) (row : ModelRow) (b : Bool) → eqb row.id id ≡ b → is_some (or_model_before found (cond b (Some row) None)) ≡ true → (row.id ≡ id) ⊎ (is_some found ≡ true)
model_new id found row true same is = inl (eqb-true row.id id same)
model_new id found row false other is = inr is

model_set : (id : ℕ) (before : List Entry) (row : ModelRow) (b : Bool) → eqb row.id id ≡ b → is_some (model_of row.id before) ≡ true → is_some (or_model_before (model_of id before) (cond b (Some row) None)) ≡ true → is_some (model_of id before) ≡ true
model_set id before row true same there is = subst (λ (n : ℕ). is_some (model_of n before) ≡ true) (eqb-true row.id id same) there
model_set id before row false other there is = is

model_begins : (id : ℕ) (before : List Entry) (change : Change) → IsLawful before change → is_some (or_model_before (model_of id before) (if_model_named id (model_in change))) ≡ true → MakesModel id change ⊎ (is_some (model_of id before) ≡ true)
model_begins id before (NewTransfer row) lawful is = inr is
model_begins id before (SetTransfer row) lawful is = inr is
model_begins id before (DropTransfer gone) lawful is = inr is
model_begins id before (NewModel row) lawful is = model_new id (model_of id before) row (eqb row.id id) refl is
model_begins id before (SetModel row also) lawful is = inr (model_set id before row (eqb row.id id) refl lawful.0.0 is)
model_begins id before (DropModel gone also) lawful is = inr is
model_begins id before (NewMail mail) lawful is = inr is

no_model : (id : ℕ) → is_some (model_of id []) ≡ true → ⊥
unfolding model_of
no_model id is = cc

-- a recurring transfer that has a row was made by an entry
has_model : (id : ℕ) (entries : List Entry) → AreLawfulAt entries → is_some (model_of id entries) ≡ true → Has (MakesModel id) entries
has_model id entries lawful there =
    begun (MakesModel id) (λ (l : List Entry). is_some (model_of id l))
    (λ before entry law is. model_begins id before entry.change law (subst (λ (r : Option ModelRow). is_some r ≡ true) (model_of-push id before entry) is))
    (no_model id) entries lawful there

dated_model : (last : Day) (id : ℕ) (entries : List Entry) (date : Day) (found : Option ModelRow) → date_if_any last id entries found ≡ Some date → is_some found ≡ true
dated_model last id entries date None is = cc
dated_model last id entries date (Some row) is = refl

model_there : (last : Day) (id : ℕ) (entries : List Entry) (date : Day) → date_to_make last id entries ≡ Some date → is_some (model_of id entries) ≡ true
unfolding date_to_make
model_there last id entries date is = dated_model last id entries date (model_of id entries) is

made_task : (P : Task → Type 0) (last : Day) (entries : List Entry) (id : ℕ) (date : Day) → date_to_make last id entries ≡ Some date → (change : Change) → MakesModel id change → AllByRecursion P (makes last entries change) → P (record { day = date; id = id })
made_task P last entries id date is (NewTransfer row) new all = absurd new
made_task P last entries id date is (SetTransfer row) new all = absurd new
made_task P last entries id date is (DropTransfer gone) new all = absurd new
made_task P last entries id date is (NewModel row) new all =
    (subst (λ (found : Option Day). AllByRecursion P (task_on id found)) is (subst (λ (n : ℕ). AllByRecursion P (task_on n (date_to_make last n entries))) new all)).0
made_task P last entries id date is (SetModel row also) new all = absurd new
made_task P last entries id date is (DropModel gone also) new all = absurd new
made_task P last entries id date is (NewMail mail) new all = absurd new

-- what a recurring transfer has to make is one of the tasks
to_make_has : (P : Task → Type 0) (last : Day) (entries : List Entry) (id : ℕ) (date : Day) → AreLawfulAt entries → date_to_make last id entries ≡ Some date → AllByRecursion P (to_make last entries) → P (record { day = date; id = id })
unfolding to_make
to_make_has P last entries id date lawful is all =
    given_by P (P (record { day = date; id = id })) (MakesModel id) (makes last entries) (made_task P last entries id date is) entries (has_model id entries lawful (model_there last id entries date is)) all

-- ---- transfers

abbrev MakesTransfer : ℕ → Change → Type 0
MakesTransfer id (NewTransfer row) = row.id ≡ id
MakesTransfer id (SetTransfer row) = ⊥
MakesTransfer id (DropTransfer gone) = ⊥
MakesTransfer id (NewModel row) = ⊥
MakesTransfer id (SetModel row also) = ⊥
MakesTransfer id (DropModel gone also) = ⊥
MakesTransfer id (NewMail mail) = ⊥

row_new : (id : ℕ) (found given : Option TransferRow) (row : TransferRow) (b : Bool) → eqb row.id id ≡ b → is_some (cond b given found) ≡ true → (row.id ≡ id) ⊎ (is_some found ≡ true)
row_new id found given row true same is = inl (eqb-true row.id id same)
row_new id found given row false other is = inr is

of_waiting : (given : TransferRow) (found : Option TransferRow) → IsOfWaiting given found → is_some found ≡ true
of_waiting given None lawful = absurd lawful
of_waiting given (Some row) lawful = refl

row_set : (id : ℕ) (before : List Entry) (given : Option TransferRow) (row : TransferRow) (b : Bool) → eqb row.id id ≡ b → is_some (row_of row.id before) ≡ true → is_some (cond b given (row_of id before)) ≡ true → is_some (row_of id before) ≡ true
row_set id before given row true same there is = subst (λ (n : ℕ). is_some (row_of n before) ≡ true) (eqb-true row.id id same) there
row_set id before given row false other there is = is

row_dropped : (found : Option TransferRow) (b : Bool) → is_some (cond b (option_map (with_code Cancelled) found) found) ≡ true → is_some found ≡ true
row_dropped None true is = is
row_dropped None false is = is
row_dropped (Some row) b is = refl

row_begins : (id : ℕ) (before : List Entry) (change : Change) → IsLawful before change → is_some (row_after id (is_dropped id before) (row_of id before) change) ≡ true → MakesTransfer id change ⊎ (is_some (row_of id before) ≡ true)
row_begins id before (NewTransfer row) lawful is = row_new id (row_of id before) _ row (eqb row.id id) refl is
row_begins id before (SetTransfer row) lawful is = inr (row_set id before _ row (eqb row.id id) refl (of_waiting row (row_of row.id before) lawful) is)
row_begins id before (DropTransfer gone) lawful is = inr (row_dropped (row_of id before) (eqb gone id) is)
row_begins id before (NewModel row) lawful is = inr is
row_begins id before (SetModel row also) lawful is = inr is
row_begins id before (DropModel gone also) lawful is = inr is
row_begins id before (NewMail mail) lawful is = inr is

no_row : (id : ℕ) → is_some (row_of id []) ≡ true → ⊥
unfolding row_of last_row
no_row id is = cc

-- a transfer that has a row was made by an entry
has_transfer : (id : ℕ) (entries : List Entry) → AreLawfulAt entries → is_some (row_of id entries) ≡ true → Has (MakesTransfer id) entries
has_transfer id entries lawful there =
    begun (MakesTransfer id) (λ (l : List Entry). is_some (row_of id l))
    (λ before entry law is. row_begins id before entry.change law (subst (λ (r : Option TransferRow). is_some r ≡ true) (row_of-push id before entry) is))
    (no_row id) entries lawful there

made_row : (P : TransferRow → Type 0) (entries : List Entry) (id : ℕ) (row : TransferRow) → row_of id entries ≡ Some row → (change : Change) → MakesTransfer id change → AllByRecursion P (made_in entries change) → P row
made_row P entries id row is (NewTransfer given) new all =
    (subst (λ (found : Option TransferRow). AllByRecursion P (option_to_list found)) (ap (λ (n : ℕ). row_of n entries) new ∙ is) all).0
made_row P entries id row is (SetTransfer given) new all = absurd new
made_row P entries id row is (DropTransfer gone) new all = absurd new
made_row P entries id row is (NewModel given) new all = absurd new
made_row P entries id row is (SetModel given also) new all = absurd new
made_row P entries id row is (DropModel gone also) new all = absurd new
made_row P entries id row is (NewMail mail) new all = absurd new

unfiltered : {X : Type 0} (P : X → Type 0) (p : X → Bool) (xs : List X) → AllByRecursion P (filter p xs) → AllByRecursion (λ (x : X). p x ≡ true → P x) xs
unfiltered P p [] all = tt
unfiltered {X} P p (x ∷ xs) all = kept (p x) refl all (unfiltered P p xs)
  where
    kept : (b : Bool) → p x ≡ b → AllByRecursion P (cond b (x ∷ filter p xs) (filter p xs)) → (AllByRecursion P (filter p xs) → AllByRecursion (λ (y : X). p y ≡ true → P y) xs) → (p x ≡ true → P x) × AllByRecursion (λ (y : X). p y ≡ true → P y) xs
    kept true is all rest = ((λ same. all.0), rest all.1)
    kept false is all rest = ((λ same. let no : true ≡ false = sym same ∙ is in cc), rest all)

unmapped : {X Y : Type 0} (P : Y → Type 0) (f : X → Y) (xs : List X) → AllByRecursion P (map f xs) → AllByRecursion (λ (x : X). P (f x)) xs
unmapped P f [] all = tt
unmapped P f (x ∷ xs) all = (all.0, unmapped P f xs all.1)

-- a transfer that waits and is due is one of the tasks
to_post_has : (P : Task → Type 0) (day : Day) (entries : List Entry) (id : ℕ) (row : TransferRow) → AreLawfulAt entries → row_of id entries ≡ Some row → is_to_post day row ≡ true → AllByRecursion P (to_post day entries) → P (task_of row)
unfolding to_post all_waiting
to_post_has P day entries id row lawful is may all =
    let parts = and_parts (is_waiting row.code) (int_le row.due.0 day.0) may in
    given_by _ (P (task_of row)) (MakesTransfer id) (made_in entries)
    (λ change new each. made_row (λ (one : TransferRow). is_waiting one.code ≡ true → int_le one.due.0 day.0 ≡ true → P (task_of one)) entries id row is change new each parts.0 parts.1)
    entries (has_transfer id entries lawful (ap is_some is))
    (unfiltered _ (λ (one : TransferRow). is_waiting one.code) _ (unfiltered _ (λ (one : TransferRow). int_le one.due.0 day.0) _ (unmapped P task_of _ all)))

-- ---- what may be done isn't before the first task

spawn_late : (setup : Setup) (S : State) (at : Moment) (id : ℕ) (date : Day) → AreLawfulAt S.entries → MakesFor setup S at id date → NotBefore (record { day = date; id = id }) (first_task (to_make (last_day setup (raised S at).day) S.entries))
spawn_late setup S at id date lawful is =
    let last : Day = last_day setup (raised S at).day in
    to_make_has (λ (task : Task). NotBefore task (first_task (to_make last S.entries))) last S.entries id date lawful is (none_before None (to_make last S.entries))

post_late : (setup : Setup) (S : State) (at : Moment) (id : ℕ) (row : TransferRow) → AreLawfulAt S.entries → IsLegal setup S at (Post id) → row_of id S.entries ≡ Some row → NotBefore (task_of row) (first_task (to_post (raised S at).day S.entries))
post_late setup S at id row lawful may is =
    let day : Day = (raised S at).day in
    to_post_has (λ (task : Task). NotBefore task (first_task (to_post day S.entries))) day S.entries id row lawful is
    (and_parts (is_to_post day row) (has_number setup (raised S at)) (subst (λ (found : Option TransferRow). may_post setup (raised S at) found ≡ true) is may)).0
    (none_before None (to_post day S.entries))

spawn_parts : (setup : Setup) (S : State) (at : Moment) (id occurrence : ℕ) → IsLegal setup S at (Spawn id occurrence) → (is_some (date_to_make (last_day setup (raised S at).day) id S.entries) ≡ true) × (has_number setup (raised S at) ≡ true)
spawn_parts setup S at id occurrence may =
    let parts = and_parts (is_some (date_to_make (last_day setup (raised S at).day) id S.entries) && eqb occurrence (next_occurrence id S.entries)) (has_number setup (raised S at)) may in
    ((and_parts (is_some (date_to_make (last_day setup (raised S at).day) id S.entries)) (eqb occurrence (next_occurrence id S.entries)) parts.0).0, parts.1)

no_spawn : (setup : Setup) (S : State) (at : Moment) → AreLawfulAt S.entries → first_task (to_make (last_day setup (raised S at).day) S.entries) ≡ None → NoneSpawns setup S at
no_spawn setup S at lawful none id occurrence may = dated (date_to_make (last_day setup (raised S at).day) id S.entries) refl (spawn_parts setup S at id occurrence may).0
  where
    dated : (date : Option Day) → date_to_make (last_day setup (raised S at).day) id S.entries ≡ date → is_some date ≡ true → ⊥
    dated None is some = cc
    dated (Some date) is some = subst (NotBefore (record { day = date; id = id })) none (spawn_late setup S at id date lawful is)

no_post : (setup : Setup) (S : State) (at : Moment) → AreLawfulAt S.entries → first_task (to_post (raised S at).day S.entries) ≡ None → NonePosts setup S at
no_post setup S at lawful none id may = found (row_of id S.entries) refl may
  where
    found : (row : Option TransferRow) → row_of id S.entries ≡ row → may_post setup (raised S at) row ≡ true → ⊥
    found None is legal = cc
    found (Some row) is legal = subst (NotBefore (task_of row)) none (post_late setup S at id row lawful may is)

-- ---- without a number left

full_spawn : (setup : Setup) (S : State) (at : Moment) → has_number setup (raised S at) ≡ false → NoneSpawns setup S at
full_spawn setup S at full id occurrence may = let left : false ≡ true = sym full ∙ (spawn_parts setup S at id occurrence may).1 in cc

full_post : (setup : Setup) (S : State) (at : Moment) → has_number setup (raised S at) ≡ false → NonePosts setup S at
full_post setup S at full id may = found (row_of id S.entries) may
  where
    found : (row : Option TransferRow) → may_post setup (raised S at) row ≡ true → ⊥
    found None legal = cc
    found (Some row) legal = let left : false ≡ true = sym full ∙ (and_parts (is_to_post (raised S at).day row) (has_number setup (raised S at)) legal).1 in cc

-- ---- nothing is due

no_task : (task : Option Task) → option_map post_event task ≡ None → task ≡ None
no_task None is = refl
no_task (Some task) is = cc

nothing_first : (setup : Setup) (S : State) (at : Moment) → AreLawfulAt S.entries → (task : Option Task) → first_task (to_make (last_day setup (raised S at).day) S.entries) ≡ task → spawn_or_post (raised S at) task ≡ None → NoneSpawns setup S at × NonePosts setup S at
nothing_first setup S at lawful None none is = (no_spawn setup S at lawful none, no_post setup S at lawful (no_task (first_task (to_post (raised S at).day S.entries)) is))
nothing_first setup S at lawful (Some task) found is = cc

nothing_in : (setup : Setup) (S : State) (at : Moment) → AreLawfulAt S.entries → (left : Bool) → has_number setup (raised S at) ≡ left → cond left (spawn_or_post (raised S at) (first_task (to_make (last_day setup (raised S at).day) S.entries))) None ≡ None → NoneSpawns setup S at × NonePosts setup S at
nothing_in setup S at lawful true left is = nothing_first setup S at lawful _ refl is
nothing_in setup S at lawful false full is = (full_spawn setup S at full, full_post setup S at full)

pub nothing_due : (setup : Setup) (S : State) (at : Moment) → IsSoundState setup S → due setup S at ≡ None → NoneSpawns setup S at × NonePosts setup S at
unfolding due
nothing_due setup S at sound is = nothing_in setup S at sound.lawful (has_number setup (raised S at)) refl is

-- ---- a recurring transfer is due to make its next transfer

no_spawn_event : (task : Option Task) (id occurrence : ℕ) → option_map post_event task ≡ Some (Spawn id occurrence) → ⊥
no_spawn_event None id occurrence is = cc
no_spawn_event (Some task) id occurrence is = cc

spawn_first : (setup : Setup) (S : State) (at : Moment) (id occurrence : ℕ) → AreLawfulAt S.entries → (task : Option Task) → first_task (to_make (last_day setup (raised S at).day) S.entries) ≡ task → IfSome task (Makes (last_day setup (raised S at).day) S.entries) → spawn_or_post (raised S at) task ≡ Some (Spawn id occurrence) → SpawnsFirst setup S at id
spawn_first setup S at id occurrence lawful None none makes is = absurd (no_spawn_event (first_task (to_post (raised S at).day S.entries)) id occurrence is)
spawn_first setup S at id occurrence lawful (Some task) found makes is =
    let same : task.id ≡ id = cc in
    record {
      date = task.day;
      has = subst (λ (n : ℕ). MakesFor setup S at n task.day) same makes;
      first = λ other occurrence its may has.
          subst (λ (n : ℕ). is_before (record { day = its; id = other }) (record { day = task.day; id = n }) ≡ false) same
          (subst (NotBefore (record { day = its; id = other })) found (spawn_late setup S at other its lawful has));
    }

spawn_in : (setup : Setup) (S : State) (at : Moment) (id occurrence : ℕ) → AreLawfulAt S.entries → (left : Bool) → cond left (spawn_or_post (raised S at) (first_task (to_make (last_day setup (raised S at).day) S.entries))) None ≡ Some (Spawn id occurrence) → SpawnsFirst setup S at id
spawn_in setup S at id occurrence lawful true is = spawn_first setup S at id occurrence lawful _ refl (first_makes (last_day setup (raised S at).day) S.entries) is
spawn_in setup S at id occurrence lawful false is = cc

pub spawn_due : (setup : Setup) (S : State) (at : Moment) (id occurrence : ℕ) → IsSoundState setup S → due setup S at ≡ Some (Spawn id occurrence) → SpawnsFirst setup S at id
unfolding due
spawn_due setup S at id occurrence sound is = spawn_in setup S at id occurrence sound.lawful (has_number setup (raised S at)) is

-- ---- a transfer is due to be posted

posted_row : (setup : Setup) (S : State) (at : Moment) (id : ℕ) (task : Task) → AreLawfulAt S.entries → NoneSpawns setup S at → first_task (to_post (raised S at).day S.entries) ≡ Some task → (found : Option TransferRow) → row_of id S.entries ≡ found → IsPostable (raised S at).day task found → PostsFirst setup S at id
posted_row setup S at id task lawful none first None has posts = absurd posts
posted_row setup S at id task lawful none first (Some row) has posts = record {
  none_spawns = none;
  row = row;
  has = has;
  first = λ other its may is.
      subst (λ (t : Task). is_before (task_of its) t ≡ false) (sym posts.1)
      (subst (NotBefore (task_of its)) first (post_late setup S at other its lawful may is));
}

post_first : (setup : Setup) (S : State) (at : Moment) (id : ℕ) → AreLawfulAt S.entries → NoneSpawns setup S at → (task : Option Task) → first_task (to_post (raised S at).day S.entries) ≡ task → IfSome task (Posts (raised S at).day S.entries) → option_map post_event task ≡ Some (Post id) → PostsFirst setup S at id
post_first setup S at id lawful none None first posts is = cc
post_first setup S at id lawful none (Some task) first posts is =
    let same : task.id ≡ id = cc in
    posted_row setup S at id task lawful none first (row_of id S.entries) refl (subst (λ (n : ℕ). IsPostable (raised S at).day task (row_of n S.entries)) same posts)

post_either : (setup : Setup) (S : State) (at : Moment) (id : ℕ) → AreLawfulAt S.entries → (task : Option Task) → first_task (to_make (last_day setup (raised S at).day) S.entries) ≡ task → spawn_or_post (raised S at) task ≡ Some (Post id) → PostsFirst setup S at id
post_either setup S at id lawful None none is =
    post_first setup S at id lawful (no_spawn setup S at lawful none) _ refl (first_posts (raised S at).day S.entries) is
post_either setup S at id lawful (Some task) found is = cc

post_in : (setup : Setup) (S : State) (at : Moment) (id : ℕ) → AreLawfulAt S.entries → (left : Bool) → cond left (spawn_or_post (raised S at) (first_task (to_make (last_day setup (raised S at).day) S.entries))) None ≡ Some (Post id) → PostsFirst setup S at id
post_in setup S at id lawful true is = post_either setup S at id lawful _ refl is
post_in setup S at id lawful false is = cc

pub post_due : (setup : Setup) (S : State) (at : Moment) (id : ℕ) → IsSoundState setup S → due setup S at ≡ Some (Post id) → PostsFirst setup S at id
unfolding due
post_due setup S at id sound is = post_in setup S at id sound.lawful (has_number setup (raised S at)) is
