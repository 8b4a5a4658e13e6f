-- Which event comes next, from the transfers and recurring transfers that are found first.
use Rattle.std.proofs.Common.{◌≡◌, ℕ, ◌+◌, ◌<◌, Bool, true, false, not, cond, ltb, Option, None, Some, length, ℤ, refl, sym, ap, ◌∙◌, arith}
use Rattle.std.specs.Prelude.{is_some, IfSome, IfNone}
use Rattle.std.specs.Int.{int_max}
use Rattle.std.specs.Option.{option_map}
use Rattle.std.proofs.lemmas.Bool.{ltb-true, ltb-false}
use Rattle.ofx_types.specs.Calendar.{day_of}
use Rattle.ofx_types.specs.declared.number.Day.{Day}
use Rattle.ofx_types.specs.declared.number.Moment.{Moment}
use Rattle.bank_model.specs.declared.setup.Setup.{Setup}
use Rattle.bank_model.specs.declared.event.State.{State}
use Rattle.bank_model.specs.declared.event.Event.{Event}
use Rattle.bank_model.specs.declared.event.Event.TheVariants.{Post, Spawn}
use Rattle.bank_model.specs.Models.{next_occurrence}
use Rattle.bank_model.specs.Due.{Task, last_day, first_task, to_make, to_post}
use Rattle.bank_model.specs.Rules.{raised, post_event, spawn_or_post, due}

abbrev full_or : Bool → Option Event → Option Event
full_or full next = cond (not full) next None

full_is : (most count : ℕ) (b : Bool) → ltb most (count + 1) ≡ b → count ≡ most → b ≡ true
full_is most count true test is = refl
full_is most count false test is = absurd (let no = ltb-false most (count + 1) test in omega arith)

left_is : (most count : ℕ) (b : Bool) → ltb most (count + 1) ≡ b → count < most → b ≡ false
left_is most count false test below = refl
left_is most count true test below = absurd (let no = ltb-true most (count + 1) test in omega arith)

-- Nothing is due where no number is left.
pub due_full : (setup : Setup) (S : State) (at : Moment) → length S.entries ≡ setup.entries → due setup S at ≡ None
unfolding due
due_full setup S at is =
    ap (λ (b : Bool). full_or b (spawn_or_post (raised S at) (first_task (to_make (last_day setup (raised S at).day) S.entries)))) (full_is setup.entries (length S.entries) (ltb setup.entries (length S.entries + 1)) refl is)

due_left : (setup : Setup) (S : State) (at : Moment) → length S.entries < setup.entries → due setup S at ≡ spawn_or_post (raised S at) (first_task (to_make (last_day setup (raised S at).day) S.entries))
unfolding due
due_left setup S at below =
    ap (λ (b : Bool). full_or b (spawn_or_post (raised S at) (first_task (to_make (last_day setup (raised S at).day) S.entries)))) (left_is setup.entries (length S.entries) (ltb setup.entries (length S.entries + 1)) refl below)

abbrev place_of : State → Task → ℕ × ℕ
place_of S task = (task.id, next_occurrence task.id S.entries)

abbrev id_of : Task → ℕ
id_of task = task.id

spawn_found : (S : State) (task : Option Task) (next : ℕ × ℕ) → Some next ≡ option_map (place_of S) task → Some (Spawn next.0 next.1) ≡ spawn_or_post S task
spawn_found S None next is = cc
spawn_found S (Some task) next is = some_spawn (some_pair next (place_of S task) is)
  where
    some_pair : (a b : ℕ × ℕ) → Some a ≡ Some b → a ≡ b
    some_pair a b is = cc

    some_spawn : next ≡ place_of S task → Some (Spawn next.0 next.1) ≡ Some (Spawn task.id (next_occurrence task.id S.entries))
    some_spawn is = ap (λ (n : ℕ × ℕ). Some (Spawn n.0 n.1)) is

none_found : (S : State) (task : Option Task) → None ≡ option_map (place_of S) task → spawn_or_post S task ≡ option_map post_event (first_task (to_post S.day S.entries))
none_found S None is = refl
none_found S (Some task) is = cc

post_found : (task : Option Task) (id : ℕ) → Some id ≡ option_map id_of task → Some (Post id) ≡ option_map post_event task
post_found None id is = cc
post_found (Some task) id is = some_post id task.id is
  where
    some_post : (a b : ℕ) → Some a ≡ Some b → Some (Post a) ≡ Some (Post b)
    some_post a b is = cc

nothing_found : (task : Option Task) → None ≡ option_map id_of task → None ≡ option_map post_event task
nothing_found None is = refl
nothing_found (Some task) is = cc

-- ---- what the look-ups told

pub none_left : (found : Option ℕ) (none : Bool) (P : Type 0) → is_some found ≡ not none → none ≡ true → IfNone found P → P
none_left None none P is test reported = reported
none_left (Some n) true P is test reported = cc
none_left (Some n) false P is test reported = cc

pub some_left : (found : Option ℕ) (none : Bool) (P : Type 0) → is_some found ≡ not none → none ≡ false → IfSome found (λ (n : ℕ). P) → P
some_left (Some n) none P is test reported = reported
some_left None true P is test reported = cc
some_left None false P is test reported = cc

abbrev day_at : ℤ → Day
day_at z = record { 0 = z }

pub day_raised : (S : State) (at : Moment) (before day : Day) → before ≡ S.day → day.0 ≡ int_max before.0 (day_of at.0) → day ≡ (raised S at).day
day_raised S at before day is later = ap day_at (later ∙ ap (λ (d : Day). int_max d.0 (day_of at.0)) is)

abbrev next_to_make : State → Day → Option (ℕ × ℕ)
next_to_make S last = option_map (place_of S) (first_task (to_make last S.entries))

abbrev next_to_post : State → Day → Option ℕ
next_to_post S day = option_map id_of (first_task (to_post day S.entries))

-- A recurring transfer makes its next transfer.
pub due_spawn : (setup : Setup) (S : State) (at : Moment) (day last : Day) (next : ℕ × ℕ) → length S.entries < setup.entries → day ≡ (raised S at).day → last ≡ last_day setup day → Some next ≡ next_to_make S last → Some (Spawn next.0 next.1) ≡ due setup S at
due_spawn setup S at day last next below is_day is_last is =
    spawn_found (raised S at) _ next (is ∙ ap (next_to_make S) (is_last ∙ ap (last_day setup) is_day)) ∙ sym (due_left setup S at below)

-- Otherwise a transfer is posted.
pub due_post : (setup : Setup) (S : State) (at : Moment) (day last : Day) (id : ℕ) → length S.entries < setup.entries → day ≡ (raised S at).day → last ≡ last_day setup day → None ≡ next_to_make S last → Some id ≡ next_to_post S day → Some (Post id) ≡ due setup S at
due_post setup S at day last id below is_day is_last none is =
    post_found _ id (is ∙ ap (next_to_post S) is_day) ∙ sym (none_found (raised S at) _ (none ∙ ap (next_to_make S) (is_last ∙ ap (last_day setup) is_day))) ∙ sym (due_left setup S at below)

pub due_nothing : (setup : Setup) (S : State) (at : Moment) (day last : Day) → length S.entries < setup.entries → day ≡ (raised S at).day → last ≡ last_day setup day → None ≡ next_to_make S last → None ≡ next_to_post S day → None ≡ due setup S at
due_nothing setup S at day last below is_day is_last none is =
    nothing_found _ (is ∙ ap (next_to_post S) is_day) ∙ sym (none_found (raised S at) _ (none ∙ ap (next_to_make S) (is_last ∙ ap (last_day setup) is_day))) ∙ sym (due_left setup S at below)
