-- The last of the tasks in order is the one that is to be done first.
use Rattle.std.proofs.Common.{◌≡◌, ℕ, suc, ◌<◌, ◌-◌, ◌⊎◌, inl, inr, Bool, true, false, cond, eqb, ◌&&◌, ◌||◌, List, [], ◌∷◌, length, get_or, map, filter, fold, Option, None, Some, ℤ, refl, sym, ap, ◌∙◌, subst, arith}
use Rattle.std.specs.Prelude.{int_le, int_lt, nat_lt, ◌<ℤ◌}
use Rattle.std.proofs.lemmas.Bool.Decides.{nat_tests}
use Rattle.std.proofs.lemmas.Option.{slice_get-get_or}
use Rattle.std.proofs.lemmas.Int.{ints}
use Rattle.std.proofs.lemmas.Cmp.{ranked, int_ranked, int_cmp_total, nat_cmp_total}
use Rattle.std.specs.List.{AllByRecursion, slice_get}
use Rattle.std.specs.List.Sorted.{IsStrictlySortedBy}
use Rattle.std.specs.Option.{option_map}
use Rattle.std.specs.Ordering.{eq_by_cmp, is_eq, ordering_then, int_cmp, nat_cmp, ordering_reverse, MatchOrdering}
use Rattle.std.specs.declared.cmp.Ordering.{Ordering}
use Rattle.std.specs.declared.cmp.Ordering.TheVariants.{Less, Equal, Greater}
use Rattle.ofx_types.specs.declared.number.Day.{Day}
use Rattle.ofx_types.specs.declared.transfer.TransferRow.{TransferRow}
use Rattle.bank_model.specs.Due.{Task, is_before, or_earlier, first_task, task_of}
use Rattle.bank_transfers.specs.declared.waiting.Made.{Made}
use Rattle.bank_transfers.specs.declared.waiting.DueTask.{DueTask}
use Rattle.bank_transfers.specs.Order.{has, is_key}
use Rattle.bank_transfers.specs.TransfersView.{row_found}
use Rattle.bank_transfers.specs.Waiting.{WaitingView, AreRows, task_order, task_key, AreListed}
use Rattle.bank_transfers.proofs.RisingLemmas.{each_found}

-- ---- the order of two tasks

-- an earlier day, or the same day and a lesser number
abbrev Earlier : ℤ → ℤ → ℕ → ℕ → Type 0
Earlier x y m n = (x <ℤ y) ⊎ ((x ≡ y) × (m < n))

less_parts : (x y : ℤ) (m n : ℕ) → ordering_then (int_cmp x y) (nat_cmp m n) ≡ Less → Earlier x y m n
less_parts x y m n is = by (int_cmp x y) (int_ranked x y (int_cmp x y) refl) is
  where
    low : (s : Ordering) → MatchOrdering s (m < n) (m ≡ n) (n < m) → s ≡ Less → m < n
    low Less rank less = rank
    low Equal rank less = cc
    low Greater rank less = cc

    by : (r : Ordering) → MatchOrdering r (x <ℤ y) (x ≡ y) (y <ℤ x) → ordering_then r (nat_cmp m n) ≡ Less → Earlier x y m n
    by Less rank less = inl rank
    by Equal rank less = inr (rank, low (nat_cmp m n) (ranked m n (nat_cmp m n) refl) less)
    by Greater rank less = cc

equal_parts : (x y : ℤ) (m n : ℕ) → ordering_then (int_cmp x y) (nat_cmp m n) ≡ Equal → (x ≡ y) × (m ≡ n)
equal_parts x y m n is = by (int_cmp x y) (int_ranked x y (int_cmp x y) refl) is
  where
    low : (s : Ordering) → MatchOrdering s (m < n) (m ≡ n) (n < m) → s ≡ Equal → m ≡ n
    low Less rank less = cc
    low Equal rank less = rank
    low Greater rank less = cc

    by : (r : Ordering) → MatchOrdering r (x <ℤ y) (x ≡ y) (y <ℤ x) → ordering_then r (nat_cmp m n) ≡ Equal → (x ≡ y) × (m ≡ n)
    by Less rank same = cc
    by Equal rank same = (rank, low (nat_cmp m n) (ranked m n (nat_cmp m n) refl) same)
    by Greater rank same = cc

lesser : (x y : ℤ) (m n : ℕ) → x <ℤ y → ((int_lt y x || (int_le y x && nat_lt n m)) ≡ false) × ((int_lt x y || (int_le x y && nat_lt m n)) ≡ true)
lesser x y m n less = (grind (arith, ints, nat_tests), grind (arith, ints, nat_tests))

same_day : (x : ℤ) (m n : ℕ) → m < n → ((int_lt x x || (int_le x x && nat_lt n m)) ≡ false) × ((int_lt x x || (int_le x x && nat_lt m n)) ≡ true)
same_day x m n less = (grind (arith, ints, nat_tests), grind (arith, ints, nat_tests))

itself : (x : ℤ) (m : ℕ) → (int_lt x x || (int_le x x && nat_lt m m)) ≡ false
itself x m = grind (arith, ints, nat_tests)

later_day : (x y z : ℤ) → x <ℤ y → int_le x z ≡ false → int_le y z ≡ false
later_day x y z less late = grind (arith, ints)

-- a task equals itself
own : (key : DueTask) → eq_by_cmp task_order key key ≡ true
own key = ap (λ r. is_eq (ordering_then r (nat_cmp key.id.0 key.id.0))) (day_itself key.day.0.0) ∙ ap is_eq (id_itself key.id.0)
  where
    turns : (r : Ordering) → r ≡ ordering_reverse r → r ≡ Equal
    turns Less is = cc
    turns Equal is = refl
    turns Greater is = cc

    day_itself : (x : ℤ) → int_cmp x x ≡ Equal
    day_itself x = turns (int_cmp x x) (int_cmp_total.antisymm x x)

    id_itself : (n : ℕ) → nat_cmp n n ≡ Equal
    id_itself n = turns (nat_cmp n n) (nat_cmp_total.antisymm n n)

-- ---- the least of some tasks

-- A task comes after another, or is the same.
abbrev Follows : Task → Task → Type 0
Follows first task = (is_before task first ≡ false) × (is_before first task ≡ false → task ≡ first)

abbrev IsIn : Task → List Task → Type 0
IsIn task [] = ⊥
IsIn task (one ∷ tasks) = (one ≡ task) ⊎ IsIn task tasks

stays : (first : Task) (tasks : List Task) → AllByRecursion (Follows first) tasks → fold or_earlier (Some first) tasks ≡ Some first
stays first [] follow = refl
stays first (task ∷ tasks) follow =
    ap (λ b. fold or_earlier (cond b (Some task) (Some first)) tasks) follow.0.0 ∙ stays first tasks follow.1

comes : (first before : Task) (tasks : List Task) → Follows first before → AllByRecursion (Follows first) tasks → IsIn first tasks → fold or_earlier (Some before) tasks ≡ Some first
comes first before [] suffix follow is = absurd is
comes first before (task ∷ tasks) suffix follow (inl same) =
    (elim (is_before first before) as (λ b. is_before first before ≡ b → fold or_earlier (cond (is_before task before) (Some task) (Some before)) tasks ≡ Some first) [
      | true ↦ (λ early. ap (λ (t : Task). fold or_earlier (cond (is_before t before) (Some t) (Some before)) tasks) same ∙ ap (λ b. fold or_earlier (cond b (Some first) (Some before)) tasks) early ∙ stays first tasks follow.1)
      | false ↦ (λ late. ap (λ (t : Task). fold or_earlier (cond (is_before t before) (Some t) (Some before)) tasks) same ∙ ap (λ b. fold or_earlier (cond b (Some first) (Some before)) tasks) late
          ∙ ap (λ (t : Task). fold or_earlier (Some t) tasks) (suffix.1 late) ∙ stays first tasks follow.1)
    ]) refl
comes first before (task ∷ tasks) suffix follow (inr rest) =
    elim (is_before task before) as (λ b. fold or_earlier (cond b (Some task) (Some before)) tasks ≡ Some first) [
      | true ↦ comes first task tasks follow.0 follow.1 rest
      | false ↦ comes first before tasks suffix follow.1 rest
    ]

least : (first : Task) (tasks : List Task) → AllByRecursion (Follows first) tasks → IsIn first tasks → first_task tasks ≡ Some first
least first [] follow is = absurd is
least first (task ∷ tasks) follow (inl same) = ap (λ (t : Task). fold or_earlier (Some t) tasks) same ∙ stays first tasks follow.1
least first (task ∷ tasks) follow (inr rest) = comes first task tasks follow.0 follow.1 rest

-- ---- the tasks of rows

abbrev task_held : DueTask → Task
task_held task = record { day = task.day.0; id = task.id.0 }

-- what is the same as the last of tasks in order, or one of those before it
abbrev IsAfter : DueTask → DueTask → Type 0
IsAfter last task = (task_order task last ≡ Equal) ⊎ (task_order task last ≡ Less)

abbrev IsLast : DueTask → List DueTask → Type 0
IsLast last [] = ⊥
IsLast last (task ∷ []) = task ≡ last
IsLast last (task ∷ next ∷ tasks) = IsLast last (next ∷ tasks)

last_is : (last : DueTask) (tasks : List DueTask) → slice_get tasks (length tasks - 1) ≡ Some last → IsLast last tasks
last_is last [] is = cc
last_is last (task ∷ []) is = let first : suc 0 - 1 ≡ 0 = omega arith in let same : Some task ≡ Some last = ap (slice_get (task ∷ [])) (sym first) ∙ is in cc
last_is last (task ∷ next ∷ tasks) is =
    let suffix : suc (suc (length tasks)) - 1 ≡ suc (suc (length tasks) - 1) = omega arith in
    last_is last (next ∷ tasks) (ap (slice_get (task ∷ next ∷ tasks)) (sym suffix) ∙ is)

equal_is : (r : Ordering) → is_eq r ≡ true → r ≡ Equal
equal_is Less is = cc
equal_is Equal is = refl
equal_is Greater is = cc

same_task : (a b : DueTask) → task_order a b ≡ Equal → a ≡ b
same_task a b same =
    let both = equal_parts b.day.0.0 a.day.0.0 b.id.0 a.id.0 same in
    let day = sym both.0 in
    let id = sym both.1 in
    (λ i. record { day = record { 0 = record { 0 = day i } }; id = record { 0 = id i } })

last_among : (last : DueTask) (tasks : List DueTask) → IsLast last tasks → has task_order tasks last ≡ true
last_among last [] end = absurd end
last_among last (task ∷ []) end = ap (λ (t : DueTask). eq_by_cmp task_order last t || false) end ∙ ap (λ b. b || false) (own last)
last_among last (task ∷ next ∷ tasks) end = ap (λ b. eq_by_cmp task_order last task || b) (last_among last (next ∷ tasks) end) ∙ or_true (eq_by_cmp task_order last task)
  where
    or_true : (b : Bool) → (b || true) ≡ true
    or_true true = refl
    or_true false = refl

before_last : (last task : DueTask) (tasks : List DueTask) → AllByRecursion (λ (t : DueTask). task_order task t ≡ Less) tasks → IsLast last tasks → task_order task last ≡ Less
before_last last task [] above end = absurd end
before_last last task (next ∷ []) above end = ap (task_order task) (sym end) ∙ above.0
before_last last task (next ∷ more ∷ tasks) above end = before_last last task (more ∷ tasks) above.1 end

after_last : (last key : DueTask) (tasks : List DueTask) → IsStrictlySortedBy task_order tasks → IsLast last tasks → has task_order tasks key ≡ true → IsAfter last key
unfolding IsStrictlySortedBy
after_last last key [] sorted end is = cc
after_last last key (task ∷ []) sorted end is =
    (elim (eq_by_cmp task_order key task) as (λ b. eq_by_cmp task_order key task ≡ b → (b || false) ≡ true → IsAfter last key) [
      | true ↦ (λ same any. inl (ap (task_order key) (sym end) ∙ equal_is (task_order key task) same))
      | false ↦ (λ other rest. cc)
    ]) refl is
after_last last key (task ∷ next ∷ tasks) sorted end is =
    (elim (eq_by_cmp task_order key task) as (λ b. eq_by_cmp task_order key task ≡ b → (b || has task_order (next ∷ tasks) key) ≡ true → IsAfter last key) [
      | true ↦ (λ same any. inr (ap (λ (t : DueTask). task_order t last) (same_task key task (equal_is (task_order key task) same)) ∙ before_last last task (next ∷ tasks) sorted.0 end))
      | false ↦ (λ other rest. after_last last key (next ∷ tasks) sorted.1 end rest)
    ]) refl is

follows_of : (first key : DueTask) → IsAfter first key → Follows (task_held first) (task_held key)
follows_of first key (inl same) =
    let is : task_held key ≡ task_held first = ap task_held (same_task key first same) in
    (ap (λ (t : Task). is_before t (task_held first)) is ∙ itself first.day.0.0 first.id.0, λ late. is)
follows_of first key (inr less) = by (less_parts first.day.0.0 key.day.0.0 first.id.0 key.id.0 less)
  where
    never : is_before (task_held first) (task_held key) ≡ true → is_before (task_held first) (task_held key) ≡ false → task_held key ≡ task_held first
    never early late = let no : true ≡ false = sym early ∙ late in cc

    by : Earlier first.day.0.0 key.day.0.0 first.id.0 key.id.0 → Follows (task_held first) (task_held key)
    by (inl low) = let both = lesser first.day.0.0 key.day.0.0 first.id.0 key.id.0 low in (both.0, never both.1)
    by (inr low) =
        let both = subst (λ (y : ℤ). ((int_lt y first.day.0.0 || (int_le y first.day.0.0 && nat_lt key.id.0 first.id.0)) ≡ false) × ((int_lt first.day.0.0 y || (int_le first.day.0.0 y && nat_lt first.id.0 key.id.0)) ≡ true)) low.0 (same_day first.day.0.0 first.id.0 key.id.0 low.1) in
        (both.0, never both.1)

not_due : (first key : DueTask) (day : Day) → IsAfter first key → int_le first.day.0.0 day.0 ≡ false → int_le key.day.0.0 day.0 ≡ false
not_due first key day (inl same) late = ap (λ (t : DueTask). int_le t.day.0.0 day.0) (same_task key first same) ∙ late
not_due first key day (inr less) late = by (less_parts first.day.0.0 key.day.0.0 first.id.0 key.id.0 less)
  where
    by : Earlier first.day.0.0 key.day.0.0 first.id.0 key.id.0 → int_le key.day.0.0 day.0 ≡ false
    by (inl low) = later_day first.day.0.0 key.day.0.0 day.0 low late
    by (inr low) = ap (λ (x : ℤ). int_le x day.0) (sym low.0) ∙ late

-- ---- the rows that are due

abbrev due : Day → List TransferRow → List TransferRow
due day rows = filter (λ (row : TransferRow). int_le row.due.0 day.0) rows

abbrev AreAfter : DueTask → List TransferRow → Type 0
AreAfter first rows = AllByRecursion (λ (row : TransferRow). IsAfter first (task_key row)) rows

due_follow : (first : DueTask) (day : Day) (rows : List TransferRow) → AreAfter first rows → AllByRecursion (Follows (task_held first)) (map task_of (due day rows))
due_follow first day [] suffix = tt
due_follow first day (row ∷ rows) suffix =
    elim (int_le row.due.0 day.0) as (λ b. AllByRecursion (Follows (task_held first)) (map task_of (cond b (row ∷ due day rows) (due day rows)))) [
      | true ↦ (follows_of first (task_key row) suffix.0, due_follow first day rows suffix.1)
      | false ↦ due_follow first day rows suffix.1
    ]

none_due : (first : DueTask) (day : Day) (rows : List TransferRow) → AreAfter first rows → int_le first.day.0.0 day.0 ≡ false → due day rows ≡ []
none_due first day [] suffix late = refl
none_due first day (row ∷ rows) suffix late =
    ap (λ b. cond b (row ∷ due day rows) (due day rows)) (not_due first (task_key row) day suffix.0 late) ∙ none_due first day rows suffix.1 late

in_due : (day : Day) (id : ℕ) (row : TransferRow) (rows : List TransferRow) → row_found id rows ≡ Some row → int_le row.due.0 day.0 ≡ true → IsIn (task_of row) (map task_of (due day rows))
in_due day id row [] found now = cc
in_due day id row (one ∷ rows) found now =
    (elim (eqb one.id id) as (λ b. cond b (Some one) (row_found id rows) ≡ Some row → IsIn (task_of row) (map task_of (cond (int_le one.due.0 day.0) (one ∷ due day rows) (due day rows)))) [
      | true ↦ (λ same. let is : one ≡ row = cc in
          subst (λ b. IsIn (task_of row) (map task_of (cond b (one ∷ due day rows) (due day rows)))) (sym (ap (λ (r : TransferRow). int_le r.due.0 day.0) is ∙ now)) (inl (ap task_of is)))
      | false ↦ (λ rest. skip (int_le one.due.0 day.0) (in_due day id row rows rest now))
    ]) found
  where
    skip : (b : Bool) → IsIn (task_of row) (map task_of (due day rows)) → IsIn (task_of row) (map task_of (cond b (one ∷ due day rows) (due day rows)))
    skip true is = inr is
    skip false is = is

-- ---- the last of what lists rows

-- a row's key is listed
listed_key : (waiting : WaitingView) (tasks : List DueTask) (made : List Made) (rows : List TransferRow) → AreListed waiting.rows tasks made → AreRows waiting rows → (row : TransferRow) → row_found row.id rows ≡ Some row → has task_order tasks (task_key row) ≡ true
listed_key waiting tasks made rows listed are row found =
    listed.by_day.are (task_key row) ∙ ap (is_key task_order task_key (task_key row)) (are.found row.id ∙ found) ∙ own (task_key row)

all_after : (waiting : WaitingView) (first : DueTask) (tasks : List DueTask) (made : List Made) (all : List TransferRow) → AreListed waiting.rows tasks made → IsLast first tasks → AreRows waiting all → (rows : List TransferRow) → AllByRecursion (λ (row : TransferRow). row_found row.id all ≡ Some row) rows → AreAfter first rows
all_after waiting first tasks made all listed end are [] found = tt
all_after waiting first tasks made all listed end are (row ∷ rows) found = (
  after_last first (task_key row) tasks listed.by_day.sorted end (listed_key waiting tasks made all listed are row found.0),
  all_after waiting first tasks made all listed end are rows found.1,
)

-- The row of a task is found.
its_row : (waiting : WaitingView) (task : DueTask) (tasks : List DueTask) (made : List Made) (rows : List TransferRow) → AreListed waiting.rows tasks made → has task_order tasks task ≡ true → AreRows waiting rows → (found : Option TransferRow) → row_found task.id.0 rows ≡ found
    → (row : TransferRow) × (found ≡ Some row) × (task_held task ≡ task_of row)
its_row waiting task tasks made rows listed there are found is =
    by found (sym (ap (is_key task_order task_key task) (are.found task.id.0 ∙ is)) ∙ sym (listed.by_day.are task) ∙ there)
  where
    by : (f : Option TransferRow) → is_key task_order task_key task f ≡ true → (row : TransferRow) × (f ≡ Some row) × (task_held task ≡ task_of row)
    by None never = cc
    by (Some row) same = (row, refl, ap task_held (same_task task (task_key row) (equal_is (task_order task (task_key row)) same)))

abbrev first_id : Day → List TransferRow → Option ℕ
first_id day rows = option_map (λ (task : Task). task.id) (first_task (map task_of (due day rows)))

first_of : (waiting : WaitingView) (first : DueTask) (tasks : List DueTask) (made : List Made) (rows : List TransferRow) (day : Day) → AreListed waiting.rows tasks made → IsLast first tasks → AreRows waiting rows → (b : Bool) → int_le first.day.0.0 day.0 ≡ b → cond b (Some first.id.0) None ≡ first_id day rows
first_of waiting first tasks made rows day listed end are false late =
    sym (ap (λ (l : List TransferRow). option_map (λ (task : Task). task.id) (first_task (map task_of l))) (none_due first day rows (all_after waiting first tasks made rows listed end are rows (each_found rows are.rise)) late))
first_of waiting first tasks made rows day listed end are true now =
    let its = its_row waiting first tasks made rows listed (last_among first tasks end) are (row_found first.id.0 rows) refl in
    let row = its.0 in
    let same : task_held first ≡ task_of row = its.2 in
    let is_in = in_due day first.id.0 row rows its.1 (ap (λ (t : Task). int_le t.day.0 day.0) (sym same) ∙ now) in
    sym (ap (option_map (λ (task : Task). task.id)) (least (task_held first) (map task_of (due day rows)) (due_follow first day rows (all_after waiting first tasks made rows listed end are rows (each_found rows are.rise))) (subst (λ (t : Task). IsIn t (map task_of (due day rows))) (sym same) is_in)))

pub first_due : (waiting : WaitingView) (first : DueTask) (tasks : List DueTask) (made : List Made) (rows : List TransferRow) (day : Day) → AreListed waiting.rows tasks made → AreRows waiting rows → slice_get tasks (length tasks - 1) ≡ Some first → cond (int_le first.day.0.0 day.0) (Some first.id.0) None ≡ first_id day rows
first_due waiting first tasks made rows day listed are is = first_of waiting first tasks made rows day listed (last_is first tasks is) are (int_le first.day.0.0 day.0) refl

-- Where nothing is listed, no row is due.
pub nothing_due : (waiting : WaitingView) (tasks : List DueTask) (made : List Made) (rows : List TransferRow) (day : Day) → AreListed waiting.rows tasks made → AreRows waiting rows → slice_get tasks (length tasks - 1) ≡ None → None ≡ first_id day rows
nothing_due waiting (task ∷ tasks) made rows day listed are is =
    let inside : suc (length tasks) - 1 < suc (length tasks) = omega arith in
    let some = slice_get-get_or (task ∷ tasks) (suc (length tasks) - 1) task inside in
    let no : Some (get_or (task ∷ tasks) (suc (length tasks) - 1) task) ≡ None = sym some ∙ is in cc
nothing_due waiting [] made [] day listed are is = refl
nothing_due waiting [] made (row ∷ rows) day listed are is =
    let no : false ≡ true = listed_key waiting [] made (row ∷ rows) listed are row (each_found (row ∷ rows) are.rise).0 in cc
