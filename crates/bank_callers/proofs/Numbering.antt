-- Entries that are numbered one after another, and numbers that are below what comes next.
use Rattle.std.proofs.Common.{◌≡◌, ℕ, zero, suc, ◌+◌, ◌<◌, ◌≤◌, Bool, true, false, cond, List, [], ◌∷◌, ◌++◌, map, filter, fold, length, get_or, sym, ap, ◌∙◌, subst, add-zero, length-append, arith}
use Rattle.std.specs.Prelude.{All}
use Rattle.std.specs.List.{AllByRecursion}
use Rattle.std.proofs.lemmas.List.{get_or_default}
use Rattle.std.proofs.lemmas.List.Elements.{All-nil, All-cons, All-append}
use Rattle.ofx_types.specs.declared.number.ObjectId.{ObjectId}
use Rattle.bank_model.specs.declared.entry.Entry.{Entry}
use Rattle.bank_model.specs.declared.event.State.{State}
use Rattle.bank_model.specs.declared.log.LogItem.{LogItem}
use Rattle.bank_model.specs.declared.setup.Setup.{Setup}
use Rattle.bank_model.specs.Log.{entries_in}
use Rattle.bank_model.specs.Objects.{belongs_to, history_of, newest}
use Rattle.bank_callers.specs.Belonging.{object_count}
use Rattle.token_board.specs.Following.{AreNumbered}
use Rattle.token_board.specs.Tokens.{added, number_of, numbers_in}
use Rattle.bank_callers.specs.Boards.{AreNewest}

-- ---- entries by their indices

pub numbered_from : (n : ℕ) (xs : List Entry) → ((k : ℕ) (d : Entry) → k < length xs → (get_or xs k d).number ≡ n + k) → AreNumbered n xs
numbered_from n [] h = tt
numbered_from n (x ∷ xs) h = (h 0 x (omega arith) ∙ add-zero n, numbered_from (n + 1) xs later)
  where
    later : (k : ℕ) (d : Entry) → k < length xs → (get_or xs k d).number ≡ (n + 1) + k
    later k d less = let e = h (suc k) d (omega arith) in let same : n + suc k ≡ (n + 1) + k = omega arith in e ∙ same

pub first_numbered : (n : ℕ) (xs ys : List Entry) → AreNumbered n (xs ++ ys) → AreNumbered n xs
first_numbered n [] ys h = tt
first_numbered n (x ∷ xs) ys h = (h.0, first_numbered (n + 1) xs ys h.1)

pub rest_numbered : (n : ℕ) (xs ys : List Entry) → AreNumbered n (xs ++ ys) → AreNumbered (n + length xs) ys
rest_numbered n [] ys h = subst (λ (m : ℕ). AreNumbered m ys) (sym (add-zero n)) h
rest_numbered n (x ∷ xs) ys h =
    let same : (n + 1) + length xs ≡ n + length (x ∷ xs) = omega arith in
    subst (λ (m : ℕ). AreNumbered m ys) same (rest_numbered (n + 1) xs ys h.1)

pub each_under : (n most : ℕ) (xs : List Entry) → AreNumbered n xs → n + length xs ≤ most → AllByRecursion (λ (e : Entry). e.number < most) xs
each_under n most [] h le = tt
each_under n most (x ∷ xs) h le = (let is = h.0 in omega arith, each_under (n + 1) most xs h.1 (omega arith))

pub rest_of_all : {X : Type 0} (P : X → Type 0) (xs ys : List X) → AllByRecursion P (xs ++ ys) → AllByRecursion P ys
rest_of_all P [] ys all = all
rest_of_all P (x ∷ xs) ys all = rest_of_all P xs ys all.1

-- ---- newest numbers

abbrev last_after : ℕ → ObjectId → List Entry → ℕ
last_after so_far object entries = fold (λ (number : ℕ) (entry : Entry). entry.number) so_far (filter (belongs_to object) entries)

abbrev last_with : Bool → ℕ → ObjectId → Entry → List Entry → ℕ
last_with b so_far object first entries =
    fold (λ (number : ℕ) (entry : Entry). entry.number) so_far (cond b (first ∷ filter (belongs_to object) entries) (filter (belongs_to object) entries))

last_under : (most : ℕ) (object : ObjectId) (entries : List Entry) (so_far : ℕ) → so_far < most → AllByRecursion (λ (e : Entry). e.number < most) entries → last_after so_far object entries < most
last_under most object [] so_far low all = low
last_under most object (first ∷ entries) so_far low all =
    elim (belongs_to object first) as (λ (b : Bool). last_with b so_far object first entries < most) [
      | true ↦ last_under most object entries first.number all.0 all.1
      | false ↦ last_under most object entries so_far low all.1
    ]

newest_under : (most : ℕ) (object : ObjectId) (entries : List Entry) → 0 < most → AllByRecursion (λ (e : Entry). e.number < most) entries → newest object entries < most
unfolding newest history_of
newest_under most object entries low all = last_under most object entries 0 low all

-- ---- all numbers of a log

all_numbers : (most : ℕ) (entries : List Entry) → AllByRecursion (λ (e : Entry). e.number < most) entries → All (λ n. n < most) (map number_of entries)
all_numbers most [] all = All-nil (λ n. n < most)
all_numbers most (e ∷ entries) all = All-cons (λ n. n < most) e.number (map number_of entries) all.0 (all_numbers most entries all.1)

-- The numbers of a board that began with a bank's newest ones are below the next entry's.
pub numbers_under : (setup : Setup) (opening : State) (start : List ℕ) (log : List LogItem) (entries : List Entry) → AreNewest setup opening start → AreNumbered 1 entries → entries ≡ entries_in opening log → All (λ n. n < 1 + length entries) (numbers_in start log)
numbers_under setup opening start log entries newest_ones numbered is =
    let most = 1 + length entries in
    let whole = subst (AreNumbered 1) is numbered in
    let size : length entries ≡ length opening.entries + length (added log) = ap length is ∙ length-append opening.entries (added log) in
    let early = each_under 1 most opening.entries (first_numbered 1 opening.entries (added log) whole) (omega arith) in
    let late = each_under (1 + length opening.entries) most (added log) (rest_numbered 1 opening.entries (added log) whole) (omega arith) in
    All-append (λ n. n < most) start (map number_of (added log)) (starts early) (all_numbers most (added log) late)
  where
    starts : AllByRecursion (λ (e : Entry). e.number < 1 + length entries) opening.entries → All (λ n. n < 1 + length entries) start
    starts early k d less =
        let object : ObjectId = record { 0 = k } in
        let within : k < object_count setup = (let size = newest_ones.size in omega arith) in
        let value = get_or_default start k d 0 less ∙ newest_ones.newest object within in
        subst (λ (n : ℕ). n < 1 + length entries) (sym value) (newest_under (1 + length entries) object opening.entries (omega arith) early)
