-- The numbers of a history that is in order rise, and so does the newest token of an object.
use Rattle.std.proofs.Common.{◌≡◌, ℕ, ◌+◌, ◌<◌, ◌≤◌, Bool, true, false, cond, nat_lt, nat_le, List, [], ◌∷◌, ◌++◌, length, length-append, filter, fold, refl, sym, ap, ◌∙◌, subst, append_assoc, arith}
use Rattle.std.proofs.lemmas.Bool.{leb-true, leb-false, lt-ltb, le-ltb, le-leb, lt-leb}
use Rattle.std.proofs.lemmas.List.{append-nil}
use Rattle.std.proofs.lemmas.List.Elements.{filter-append}
use Rattle.std.proofs.lemmas.List.Sums.{fold-append}
use Rattle.ofx_types.specs.declared.number.ObjectId.{ObjectId}
use Rattle.ofx_types.specs.declared.transfer.Family.{Family}
use Rattle.bank_model.specs.declared.entry.Entry.{Entry}
use Rattle.bank_model.specs.declared.setup.Setup.{Setup}
use Rattle.bank_model.specs.Objects.{belongs_to, history_of, newest, last_number_from}
use Rattle.bank_model.specs.Sync.{is_above}
use Rattle.bank_model.specs.Stores.{Row, changed, is_up_to}
use Rattle.sync_laws.specs.Folding.{rows_up_to}
use Rattle.sync_laws.specs.Histories.{Follows, AllFollow}
use Rattle.bank_model.proofs.Histories.{history_of-append}

-- ---- parts of a history

-- the entries of both parts follow
pub follow_both : (setup : Setup) (before xs ys : List Entry) → AllFollow setup before xs → AllFollow setup (before ++ xs) ys → AllFollow setup before (xs ++ ys)
follow_both setup before [] ys first second = subst (λ (l : List Entry). AllFollow setup l ys) (append-nil before) second
follow_both setup before (entry ∷ xs) ys first second =
    (first.0, follow_both setup (before ++ entry ∷ []) xs ys first.1 (subst (λ (l : List Entry). AllFollow setup l ys) (sym (append_assoc before (entry ∷ []) xs)) second))

pub follow_after : (setup : Setup) (before xs ys : List Entry) → AllFollow setup before (xs ++ ys) → AllFollow setup (before ++ xs) ys
follow_after setup before [] ys all = subst (λ (l : List Entry). AllFollow setup l ys) (sym (append-nil before)) all
follow_after setup before (entry ∷ xs) ys all =
    subst (λ (l : List Entry). AllFollow setup l ys) (append_assoc before (entry ∷ []) xs) (follow_after setup (before ++ entry ∷ []) xs ys all.1)

-- what holds of no entries, and after one entry more, holds of every history that is in order
pub by_entries : (setup : Setup) (P : List Entry → Type 0) → P [] → ((before : List Entry) (entry : Entry) → P before → Follows setup before entry → P (before ++ entry ∷ [])) → (entries : List Entry) → AllFollow setup [] entries → P entries
by_entries setup P none more entries all = grown [] entries none all
  where
    grown : (before rest : List Entry) → P before → AllFollow setup before rest → P (before ++ rest)
    grown before [] here follow = subst P (sym (append-nil before)) here
    grown before (entry ∷ rest) here follow = subst P (append_assoc before (entry ∷ []) rest) (grown (before ++ entry ∷ []) rest (more before entry here follow.0) follow.1)

-- ---- numbers that rise

-- Each number is above the one before.
abbrev pub AreRising : ℕ → List Entry → Type 0
AreRising n [] = Unit {0}
AreRising n (entry ∷ more) = (n < entry.number) × AreRising entry.number more

rising_less : (m n : ℕ) (entries : List Entry) → m ≤ n → AreRising n entries → AreRising m entries
rising_less m n [] less rising = tt
rising_less m n (entry ∷ more) less rising = (let here = rising.0 in omega arith, rising.1)

rising_filter : (p : Entry → Bool) (n : ℕ) (entries : List Entry) → AreRising n entries → AreRising n (filter p entries)
rising_filter p n [] rising = tt
rising_filter p n (entry ∷ more) rising =
    let rest = rising_filter p entry.number more rising.1 in
    elim (p entry) as (λ b. AreRising n (cond b (entry ∷ filter p more) (filter p more))) [
      | true ↦ (rising.0, rest)
      | false ↦ rising_less n entry.number (filter p more) (let here = rising.0 in omega arith) rest
    ]

pub rising_follow : (setup : Setup) (before more : List Entry) → AllFollow setup before more → AreRising (length before) more
rising_follow setup before [] all = tt
rising_follow setup before (entry ∷ more) all =
    let number = all.0.number in
    let size : length (before ++ entry ∷ []) ≡ entry.number = omega (arith, length-append before (entry ∷ [])) in
    (omega arith, subst (λ (n : ℕ). AreRising n more) size (rising_follow setup (before ++ entry ∷ []) more all.1))

pub history_rises : (setup : Setup) (object : ObjectId) (before more : List Entry) → AllFollow setup before more → AreRising (length before) (history_of object more)
unfolding history_of
history_rises setup object before more all = rising_filter (belongs_to object) (length before) more (rising_follow setup before more all)

-- ---- those up to a number, and those above it

pub none_up_to : (t n : ℕ) (entries : List Entry) → AreRising n entries → t ≤ n → filter (is_up_to t) entries ≡ []
none_up_to t n [] rising less = refl
none_up_to t n (entry ∷ more) rising less =
    let here = rising.0 in
    ap (λ b. cond b (entry ∷ filter (is_up_to t) more) (filter (is_up_to t) more)) (lt-leb entry.number t (omega arith)) ∙ none_up_to t entry.number more rising.1 (omega arith)

all_above : (t n : ℕ) (entries : List Entry) → AreRising n entries → t ≤ n → filter (is_above t) entries ≡ entries
all_above t n [] rising less = refl
all_above t n (entry ∷ more) rising less =
    let here = rising.0 in
    ap (λ b. cond b (entry ∷ filter (is_above t) more) (filter (is_above t) more)) (lt-ltb t entry.number (omega arith))
    ∙ ap (λ l. entry ∷ l) (all_above t entry.number more rising.1 (omega arith))

pub split_rising : (t n : ℕ) (entries : List Entry) → AreRising n entries → filter (is_up_to t) entries ++ filter (is_above t) entries ≡ entries
split_rising t n [] rising = refl
split_rising t n (entry ∷ more) rising = by_number (split_rising t entry.number more rising.1) (nat_le entry.number t) refl
  where
    by_number : filter (is_up_to t) more ++ filter (is_above t) more ≡ more → (b : Bool) → nat_le entry.number t ≡ b → cond b (entry ∷ filter (is_up_to t) more) (filter (is_up_to t) more) ++ cond (nat_lt t entry.number) (entry ∷ filter (is_above t) more) (filter (is_above t) more) ≡ entry ∷ more
    by_number rest true e =
        let low = leb-true entry.number t e in
        ap (λ b. (entry ∷ filter (is_up_to t) more) ++ cond b (entry ∷ filter (is_above t) more) (filter (is_above t) more)) (le-ltb t entry.number low)
        ∙ ap (λ l. entry ∷ l) rest
    by_number rest false e =
        let high : t < entry.number = leb-false entry.number t e in
        ap (λ b. filter (is_up_to t) more ++ cond b (entry ∷ filter (is_above t) more) (filter (is_above t) more)) (lt-ltb t entry.number high)
        ∙ ap (λ l. l ++ (entry ∷ filter (is_above t) more)) (none_up_to t entry.number more rising.1 (omega arith))
        ∙ ap (λ l. entry ∷ l) (all_above t entry.number more rising.1 (omega arith))

-- ---- the last number

last_most : (n : ℕ) (entries : List Entry) → AreRising n entries → n ≤ last_number_from n entries
last_most n [] rising = omega arith
last_most n (entry ∷ more) rising = let rest = last_most entry.number more rising.1 in let here = rising.0 in omega arith

pub all_up_to_last : (n : ℕ) (entries : List Entry) → AreRising n entries → filter (is_up_to (last_number_from n entries)) entries ≡ entries
all_up_to_last n [] rising = refl
all_up_to_last n (entry ∷ more) rising =
    ap (λ b. cond b (entry ∷ filter (is_up_to (last_number_from entry.number more)) more) (filter (is_up_to (last_number_from entry.number more)) more)) (le-leb entry.number (last_number_from entry.number more) (last_most entry.number more rising.1))
    ∙ ap (λ l. entry ∷ l) (all_up_to_last entry.number more rising.1)

last_below : (setup : Setup) (p : Entry → Bool) (k : ℕ) (before more : List Entry) → AllFollow setup before more → k ≤ length before → last_number_from k (filter p more) ≤ length before + length more
last_below setup p k before [] all less = omega arith
last_below setup p k before (entry ∷ more) all less =
    let number = all.0.number in
    let size : length (before ++ entry ∷ []) ≡ length before + 1 = length-append before (entry ∷ []) in
    let taken = last_below setup p entry.number (before ++ entry ∷ []) more all.1 (omega arith) in
    let left = last_below setup p k (before ++ entry ∷ []) more all.1 (omega arith) in
    elim (p entry) as (λ b. last_number_from k (cond b (entry ∷ filter p more) (filter p more)) ≤ length before + length (entry ∷ more)) [
      | true ↦ omega arith
      | false ↦ omega arith
    ]

-- the newest token is the number of an entry, or 0
pub newest_few : (setup : Setup) (object : ObjectId) (entries : List Entry) → AllFollow setup [] entries → newest object entries ≤ length entries
unfolding newest history_of
newest_few setup object entries all =
    let few = last_below setup (belongs_to object) 0 [] entries all (omega arith) in
    omega arith

-- ---- a longer history

pub newest_grows : (setup : Setup) (object : ObjectId) (xs ys : List Entry) → AllFollow setup [] (xs ++ ys) → newest object xs ≤ length xs → newest object xs ≤ newest object (xs ++ ys)
unfolding newest
newest_grows setup object xs ys all few =
    let rest = history_rises setup object xs ys (follow_after setup [] xs ys all) in
    let above = last_most (newest object xs) (history_of object ys) (rising_less (newest object xs) (length xs) (history_of object ys) few rest) in
    let is : newest object (xs ++ ys) ≡ last_number_from (newest object xs) (history_of object ys) = ap (last_number_from 0) (history_of-append object xs ys) ∙ fold-append (λ (number : ℕ) (entry : Entry). entry.number) 0 (history_of object xs) (history_of object ys) in
    subst (λ (n : ℕ). newest object xs ≤ n) (sym is) above

pub rows_at_first : (setup : Setup) (family : Family) (object : ObjectId) (entries : List Entry) → AllFollow setup [] entries → rows_up_to family object 0 entries ≡ []
unfolding rows_up_to
rows_at_first setup family object entries all =
    ap (λ l. fold (λ (rows : List Row) (entry : Entry). changed family rows entry.change) [] l) (none_up_to 0 0 (history_of object entries) (history_rises setup object [] entries all) (omega arith))

pub rows_stay : (setup : Setup) (family : Family) (object : ObjectId) (token : ℕ) (xs ys : List Entry) → AllFollow setup [] (xs ++ ys) → token ≤ length xs → rows_up_to family object token xs ≡ rows_up_to family object token (xs ++ ys)
unfolding rows_up_to
rows_stay setup family object token xs ys all less =
    let rest = history_rises setup object xs ys (follow_after setup [] xs ys all) in
    sym (ap (λ l. fold (λ (rows : List Row) (entry : Entry). changed family rows entry.change) [] l) (
    ap (filter (is_up_to token)) (history_of-append object xs ys)
    ∙ filter-append (is_up_to token) (history_of object xs) (history_of object ys)
    ∙ ap (λ l. filter (is_up_to token) (history_of object xs) ++ l) (none_up_to token (length xs) (history_of object ys) rest less)
    ∙ append-nil (filter (is_up_to token) (history_of object xs))))
