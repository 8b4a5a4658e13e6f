-- Numbers of entries that rise, the greatest of a list, and numbers of endings.
use Rattle.std.proofs.Common.{◌≡◌, ℕ, zero, suc, ◌+◌, ◌<◌, ◌≤◌, max, cond, Bool, true, false, List, [], ◌∷◌, ◌++◌, map, length, get_or, fold, Contains, refl, sym, ap, ◌∙◌, subst, le_refl, le_trans, arith, length-append, append-nil}
use Rattle.std.specs.Prelude.{All, filter}
use Rattle.std.proofs.lemmas.List.Elements.{All-head, All-tail, All-cons, All-append, All-weaker, Contains-append_right, Contains-push, filter-append}
use Rattle.ofx_types.specs.declared.number.ObjectId.{ObjectId}
use Rattle.bank_model.specs.declared.entry.Entry.{Entry}
use Rattle.bank_model.specs.declared.log.LogItem.{LogItem}
use Rattle.bank_model.specs.Log.{endings, is_ending}
use Rattle.bank_model.specs.Objects.{belongs_to, history_of, last_number_from}
use Rattle.token_board.specs.Tokens.{Begins, number_of, opened, Rises, AreEndings, AreAbove}
use Rattle.token_board.specs.Rule.{greatest, RiseFrom}

-- ---- the greatest

le_fold-max : (n : ℕ) (xs : List ℕ) → n ≤ fold max n xs
le_fold-max n [] = le_refl n
le_fold-max n (x ∷ xs) = let a : n ≤ max n x = omega arith in le_trans a (le_fold-max (max n x) xs)

each_le : (n : ℕ) (xs : List ℕ) (k : ℕ) → get_or xs k 0 ≤ fold max n xs
each_le n [] k = omega arith
each_le n (x ∷ xs) zero = let a : x ≤ max n x = omega arith in le_trans a (le_fold-max (max n x) xs)
each_le n (x ∷ xs) (suc k) = each_le (max n x) xs k

pub opened-greatest : (start : List ℕ) (object : ObjectId) → opened start object ≤ greatest start
opened-greatest start object = each_le 0 start object.0

below_all : (n k : ℕ) (xs : List ℕ) → n < k → All (λ m. m < k) xs → fold max n xs < k
below_all n k [] low h = low
below_all n k (x ∷ xs) low h = let b = All-head (λ m. m < k) x xs h in let a : max n x < k = omega arith in below_all (max n x) k xs a (All-tail (λ m. m < k) x xs h)

-- A number above all of a list that isn't empty is above the greatest.
pub greatest-below : (k : ℕ) (xs : List ℕ) → 0 < length xs → All (λ m. m < k) xs → greatest xs < k
greatest-below k [] filled h = absurd (omega arith)
greatest-below k (x ∷ xs) filled h = let b : x < k = All-head (λ m. m < k) x xs h in below_all 0 k (x ∷ xs) (omega arith) h

pub last-below : (k n : ℕ) (es : List Entry) → n < k → All (λ m. m < k) (map number_of es) → last_number_from n es < k
last-below k n [] low h = low
last-below k n (e ∷ es) low h =
    last-below k e.number es (All-head (λ m. m < k) e.number (map number_of es) h) (All-tail (λ m. m < k) e.number (map number_of es) h)

-- ---- numbers of entries that rise

pub RiseFrom-first : (n : ℕ) (xs ys : List Entry) → RiseFrom n (xs ++ ys) → RiseFrom n xs
RiseFrom-first n [] ys h = tt
RiseFrom-first n (x ∷ xs) ys h = (h.0, RiseFrom-first x.number xs ys h.1)

pub RiseFrom-rest : (n : ℕ) (xs ys : List Entry) → RiseFrom n (xs ++ ys) → RiseFrom (last_number_from n xs) ys
RiseFrom-rest n [] ys h = h
RiseFrom-rest n (x ∷ xs) ys h = RiseFrom-rest x.number xs ys h.1

pub RiseFrom-push : (n : ℕ) (xs : List Entry) (e : Entry) → RiseFrom n xs → last_number_from n xs < e.number → RiseFrom n (xs ++ e ∷ [])
RiseFrom-push n [] e h above = (above, tt)
RiseFrom-push n (x ∷ xs) e h above = (h.0, RiseFrom-push x.number xs e h.1 above)

-- an entry comes to an object's history or not
history_cases : (P : List Entry → Type 0) (object : ObjectId) (e : Entry) (es : List Entry) → P (e ∷ history_of object es) → P (history_of object es) → P (history_of object (e ∷ es))
unfolding history_of
history_cases P object e es hit miss =
    elim (belongs_to object e) as (λ (b : Bool). P (cond b (e ∷ filter (belongs_to object) es) (filter (belongs_to object) es))) [ true ↦ hit | false ↦ miss ]

above_between : (n m b l : ℕ) → n ≤ b → b < m → m ≤ l → n ≤ l
above_between n m b l le lt le' = omega arith

pub last-rises : (object : ObjectId) (n b : ℕ) (es : List Entry) → RiseFrom b es → n ≤ b → n ≤ last_number_from n (history_of object es)
unfolding history_of
last-rises object n b [] h le = le_refl n
last-rises object n b (e ∷ es) h le =
    let more : RiseFrom e.number es = h.1 in
    let up : b < e.number = h.0 in
    history_cases (λ (past : List Entry). n ≤ last_number_from n past) object e es
    (above_between n e.number b (last_number_from e.number (history_of object es)) le up (last-rises object e.number e.number es more (le_refl e.number)))
    (last-rises object n e.number es more (omega arith))

pub last-bounded : (object : ObjectId) (n b : ℕ) (es : List Entry) → RiseFrom b es → n ≤ b → last_number_from n (history_of object es) ≤ last_number_from b es
unfolding history_of
last-bounded object n b [] h le = le
last-bounded object n b (e ∷ es) h le =
    let more : RiseFrom e.number es = h.1 in
    let up : b < e.number = h.0 in
    history_cases (λ (past : List Entry). last_number_from n past ≤ last_number_from e.number es) object e es
    (last-bounded object e.number e.number es more (le_refl e.number))
    (last-bounded object n e.number es more (omega arith))

-- the number of the last entry is one of the numbers
pub last-contained : (n : ℕ) (es : List Entry) → Contains (n ∷ map number_of es) (last_number_from n es)
last-contained n [] = Contains-push [] n
last-contained n (e ∷ es) = Contains-append_right (n ∷ []) (e.number ∷ map number_of es) (last_number_from e.number es) (last-contained e.number es)

-- ---- numbers of endings

pub endings-append : (log more : List LogItem) → endings (log ++ more) ≡ endings log ++ endings more
endings-append log more = filter-append is_ending log more

pub count-append : (log more : List LogItem) → length (endings (log ++ more)) ≡ length (endings log) + length (endings more)
count-append log more = ap length (endings-append log more) ∙ length-append (endings log) (endings more)

pub count-begins : (seen log : List LogItem) → Begins seen log → length (endings seen) ≤ length (endings log)
count-begins seen log h = let e = ap (λ (l : List LogItem). length (endings l)) h.1 in let c = count-append seen h.0 in omega arith

Rises-append : (xs ys : List ℕ) → Rises xs → Rises ys → AreAbove ys xs → Rises (xs ++ ys)
Rises-append [] ys h g above = g
Rises-append (x ∷ xs) ys h g above = (
  All-append (λ later. x < later) xs ys h.0 (All-weaker (λ n. All (λ m. m < n) (x ∷ xs)) (λ n. x < n) (λ n a. All-head (λ m. m < n) x xs a) ys above),
  Rises-append xs ys h.1 g (All-weaker (λ n. All (λ m. m < n) (x ∷ xs)) (λ n. All (λ m. m < n) xs) (λ n a. All-tail (λ m. m < n) x xs a) ys above),
)

within-begins : (seen log : List LogItem) (numbers : List ℕ) → Begins seen log → All (λ number. (1 ≤ number) × (number ≤ length (endings seen))) numbers → All (λ number. (1 ≤ number) × (number ≤ length (endings log))) numbers
within-begins seen log numbers h all =
    All-weaker (λ number. (1 ≤ number) × (number ≤ length (endings seen))) (λ number. (1 ≤ number) × (number ≤ length (endings log)))
    (λ number w. (w.0, le_trans w.1 (count-begins seen log h))) numbers all

-- endings of a prefix are endings of the log
pub AreEndings-begins : (seen log : List LogItem) (numbers : List ℕ) → Begins seen log → AreEndings seen numbers → AreEndings log numbers
AreEndings-begins seen log numbers h own = record { rises = own.rises; within = within-begins seen log numbers h own.within }

pub AreEndings-append : (log : List LogItem) (xs ys : List ℕ) → AreEndings log xs → AreEndings log ys → AreAbove ys xs → AreEndings log (xs ++ ys)
AreEndings-append log xs ys own more above = record {
  rises = Rises-append xs ys own.rises more.rises above;
  within = All-append (λ number. (1 ≤ number) × (number ≤ length (endings log))) xs ys own.within more.within;
}
