-- Logs that grow: their entries, the newest tokens, and the tokens that were newest once.
use Rattle.std.proofs.Common.{◌≡◌, ◌≢◌, ℕ, ◌+◌, ◌<◌, ◌≤◌, cond, eqb, true, false, List, [], ◌∷◌, ◌++◌, map, length, get_or, Contains, zero, suc, refl, sym, ap, ◌∙◌, subst, le_refl, le_trans, arith, append-nil, eq-eqb, ne_eqb, fold}
use Rattle.std.specs.Prelude.{All, filter}
use Rattle.std.specs.List.{flat_map}
use Rattle.std.proofs.lemmas.Grind.{flat_map-append}
use Rattle.std.proofs.lemmas.List.{map-append}
use Rattle.std.proofs.lemmas.List.Sums.{fold-append}
use Rattle.std.proofs.lemmas.List.Elements.{All-head, All-tail, Contains-append_left, filter-append}
use Rattle.ofx_types.specs.declared.number.ObjectId.{ObjectId}
use Rattle.bank_model.specs.declared.entry.Entry.{Entry}
use Rattle.bank_model.specs.declared.log.LogItem.{LogItem}
use Rattle.bank_model.specs.Log.{entry_of}
use Rattle.bank_model.specs.Objects.{belongs_to, history_of, last_number_from}
use Rattle.token_board.specs.declared.view.Load.{Load}
use Rattle.token_board.specs.Tokens.{added, number_of, opened, numbers_of, newest_in, IsTokenIn}
use Rattle.token_board.specs.Rule.{greatest, RiseFrom, IsOrdered}
use Rattle.token_board.proofs.Numbers.{opened-greatest, RiseFrom-first, RiseFrom-rest, last-rises, last-bounded, last-contained}

pub added-append : (log more : List LogItem) → added (log ++ more) ≡ added log ++ added more
added-append log more = flat_map-append entry_of log more

history-append : (object : ObjectId) (xs ys : List Entry) → history_of object (xs ++ ys) ≡ history_of object xs ++ history_of object ys
unfolding history_of
history-append object xs ys = filter-append (belongs_to object) xs ys

pub newest-append : (start : List ℕ) (log more : List LogItem) (object : ObjectId) → newest_in start (log ++ more) object ≡ last_number_from (newest_in start log object) (history_of object (added more))
newest-append start log more object =
    ap (λ (es : List Entry). last_number_from (opened start object) (history_of object es)) (added-append log more)
    ∙ ap (λ (es : List Entry). last_number_from (opened start object) es) (history-append object (added log) (added more))
    ∙ fold-append (λ (number : ℕ) (entry : Entry). entry.number) (opened start object) (history_of object (added log)) (history_of object (added more))

-- ---- one entry more

history_hit : (object : ObjectId) (e : Entry) → object.0 ≡ e.object.0 → history_of object (e ∷ []) ≡ e ∷ []
unfolding history_of
history_hit object e same = ap (λ b. cond b (e ∷ []) []) (eq-eqb e.object.0 object.0 (sym same))

history_miss : (object : ObjectId) (e : Entry) → object.0 ≢ e.object.0 → history_of object (e ∷ []) ≡ []
unfolding history_of
history_miss object e other = ap (λ b. cond b (e ∷ []) []) (ne_eqb e.object.0 object.0 (λ same. other (sym same)))

pub newest-hit : (start : List ℕ) (log more : List LogItem) (e : Entry) (object : ObjectId) → added more ≡ e ∷ [] → object.0 ≡ e.object.0 → newest_in start (log ++ more) object ≡ e.number
newest-hit start log more e object is same =
    newest-append start log more object
    ∙ ap (λ (es : List Entry). last_number_from (newest_in start log object) (history_of object es)) is
    ∙ ap (λ (es : List Entry). last_number_from (newest_in start log object) es) (history_hit object e same)

pub newest-miss : (start : List ℕ) (log more : List LogItem) (e : Entry) (object : ObjectId) → added more ≡ e ∷ [] → object.0 ≢ e.object.0 → newest_in start (log ++ more) object ≡ newest_in start log object
newest-miss start log more e object is other =
    newest-append start log more object
    ∙ ap (λ (es : List Entry). last_number_from (newest_in start log object) (history_of object es)) is
    ∙ ap (λ (es : List Entry). last_number_from (newest_in start log object) es) (history_miss object e other)

pub newest-same : (start : List ℕ) (log more : List LogItem) (object : ObjectId) → added more ≡ [] → newest_in start (log ++ more) object ≡ newest_in start log object
unfolding history_of
newest-same start log more object is =
    newest-append start log more object
    ∙ ap (λ (es : List Entry). last_number_from (newest_in start log object) (history_of object es)) is

-- ---- tokens

-- a newest token of a log is no older than that of a prefix
pub newest-rises : (start : List ℕ) (seen more : List LogItem) (object : ObjectId) → IsOrdered start (seen ++ more) → newest_in start seen object ≤ newest_in start (seen ++ more) object
newest-rises start seen more object ordered =
    let all : RiseFrom (greatest start) (added seen ++ added more) = subst (λ (es : List Entry). RiseFrom (greatest start) es) (added-append seen more) ordered.rises in
    let low = last-bounded object (opened start object) (greatest start) (added seen) (RiseFrom-first (greatest start) (added seen) (added more) all) (opened-greatest start object) in
    let up = last-rises object (newest_in start seen object) (last_number_from (greatest start) (added seen)) (added more) (RiseFrom-rest (greatest start) (added seen) (added more) all) low in
    subst (λ n. newest_in start seen object ≤ n) (sym (newest-append start seen more object)) up

numbers-append : (start : List ℕ) (log more : List LogItem) (object : ObjectId) → numbers_of start (log ++ more) object ≡ numbers_of start log object ++ map number_of (history_of object (added more))
numbers-append start log more object =
    ap (λ (es : List Entry). opened start object ∷ map number_of (history_of object es)) (added-append log more)
    ∙ ap (λ (es : List Entry). opened start object ∷ map number_of es) (history-append object (added log) (added more))
    ∙ ap (λ (ns : List ℕ). opened start object ∷ ns) (map-append number_of (history_of object (added log)) (history_of object (added more)))

-- a token of a log is one of each longer log
pub IsTokenIn-append : (start : List ℕ) (log more : List LogItem) (load : Load) → IsTokenIn start log load → IsTokenIn start (log ++ more) load
IsTokenIn-append start log more load h = λ one.
    subst (λ (ns : List ℕ). Contains ns load.token) (sym (numbers-append start log more load.object))
    (Contains-append_left (numbers_of start log load.object) (map number_of (history_of load.object (added more))) load.token (h one))

-- the newest token is a token
pub newest-is : (start : List ℕ) (log : List LogItem) (object : ObjectId) → Contains (numbers_of start log object) (newest_in start log object)
newest-is start log object = last-contained (opened start object) (history_of object (added log))

-- ---- objects that aren't the board's

beyond : (xs : List ℕ) (k : ℕ) → length xs ≤ k → get_or xs k 0 ≡ 0
beyond [] k le = refl
beyond (x ∷ xs) zero le = absurd (omega arith)
beyond (x ∷ xs) (suc k) le = beyond xs k (omega arith)

none_of : (limit : ℕ) (object : ObjectId) (es : List Entry) → All (λ (e : Entry). e.object.0 < limit) es → limit ≤ object.0 → history_of object es ≡ []
unfolding history_of
none_of limit object [] all le = refl
none_of limit object (e ∷ es) all le =
    let low : e.object.0 < limit = All-head (λ (e : Entry). e.object.0 < limit) e es all in
    ap (λ b. cond b (e ∷ filter (belongs_to object) es) (filter (belongs_to object) es)) (ne_eqb e.object.0 object.0 (λ same. omega arith))
    ∙ none_of limit object es (All-tail (λ (e : Entry). e.object.0 < limit) e es all) le

pub newest-none : (start : List ℕ) (log : List LogItem) (object : ObjectId) → IsOrdered start log → length start ≤ object.0 → newest_in start log object ≡ 0
newest-none start log object ordered le =
    ap (λ (es : List Entry). last_number_from (opened start object) es) (none_of (length start) object (added log) ordered.objects le)
    ∙ beyond start object.0 le
