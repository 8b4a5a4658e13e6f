-- The transfers of a recurring transfer that wait after a draft: of those that waited before it, and of those that it made.
use Rattle.std.proofs.Common.{◌≡◌, ℕ, ◌+◌, ◌≤◌, Bool, true, false, ◌&&◌, cond, eqb, List, [], ◌∷◌, ◌++◌, filter, length, length-append, take, get_or, Option, None, Some, refl, sym, ap, ◌∙◌, subst, append_assoc, arith}
use Rattle.std.specs.Prelude.{option_to_list}
use Rattle.std.specs.List.{AllByRecursion, flat_map}
use Rattle.std.specs.Option.{option_map}
use Rattle.std.proofs.lemmas.Bool.{and_parts, and_from, eqb-true, ne_eqb}
use Rattle.std.proofs.lemmas.List.{append-nil, map-append, get_or_at, take_all}
use Rattle.std.proofs.lemmas.List.Elements.{filter-append}
use Rattle.std.proofs.lemmas.Grind.{flat_map-append}
use Rattle.std.proofs.Math.Seq.{take-append_seam}
use Rattle.ofx_types.specs.declared.transfer.TransferRow.{TransferRow}
use Rattle.ofx_types.specs.declared.transfer.XferCode.TheVariants.{Cancelled}
use Rattle.ofx_types.specs.declared.transfer.Change.{Change}
use Rattle.ofx_types.specs.declared.transfer.Change.TheVariants.{NewTransfer, SetTransfer, DropTransfer, NewModel, SetModel, DropModel, NewMail}
use Rattle.bank_model.specs.declared.entry.Entry.{Entry}
use Rattle.bank_model.specs.Ledger.{is_dropped, with_code, row_of}
use Rattle.bank_model.specs.Models.{is_waiting, made_in, all_waiting, waiting_of}
use Rattle.bank_transfers.specs.Growth.{row_after}
use Rattle.bank_transfers.proofs.GrowthLemmas.{row_of-push}
use Rattle.bank_invariants.specs.SoundStates.{IsOfWaiting, IsLawful, IsNumbered, IsOfMade}
use Rattle.bank_invariants.specs.Pending.{ids_of, waits_for, id_new, ids_new}
use Rattle.bank_model.proofs.Lists.{all_append}
use Rattle.bank_invariants.proofs.NextLemmas.{row_of-named}
use Rattle.bank_invariants.proofs.SoundStateLemmas.{AreLawfulAt}
use Rattle.bank_invariants.proofs.OnceLemmas.{made_before}

-- ---- those that wait, by their ids

abbrev Waits : ℕ → List Entry → ℕ → Bool
Waits model all id = waits_for model (row_of id all)

abbrev kept_of : ℕ → List TransferRow → List TransferRow
kept_of model rows = filter (λ (row : TransferRow). eqb row.model model) (filter (λ (row : TransferRow). is_waiting row.code) rows)

one_row : (model : ℕ) (row : TransferRow) (b d : Bool) → is_waiting row.code ≡ b → eqb row.model model ≡ d → ids_of (kept_of model (row ∷ [])) ≡ cond (b && d) (row.id ∷ []) []
one_row model row true true waits is = rw (waits) (rw (is) refl)
one_row model row true false waits is = rw (waits) (rw (is) refl)
one_row model row false d waits is = rw (waits) refl

one_found : (model id : ℕ) (all : List Entry) (found : Option TransferRow) → row_of id all ≡ found → ids_of (kept_of model (option_to_list found)) ≡ cond (waits_for model found) (id ∷ []) []
one_found model id all None is = refl
one_found model id all (Some row) is =
    one_row model row (is_waiting row.code) (eqb row.model model) refl refl
    ∙ ap (λ (n : ℕ). cond (is_waiting row.code && eqb row.model model) (n ∷ []) []) (row_of-named id all row is)

change_ids : (model : ℕ) (all : List Entry) (change : Change) → ids_of (kept_of model (made_in all change)) ≡ filter (Waits model all) (id_new change)
change_ids model all (NewTransfer row) = one_found model row.id all (row_of row.id all) refl
change_ids model all (SetTransfer row) = refl
change_ids model all (DropTransfer id) = refl
change_ids model all (NewModel row) = refl
change_ids model all (SetModel row also) = refl
change_ids model all (DropModel id also) = refl
change_ids model all (NewMail mail) = refl

kept-append : (model : ℕ) (rows more : List TransferRow) → ids_of (kept_of model (rows ++ more)) ≡ ids_of (kept_of model rows) ++ ids_of (kept_of model more)
kept-append model rows more =
    ap (λ (l : List TransferRow). ids_of (filter (λ (row : TransferRow). eqb row.model model) l)) (filter-append (λ (row : TransferRow). is_waiting row.code) rows more)
    ∙ ap ids_of (filter-append (λ (row : TransferRow). eqb row.model model) (filter (λ (row : TransferRow). is_waiting row.code) rows) (filter (λ (row : TransferRow). is_waiting row.code) more))
    ∙ map-append (λ (row : TransferRow). row.id) (kept_of model rows) (kept_of model more)

all_ids : (model : ℕ) (all entries : List Entry) → ids_of (kept_of model (flat_map (λ (entry : Entry). made_in all entry.change) entries)) ≡ filter (Waits model all) (ids_new entries)
all_ids model all [] = refl
all_ids model all (entry ∷ entries) =
    kept-append model (made_in all entry.change) _
    ∙ ap (λ (l : List ℕ). l ++ ids_of (kept_of model (flat_map (λ (e : Entry). made_in all e.change) entries))) (change_ids model all entry.change)
    ∙ ap (λ (l : List ℕ). filter (Waits model all) (id_new entry.change) ++ l) (all_ids model all entries)
    ∙ sym (filter-append (Waits model all) (id_new entry.change) (ids_new entries))

pub waiting_ids : (model : ℕ) (entries : List Entry) → ids_of (waiting_of model entries) ≡ filter (λ (id : ℕ). waits_for model (row_of id entries)) (ids_new entries)
unfolding waiting_of all_waiting
waiting_ids model entries = all_ids model entries entries

-- ---- what waits has waited

of_model : (model : ℕ) (given : TransferRow) (found : Option TransferRow) → IsOfWaiting given found → eqb given.model model ≡ true → waits_for model found ≡ true
of_model model given None lawful is = absurd lawful
of_model model given (Some row) lawful is = and_from (is_waiting row.code) (eqb row.model model) lawful.0 (ap (λ (n : ℕ). eqb n model) lawful.1 ∙ is)

given_waits : (model : ℕ) (given : TransferRow) (found : Option TransferRow) (named dropped : Bool) → (named ≡ true → IsOfWaiting given found) → waits_for model (cond named (Some (cond dropped (with_code Cancelled given) given)) found) ≡ true → waits_for model found ≡ true
given_waits model given found true true lawful waits = cc
given_waits model given found true false lawful waits = of_model model given found (lawful refl) (and_parts (is_waiting given.code) (eqb given.model model) waits).1
given_waits model given found false dropped lawful waits = waits

never_cancelled : (model : ℕ) (found : Option TransferRow) → waits_for model (option_map (with_code Cancelled) found) ≡ true → waits_for model found ≡ true
never_cancelled model None waits = waits
never_cancelled model (Some row) waits = cc

dropped_waits : (model : ℕ) (found : Option TransferRow) (named : Bool) → waits_for model (cond named (option_map (with_code Cancelled) found) found) ≡ true → waits_for model found ≡ true
dropped_waits model found true waits = never_cancelled model found waits
dropped_waits model found false waits = waits

waited_one : (model id : ℕ) (before : List Entry) (change : Change) → id ≤ length before → IsLawful before change → waits_for model (row_after id (is_dropped id before) (row_of id before) change) ≡ true → waits_for model (row_of id before) ≡ true
waited_one model id before (NewTransfer row) below lawful waits =
    let new = lawful.0 in
    rw (ne_eqb row.id id (omega arith)) at waits
waited_one model id before (SetTransfer row) below lawful waits =
    given_waits model row (row_of id before) (eqb row.id id) (is_dropped id before) (λ same. subst (λ (n : ℕ). IsOfWaiting row (row_of n before)) (eqb-true row.id id same) lawful) waits
waited_one model id before (DropTransfer gone) below lawful waits = dropped_waits model (row_of id before) (eqb gone id) waits
waited_one model id before (NewModel row) below lawful waits = waits
waited_one model id before (SetModel row also) below lawful waits = waits
waited_one model id before (DropModel gone also) below lawful waits = waits
waited_one model id before (NewMail mail) below lawful waits = waits

waited : (model id : ℕ) (before entries : List Entry) → id ≤ length before → AreLawfulAt (before ++ entries) → waits_for model (row_of id (before ++ entries)) ≡ true → waits_for model (row_of id before) ≡ true
waited model id before [] below lawful waits = subst (λ (l : List Entry). waits_for model (row_of id l) ≡ true) (append-nil before) waits
waited model id before (entry ∷ entries) below lawful waits =
    let size : length (before ++ entry ∷ entries) ≡ length before + length (entry ∷ entries) = length-append before (entry ∷ entries) in
    let here = lawful (length before) entry (omega (arith, size)) in
    let prefix : take (length before) (before ++ entry ∷ entries) ≡ before = take-append_seam before (entry ∷ entries) in
    let at : get_or (before ++ entry ∷ entries) (length before) entry ≡ entry = get_or_at before entry entries entry (length before) refl in
    let first : IsLawful before entry.change = subst (λ (l : List Entry). IsLawful l entry.change) prefix (subst (λ (e : Entry). IsLawful (take (length before) (before ++ entry ∷ entries)) e.change) at here) in
    let grouped : (before ++ entry ∷ []) ++ entries ≡ before ++ entry ∷ entries = append_assoc before (entry ∷ []) entries in
    let count : length (before ++ entry ∷ []) ≡ length before + 1 = length-append before (entry ∷ []) in
    let later = waited model id (before ++ entry ∷ []) entries (omega (arith, count)) (subst AreLawfulAt (sym grouped) lawful) (subst (λ (l : List Entry). waits_for model (row_of id l) ≡ true) (sym grouped) waits) in
    waited_one model id before entry.change below first (subst (λ (r : Option TransferRow). waits_for model r ≡ true) (row_of-push id before entry) later)

filter_twice : (p q : ℕ → Bool) (ids : List ℕ) → AllByRecursion (λ (id : ℕ). q id ≡ true → p id ≡ true) ids → filter q (filter p ids) ≡ filter q ids
filter_twice p q [] step = refl
filter_twice p q (id ∷ ids) step = twice (p id) (q id) refl refl (filter_twice p q ids step.1)
  where
    twice : (b d : Bool) → p id ≡ b → q id ≡ d → filter q (filter p ids) ≡ filter q ids → filter q (cond b (id ∷ filter p ids) (filter p ids)) ≡ cond d (id ∷ filter q ids) (filter q ids)
    twice true true is other rest = rw other (ap (λ (l : List ℕ). id ∷ l) rest)
    twice true false is other rest = rw other rest
    twice false true is other rest = absurd (let here = step.0 other in cc)
    twice false false is other rest = rest

-- it waited before where it waits after more entries
abbrev HasWaited : ℕ → List Entry → List Entry → ℕ → Type 0
HasWaited model before entries id = waits_for model (row_of id (before ++ entries)) ≡ true → waits_for model (row_of id before) ≡ true

change_waited : (model : ℕ) (before entries : List Entry) (change : Change) → IsOfMade (length before) change → AreLawfulAt (before ++ entries) → AllByRecursion (HasWaited model before entries) (id_new change)
change_waited model before entries (NewTransfer row) made lawful = ((λ waits. waited model row.id before entries made.1 lawful waits), tt)
change_waited model before entries (SetTransfer row) made lawful = tt
change_waited model before entries (DropTransfer id) made lawful = tt
change_waited model before entries (NewModel row) made lawful = tt
change_waited model before entries (SetModel row also) made lawful = tt
change_waited model before entries (DropModel id also) made lawful = tt
change_waited model before entries (NewMail mail) made lawful = tt

all_waited : (model : ℕ) (before entries some : List Entry) → AllByRecursion (IsNumbered (length before)) some → AreLawfulAt (before ++ entries) → AllByRecursion (HasWaited model before entries) (ids_new some)
all_waited model before entries [] made lawful = tt
all_waited model before entries (entry ∷ some) made lawful =
    all_append (HasWaited model before entries) (id_new entry.change) (ids_new some) (change_waited model before entries entry.change made.0 lawful) (all_waited model before entries some made.1 lawful)

-- Those that wait after a draft: of those that waited before, and of those that it made.
pub waiting_drafted : (model : ℕ) (before entries : List Entry) → AllByRecursion (IsNumbered (length before)) before → AreLawfulAt (before ++ entries) → filter (λ (id : ℕ). waits_for model (row_of id (before ++ entries))) (ids_of (waiting_of model before)) ++ filter (λ (id : ℕ). waits_for model (row_of id (before ++ entries))) (ids_new entries) ≡ ids_of (waiting_of model (before ++ entries))
waiting_drafted model before entries made lawful =
    let now : ℕ → Bool = λ id. waits_for model (row_of id (before ++ entries)) in
    ap (λ (l : List ℕ). filter now l ++ filter now (ids_new entries)) (waiting_ids model before)
    ∙ ap (λ (l : List ℕ). l ++ filter now (ids_new entries)) (filter_twice (λ (id : ℕ). waits_for model (row_of id before)) now (ids_new before) (all_waited model before entries before made lawful))
    ∙ sym (filter-append now (ids_new before) (ids_new entries))
    ∙ ap (filter now) (sym (flat_map-append (λ (entry : Entry). id_new entry.change) before entries))
    ∙ sym (waiting_ids model (before ++ entries))

-- ---- the loops that look for them

-- what both loops have found
pub waiting_found : (model : ℕ) (before entries items : List Entry) (waited first last : List ℕ) (k n : ℕ) → AreLawfulAt (before ++ entries) → waited ≡ ids_of (waiting_of model before) → items ≡ entries → length waited ≤ k → length items ≤ n → first ≡ filter (λ (one : ℕ). waits_for model (row_of one (before ++ entries))) (take k waited) → last ≡ first ++ filter (λ (one : ℕ). waits_for model (row_of one (before ++ entries))) (ids_new (take n items)) → last ≡ ids_of (waiting_of model (before ++ entries))
waiting_found model before entries items waited first last k n lawful is_waited is_items past over found more =
    let now : ℕ → Bool = λ one. waits_for model (row_of one (before ++ entries)) in
    more
    ∙ ap (λ (l : List ℕ). l ++ filter now (ids_new (take n items))) (found ∙ ap (filter now) (take_all k waited past ∙ is_waited))
    ∙ ap (λ (l : List Entry). filter now (ids_of (waiting_of model before)) ++ filter now (ids_new l)) (take_all n items over ∙ is_items)
    ∙ waiting_drafted model before entries (made_before before entries lawful) lawful
