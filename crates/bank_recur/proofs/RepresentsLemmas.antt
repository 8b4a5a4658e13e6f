-- Recurring transfers that stand for a list of entries, and one entry more.
use Rattle.std.proofs.Common.{arith, ◌≡◌, ℕ, ◌+◌, ◌<◌, ◌≤◌, Bool, true, false, not, ◌||◌, cond, eqb, nat_lt, map, List, [], ◌∷◌, ◌++◌, length, get_or, set, Option, None, Some, is_some, refl, sym, ap, ◌∙◌, subst}
use Rattle.std.proofs.Math.Bool.{or-false, or-true}
use Rattle.std.proofs.Math.Seq.{map-set_same}
use Rattle.std.proofs.lemmas.Bool.{eqb-true, eq-eqb, ltb-false}
use Rattle.std.proofs.lemmas.List.{append-nil, map-append, length-map}
use Rattle.std.proofs.lemmas.List.Folds.{find-append, find-set, find_past, find_at}
use Rattle.std.proofs.lemmas.List.Quantifiers.{position-Some}
use Rattle.std.proofs.lemmas.Option.{slice_get_past, slice_get-get_or}
use Rattle.std.specs.Option.{option_map, option_or}
use Rattle.std.specs.Cmp.{nat_eq_equiv}
use Rattle.std.specs.List.{AllByRecursion, IsDistinct, position, position_from, position_or_len, slice_get}
use Rattle.std.specs.Map.{lookup}
use Rattle.std.proofs.lemmas.Iterator.Adapters.{position_from-zero}
use Rattle.ofx_types.specs.declared.recurring.ModelRow.{ModelRow}
use Rattle.ofx_types.specs.declared.transfer.TransferRow.{TransferRow}
use Rattle.ofx_types.specs.declared.transfer.Change.{Change}
use Rattle.ofx_types.specs.declared.transfer.Change.TheVariants.{NewTransfer, SetTransfer, DropTransfer, NewModel, SetModel, DropModel, NewMail}
use Rattle.bank_model.specs.declared.entry.Entry.{Entry}
use Rattle.bank_model.specs.Models.{model_in, if_model_named, or_model_before, model_of, drops_model, is_of_model, is_made_by, next_occurrence}
use Rattle.bank_recur.specs.Growth.{occurrence_after}
use Rattle.bank_recur.specs.ModelsView.{Series, ModelsView, series_found, row_found, is_cancelled_series, cancelled_found, occurrence_in_series, occurrence_found, id_made, ids_of, IsOnce, HasIndices, Represents, GivesModel, Cancels, IsMadeBy, LeavesModels}
use Rattle.bank_recur.proofs.GrowthLemmas.{model_of-push, is_model_dropped-push, ids_made-push, next_occurrence-push}

-- ---- one entry more

-- What one entry more does to the recurring transfers.
pub record Grows (old new : List Series) (entries : List Entry) (change : Change) : Type 0 where
  pub rows : (id : ℕ) → row_found id new ≡ or_model_before (row_found id old) (if_model_named id (model_in change))
  pub dropped : (id : ℕ) → cancelled_found id new ≡ (cancelled_found id old || drops_model id change)
  pub occurrences : (id : ℕ) → is_some (row_found id new) ≡ true → occurrence_found id new ≡ occurrence_after id (next_occurrence id entries) change
  pub order : ids_of new ≡ ids_of old ++ id_made change

pub holds_more : (old new : ModelsView) (entries : List Entry) (entry : Entry) → Represents old entries → Grows old.series new.series entries entry.change → Represents new (entries ++ entry ∷ [])
holds_more old new entries entry holds grows = record {
  rows = λ id. grows.rows id ∙ ap (λ row. or_model_before row (if_model_named id (model_in entry.change))) (holds.rows id) ∙ sym (model_of-push id entries entry);
  dropped = λ id. grows.dropped id ∙ ap (λ b. b || drops_model id entry.change) (holds.dropped id) ∙ sym (is_model_dropped-push id entries entry);
  occurrences = λ id there. grows.occurrences id there ∙ sym (next_occurrence-push id entries entry);
  order = grows.order ∙ ap (λ ids. ids ++ id_made entry.change) holds.order ∙ sym (ids_made-push entries entry);
}

-- ---- one recurring transfer in another's stead, or after all others

-- The recurring transfers are as they were, but for the one of an id.
abbrev pub IsNow : ℕ → Series → List Series → List Series → Type 0
IsNow id one old new = (other : ℕ) → series_found other new ≡ cond (eqb id other) (Some one) (series_found other old)

-- What holds of the one of that id, and of all others as they were, holds of each.
by_id : (id : ℕ) (one : Series) (old new : List Series) → IsNow id one old new → (P : ℕ → Option Series → Type 0) → P id (Some one) → ((other : ℕ) → eqb id other ≡ false → P other (series_found other old)) → (other : ℕ) → P other (series_found other new)
by_id id one old new now P here elsewhere other = subst (P other) (sym (now other)) (named (eqb id other) refl)
  where
    named : (b : Bool) → eqb id other ≡ b → P other (cond b (Some one) (series_found other old))
    named true e = subst (λ (n : ℕ). P n (Some one)) (eqb-true id other e) here
    named false e = elsewhere other e

pub found_id : (id : ℕ) (one : Series) (series : List Series) → series_found id series ≡ Some one → one.row.id ≡ id
found_id id one [] found = cc
found_id id one (s ∷ series) found = (elim (eqb s.row.id id) as (λ b. eqb s.row.id id ≡ b → cond b (Some s) (series_found id series) ≡ Some one → one.row.id ≡ id) [
  | true ↦ (λ e is. let same : s ≡ one = cc in ap (λ (o : Series). o.row.id) (sym same) ∙ eqb-true s.row.id id e)
  | false ↦ (λ e is. found_id id one series is)
]) refl found

abbrev pub is_named : ℕ → Series → Bool
is_named id one = eqb one.row.id id

-- where the one of an id stands
pub record IsAt (id at : ℕ) (one : Series) (series : List Series) : Type 0 where
  pub index : at ≡ position_or_len (is_named id) series
  pub within : at < length series
  pub found : series_found id series ≡ Some one
  pub element : get_or series at one ≡ one

pub is_at : (id at : ℕ) (one : Series) (series seen : List Series) (where_is : Option ℕ) → where_is ≡ position (is_named id) seen → seen ≡ series → where_is ≡ Some at → one ≡ get_or series at one → IsAt id at one series
is_at id at one series seen where_is looked same is element =
    let located : position (is_named id) series ≡ Some at = sym (looked ∙ ap (position (is_named id)) same) ∙ is in
    let facts = position-Some (is_named id) series at one located in
    let index : at ≡ position_or_len (is_named id) series = first (nat_lt (position_or_len (is_named id) series) (length series)) (position_or_len (is_named id) series) located in
    record {
      index = index;
      within = facts.0;
      found = find_at (is_named id) series ∙ ap (slice_get series) (sym index) ∙ slice_get-get_or series at one facts.0 ∙ ap (λ (o : Series). Some o) (sym element);
      element = sym element;
    }
  where
    first : (b : Bool) (n : ℕ) → cond b (Some n) None ≡ Some at → at ≡ n
    first true n is = cc
    first false n is = cc

-- ---- the ids beside the recurring transfers

prefix-map : {A B : Type 0} (f : A → B) (p : B → Bool) (xs : List A) → position_or_len p (map f xs) ≡ position_or_len (λ x. p (f x)) xs
prefix-map f p [] = refl
prefix-map f p (x ∷ xs) = ap (λ n. cond (not (p (f x))) (1 + n) 0) (prefix-map f p xs)

-- The place of an id among them is that of its recurring transfer.
pub index_by_id : (id : ℕ) (series : List Series) → position (λ k. eqb id k) (ids_of series) ≡ position (is_named id) series
index_by_id id series =
    (λ i. position (λ k. nat_eq_equiv.symm id k i) (ids_of series))
    ∙ (λ i. cond (nat_lt (prefix-map (λ (one : Series). one.row.id) (λ k. eqb k id) series i) (length-map series (λ (one : Series). one.row.id) i)) (Some (prefix-map (λ (one : Series). one.row.id) (λ k. eqb k id) series i)) None)

from_push : (test : ℕ → Bool) (i : ℕ) (ids : List ℕ) (id : ℕ) → position_from test i (ids ++ id ∷ []) ≡ option_or (position_from test i ids) (cond (test id) (Some (i + length ids)) None)
from_push test i [] id = let same : i ≡ i + 0 = omega arith in ap (λ n. cond (test id) (Some n) None) same
from_push test i (k ∷ ids) id =
    let rest = from_push test (i + 1) ids id in
    let same : i + 1 + length ids ≡ i + length (k ∷ ids) = omega arith in
    elim (test k) as (λ b. cond b (Some i) (position_from test (i + 1) (ids ++ id ∷ [])) ≡ option_or (cond b (Some i) (position_from test (i + 1) ids)) (cond (test id) (Some (i + length (k ∷ ids))) None)) [
      | true ↦ refl
      | false ↦ rest ∙ ap (λ n. option_or (position_from test (i + 1) ids) (cond (test id) (Some n) None)) same
    ]

position_push : (test : ℕ → Bool) (ids : List ℕ) (id : ℕ) → position test (ids ++ id ∷ []) ≡ option_or (position test ids) (cond (test id) (Some (length ids)) None)
position_push test ids id =
    let same : 0 + length ids ≡ length ids = omega arith in
    position_from-zero test (ids ++ id ∷ []) ∙ from_push test 0 ids id
    ∙ (λ i. option_or (sym (position_from-zero test ids) i) (cond (test id) (Some (same i)) None))

-- One more id, which isn't there, comes with the index of the end.
pub indices_pushed : (id at : ℕ) (ids : List ℕ) (old new : List (ℕ × ℕ)) → position (λ k. eqb id k) ids ≡ None → at ≡ length ids
    → ((other : ℕ) → lookup (λ k. eqb other k) new ≡ cond (eqb id other) (Some at) (lookup (λ k. eqb other k) old)) → HasIndices old ids → HasIndices new (ids ++ id ∷ [])
indices_pushed id at ids old new none last put held other = put other ∙ named (eqb id other) refl ∙ sym (position_push (λ k. eqb other k) ids id)
  where
    alone : (found : Option ℕ) → found ≡ option_or found None
    alone None = refl
    alone (Some n) = refl

    named : (b : Bool) → eqb id other ≡ b → cond b (Some at) (lookup (λ k. eqb other k) old) ≡ option_or (position (λ k. eqb other k) ids) (cond (eqb other id) (Some (length ids)) None)
    named true e =
        ap (λ n. Some n) last
        ∙ sym (ap (λ b. cond b (Some (length ids)) None) (nat_eq_equiv.symm other id ∙ e))
        ∙ sym (ap (λ found. option_or found (cond (eqb other id) (Some (length ids)) None)) (ap (λ n. position (λ k. eqb n k) ids) (sym (eqb-true id other e)) ∙ none))
    named false e =
        held other ∙ alone (position (λ k. eqb other k) ids)
        ∙ sym (ap (λ b. option_or (position (λ k. eqb other k) ids) (cond b (Some (length ids)) None)) (nat_eq_equiv.symm other id ∙ e))

pub now_set : (id at : ℕ) (one new : Series) (series : List Series) → IsAt id at one series → new.row.id ≡ id → IsNow id new series (set series at new)
now_set id at one new series is_there same other = named (eqb id other) refl
  where
    named : (b : Bool) → eqb id other ≡ b → series_found other (set series at new) ≡ cond b (Some new) (series_found other series)
    named true e = subst (λ (n : ℕ). series_found n (set series at new) ≡ Some new) (eqb-true id other e) (find-set (is_named id) series at new is_there.index is_there.within (eq-eqb new.row.id id same))
    named false e = find_past (is_named other) series at new one (ap (λ (o : Series). eqb o.row.id other) is_there.element ∙ ap (λ n. eqb n other) (found_id id one series is_there.found) ∙ e) (ap (λ n. eqb n other) same ∙ e)

-- the one of that id is the new one
now_found : (id : ℕ) (one : Series) (old new : List Series) → IsNow id one old new → series_found id new ≡ Some one
now_found id one old new now = now id ∙ ap (λ (b : Bool). cond b (Some one) (series_found id old)) (eq-eqb id id refl)

-- The recurring transfer has this row, and its next one is at the place 0.
abbrev pub BeginsSo : ModelRow → List Series → Type 0
BeginsSo row series = (row_found row.id series ≡ Some row) × (occurrence_found row.id series ≡ 0)

begins : (row : ModelRow) (cancelled : Bool) (series : List Series) → series_found row.id series ≡ Some (record { row = row; cancelled = cancelled; occurrence = 0 }) → BeginsSo row series
begins row cancelled series found = (ap (option_map (λ (one : Series). one.row)) found, ap occurrence_in_series found)

pub begins_set : (series new : List Series) (at : ℕ) (held : Series) (row : ModelRow) → IsAt row.id at held series
    → new ≡ set series at (record { row = row; cancelled = held.cancelled; occurrence = 0 }) → BeginsSo row new
begins_set series new at held row there same =
    let one : Series = record { row = row; cancelled = held.cancelled; occurrence = 0 } in
    subst (BeginsSo row) (sym same) (begins row held.cancelled (set series at one) (now_found row.id one series (set series at one) (now_set row.id at held one series there refl)))

pub ids_set : (id at : ℕ) (one new : Series) (series : List Series) → IsAt id at one series → new.row.id ≡ id → ids_of (set series at new) ≡ ids_of series
ids_set id at one new series is_there same =
    map-set_same (λ (o : Series). o.row.id) series at new one (same ∙ sym (found_id id one series is_there.found) ∙ sym (ap (λ (o : Series). o.row.id) is_there.element))

pub once_set : (id at : ℕ) (one new : Series) (series : List Series) → IsAt id at one series → new.row.id ≡ id → IsOnce series → IsOnce (set series at new)
once_set id at one new series is_there same once = subst (IsDistinct (λ a b. eqb a b)) (sym (ids_set id at one new series is_there same)) once

pub none_found : (id : ℕ) (series seen : List Series) (where_is : Option ℕ) → where_is ≡ position (is_named id) seen → seen ≡ series → where_is ≡ None → series_found id series ≡ None
none_found id series seen where_is looked same is =
    let none : position (is_named id) series ≡ None = sym (looked ∙ ap (position (is_named id)) same) ∙ is in
    find_at (is_named id) series ∙ slice_get_past series (position_or_len (is_named id) series) (past (nat_lt (position_or_len (is_named id) series) (length series)) refl none)
  where
    past : (b : Bool) → nat_lt (position_or_len (is_named id) series) (length series) ≡ b → cond b (Some (position_or_len (is_named id) series)) None ≡ None → length series ≤ position_or_len (is_named id) series
    past true e is = cc
    past false e is = ltb-false (position_or_len (is_named id) series) (length series) e

pub now_pushed : (new : Series) (series : List Series) → series_found new.row.id series ≡ None → IsNow new.row.id new series (series ++ new ∷ [])
now_pushed new series none other = find-append (is_named other) series (new ∷ []) ∙ named (eqb new.row.id other) refl
  where
    named : (b : Bool) → eqb new.row.id other ≡ b → option_or (series_found other series) (cond b (Some new) None) ≡ cond b (Some new) (series_found other series)
    named true e = ap (λ found. option_or found (Some new)) (ap (λ n. series_found n series) (sym (eqb-true new.row.id other e)) ∙ none)
    named false e = alone (series_found other series)
      where
        alone : (found : Option Series) → option_or found None ≡ found
        alone None = refl
        alone (Some one) = refl

pub begins_pushed : (series new : List Series) (row : ModelRow) → series_found row.id series ≡ None
    → new ≡ series ++ record { row = row; cancelled = false; occurrence = 0 } ∷ [] → BeginsSo row new
begins_pushed series new row none same =
    let one : Series = record { row = row; cancelled = false; occurrence = 0 } in
    subst (BeginsSo row) (sym same) (begins row false (series ++ one ∷ []) (now_found row.id one series (series ++ one ∷ []) (now_pushed one series none)))

apart_pushed : (x new : Series) (series : List Series) → eqb x.row.id new.row.id ≡ false → AllByRecursion (λ id. eqb x.row.id id ≡ false) (ids_of series) → AllByRecursion (λ id. eqb x.row.id id ≡ false) (ids_of (series ++ new ∷ []))
apart_pushed x new [] apart all = (apart, tt)
apart_pushed x new (s ∷ series) apart all = (all.0, apart_pushed x new series apart all.1)

pub once_pushed : (new : Series) (series : List Series) → series_found new.row.id series ≡ None → IsOnce series → IsOnce (series ++ new ∷ [])
unfolding IsDistinct
once_pushed new [] none once = (tt, tt)
once_pushed new (s ∷ series) none once =
    let parts = split (eqb s.row.id new.row.id) none in
    (apart_pushed s new series parts.0 once.0, once_pushed new series parts.1 once.1)
  where
    split : (b : Bool) → cond b (Some s) (series_found new.row.id series) ≡ None → (b ≡ false) × (series_found new.row.id series ≡ None)
    split true is = cc
    split false is = (refl, is)

-- ---- what an entry does to the one of an id

-- a row that is given
given_grows : (old new : ModelsView) (entries : List Entry) (change : Change) (one : Series) → Represents old entries → IsNow one.row.id one old.series new.series → one.cancelled ≡ cancelled_found one.row.id old.series → one.occurrence ≡ 0 → ids_of new.series ≡ ids_of old.series ++ id_made change → model_in change ≡ Some one.row → ((id : ℕ) → drops_model id change ≡ false) → ((id : ℕ) → is_made_by id change ≡ false) → Grows old.series new.series entries change
given_grows old new entries change one holds now cancelled occurrence order gives drops made = record {
  rows = by_id one.row.id one old.series new.series now (λ id found. option_map (λ (o : Series). o.row) found ≡ or_model_before (row_found id old.series) (if_model_named id (model_in change)))
      (sym (ap (or_model_before (row_found one.row.id old.series)) (named one.row.id true (eq-eqb one.row.id one.row.id refl))))
      (λ id e. sym (ap (or_model_before (row_found id old.series)) (named id false e)));
  dropped = by_id one.row.id one old.series new.series now (λ id found. is_cancelled_series found ≡ (cancelled_found id old.series || drops_model id change))
      (cancelled ∙ kept one.row.id)
      (λ id e. kept id);
  occurrences = by_id one.row.id one old.series new.series now (λ id found. is_some (option_map (λ (o : Series). o.row) found) ≡ true → occurrence_in_series found ≡ occurrence_after id (next_occurrence id entries) change)
      (λ is. occurrence ∙ sym (located one.row.id true (eq-eqb one.row.id one.row.id refl)))
      (λ id e is. holds.occurrences id is ∙ sym (located id false e ∙ ap (λ b. cond b (next_occurrence id entries + 1) (next_occurrence id entries)) (made id)));
  order = order;
}
  where
    named : (id : ℕ) (b : Bool) → eqb one.row.id id ≡ b → if_model_named id (model_in change) ≡ cond b (Some one.row) None
    named id b e = ap (if_model_named id) gives ∙ ap (λ c. cond c (Some one.row) None) e

    kept : (id : ℕ) → cancelled_found id old.series ≡ (cancelled_found id old.series || drops_model id change)
    kept id = sym (ap (λ b. cancelled_found id old.series || b) (drops id) ∙ or-false (cancelled_found id old.series))

    located : (id : ℕ) (b : Bool) → eqb one.row.id id ≡ b → occurrence_after id (next_occurrence id entries) change ≡ cond b 0 (cond (is_made_by id change) (next_occurrence id entries + 1) (next_occurrence id entries))
    located id b e = ap (λ row. cond (is_of_model id row) 0 (cond (is_made_by id change) (next_occurrence id entries + 1) (next_occurrence id entries))) gives ∙ ap (λ c. cond c 0 (cond (is_made_by id change) (next_occurrence id entries + 1) (next_occurrence id entries))) e

row_is : (id : ℕ) (series : List Series) (row : Option ModelRow) → row_found id series ≡ row → series_found id series ≡ None → row ≡ None
row_is id series row rows none = sym rows ∙ ap (option_map (λ (o : Series). o.row)) none

is_there : (id : ℕ) (old : ModelsView) (entries : List Entry) → Represents old entries → series_found id old.series ≡ None → is_some (model_of id entries) ≡ true → ⊥
is_there id old entries holds none there = let e : false ≡ true = ap is_some (sym (row_is id old.series (model_of id entries) (holds.rows id) none)) ∙ there in cc

not_there : (id : ℕ) (one : Series) (old : ModelsView) (entries : List Entry) → Represents old entries → series_found id old.series ≡ Some one → model_of id entries ≡ None → ⊥
not_there id one old entries holds found none = let e : Some one.row ≡ None = ap (option_map (λ (o : Series). o.row)) (sym found) ∙ holds.rows id ∙ none in cc

pub occurrence_is : (id : ℕ) (one : Series) (old : ModelsView) (entries : List Entry) → Represents old entries → series_found id old.series ≡ Some one → one.occurrence ≡ next_occurrence id entries
occurrence_is id one old entries holds found = sym (ap occurrence_in_series found) ∙ holds.occurrences id (ap (λ o. is_some (option_map (λ (s : Series). s.row) o)) found)

-- the row of one that is there
pub holds_set : (old new : ModelsView) (entries : List Entry) (entry : Entry) (at : ℕ) (one : Series) (row : ModelRow) → Represents old entries → IsAt row.id at one old.series → GivesModel entries entry.change row → new.series ≡ set old.series at (record { row = row; cancelled = one.cancelled; occurrence = 0 }) → Represents new (entries ++ entry ∷ [])
holds_set old new entries entry at one row holds there gives is = holds_more old new entries entry holds (grows entry.change gives)
  where
    begun : Series
    begun = record { row = row; cancelled = one.cancelled; occurrence = 0 }

    now : IsNow row.id begun old.series new.series
    now = subst (IsNow row.id begun old.series) (sym is) (now_set row.id at one begun old.series there refl)

    grows : (change : Change) → GivesModel entries change row → Grows old.series new.series entries change
    grows (NewTransfer given) g = absurd g
    grows (SetTransfer given) g = absurd g
    grows (DropTransfer id) g = absurd g
    grows (NewModel given) g = absurd (not_there row.id one old entries holds there.found g.1)
    grows (SetModel given pending) g = given_grows old new entries (SetModel given pending) begun holds now (sym (ap is_cancelled_series there.found)) refl (ap ids_of is ∙ ids_set row.id at one begun old.series there refl ∙ sym (append-nil (ids_of old.series))) (ap (λ (r : ModelRow). Some r) g.0) (λ id. refl) (λ id. refl)
    grows (DropModel id pending) g = absurd g
    grows (NewMail mail) g = absurd g

-- the row of one that is new
pub holds_pushed : (old new : ModelsView) (entries : List Entry) (entry : Entry) (row : ModelRow) → Represents old entries → series_found row.id old.series ≡ None → GivesModel entries entry.change row → new.series ≡ old.series ++ record { row = row; cancelled = false; occurrence = 0 } ∷ [] → Represents new (entries ++ entry ∷ [])
holds_pushed old new entries entry row holds none gives is = holds_more old new entries entry holds (grows entry.change gives)
  where
    begun : Series
    begun = record { row = row; cancelled = false; occurrence = 0 }

    now : IsNow row.id begun old.series new.series
    now = subst (IsNow row.id begun old.series) (sym is) (now_pushed begun old.series none)

    grows : (change : Change) → GivesModel entries change row → Grows old.series new.series entries change
    grows (NewTransfer given) g = absurd g
    grows (SetTransfer given) g = absurd g
    grows (DropTransfer id) g = absurd g
    grows (NewModel given) g = given_grows old new entries (NewModel given) begun holds now (sym (ap is_cancelled_series none)) refl (ap ids_of is ∙ map-append (λ (o : Series). o.row.id) old.series (begun ∷ []) ∙ ap (λ (r : ModelRow). ids_of old.series ++ r.id ∷ []) (sym g.0)) (ap (λ (r : ModelRow). Some r) g.0) (λ id. refl) (λ id. refl)
    grows (SetModel given pending) g = absurd (is_there row.id old entries holds none g.1)
    grows (DropModel id pending) g = absurd g
    grows (NewMail mail) g = absurd g

-- one that is cancelled
pub holds_cancelled : (old new : ModelsView) (entries : List Entry) (entry : Entry) (id at : ℕ) (one : Series) → Represents old entries → IsAt id at one old.series → Cancels entries entry.change id → new.series ≡ set old.series at (record { row = one.row; cancelled = true; occurrence = one.occurrence }) → Represents new (entries ++ entry ∷ [])
holds_cancelled old new entries entry id at one holds there cancels is = holds_more old new entries entry holds (grows entry.change cancels)
  where
    gone : Series
    gone = record { row = one.row; cancelled = true; occurrence = one.occurrence }

    now : IsNow id gone old.series new.series
    now = subst (IsNow id gone old.series) (sym is) (now_set id at one gone old.series there (found_id id one old.series there.found))

    same_row : row_found id old.series ≡ Some one.row
    same_row = ap (option_map (λ (o : Series). o.row)) there.found

    dropped_id : (pending : Bool) → Grows old.series new.series entries (DropModel id pending)
    dropped_id pending = record {
      rows = by_id id gone old.series new.series now (λ other found. option_map (λ (o : Series). o.row) found ≡ row_found other old.series) (sym same_row) (λ other e. refl);
      dropped = by_id id gone old.series new.series now (λ other found. is_cancelled_series found ≡ (cancelled_found other old.series || eqb id other))
          (sym (ap (λ b. cancelled_found id old.series || b) (eq-eqb id id refl) ∙ or-true (cancelled_found id old.series)))
          (λ other e. sym (ap (λ b. cancelled_found other old.series || b) e ∙ or-false (cancelled_found other old.series)));
      occurrences = by_id id gone old.series new.series now (λ other found. is_some (option_map (λ (o : Series). o.row) found) ≡ true → occurrence_in_series found ≡ next_occurrence other entries)
          (λ is. occurrence_is id one old entries holds there.found)
          (λ other e. holds.occurrences other);
      order = ap ids_of is ∙ ids_set id at one gone old.series there (found_id id one old.series there.found) ∙ sym (append-nil (ids_of old.series));
    }

    grows : (change : Change) → Cancels entries change id → Grows old.series new.series entries change
    grows (NewTransfer given) g = absurd g
    grows (SetTransfer given) g = absurd g
    grows (DropTransfer dropped) g = absurd g
    grows (NewModel given) g = absurd g
    grows (SetModel given pending) g = absurd g
    grows (DropModel dropped pending) g = subst (λ (n : ℕ). Grows old.series new.series entries (DropModel n pending)) (sym g.0) (dropped_id pending)
    grows (NewMail mail) g = absurd g

-- no recurring transfer is cancelled that isn't there
pub none_cancelled : (old : ModelsView) (entries : List Entry) (change : Change) (id : ℕ) → Represents old entries → series_found id old.series ≡ None → Cancels entries change id → ⊥
none_cancelled old entries (NewTransfer given) id holds none g = g
none_cancelled old entries (SetTransfer given) id holds none g = g
none_cancelled old entries (DropTransfer dropped) id holds none g = g
none_cancelled old entries (NewModel given) id holds none g = g
none_cancelled old entries (SetModel given pending) id holds none g = g
none_cancelled old entries (DropModel dropped pending) id holds none g = is_there id old entries holds none g.1
none_cancelled old entries (NewMail mail) id holds none g = g

-- one that has made its next transfer
pub holds_stepped : (old new : ModelsView) (entries : List Entry) (entry : Entry) (id at : ℕ) (one : Series) → Represents old entries → IsAt id at one old.series → IsMadeBy entries entry.change id → new.series ≡ set old.series at (record { row = one.row; cancelled = one.cancelled; occurrence = one.occurrence + 1 }) → Represents new (entries ++ entry ∷ [])
holds_stepped old new entries entry id at one holds there makes is = holds_more old new entries entry holds (grows entry.change makes)
  where
    next : Series
    next = record { row = one.row; cancelled = one.cancelled; occurrence = one.occurrence + 1 }

    now : IsNow id next old.series new.series
    now = subst (IsNow id next old.series) (sym is) (now_set id at one next old.series there (found_id id one old.series there.found))

    same_row : row_found id old.series ≡ Some one.row
    same_row = ap (option_map (λ (o : Series). o.row)) there.found

    raised : (occurrence : ℕ) (b : Bool) → (e : b ≡ true) → cond b (occurrence + 1) occurrence ≡ occurrence + 1
    raised occurrence true e = refl
    raised occurrence false e = cc

    made : (row : TransferRow) → row.model ≡ id → Grows old.series new.series entries (NewTransfer row)
    made row of_model = record {
      rows = by_id id next old.series new.series now (λ other found. option_map (λ (o : Series). o.row) found ≡ row_found other old.series) (sym same_row) (λ other e. refl);
      dropped = by_id id next old.series new.series now (λ other found. is_cancelled_series found ≡ (cancelled_found other old.series || false))
          (sym (or-false (cancelled_found id old.series) ∙ ap is_cancelled_series there.found))
          (λ other e. sym (or-false (cancelled_found other old.series)));
      occurrences = by_id id next old.series new.series now (λ other found. is_some (option_map (λ (o : Series). o.row) found) ≡ true → occurrence_in_series found ≡ cond (eqb row.model other) (next_occurrence other entries + 1) (next_occurrence other entries))
          (λ is. ap (λ n. n + 1) (occurrence_is id one old entries holds there.found) ∙ sym (raised (next_occurrence id entries) (eqb row.model id) (eq-eqb row.model id of_model)))
          (λ other e is. holds.occurrences other is ∙ sym (ap (λ b. cond b (next_occurrence other entries + 1) (next_occurrence other entries)) (ap (λ n. eqb n other) of_model ∙ e)));
      order = ap ids_of is ∙ ids_set id at one next old.series there (found_id id one old.series there.found) ∙ sym (append-nil (ids_of old.series));
    }

    grows : (change : Change) → IsMadeBy entries change id → Grows old.series new.series entries change
    grows (NewTransfer row) g = made row g.0
    grows (SetTransfer given) g = absurd g
    grows (DropTransfer dropped) g = absurd g
    grows (NewModel given) g = absurd g
    grows (SetModel given pending) g = absurd g
    grows (DropModel dropped pending) g = absurd g
    grows (NewMail mail) g = absurd g

-- ---- a change of a transfer that no recurring transfer makes, and mail

left_alone : (old : ModelsView) (entries : List Entry) (change : Change) → Represents old entries → LeavesModels entries change → Grows old.series old.series entries change
left_alone old entries (NewTransfer row) holds is = record {
  rows = λ id. refl;
  dropped = λ id. sym (or-false (cancelled_found id old.series));
  occurrences = λ id there. holds.occurrences id there ∙ unmade id there (eqb row.model id) (eqb-true row.model id);
  order = sym (append-nil (ids_of old.series));
}
  where
    unmade : (id : ℕ) → is_some (row_found id old.series) ≡ true → (made : Bool) → (made ≡ true → row.model ≡ id) → next_occurrence id entries ≡ cond made (next_occurrence id entries + 1) (next_occurrence id entries)
    unmade id there true same = let e : false ≡ true = ap is_some (sym (holds.rows id ∙ ap (λ n. model_of n entries) (sym (same refl)) ∙ is)) ∙ there in cc
    unmade id there false same = refl
left_alone old entries (SetTransfer row) holds is = record {
  rows = λ id. refl;
  dropped = λ id. sym (or-false (cancelled_found id old.series));
  occurrences = holds.occurrences;
  order = sym (append-nil (ids_of old.series));
}
left_alone old entries (DropTransfer gone) holds is = record {
  rows = λ id. refl;
  dropped = λ id. sym (or-false (cancelled_found id old.series));
  occurrences = holds.occurrences;
  order = sym (append-nil (ids_of old.series));
}
left_alone old entries (NewModel row) holds is = absurd is
left_alone old entries (SetModel row pending) holds is = absurd is
left_alone old entries (DropModel id pending) holds is = absurd is
left_alone old entries (NewMail mail) holds is = record {
  rows = λ id. refl;
  dropped = λ id. sym (or-false (cancelled_found id old.series));
  occurrences = holds.occurrences;
  order = sym (append-nil (ids_of old.series));
}

pub holds_kept : (models : ModelsView) (entries : List Entry) (entry : Entry) → Represents models entries → LeavesModels entries entry.change → Represents models (entries ++ entry ∷ [])
holds_kept models entries entry holds is = holds_more models models entries entry holds (left_alone models entries entry.change holds is)
