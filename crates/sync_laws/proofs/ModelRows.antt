-- The rows of an account's recurring transfers, entry by entry.
use Rattle.std.proofs.Common.{◌≡◌, ℕ, ◌+◌, inl, inr, Bool, true, false, ◌||◌, cond, eqb, List, [], ◌∷◌, ◌++◌, length, Option, None, Some, refl, sym, ap, ◌∙◌, arith}
use Rattle.std.specs.Prelude.{is_some}
use Rattle.std.proofs.Math.Bool.{or-false, or-true}
use Rattle.std.specs.Option.{IfSome}
use Rattle.std.proofs.lemmas.Bool.{eqb-true, or_cases, true≢false, false_from_ne_true}
use Rattle.ofx_types.specs.declared.number.ObjectId.{ObjectId}
use Rattle.ofx_types.specs.declared.transfer.Change.{Change}
use Rattle.ofx_types.specs.declared.transfer.Change.TheVariants.{NewTransfer, SetTransfer, DropTransfer, NewModel, SetModel, DropModel, NewMail}
use Rattle.ofx_types.specs.declared.transfer.Family.TheVariants as families
use Rattle.ofx_types.specs.declared.recurring.ModelRow.{ModelRow}
use Rattle.bank_model.specs.declared.entry.Entry.{Entry}
use Rattle.bank_model.specs.declared.setup.Setup.{Setup}
use Rattle.bank_model.specs.Models.{model_of, drops_model, is_model_dropped}
use Rattle.bank_model.specs.Deeds.{model_object_of}
use Rattle.bank_model.specs.Objects.{history_of}
use Rattle.bank_model.specs.Stores.{Row, model_row, id_of, changed}
use Rattle.sync_laws.specs.Histories.{GoesOn, MaySay, Follows, AllFollow}
use Rattle.sync_laws.proofs.Lists.{cond_same}
use Rattle.bank_recur.proofs.GrowthLemmas.{is_model_dropped-push}
use Rattle.bank_invariants.proofs.RowLemmas.{IsModelNamed, model_of-id}
use Rattle.sync_laws.proofs.Growth.{model_after, model_of-push, model_of-none, is_model_dropped-none}
use Rattle.sync_laws.proofs.Numbers.{by_entries}
use Rattle.sync_laws.proofs.Changes.{fold_entries, fold_entries-append}
use Rattle.sync_laws.proofs.Rows.{HasIds, looked}
use Rattle.sync_laws.proofs.Acts.{Act, made, given, gone, nothing, acted, ids_made, home_after, found_after, Fits, IsStep, Holds, history_push, holds_more, holds_none, rows_more}

abbrev pub act_model : Change → Act
act_model (NewTransfer row) = nothing
act_model (SetTransfer row) = nothing
act_model (DropTransfer id) = nothing
act_model (NewModel row) = made row.id (model_row row)
act_model (SetModel row also) = given row.id (model_row row)
act_model (DropModel id also) = gone id
act_model (NewMail mail) = nothing

-- the object in which a recurring transfer stands, and its row unless it is cancelled
abbrev pub home_of : Setup → Option ModelRow → Option ℕ
home_of setup None = None
home_of setup (Some row) = Some (model_object_of setup row.from).0

abbrev pub found_of : Bool → Option ModelRow → Option Row
found_of dropped None = None
found_of dropped (Some row) = cond dropped None (Some (model_row row))

abbrev pub model_home : Setup → List Entry → ℕ → Option ℕ
model_home setup entries j = home_of setup (model_of j entries)

abbrev pub model_found : List Entry → ℕ → Option Row
model_found entries j = found_of (is_model_dropped j entries) (model_of j entries)

-- What holds of the recurring transfers of a history that is in order. The entries of an object make the rows that are found.
pub record AreKnown (setup : Setup) (entries : List Entry) : Type 0 where
  pub holds : Holds act_model entries (model_home setup entries)
  pub dropped : (j : ℕ) → is_model_dropped j entries ≡ true → is_some (model_of j entries) ≡ true
  pub rows : (object : ObjectId) → fold_entries families.RecIntra [] (history_of object entries) ≡ looked (model_found entries) (ids_made act_model (history_of object entries))

-- ---- a row has its id

has_id_found : (j : ℕ) (dropped : Bool) (found : Option ModelRow) → IsModelNamed j found → IfSome (found_of dropped found) (λ (row : Row). id_of row ≡ Some j)
has_id_found j dropped None has = tt
has_id_found j true (Some row) has = tt
has_id_found j false (Some row) has = ap (λ (n : ℕ). Some n) has

pub model_has : (entries : List Entry) → HasIds (model_found entries)
model_has entries j = has_id_found j (is_model_dropped j entries) (model_of j entries) (model_of-id j entries)

-- what is new isn't dropped
new_undropped : (setup : Setup) (entries : List Entry) (id : ℕ) → AreKnown setup entries → id ≡ length entries + 1 → is_model_dropped id entries ≡ false
new_undropped setup entries id known new =
    false_from_ne_true (is_model_dropped id entries) (λ before. unmade (model_of id entries) refl (known.dropped id before))
  where
    unmade : (found : Option ModelRow) → model_of id entries ≡ found → is_some found ≡ true → ⊥
    unmade None is some = cc
    unmade (Some row) is some = let less = known.holds.few id (model_object_of setup row.from).0 (ap (home_of setup) is) in omega arith

kept_named : (entries : List Entry) (id j : ℕ) → is_model_dropped id entries ≡ false → eqb id j ≡ true → is_model_dropped j entries ≡ false
kept_named entries id j kept same = ap (λ (n : ℕ). is_model_dropped n entries) (sym (eqb-true id j same)) ∙ kept

-- ---- homes

home_named : (setup : Setup) (row : ModelRow) (found : Option ModelRow) (here : Bool) (home : Option ℕ) → (here ≡ true → Some (model_object_of setup row.from).0 ≡ home) → home_of setup (cond here (Some row) found) ≡ cond here home (home_of setup found)
home_named setup row found true home is = is refl
home_named setup row found false home is = refl

home_row : (setup : Setup) (entries : List Entry) (object : ObjectId) (change : Change) (j : ℕ) → MaySay setup entries object change → home_of setup (model_after j (model_of j entries) change) ≡ home_after object.0 (act_model change) (model_home setup entries) j
home_row setup entries object (NewTransfer row) j says = refl
home_row setup entries object (SetTransfer row) j says = refl
home_row setup entries object (DropTransfer id) j says = refl
home_row setup entries object (NewModel row) j says =
    home_named setup row (model_of j entries) (eqb row.id j) (Some object.0) (λ same. ap (λ (o : ObjectId). Some o.0) (sym says.1))
home_row setup entries object (SetModel row also) j says =
    home_named setup row (model_of j entries) (eqb row.id j) (model_home setup entries j)
    (λ same. ap (λ name. Some (model_object_of setup name).0) says.1 ∙ sym (ap (home_of setup) (ap (λ (n : ℕ). model_of n entries) (sym (eqb-true row.id j same)) ∙ says.0.found)))
    ∙ cond_same (eqb row.id j) (model_home setup entries j)
home_row setup entries object (DropModel id also) j says = refl
home_row setup entries object (NewMail mail) j says = refl

-- ---- rows that are found

found_named : (dropped : Bool) (row : ModelRow) (found : Option ModelRow) (here : Bool) → (here ≡ true → dropped ≡ false) → found_of (dropped || false) (cond here (Some row) found) ≡ cond here (Some (model_row row)) (found_of dropped found)
found_named true row found true kept = absurd (true≢false (kept refl))
found_named false row found true kept = refl
found_named dropped row found false kept = ap (λ b. found_of b found) (or-false dropped)

gone_found : (found : Option ModelRow) → found_of true found ≡ None
gone_found None = refl
gone_found (Some row) = refl

found_dropped : (dropped : Bool) (found : Option ModelRow) (here : Bool) → found_of (dropped || here) found ≡ cond here None (found_of dropped found)
found_dropped dropped found true = ap (λ b. found_of b found) (or-true dropped) ∙ gone_found found
found_dropped dropped found false = ap (λ b. found_of b found) (or-false dropped)

found_left : (dropped : Bool) (found : Option ModelRow) → found_of (dropped || false) found ≡ found_of dropped found
found_left dropped found = ap (λ b. found_of b found) (or-false dropped)

found_row : (setup : Setup) (entries : List Entry) (object : ObjectId) (change : Change) (j : ℕ) → AreKnown setup entries → MaySay setup entries object change → found_of (is_model_dropped j entries || drops_model j change) (model_after j (model_of j entries) change) ≡ found_after (act_model change) (model_found entries) j
found_row setup entries object (NewTransfer row) j known says = found_left (is_model_dropped j entries) (model_of j entries)
found_row setup entries object (SetTransfer row) j known says = found_left (is_model_dropped j entries) (model_of j entries)
found_row setup entries object (DropTransfer id) j known says = found_left (is_model_dropped j entries) (model_of j entries)
found_row setup entries object (NewModel row) j known says =
    found_named (is_model_dropped j entries) row (model_of j entries) (eqb row.id j) (kept_named entries row.id j (new_undropped setup entries row.id known says.0))
found_row setup entries object (SetModel row also) j known says =
    found_named (is_model_dropped j entries) row (model_of j entries) (eqb row.id j) (kept_named entries row.id j says.0.goes_on)
found_row setup entries object (DropModel id also) j known says = found_dropped (is_model_dropped j entries) (model_of j entries) (eqb id j)
found_row setup entries object (NewMail mail) j known says = found_left (is_model_dropped j entries) (model_of j entries)

-- ---- the step

pub goes_home : (setup : Setup) (entries : List Entry) (object : ObjectId) (id : ℕ) → GoesOn setup entries object id → model_home setup entries id ≡ Some object.0
goes_home setup entries object id goes = ap (home_of setup) goes.found ∙ ap (λ (o : ObjectId). Some o.0) (sym goes.here)

goes_found : (setup : Setup) (entries : List Entry) (object : ObjectId) (id : ℕ) (goes : GoesOn setup entries object id) → model_found entries id ≡ Some (model_row goes.row)
goes_found setup entries object id goes =
    ap (found_of (is_model_dropped id entries)) goes.found ∙ ap (λ b. cond b None (Some (model_row goes.row))) goes.goes_on

fits_row : (setup : Setup) (entries : List Entry) (object : ObjectId) (change : Change) → MaySay setup entries object change → Fits (length entries) object.0 (act_model change) (model_home setup entries) (model_found entries)
fits_row setup entries object (NewTransfer row) says = tt
fits_row setup entries object (SetTransfer row) says = tt
fits_row setup entries object (DropTransfer id) says = tt
fits_row setup entries object (NewModel row) says = says.0
fits_row setup entries object (SetModel row also) says = (goes_home setup entries object row.id says.0, (model_row says.0.row, goes_found setup entries object row.id says.0))
fits_row setup entries object (DropModel id also) says = goes_home setup entries object id says
fits_row setup entries object (NewMail mail) says = tt

step_row : (setup : Setup) (entries : List Entry) (entry : Entry) → AreKnown setup entries → Follows setup entries entry → IsStep (length entries) entry.object.0 (act_model entry.change) (model_home setup entries) (model_home setup (entries ++ entry ∷ [])) (model_found entries) (model_found (entries ++ entry ∷ []))
step_row setup entries entry known follows = record {
  fits = fits_row setup entries entry.object entry.change follows.says;
  homes = λ j. (ap (home_of setup) (model_of-push j entries entry) ∙ home_row setup entries entry.object entry.change j follows.says);
  founds = λ j.
      (ap (λ b. found_of b (model_of j (entries ++ entry ∷ []))) (is_model_dropped-push j entries entry)
      ∙ ap (found_of (is_model_dropped j entries || drops_model j entry.change)) (model_of-push j entries entry)
      ∙ found_row setup entries entry.object entry.change j known follows.says);
}

-- ---- what is dropped, one entry more

some_named : (row : ModelRow) (found : Option ModelRow) (here : Bool) → is_some found ≡ true → is_some (cond here (Some row) found) ≡ true
some_named row found true some = refl
some_named row found false some = some

some_row : (setup : Setup) (entries : List Entry) (object : ObjectId) (change : Change) (j : ℕ) → MaySay setup entries object change → (is_model_dropped j entries ≡ true → is_some (model_of j entries) ≡ true) → (is_model_dropped j entries || drops_model j change) ≡ true → is_some (model_after j (model_of j entries) change) ≡ true
some_row setup entries object (NewTransfer row) j says was is = was (sym (or-false (is_model_dropped j entries)) ∙ is)
some_row setup entries object (SetTransfer row) j says was is = was (sym (or-false (is_model_dropped j entries)) ∙ is)
some_row setup entries object (DropTransfer id) j says was is = was (sym (or-false (is_model_dropped j entries)) ∙ is)
some_row setup entries object (NewModel row) j says was is = some_named row (model_of j entries) (eqb row.id j) (was (sym (or-false (is_model_dropped j entries)) ∙ is))
some_row setup entries object (SetModel row also) j says was is = some_named row (model_of j entries) (eqb row.id j) (was (sym (or-false (is_model_dropped j entries)) ∙ is))
some_row setup entries object (DropModel id also) j says was is = (elim (or_cases (is_model_dropped j entries) (eqb id j) is) as (λ either. is_some (model_of j entries) ≡ true) [
  | inl before ↦ was before
  | inr same ↦ ap (λ (n : ℕ). is_some (model_of n entries)) (sym (eqb-true id j same)) ∙ ap is_some says.found
])
some_row setup entries object (NewMail mail) j says was is = was (sym (or-false (is_model_dropped j entries)) ∙ is)

-- ---- rows, one entry more

acts_row : (rows : List Row) (change : Change) → changed families.RecIntra rows change ≡ acted (act_model change) rows
unfolding changed
acts_row rows (NewTransfer row) = refl
acts_row rows (SetTransfer row) = refl
acts_row rows (DropTransfer id) = refl
acts_row rows (NewModel row) = refl
acts_row rows (SetModel row also) = refl
acts_row rows (DropModel id also) = refl
acts_row rows (NewMail mail) = refl

acts_if : (rows : List Row) (entry : Entry) (here : Bool) → fold_entries families.RecIntra rows (cond here (entry ∷ []) []) ≡ cond here (acted (act_model entry.change) rows) rows
acts_if rows entry true = acts_row rows entry.change
acts_if rows entry false = refl

known_more : (setup : Setup) (entries : List Entry) (entry : Entry) → AreKnown setup entries → Follows setup entries entry → AreKnown setup (entries ++ entry ∷ [])
known_more setup entries entry known follows =
    let step = step_row setup entries entry known follows in
    record {
      holds = holds_more act_model entries entry (model_home setup entries) (model_home setup (entries ++ entry ∷ [])) (model_found entries) (model_found (entries ++ entry ∷ [])) known.holds step;
      dropped = λ j is.
          (ap is_some (model_of-push j entries entry)
          ∙ some_row setup entries entry.object entry.change j follows.says (known.dropped j) (sym (is_model_dropped-push j entries entry) ∙ is));
      rows = λ object.
          (ap (fold_entries families.RecIntra []) (history_push object entries entry)
          ∙ fold_entries-append families.RecIntra [] (history_of object entries) (cond (eqb entry.object.0 object.0) (entry ∷ []) [])
          ∙ ap (λ rows. fold_entries families.RecIntra rows (cond (eqb entry.object.0 object.0) (entry ∷ []) [])) (known.rows object)
          ∙ acts_if (looked (model_found entries) (ids_made act_model (history_of object entries))) entry (eqb entry.object.0 object.0)
          ∙ rows_more act_model object entries entry (model_home setup entries) (model_home setup (entries ++ entry ∷ [])) (model_found entries) (model_found (entries ++ entry ∷ [])) known.holds (model_has entries) step);
    }

known_none : (setup : Setup) → AreKnown setup []
unfolding history_of
known_none setup = record {
  holds = holds_none act_model (model_home setup []) (λ j. ap (home_of setup) (model_of-none j));
  dropped = λ j is. absurd (true≢false (sym is ∙ is_model_dropped-none j));
  rows = λ object. refl;
}

pub models_known : (setup : Setup) (entries : List Entry) → AllFollow setup [] entries → AreKnown setup entries
models_known setup entries all = by_entries setup (AreKnown setup) (known_none setup) (λ before entry known follows. known_more setup before entry known follows) entries all
