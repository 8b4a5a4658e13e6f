-- The rows of an account's transfers, entry by entry.
use Rattle.std.proofs.Common.{◌≡◌, ℕ, ◌+◌, Bool, true, false, ◌||◌, cond, eqb, List, [], ◌∷◌, ◌++◌, length, Option, None, Some, refl, sym, ap, ◌∙◌, subst, arith}
use Rattle.std.proofs.Math.Bool.{or-false, or-true}
use Rattle.std.specs.Option.{IfSome, option_map}
use Rattle.std.proofs.lemmas.Bool.{eqb-true, true≢false}
use Rattle.ofx_types.specs.declared.number.ObjectId.{ObjectId}
use Rattle.ofx_types.specs.declared.transfer.XferCode.TheVariants.{Cancelled}
use Rattle.ofx_types.specs.declared.transfer.TransferRow.{TransferRow}
use Rattle.ofx_types.specs.declared.transfer.Change.{Change}
use Rattle.ofx_types.specs.declared.transfer.Change.TheVariants.{NewTransfer, SetTransfer, DropTransfer, NewModel, SetModel, DropModel, NewMail}
use Rattle.ofx_types.specs.declared.transfer.Family.TheVariants as families
use Rattle.bank_model.specs.declared.entry.Entry.{Entry}
use Rattle.bank_model.specs.declared.setup.Setup.{Setup}
use Rattle.bank_model.specs.Ledger.{drops, is_dropped, with_code, row_of}
use Rattle.bank_model.specs.Judging.{is_cancelled}
use Rattle.bank_model.specs.Deeds.{object_of}
use Rattle.bank_model.specs.Objects.{history_of}
use Rattle.bank_model.specs.Stores.{Row, transfer_row, id_of, put, with_model, model_among, changed}
use Rattle.sync_laws.specs.Histories.{Waits, MaySay, Follows, AllFollow}
use Rattle.sync_laws.proofs.Lists.{cond_same}
use Rattle.bank_transfers.specs.Growth.{row_after}
use Rattle.bank_transfers.proofs.GrowthLemmas.{is_dropped-push, row_of-push, HasId, row_of-id}
use Rattle.sync_laws.proofs.Growth.{row_of-none, is_dropped-none}
use Rattle.sync_laws.proofs.Numbers.{by_entries}
use Rattle.bank_invariants.proofs.Verdicts.{open_waits}
use Rattle.sync_laws.proofs.Changes.{fold_entries, fold_entries-append}
use Rattle.sync_laws.proofs.Rows.{HasIds, looked, model_in_index}
use Rattle.sync_laws.proofs.Acts.{Act, made, given, gone, nothing, acted, ids_made, home_after, found_after, Fits, IsStep, Holds, history_push, holds_more, holds_none, rows_more}

abbrev pub act_transfer : Change → Act
act_transfer (NewTransfer row) = made row.id (transfer_row row)
act_transfer (SetTransfer row) = given row.id (transfer_row row)
act_transfer (DropTransfer id) = gone id
act_transfer (NewModel row) = nothing
act_transfer (SetModel row also) = nothing
act_transfer (DropModel id also) = nothing
act_transfer (NewMail mail) = nothing

-- the object in which a transfer stands, and its row unless it is cancelled
abbrev pub home_of : Setup → Option TransferRow → Option ℕ
home_of setup None = None
home_of setup (Some row) = Some (object_of setup row.from).0

abbrev pub found_of : Option TransferRow → Option Row
found_of None = None
found_of (Some row) = cond (is_cancelled row.code) None (Some (transfer_row row))

abbrev is_gone : Option TransferRow → Bool
is_gone None = false
is_gone (Some row) = is_cancelled row.code

abbrev pub transfer_home : Setup → List Entry → ℕ → Option ℕ
transfer_home setup entries j = home_of setup (row_of j entries)

abbrev pub transfer_found : List Entry → ℕ → Option Row
transfer_found entries j = found_of (row_of j entries)

-- What holds of the transfers of a history that is in order. The entries of an object make the rows that are found.
pub record AreKnown (setup : Setup) (entries : List Entry) : Type 0 where
  pub holds : Holds act_transfer entries (transfer_home setup entries)
  pub dropped : (j : ℕ) → is_dropped j entries ≡ is_gone (row_of j entries)
  pub rows : (object : ObjectId) → fold_entries families.Intra [] (history_of object entries) ≡ looked (transfer_found entries) (ids_made act_transfer (history_of object entries))

-- ---- a row has its id

has_id_found : (j : ℕ) (found : Option TransferRow) → HasId j found → IfSome (found_of found) (λ (row : Row). id_of row ≡ Some j)
has_id_found j None has = tt
has_id_found j (Some row) has = unless (is_cancelled row.code)
  where
    unless : (cancelled : Bool) → IfSome (cond cancelled None (Some (transfer_row row))) (λ (held : Row). id_of held ≡ Some j)
    unless true = tt
    unless false = ap (λ (n : ℕ). Some n) has

pub transfer_has : (entries : List Entry) → HasIds (transfer_found entries)
transfer_has entries j = has_id_found j (row_of j entries) (row_of-id j entries)

-- ---- what isn't dropped

new_undropped : (setup : Setup) (entries : List Entry) (id : ℕ) → AreKnown setup entries → id ≡ length entries + 1 → is_dropped id entries ≡ false
new_undropped setup entries id known new = known.dropped id ∙ unmade (row_of id entries) refl
  where
    unmade : (found : Option TransferRow) → row_of id entries ≡ found → is_gone found ≡ false
    unmade None is = refl
    unmade (Some row) is = absurd (let less = known.holds.few id (object_of setup row.from).0 (ap (home_of setup) is) in omega arith)

waits_undropped : (setup : Setup) (entries : List Entry) (object : ObjectId) (id : ℕ) → AreKnown setup entries → Waits setup entries object id → is_dropped id entries ≡ false
waits_undropped setup entries object id known waits = known.dropped id ∙ ap is_gone waits.found ∙ open_waits waits.row.code waits.waits

-- ---- homes

home_given : (setup : Setup) (dropped : Bool) (row : TransferRow) → home_of setup (Some (cond dropped (with_code Cancelled row) row)) ≡ Some (object_of setup row.from).0
home_given setup true row = refl
home_given setup false row = refl

home_dropped : (setup : Setup) (found : Option TransferRow) (here : Bool) → home_of setup (cond here (option_map (with_code Cancelled) found) found) ≡ home_of setup found
home_dropped setup None true = refl
home_dropped setup (Some row) true = refl
home_dropped setup found false = refl

home_named : (setup : Setup) (dropped : Bool) (row : TransferRow) (found : Option TransferRow) (here : Bool) (home : Option ℕ) → (here ≡ true → Some (object_of setup row.from).0 ≡ home) → home_of setup (cond here (Some (cond dropped (with_code Cancelled row) row)) found) ≡ cond here home (home_of setup found)
home_named setup dropped row found true home is = home_given setup dropped row ∙ is refl
home_named setup dropped row found false home is = refl

home_row : (setup : Setup) (entries : List Entry) (object : ObjectId) (change : Change) (j : ℕ) → MaySay setup entries object change → home_of setup (row_after j (is_dropped j entries) (row_of j entries) change) ≡ home_after object.0 (act_transfer change) (transfer_home setup entries) j
home_row setup entries object (NewTransfer row) j says =
    home_named setup (is_dropped j entries) row (row_of j entries) (eqb row.id j) (Some object.0) (λ same. ap (λ (o : ObjectId). Some o.0) (sym says.2))
home_row setup entries object (SetTransfer row) j says =
    home_named setup (is_dropped j entries) row (row_of j entries) (eqb row.id j) (transfer_home setup entries j)
    (λ same. ap (λ name. Some (object_of setup name).0) says.3 ∙ sym (ap (home_of setup) (ap (λ (n : ℕ). row_of n entries) (sym (eqb-true row.id j same)) ∙ says.0.found)))
    ∙ cond_same (eqb row.id j) (transfer_home setup entries j)
home_row setup entries object (DropTransfer id) j says = home_dropped setup (row_of j entries) (eqb id j)
home_row setup entries object (NewModel row) j says = refl
home_row setup entries object (SetModel row also) j says = refl
home_row setup entries object (DropModel id also) j says = refl
home_row setup entries object (NewMail mail) j says = refl

-- ---- rows that are found

found_given : (dropped : Bool) (row : TransferRow) → dropped ≡ false → is_cancelled row.code ≡ false → found_of (Some (cond dropped (with_code Cancelled row) row)) ≡ Some (transfer_row row)
found_given true row kept code = absurd (true≢false kept)
found_given false row kept code = ap (λ b. cond b None (Some (transfer_row row))) code

found_named : (dropped : Bool) (row : TransferRow) (found : Option TransferRow) (here : Bool) → (here ≡ true → dropped ≡ false) → is_cancelled row.code ≡ false → found_of (cond here (Some (cond dropped (with_code Cancelled row) row)) found) ≡ cond here (Some (transfer_row row)) (found_of found)
found_named dropped row found true kept code = found_given dropped row (kept refl) code
found_named dropped row found false kept code = refl

found_dropped : (found : Option TransferRow) (here : Bool) → found_of (cond here (option_map (with_code Cancelled) found) found) ≡ cond here None (found_of found)
found_dropped None true = refl
found_dropped (Some row) true = refl
found_dropped found false = refl

kept_named : (entries : List Entry) (id j : ℕ) → is_dropped id entries ≡ false → eqb id j ≡ true → is_dropped j entries ≡ false
kept_named entries id j kept same = ap (λ (n : ℕ). is_dropped n entries) (sym (eqb-true id j same)) ∙ kept

found_row : (setup : Setup) (entries : List Entry) (object : ObjectId) (change : Change) (j : ℕ) → AreKnown setup entries → MaySay setup entries object change → found_of (row_after j (is_dropped j entries) (row_of j entries) change) ≡ found_after (act_transfer change) (transfer_found entries) j
found_row setup entries object (NewTransfer row) j known says =
    found_named (is_dropped j entries) row (row_of j entries) (eqb row.id j) (kept_named entries row.id j (new_undropped setup entries row.id known says.0)) says.1
found_row setup entries object (SetTransfer row) j known says =
    found_named (is_dropped j entries) row (row_of j entries) (eqb row.id j) (kept_named entries row.id j (waits_undropped setup entries object row.id known says.0)) says.1
found_row setup entries object (DropTransfer id) j known says = found_dropped (row_of j entries) (eqb id j)
found_row setup entries object (NewModel row) j known says = refl
found_row setup entries object (SetModel row also) j known says = refl
found_row setup entries object (DropModel id also) j known says = refl
found_row setup entries object (NewMail mail) j known says = refl

-- ---- the step

pub waits_home : (setup : Setup) (entries : List Entry) (object : ObjectId) (id : ℕ) → Waits setup entries object id → transfer_home setup entries id ≡ Some object.0
waits_home setup entries object id waits = ap (home_of setup) waits.found ∙ ap (λ (o : ObjectId). Some o.0) (sym waits.here)

waits_found : (setup : Setup) (entries : List Entry) (object : ObjectId) (id : ℕ) (waits : Waits setup entries object id) → transfer_found entries id ≡ Some (transfer_row waits.row)
waits_found setup entries object id waits =
    ap found_of waits.found ∙ ap (λ b. cond b None (Some (transfer_row waits.row))) (open_waits waits.row.code waits.waits)

fits_row : (setup : Setup) (entries : List Entry) (object : ObjectId) (change : Change) → MaySay setup entries object change → Fits (length entries) object.0 (act_transfer change) (transfer_home setup entries) (transfer_found entries)
fits_row setup entries object (NewTransfer row) says = says.0
fits_row setup entries object (SetTransfer row) says = (waits_home setup entries object row.id says.0, (transfer_row says.0.row, waits_found setup entries object row.id says.0))
fits_row setup entries object (DropTransfer id) says = waits_home setup entries object id says
fits_row setup entries object (NewModel row) says = tt
fits_row setup entries object (SetModel row also) says = tt
fits_row setup entries object (DropModel id also) says = tt
fits_row setup entries object (NewMail mail) says = tt

step_row : (setup : Setup) (entries : List Entry) (entry : Entry) → AreKnown setup entries → Follows setup entries entry → IsStep (length entries) entry.object.0 (act_transfer entry.change) (transfer_home setup entries) (transfer_home setup (entries ++ entry ∷ [])) (transfer_found entries) (transfer_found (entries ++ entry ∷ []))
step_row setup entries entry known follows = record {
  fits = fits_row setup entries entry.object entry.change follows.says;
  homes = λ j. (ap (home_of setup) (row_of-push j entries entry) ∙ home_row setup entries entry.object entry.change j follows.says);
  founds = λ j. (ap found_of (row_of-push j entries entry) ∙ found_row setup entries entry.object entry.change j known follows.says);
}

-- ---- what is dropped, one entry more

gone_named : (dropped : Bool) (row : TransferRow) (found : Option TransferRow) (here : Bool) → dropped ≡ is_gone found → (here ≡ true → dropped ≡ false) → is_cancelled row.code ≡ false → (dropped || false) ≡ is_gone (cond here (Some (cond dropped (with_code Cancelled row) row)) found)
gone_named true row found true was kept code = absurd (true≢false (kept refl))
gone_named false row found true was kept code = sym code
gone_named dropped row found false was kept code = or-false dropped ∙ was

gone_dropped : (dropped : Bool) (found : Option TransferRow) (here : Bool) (old : TransferRow) → dropped ≡ is_gone found → (here ≡ true → found ≡ Some old) → (dropped || here) ≡ is_gone (cond here (option_map (with_code Cancelled) found) found)
gone_dropped dropped found true old was is = or-true dropped ∙ sym (ap (λ (r : Option TransferRow). is_gone (option_map (with_code Cancelled) r)) (is refl))
gone_dropped dropped found false old was is = or-false dropped ∙ was

gone_row : (setup : Setup) (entries : List Entry) (object : ObjectId) (change : Change) (j : ℕ) → AreKnown setup entries → MaySay setup entries object change → (is_dropped j entries || drops j change) ≡ is_gone (row_after j (is_dropped j entries) (row_of j entries) change)
gone_row setup entries object (NewTransfer row) j known says =
    gone_named (is_dropped j entries) row (row_of j entries) (eqb row.id j) (known.dropped j) (kept_named entries row.id j (new_undropped setup entries row.id known says.0)) says.1
gone_row setup entries object (SetTransfer row) j known says =
    gone_named (is_dropped j entries) row (row_of j entries) (eqb row.id j) (known.dropped j) (kept_named entries row.id j (waits_undropped setup entries object row.id known says.0)) says.1
gone_row setup entries object (DropTransfer id) j known says =
    gone_dropped (is_dropped j entries) (row_of j entries) (eqb id j) says.row (known.dropped j) (λ same. ap (λ (n : ℕ). row_of n entries) (sym (eqb-true id j same)) ∙ says.found)
gone_row setup entries object (NewModel row) j known says = or-false (is_dropped j entries) ∙ known.dropped j
gone_row setup entries object (SetModel row also) j known says = or-false (is_dropped j entries) ∙ known.dropped j
gone_row setup entries object (DropModel id also) j known says = or-false (is_dropped j entries) ∙ known.dropped j
gone_row setup entries object (NewMail mail) j known says = or-false (is_dropped j entries) ∙ known.dropped j

-- ---- rows, one entry more

with_own_model : (row : TransferRow) (model : ℕ) → model ≡ row.model → with_model model row ≡ row
with_own_model row model is = ap (λ (n : ℕ). with_model n row) is

acts_row : (setup : Setup) (entries : List Entry) (object : ObjectId) (change : Change) → AreKnown setup entries → MaySay setup entries object change → changed families.Intra (looked (transfer_found entries) (ids_made act_transfer (history_of object entries))) change ≡ acted (act_transfer change) (looked (transfer_found entries) (ids_made act_transfer (history_of object entries)))
unfolding changed
acts_row setup entries object (NewTransfer row) known says = refl
acts_row setup entries object (SetTransfer row) known says =
    let ids = ids_made act_transfer (history_of object entries) in
    let here = known.holds.there object row.id (waits_home setup entries object row.id says.0) in
    let model = model_in_index (transfer_found entries) row.id 0 says.0.row ids (transfer_has entries) (known.holds.rise object) here (waits_found setup entries object row.id says.0) in
    ap (λ (r : TransferRow). put row.id (transfer_row r) (looked (transfer_found entries) ids)) (with_own_model row (model_among row.id (looked (transfer_found entries) ids)) (model ∙ sym says.2))
acts_row setup entries object (DropTransfer id) known says = refl
acts_row setup entries object (NewModel row) known says = refl
acts_row setup entries object (SetModel row also) known says = refl
acts_row setup entries object (DropModel id also) known says = refl
acts_row setup entries object (NewMail mail) known says = refl

pub rows_push : (setup : Setup) (entries : List Entry) (entry : Entry) (object : ObjectId) → AreKnown setup entries → Follows setup entries entry → fold_entries families.Intra [] (history_of object (entries ++ entry ∷ [])) ≡ cond (eqb entry.object.0 object.0) (acted (act_transfer entry.change) (looked (transfer_found entries) (ids_made act_transfer (history_of object entries)))) (looked (transfer_found entries) (ids_made act_transfer (history_of object entries)))
rows_push setup entries entry object known follows =
    ap (fold_entries families.Intra []) (history_push object entries entry)
    ∙ fold_entries-append families.Intra [] (history_of object entries) (cond (eqb entry.object.0 object.0) (entry ∷ []) [])
    ∙ ap (λ rows. fold_entries families.Intra rows (cond (eqb entry.object.0 object.0) (entry ∷ []) [])) (known.rows object)
    ∙ by_object (eqb entry.object.0 object.0) refl
  where
    held : List Row
    held = looked (transfer_found entries) (ids_made act_transfer (history_of object entries))

    by_object : (own : Bool) → eqb entry.object.0 object.0 ≡ own → fold_entries families.Intra held (cond own (entry ∷ []) []) ≡ cond own (acted (act_transfer entry.change) held) held
    by_object true is =
        let same : entry.object ≡ object = ap (λ (n : ℕ). record { 0 = n }) (eqb-true entry.object.0 object.0 is) in
        acts_row setup entries object entry.change known (subst (λ (o : ObjectId). MaySay setup entries o entry.change) same follows.says)
    by_object false is = refl

pub known_more : (setup : Setup) (entries : List Entry) (entry : Entry) → AreKnown setup entries → Follows setup entries entry → AreKnown setup (entries ++ entry ∷ [])
known_more setup entries entry known follows =
    let step = step_row setup entries entry known follows in
    record {
      holds = holds_more act_transfer entries entry (transfer_home setup entries) (transfer_home setup (entries ++ entry ∷ [])) (transfer_found entries) (transfer_found (entries ++ entry ∷ [])) known.holds step;
      dropped = λ j. (is_dropped-push j entries entry ∙ gone_row setup entries entry.object entry.change j known follows.says ∙ sym (ap is_gone (row_of-push j entries entry)));
      rows = λ object.
          (rows_push setup entries entry object known follows
          ∙ rows_more act_transfer object entries entry (transfer_home setup entries) (transfer_home setup (entries ++ entry ∷ [])) (transfer_found entries) (transfer_found (entries ++ entry ∷ [])) known.holds (transfer_has entries) step);
    }

pub known_none : (setup : Setup) → AreKnown setup []
unfolding history_of
known_none setup = record {
  holds = holds_none act_transfer (transfer_home setup []) (λ j. ap (home_of setup) (row_of-none j));
  dropped = λ j. (is_dropped-none j ∙ sym (ap is_gone (row_of-none j)));
  rows = λ object. refl;
}

pub transfers_known : (setup : Setup) (entries : List Entry) → AllFollow setup [] entries → AreKnown setup entries
transfers_known setup entries all = by_entries setup (AreKnown setup) (known_none setup) (λ before entry known follows. known_more setup before entry known follows) entries all
