-- One entry more: which transfers wait.
use Rattle.std.proofs.Common.{◌≡◌, ℕ, ◌<◌, Bool, true, false, cond, eqb, List, [], ◌∷◌, ◌++◌, Option, None, Some, option_to_list, refl, sym, ap, ◌∙◌, subst, arith, inl, inr, ◌⊎◌}
use Rattle.std.proofs.lemmas.Bool.{eqb-true, eq-eqb}
use Rattle.std.proofs.lemmas.List.{append-nil}
use Rattle.std.proofs.lemmas.List.Elements.{filter-append}
use Rattle.std.proofs.lemmas.Grind.{flat_map-append}
use Rattle.std.specs.Option.{option_map}
use Rattle.std.specs.List.{AllByRecursion, flat_map}
use Rattle.ofx_types.specs.declared.transfer.XferCode.TheVariants.{Cancelled}
use Rattle.ofx_types.specs.declared.transfer.TransferRow.{TransferRow}
use Rattle.ofx_types.specs.declared.transfer.Change.{Change}
use Rattle.ofx_types.specs.declared.transfer.Change.TheVariants.{NewTransfer, SetTransfer, DropTransfer, NewModel, SetModel, DropModel, NewMail}
use Rattle.bank_model.specs.declared.entry.Entry.{Entry}
use Rattle.bank_model.specs.Ledger.{row_in, if_named, with_code, row_of}
use Rattle.bank_model.specs.Models.{is_waiting, made_in, all_waiting}
use Rattle.bank_transfers.specs.Held.{waiting_in}
use Rattle.bank_transfers.specs.TransfersView.{waits, IsMadeBelow, IsNewId, GivesRow}
use Rattle.bank_transfers.proofs.GrowthLemmas.{HasId, row_of-id, row_of-none}

pub same_flips : (a b : ℕ) → eqb a b ≡ eqb b a
same_flips a b = grind arith

-- ---- a row in the place of those with its id

-- the rows with that one in the place of those with its id, where it waits, and without those where it doesn't
abbrev pub swapped_one : TransferRow → TransferRow → List TransferRow
swapped_one row held = cond (eqb held.id row.id) (waiting_in (row ∷ [])) (held ∷ [])

abbrev pub swapped : TransferRow → List TransferRow → List TransferRow
swapped row rows = flat_map (swapped_one row) rows

abbrev one_or_none : Bool → TransferRow → List TransferRow
one_or_none b row = cond b (row ∷ []) []

swapped_cases : (row held : TransferRow) (waiting same held_waits : Bool) → (waiting ≡ true → same ≡ true → held_waits ≡ true) → cond same (one_or_none waiting row) (one_or_none held_waits held) ≡ cond held_waits (cond same (one_or_none waiting row) (held ∷ []) ++ []) []
swapped_cases row held true true true was = refl
swapped_cases row held true true false was = let no : false ≡ true = was refl refl in cc
swapped_cases row held false true true was = refl
swapped_cases row held false true false was = refl
swapped_cases row held waiting false true was = refl
swapped_cases row held waiting false false was = refl

waiting_either : (b : Bool) (row held : TransferRow) → waiting_in (option_to_list (cond b (Some row) (Some held))) ≡ cond b (one_or_none (is_waiting row.code) row) (one_or_none (is_waiting held.code) held)
waiting_either true row held = refl
waiting_either false row held = refl

swapped_if : (row held : TransferRow) (b : Bool) → swapped row (cond b (held ∷ []) []) ≡ cond b (swapped_one row held ++ []) []
swapped_if row held true = refl
swapped_if row held false = refl

-- what waits of one transfer, when a row is given
swapped_row : (id : ℕ) (row : TransferRow) (found : Option TransferRow) → HasId id found → (is_waiting row.code ≡ true → eqb row.id id ≡ true → waits found ≡ true) → waiting_in (option_to_list (cond (eqb row.id id) (Some row) found)) ≡ swapped row (waiting_in (option_to_list found))
swapped_row id row None has was = none (eqb row.id id) (is_waiting row.code) refl was
  where
    none : (same waiting : Bool) → is_waiting row.code ≡ waiting → (waiting ≡ true → same ≡ true → false ≡ true) → waiting_in (option_to_list (cond same (Some row) None)) ≡ []
    none true true is was = let no : false ≡ true = was refl refl in cc
    none true false is was = ap (λ b. one_or_none b row) is
    none false waiting is was = refl
swapped_row id row (Some held) has was =
    waiting_either (eqb row.id id) row held
    ∙ swapped_cases row held (is_waiting row.code) (eqb row.id id) (is_waiting held.code) was
    ∙ ap (λ b. cond (is_waiting held.code) (cond b (waiting_in (row ∷ [])) (held ∷ []) ++ []) []) (ap (eqb row.id) (sym has) ∙ same_flips row.id held.id)
    ∙ sym (swapped_if row held (is_waiting held.code))

-- ---- the transfers that entries made

abbrev waiting_made : List Entry → List Entry → List TransferRow
waiting_made all entries = waiting_in (flat_map (λ (entry : Entry). made_in all entry.change) entries)

made_swapped : (all more : List Entry) (row : TransferRow) → ((id : ℕ) → waiting_in (option_to_list (row_of id more)) ≡ swapped row (waiting_in (option_to_list (row_of id all)))) → (change : Change) → waiting_in (made_in more change) ≡ swapped row (waiting_in (made_in all change))
made_swapped all more row each (NewTransfer given) = each given.id
made_swapped all more row each (SetTransfer given) = refl
made_swapped all more row each (DropTransfer id) = refl
made_swapped all more row each (NewModel given) = refl
made_swapped all more row each (SetModel given pending) = refl
made_swapped all more row each (DropModel id pending) = refl
made_swapped all more row each (NewMail mail) = refl

all_swapped : (all more : List Entry) (row : TransferRow) → ((id : ℕ) → waiting_in (option_to_list (row_of id more)) ≡ swapped row (waiting_in (option_to_list (row_of id all)))) → (entries : List Entry) → waiting_made more entries ≡ swapped row (waiting_made all entries)
all_swapped all more row each [] = refl
all_swapped all more row each (entry ∷ entries) =
    let test = λ (r : TransferRow). is_waiting r.code in
    let before = λ (e : Entry). made_in all e.change in
    let after = λ (e : Entry). made_in more e.change in
    filter-append test (after entry) (flat_map after entries)
    ∙ ap (λ l. l ++ waiting_made more entries) (made_swapped all more row each entry.change)
    ∙ ap (λ l. swapped row (waiting_in (before entry)) ++ l) (all_swapped all more row each entries)
    ∙ sym (flat_map-append (swapped_one row) (waiting_in (before entry)) (waiting_made all entries))
    ∙ ap (swapped row) (sym (filter-append test (before entry) (flat_map before entries)))

-- The transfers that entries made have the same rows, where those of the new ones among their changes are the same.
all_same : (all more : List Entry) (P : Change → Type 0) → ((row : TransferRow) → P (NewTransfer row) → row_of row.id more ≡ row_of row.id all) → (entries : List Entry) → AllByRecursion (λ (entry : Entry). P entry.change) entries → flat_map (λ (entry : Entry). made_in more entry.change) entries ≡ flat_map (λ (entry : Entry). made_in all entry.change) entries
all_same all more P same [] such = refl
all_same all more P same (entry ∷ entries) such =
    ap (λ (l : List TransferRow). l ++ flat_map (λ (e : Entry). made_in more e.change) entries) (one entry.change such.0)
    ∙ ap (λ (l : List TransferRow). made_in all entry.change ++ l) (all_same all more P same entries such.1)
  where
    one : (change : Change) → P change → made_in more change ≡ made_in all change
    one (NewTransfer row) is = ap (λ (r : Option TransferRow). option_to_list r) (same row is)
    one (SetTransfer row) is = refl
    one (DropTransfer id) is = refl
    one (NewModel row) is = refl
    one (SetModel row pending) is = refl
    one (DropModel id pending) is = refl
    one (NewMail mail) is = refl

waiting-push : (all entries : List Entry) (entry : Entry) → waiting_made all (entries ++ entry ∷ []) ≡ waiting_made all entries ++ waiting_in (made_in all entry.change)
waiting-push all entries entry =
    let made = λ (e : Entry). made_in all e.change in
    ap waiting_in (flat_map-append made entries (entry ∷ []) ∙ ap (λ l. flat_map made entries ++ l) (append-nil (made entry)))
    ∙ filter-append (λ (r : TransferRow). is_waiting r.code) (flat_map made entries) (made entry)

-- ---- the ids of those that wait

found_below : (n id : ℕ) (found : Option TransferRow) → HasId id found → id < n → AllByRecursion (λ (row : TransferRow). row.id < n) (waiting_in (option_to_list found))
found_below n id None has below = tt
found_below n id (Some row) has below =
    elim (is_waiting row.code) as (λ b. AllByRecursion (λ (r : TransferRow). r.id < n) (one_or_none b row)) [
      | true ↦ (subst (λ j. j < n) (sym has) below, tt)
      | false ↦ tt
    ]

both_below : (n : ℕ) (rows more : List TransferRow) → AllByRecursion (λ (row : TransferRow). row.id < n) rows → AllByRecursion (λ (row : TransferRow). row.id < n) more → AllByRecursion (λ (row : TransferRow). row.id < n) (rows ++ more)
both_below n [] more below also = also
both_below n (row ∷ rows) more below also = (below.0, both_below n rows more below.1 also)

one_below : (all : List Entry) (n : ℕ) (change : Change) → IsMadeBelow n change → AllByRecursion (λ (row : TransferRow). row.id < n) (waiting_in (made_in all change))
one_below all n (NewTransfer row) below = found_below n row.id (row_of row.id all) (row_of-id row.id all) below
one_below all n (SetTransfer row) below = tt
one_below all n (DropTransfer id) below = tt
one_below all n (NewModel row) below = tt
one_below all n (SetModel row pending) below = tt
one_below all n (DropModel id pending) below = tt
one_below all n (NewMail mail) below = tt

made_below : (all entries : List Entry) (n : ℕ) → AllByRecursion (λ (entry : Entry). IsMadeBelow n entry.change) entries → AllByRecursion (λ (row : TransferRow). row.id < n) (waiting_made all entries)
made_below all [] n below = tt
made_below all (entry ∷ entries) n below =
    subst (AllByRecursion (λ (row : TransferRow). row.id < n)) (sym (filter-append (λ (r : TransferRow). is_waiting r.code) (made_in all entry.change) (flat_map (λ (e : Entry). made_in all e.change) entries)))
    (both_below n (waiting_in (made_in all entry.change)) (waiting_made all entries) (one_below all n entry.change below.0) (made_below all entries n below.1))

-- ---- what waits after one entry more

-- The row comes in the place of the one before, or is that of a new transfer that waits, whose id is above all.
abbrev pub WaitsAfter : List TransferRow → List TransferRow → TransferRow → Option TransferRow → Type 0
WaitsAfter before after row found = ((is_waiting row.code ≡ true → waits found ≡ true) × (after ≡ swapped row before)) ⊎ ((found ≡ None) × (is_waiting row.code ≡ true) × (after ≡ before ++ row ∷ []) × AllByRecursion (λ (held : TransferRow). held.id < row.id) before)

replaced : (entries more : List Entry) (change : Change) (row : TransferRow) → ((id : ℕ) → row_of id more ≡ cond (eqb row.id id) (Some row) (row_of id entries)) → waiting_in (made_in more change) ≡ [] → (is_waiting row.code ≡ true → waits (row_of row.id entries) ≡ true) → WaitsAfter (waiting_made entries entries) (waiting_made more entries ++ waiting_in (made_in more change)) row (row_of row.id entries)
replaced entries more change row rows last was = inl (
  was,
  (
      ap (λ l. waiting_made more entries ++ l) last ∙ append-nil (waiting_made more entries) ∙ all_swapped entries more row
      (λ id. ap (λ (r : Option TransferRow). waiting_in (option_to_list r)) (rows id) ∙ swapped_row id row (row_of id entries) (row_of-id id entries) (λ waiting same. ap (λ n. waits (row_of n entries)) (sym (eqb-true row.id id same)) ∙ was waiting))
      entries),
)

added : (entries more : List Entry) (row : TransferRow) → ((id : ℕ) → row_of id more ≡ cond (eqb row.id id) (Some row) (row_of id entries)) → is_waiting row.code ≡ true → row_of row.id entries ≡ None → waiting_made more entries ++ waiting_in (made_in more (NewTransfer row)) ≡ waiting_made entries entries ++ row ∷ []
added entries more row rows waiting none =
    ap (λ l. waiting_in l ++ waiting_in (option_to_list (row_of row.id more))) (all_same entries more (λ (change : Change). if_named row.id (row_in change) ≡ None) (λ made unnamed. rows made.id ∙ ap (λ b. cond b (Some row) (row_of made.id entries)) (same_flips row.id made.id ∙ other (eqb made.id row.id) made unnamed)) entries (row_of-none row.id entries none))
    ∙ ap (λ (r : Option TransferRow). waiting_made entries entries ++ waiting_in (option_to_list r)) (rows row.id ∙ ap (λ b. cond b (Some row) (row_of row.id entries)) (eq-eqb row.id row.id refl))
    ∙ ap (λ b. waiting_made entries entries ++ one_or_none b row) waiting
  where
    other : (b : Bool) (made : TransferRow) → cond b (Some made) None ≡ None → b ≡ false
    other true made is = cc
    other false made is = refl

new_last : (entries more : List Entry) (row : TransferRow) → ((id : ℕ) → row_of id more ≡ cond (eqb row.id id) (Some row) (row_of id entries)) → is_waiting row.code ≡ false → waiting_in (option_to_list (row_of row.id more)) ≡ []
new_last entries more row rows closed =
    ap (λ (r : Option TransferRow). waiting_in (option_to_list r)) (rows row.id ∙ ap (λ b. cond b (Some row) (row_of row.id entries)) (eq-eqb row.id row.id refl))
    ∙ ap (λ b. one_or_none b row) closed

new_waits : (entries more : List Entry) (row : TransferRow) → ((id : ℕ) → row_of id more ≡ cond (eqb row.id id) (Some row) (row_of id entries)) → (is_waiting row.code ≡ true → IsNewId entries row.id) → WaitsAfter (waiting_made entries entries) (waiting_made more entries ++ waiting_in (made_in more (NewTransfer row))) row (row_of row.id entries)
new_waits entries more row rows new = (elim (is_waiting row.code) as (λ b. is_waiting row.code ≡ b → WaitsAfter (waiting_made entries entries) (waiting_made more entries ++ waiting_in (made_in more (NewTransfer row))) row (row_of row.id entries)) [
  | true ↦ (λ waiting. inr ((new waiting).0, waiting, added entries more row rows waiting (new waiting).0, made_below entries entries row.id (new waiting).1))
  | false ↦ (λ closed. replaced entries more (NewTransfer row) row rows (new_last entries more row rows closed) (λ waiting. let no : true ≡ false = sym waiting ∙ closed in cc))
]) refl

cancelled_closed : (before : Option TransferRow) (row : TransferRow) → option_map (with_code Cancelled) before ≡ Some row → is_waiting row.code ≡ false
cancelled_closed None row is = cc
cancelled_closed (Some before) row is = let e : with_code Cancelled before ≡ row = cc in sym (ap (λ (r : TransferRow). is_waiting r.code) e)

given_waits : (entries more : List Entry) (change : Change) (row : TransferRow) → ((id : ℕ) → row_of id more ≡ cond (eqb row.id id) (Some row) (row_of id entries)) → GivesRow entries change row → WaitsAfter (waiting_made entries entries) (waiting_made more entries ++ waiting_in (made_in more change)) row (row_of row.id entries)
given_waits entries more (NewTransfer given) row rows gives =
    subst (λ (r : TransferRow). WaitsAfter (waiting_made entries entries) (waiting_made more entries ++ waiting_in (made_in more (NewTransfer r))) row (row_of row.id entries)) (sym gives.0.0)
    (new_waits entries more row rows gives.1)
given_waits entries more (SetTransfer given) row rows gives = replaced entries more (SetTransfer given) row rows refl gives.1
given_waits entries more (DropTransfer id) row rows gives =
    replaced entries more (DropTransfer id) row rows refl (λ waiting. let no : true ≡ false = sym waiting ∙ cancelled_closed (row_of id entries) row gives in cc)
given_waits entries more (NewModel given) row rows gives = absurd gives
given_waits entries more (SetModel given pending) row rows gives = absurd gives
given_waits entries more (DropModel id pending) row rows gives = absurd gives
given_waits entries more (NewMail mail) row rows gives = absurd gives

pub waits_after : (entries : List Entry) (entry : Entry) (row : TransferRow) → ((id : ℕ) → row_of id (entries ++ entry ∷ []) ≡ cond (eqb row.id id) (Some row) (row_of id entries)) → GivesRow entries entry.change row → WaitsAfter (all_waiting entries) (all_waiting (entries ++ entry ∷ [])) row (row_of row.id entries)
unfolding all_waiting
waits_after entries entry row rows gives =
    subst (λ (l : List TransferRow). WaitsAfter (waiting_made entries entries) l row (row_of row.id entries)) (sym (waiting-push (entries ++ entry ∷ []) entries entry))
    (given_waits entries (entries ++ entry ∷ []) entry.change row rows gives)

unmade : (all : List Entry) (change : Change) → row_in change ≡ None → made_in all change ≡ []
unmade all (NewTransfer row) none = cc
unmade all (SetTransfer row) none = refl
unmade all (DropTransfer id) none = refl
unmade all (NewModel row) none = refl
unmade all (SetModel row pending) none = refl
unmade all (DropModel id pending) none = refl
unmade all (NewMail mail) none = refl

-- Where no row changes and no transfer is made, the same ones wait.
pub waiting_stays : (entries : List Entry) (entry : Entry) → ((id : ℕ) → row_of id (entries ++ entry ∷ []) ≡ row_of id entries) → row_in entry.change ≡ None → all_waiting (entries ++ entry ∷ []) ≡ all_waiting entries
unfolding all_waiting
waiting_stays entries entry same none =
    waiting-push (entries ++ entry ∷ []) entries entry
    ∙ ap (λ (l : List TransferRow). waiting_made (entries ++ entry ∷ []) entries ++ waiting_in l) (unmade (entries ++ entry ∷ []) entry.change none)
    ∙ append-nil (waiting_made (entries ++ entry ∷ []) entries)
    ∙ ap waiting_in (all_same entries (entries ++ entry ∷ []) (λ (change : Change). Unit {0}) (λ row any. same row.id) entries (any_of entries))
  where
    any_of : (es : List Entry) → AllByRecursion (λ (e : Entry). Unit {0}) es
    any_of [] = tt
    any_of (e ∷ es) = (tt, any_of es)
