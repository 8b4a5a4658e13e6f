-- The transfers that wait and go along with a deed on their recurring transfer: each is entered after the others.
use Rattle.std.proofs.Common.{◌≡◌, ◌≢◌, ℕ, ◌+◌, ◌<◌, ◌≤◌, Bool, true, false, cond, eqb, List, [], ◌∷◌, ◌++◌, filter, length, length-append, take, get_or, codes, Option, None, Some, refl, sym, ap, ◌∙◌, subst, append_assoc, arith}
use Rattle.std.specs.Prelude.{option_to_list}
use Rattle.std.specs.List.{AllByRecursion, IsDistinct, flat_map}
use Rattle.std.proofs.lemmas.Bool.{eqb-true, eq-eqb, ne_eqb, true≢false}
use Rattle.ofx_types.specs.declared.transfer.TransferRow.{TransferRow}
use Rattle.ofx_types.specs.declared.transfer.Change.{Change}
use Rattle.ofx_types.specs.declared.transfer.Change.TheVariants.{NewTransfer, SetTransfer, DropTransfer, NewModel, SetModel, DropModel, NewMail}
use Rattle.bank_model.specs.declared.entry.Entry.{Entry}
use Rattle.bank_model.specs.declared.setup.Setup.{Setup}
use Rattle.bank_model.specs.declared.event.State.{State}
use Rattle.bank_model.specs.Ledger.{row_of}
use Rattle.bank_model.specs.Models.{is_waiting, made_in, all_waiting, waiting_of}
use Rattle.bank_model.specs.Deeds.{object_of, next_entry, entries_after}
use Rattle.bank_model.specs.Rules.{with_entries}
use Rattle.bank_invariants.specs.SoundStates.{IsSoundState, IsLawful}
use Rattle.bank_invariants.specs.Next.{IsNext, AreNext}
use Rattle.bank_model.proofs.Lists.{all_append, all_filter, all_filtered}
use Rattle.bank_invariants.proofs.NextLemmas.{row_of-named}
use Rattle.bank_invariants.proofs.SoundStateLemmas.{AreLawfulAt, sound_more}
use Rattle.std.proofs.lemmas.List.{get_or_at}
use Rattle.std.proofs.Math.Seq.{take-append_seam}

-- a row is the one of its transfer, which waits
abbrev pub IsHere : List Entry → TransferRow → Type 0
IsHere entries row = (row_of row.id entries ≡ Some row) × (is_waiting row.code ≡ true)

abbrev pub HaveOwnIds : List TransferRow → Type 0
HaveOwnIds rows = IsDistinct (λ (a b : TransferRow). eqb a.id b.id) rows

-- ---- one after another

-- A way to change transfers that wait: its entry may come next, and it leaves the rows of other transfers.
pub record IsWay (setup : Setup) (change : TransferRow → Change) (P : TransferRow → Type 0) : Type 0 where
  pub next : (S : State) (row : TransferRow) → IsSoundState setup S → IsHere S.entries row → P row → IsNext setup S (next_entry S (object_of setup row.from) (codes "0") (change row))
  pub others : (entries : List Entry) (entry : Entry) (row : TransferRow) (id : ℕ) → entry.change ≡ change row → (row.id ≢ id) → row_of id (entries ++ entry ∷ []) ≡ row_of id entries

still_here : (setup : Setup) (S : State) (change : TransferRow → Change) (P : TransferRow → Type 0) (way : IsWay setup change P) (row : TransferRow) (more : List TransferRow) → AllByRecursion (λ (other : TransferRow). eqb row.id other.id ≡ false) more → AllByRecursion (IsHere S.entries) more → AllByRecursion (IsHere (S.entries ++ next_entry S (object_of setup row.from) (codes "0") (change row) ∷ [])) more
still_here setup S change P way row [] apart here = tt
still_here setup S change P way row (other ∷ more) apart here = (
  (way.others S.entries (next_entry S (object_of setup row.from) (codes "0") (change row)) row other.id refl (λ same. true≢false (sym (eqb_same row.id other.id same) ∙ apart.0)) ∙ here.0.0, here.0.1),
  still_here setup S change P way row more apart.1 here.1,
)
  where
    eqb_same : (a b : ℕ) → a ≡ b → eqb a b ≡ true
    eqb_same a b same = eq-eqb a b same

pub after_next : (setup : Setup) (S : State) (change : TransferRow → Change) (P : TransferRow → Type 0) (rows : List TransferRow) (count : ℕ) → count ≡ length S.entries → IsWay setup change P → IsSoundState setup S → AllByRecursion (IsHere S.entries) rows → AllByRecursion P rows → HaveOwnIds rows → length S.entries + length rows ≤ setup.entries → AreNext setup S (entries_after setup count change rows)
unfolding entries_after IsDistinct
after_next setup S change P [] count is way sound here fits apart few = tt
after_next setup S change P (row ∷ more) count is way sound here fits apart few =
    let first = way.next S row sound here.0 fits.0 in
    let entry : Entry = next_entry S (object_of setup row.from) (codes "0") (change row) in
    let after : State = with_entries S (entry ∷ []) in
    let size : length after.entries ≡ length S.entries + 1 = length-append S.entries (entry ∷ []) in
    let good : IsSoundState setup after = sound_more setup S entry S.used sound first (omega arith) sound in
    let named : record { number = count + 1; object = object_of setup row.from; trnuid = codes "0"; change = change row } ≡ entry = ap (λ (n : ℕ). record { number = n + 1; object = object_of setup row.from; trnuid = codes "0"; change = change row }) is in
    subst (λ (e : Entry). AreNext setup S (e ∷ entries_after setup (count + 1) change more)) (sym named)
    (first, after_next setup after change P more (count + 1) (omega arith) way good (still_here setup S change P way row more apart.0 here.1) fits.1 apart.1 (omega (arith, size)))

-- ---- the rows that wait

here_of : (entries : List Entry) (found : Option TransferRow) (id : ℕ) → row_of id entries ≡ found → AllByRecursion (λ (row : TransferRow). row_of row.id entries ≡ Some row) (option_to_list found)
here_of entries None id is = tt
here_of entries (Some row) id is = (ap (λ (n : ℕ). row_of n entries) (row_of-named id entries row is) ∙ is, tt)

made_here : (all : List Entry) (change : Change) → AllByRecursion (λ (row : TransferRow). row_of row.id all ≡ Some row) (made_in all change)
made_here all (NewTransfer row) = here_of all (row_of row.id all) row.id refl
made_here all (SetTransfer row) = tt
made_here all (DropTransfer id) = tt
made_here all (NewModel row) = tt
made_here all (SetModel row also) = tt
made_here all (DropModel id also) = tt
made_here all (NewMail mail) = tt

all_made : (all entries : List Entry) → AllByRecursion (λ (row : TransferRow). row_of row.id all ≡ Some row) (flat_map (λ (entry : Entry). made_in all entry.change) entries)
all_made all [] = tt
all_made all (entry ∷ entries) = all_append _ (made_in all entry.change) _ (made_here all entry.change) (all_made all entries)

-- each waits, is the row of its transfer, and is of the recurring transfer
pub waiting_here : (id : ℕ) (entries : List Entry) → AllByRecursion (λ (row : TransferRow). IsHere entries row × (row.model ≡ id)) (waiting_of id entries)
unfolding waiting_of all_waiting
waiting_here id entries =
    all_filter (IsHere entries) (λ (row : TransferRow). IsHere entries row × (row.model ≡ id)) (λ (row : TransferRow). eqb row.model id) _
    (λ row here same. (here, eqb-true row.model id same))
    (all_filter (λ (row : TransferRow). row_of row.id entries ≡ Some row) (IsHere entries) (λ (row : TransferRow). is_waiting row.code) _ (λ row is waits. (is, waits)) (all_made entries entries))

-- ---- their ids rise

-- What is new has the number of its entry as its id.
abbrev pub IsNewAt : ℕ → Change → Type 0
IsNewAt count (NewTransfer row) = row.id ≡ count + 1
IsNewAt count (SetTransfer row) = Unit {0}
IsNewAt count (DropTransfer id) = Unit {0}
IsNewAt count (NewModel row) = row.id ≡ count + 1
IsNewAt count (SetModel row also) = Unit {0}
IsNewAt count (DropModel id also) = Unit {0}
IsNewAt count (NewMail mail) = Unit {0}

abbrev pub AreNewAt : ℕ → List Entry → Type 0
AreNewAt count [] = Unit {0}
AreNewAt count (entry ∷ more) = IsNewAt count entry.change × AreNewAt (count + 1) more

lawful_new : (before : List Entry) (change : Change) → IsLawful before change → IsNewAt (length before) change
lawful_new before (NewTransfer row) lawful = lawful.0
lawful_new before (SetTransfer row) lawful = tt
lawful_new before (DropTransfer id) lawful = tt
lawful_new before (NewModel row) lawful = lawful
lawful_new before (SetModel row also) lawful = tt
lawful_new before (DropModel id also) lawful = tt
lawful_new before (NewMail mail) lawful = tt

pub new_after : (before entries : List Entry) → AreLawfulAt (before ++ entries) → AreNewAt (length before) entries
new_after before [] lawful = tt
new_after before (entry ∷ entries) lawful =
    let size : length (before ++ entry ∷ entries) ≡ length before + length (entry ∷ entries) = length-append before (entry ∷ entries) in
    let here = lawful (length before) entry (omega (arith, size)) in
    let prefix : take (length before) (before ++ entry ∷ entries) ≡ before = take-append_seam before (entry ∷ entries) in
    let at : get_or (before ++ entry ∷ entries) (length before) entry ≡ entry = get_or_at before entry entries entry (length before) refl in
    let first : IsLawful before entry.change = subst (λ (l : List Entry). IsLawful l entry.change) prefix (subst (λ (e : Entry). IsLawful (take (length before) (before ++ entry ∷ entries)) e.change) at here) in
    let rest = new_after (before ++ entry ∷ []) entries (subst AreLawfulAt (sym (append_assoc before (entry ∷ []) entries)) lawful) in
    (lawful_new before entry.change first, subst (λ (n : ℕ). AreNewAt n entries) (length-append before (entry ∷ [])) rest)

above : (count more : ℕ) (rows : List TransferRow) → count ≤ more → AllByRecursion (λ (row : TransferRow). more < row.id) rows → AllByRecursion (λ (row : TransferRow). count < row.id) rows
above count more [] less all = tt
above count more (row ∷ rows) less all = (let here = all.0 in omega arith, above count more rows less all.1)

-- Each id is below those after it.
abbrev pub Rise : List TransferRow → Type 0
Rise [] = Unit {0}
Rise (row ∷ rows) = AllByRecursion (λ (other : TransferRow). row.id < other.id) rows × Rise rows

one_more : (all : List Entry) (count : ℕ) (found : Option TransferRow) (id : ℕ) (rows : List TransferRow) → row_of id all ≡ found → id ≡ count + 1 → AllByRecursion (λ (row : TransferRow). count + 1 < row.id) rows → Rise rows → AllByRecursion (λ (row : TransferRow). count < row.id) (option_to_list found ++ rows) × Rise (option_to_list found ++ rows)
one_more all count None id rows is new over rise = (above count (count + 1) rows (omega arith) over, rise)
one_more all count (Some row) id rows is new over rise =
    let same : row.id ≡ count + 1 = row_of-named id all row is ∙ new in
    ((omega arith, above count (count + 1) rows (omega arith) over), (subst (λ (n : ℕ). AllByRecursion (λ (r : TransferRow). n < r.id) rows) (sym same) over, rise))

abbrev made_by : List Entry → List Entry → List TransferRow
made_by all entries = flat_map (λ (entry : Entry). made_in all entry.change) entries

rise_more : (all : List Entry) (count : ℕ) (change : Change) (rows : List TransferRow) → IsNewAt count change → AllByRecursion (λ (row : TransferRow). count + 1 < row.id) rows → Rise rows → AllByRecursion (λ (row : TransferRow). count < row.id) (made_in all change ++ rows) × Rise (made_in all change ++ rows)
rise_more all count (NewTransfer row) rows new over rise = one_more all count (row_of row.id all) row.id rows refl new over rise
rise_more all count (SetTransfer row) rows new over rise = (above count (count + 1) rows (omega arith) over, rise)
rise_more all count (DropTransfer id) rows new over rise = (above count (count + 1) rows (omega arith) over, rise)
rise_more all count (NewModel row) rows new over rise = (above count (count + 1) rows (omega arith) over, rise)
rise_more all count (SetModel row also) rows new over rise = (above count (count + 1) rows (omega arith) over, rise)
rise_more all count (DropModel id also) rows new over rise = (above count (count + 1) rows (omega arith) over, rise)
rise_more all count (NewMail mail) rows new over rise = (above count (count + 1) rows (omega arith) over, rise)

rise_all : (all entries : List Entry) (count : ℕ) → AreNewAt count entries → AllByRecursion (λ (row : TransferRow). count < row.id) (made_by all entries) × Rise (made_by all entries)
rise_all all [] count new = (tt, tt)
rise_all all (entry ∷ entries) count new =
    let rest = rise_all all entries (count + 1) new.1 in
    rise_more all count entry.change (made_by all entries) new.0 rest.0 rest.1

filter_rise : (p : TransferRow → Bool) (rows : List TransferRow) → Rise rows → Rise (filter p rows)
filter_rise p [] rise = tt
filter_rise p (row ∷ rows) rise =
    elim (p row) as (λ b. Rise (cond b (row ∷ filter p rows) (filter p rows))) [
      | true ↦ (all_filtered (λ (other : TransferRow). row.id < other.id) p rows rise.0, filter_rise p rows rise.1)
      | false ↦ filter_rise p rows rise.1
    ]

new_rise : (entries : List Entry) → AreNewAt 0 entries → Rise (all_waiting entries)
unfolding all_waiting
new_rise entries new = filter_rise (λ (row : TransferRow). is_waiting row.code) _ (rise_all entries entries 0 new).1

pub waiting_rise : (entries : List Entry) → AreLawfulAt entries → Rise (all_waiting entries)
waiting_rise entries lawful = new_rise entries (new_after [] entries lawful)

pub new_of_rise : (id : ℕ) (entries : List Entry) → AreNewAt 0 entries → Rise (waiting_of id entries)
unfolding waiting_of
new_of_rise id entries new = filter_rise (λ (row : TransferRow). eqb row.model id) (all_waiting entries) (new_rise entries new)

pub waiting_of_rise : (id : ℕ) (entries : List Entry) → AreLawfulAt entries → Rise (waiting_of id entries)
waiting_of_rise id entries lawful = new_of_rise id entries (new_after [] entries lawful)

-- ---- no two are of one transfer

apart_from : (id : ℕ) (rows : List TransferRow) → AllByRecursion (λ (row : TransferRow). id < row.id) rows → AllByRecursion (λ (row : TransferRow). eqb id row.id ≡ false) rows
apart_from id [] all = tt
apart_from id (row ∷ rows) all = (let here = all.0 in ne_eqb id row.id (omega arith), apart_from id rows all.1)

rise_own : (rows : List TransferRow) → Rise rows → HaveOwnIds rows
unfolding IsDistinct
rise_own [] rise = tt
rise_own (row ∷ rows) rise = (apart_from row.id rows rise.0, rise_own rows rise.1)

pub waiting_own : (id : ℕ) (entries : List Entry) → AreLawfulAt entries → HaveOwnIds (waiting_of id entries)
waiting_own id entries lawful = rise_own (waiting_of id entries) (waiting_of_rise id entries lawful)

-- each row that waits is the one of its transfer
pub all_here : (entries : List Entry) → AllByRecursion (IsHere entries) (all_waiting entries)
unfolding all_waiting
all_here entries =
    all_filter (λ (row : TransferRow). row_of row.id entries ≡ Some row) (IsHere entries) (λ (row : TransferRow). is_waiting row.code) _ (λ row is waits. (is, waits)) (all_made entries entries)

pub waiting_wait : (id : ℕ) (entries : List Entry) → AllByRecursion (IsHere entries) (waiting_of id entries)
unfolding waiting_of
waiting_wait id entries = all_filter (IsHere entries) (IsHere entries) (λ (row : TransferRow). eqb row.model id) (all_waiting entries) (λ row here same. here) (all_here entries)
