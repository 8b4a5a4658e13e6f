-- No transfer posts twice in a sound state.
use Rattle.std.proofs.Common.{◌≡◌, ℕ, ◌+◌, ◌<◌, ◌≤◌, true, List, [], ◌∷◌, ◌++◌, length, length-append, take, get_or, Option, None, Some, refl, sym, subst, append_assoc, arith}
use Rattle.std.specs.Prelude.{is_some}
use Rattle.std.proofs.lemmas.List.{append-nil, get_or_at}
use Rattle.std.proofs.Math.Seq.{take-append_seam}
use Rattle.ofx_types.specs.declared.transfer.TransferRow.{TransferRow}
use Rattle.ofx_types.specs.declared.transfer.Change.{Change}
use Rattle.ofx_types.specs.declared.transfer.Change.TheVariants.{NewTransfer, SetTransfer, DropTransfer, NewModel, SetModel, DropModel, NewMail}
use Rattle.ofx_types.specs.declared.recurring.ModelRow.{ModelRow}
use Rattle.bank_model.specs.declared.entry.Entry.{Entry}
use Rattle.bank_model.specs.declared.setup.Setup.{Setup}
use Rattle.bank_model.specs.declared.event.State.{State}
use Rattle.bank_model.specs.Ledger.{row_of}
use Rattle.bank_model.specs.Models.{model_of}
use Rattle.bank_model.proofs.SetupParts.{all_push}
use Rattle.bank_transfers.specs.TransfersView.{waits}
use Rattle.bank_transfers.specs.Lawful as transfers
use Rattle.bank_transfers.specs.Lawful.{AreLawfulAfter, PostsOnce}
use Rattle.bank_transfers.proofs.OnceLemmas as once
use Rattle.bank_invariants.specs.SoundStates.{IsSoundState, IsLawful, IsOfWaiting, IsWaiting, IsNumbered, IsOfMade}
use Rattle.bank_invariants.proofs.RowLemmas.{made_up, AreMade, AreMade-more, id_made, row_of-new, model_made}
use Rattle.bank_invariants.proofs.SoundStateLemmas.{AreLawfulAt}

of_waits : (given : TransferRow) (found : Option TransferRow) → IsOfWaiting given found → waits found ≡ true
of_waits given None lawful = absurd lawful
of_waits given (Some row) lawful = lawful.0

is_waits : (found : Option TransferRow) → IsWaiting found → waits found ≡ true
is_waits None lawful = absurd lawful
is_waits (Some row) lawful = lawful

lawful_is : (before : List Entry) (change : Change) → AreMade (length before) before → IsLawful before change → transfers.IsLawful before change
lawful_is before (NewTransfer row) made lawful = let id = lawful.0 in row_of-new (length before) row.id before made (omega arith)
lawful_is before (SetTransfer row) made lawful = of_waits row (row_of row.id before) lawful
lawful_is before (DropTransfer id) made lawful = is_waits (row_of id before) lawful
lawful_is before (NewModel row) made lawful = tt
lawful_is before (SetModel row also) made lawful = tt
lawful_is before (DropModel id also) made lawful = tt
lawful_is before (NewMail mail) made lawful = tt

row_there : (count id : ℕ) (entries : List Entry) (found : Option TransferRow) → AreMade count entries → row_of id entries ≡ found → waits found ≡ true → (0 < id) × (id ≤ count)
row_there count id entries None made is wait = cc
row_there count id entries (Some row) made is wait = id_made count id entries row made is

model_there : (count id : ℕ) (entries : List Entry) (found : Option ModelRow) → AreMade count entries → model_of id entries ≡ found → is_some found ≡ true → (0 < id) × (id ≤ count)
model_there count id entries None made is some = cc
model_there count id entries (Some row) made is some = model_made count id entries row made is

up_one : (count id : ℕ) → (0 < id) × (id ≤ count) → (0 < id) × (id ≤ count + 1)
up_one count id known = (known.0, let most = known.1 in omega arith)

new_one : (count id : ℕ) → id ≡ count + 1 → (0 < id) × (id ≤ count + 1)
new_one count id is = (omega arith, omega arith)

made_one : (before : List Entry) (change : Change) → AreMade (length before) before → IsLawful before change → IsOfMade (length before + 1) change
made_one before (NewTransfer row) made lawful = new_one (length before) row.id lawful.0
made_one before (SetTransfer row) made lawful = up_one (length before) row.id (row_there (length before) row.id before (row_of row.id before) made refl (of_waits row (row_of row.id before) lawful))
made_one before (DropTransfer id) made lawful = up_one (length before) id (row_there (length before) id before (row_of id before) made refl (is_waits (row_of id before) lawful))
made_one before (NewModel row) made lawful = new_one (length before) row.id lawful
made_one before (SetModel row also) made lawful = up_one (length before) row.id (model_there (length before) row.id before (model_of row.id before) made refl lawful.0.0)
made_one before (DropModel id also) made lawful = up_one (length before) id (model_there (length before) id before (model_of id before) made refl lawful.0)
made_one before (NewMail mail) made lawful = tt

-- an entry that lawful entries have after some is lawful, and they are made with it
next_made : (before entries : List Entry) (entry : Entry) → AreMade (length before) before → AreLawfulAt (before ++ entry ∷ entries) → IsLawful before entry.change × AreMade (length (before ++ entry ∷ [])) (before ++ entry ∷ [])
next_made before entries entry made lawful =
    let size : length (before ++ entry ∷ entries) ≡ length before + length (entry ∷ entries) = length-append before (entry ∷ entries) in
    let here = lawful (length before) entry (omega (arith, size)) in
    let prefix : take (length before) (before ++ entry ∷ entries) ≡ before = take-append_seam before (entry ∷ entries) in
    let at : get_or (before ++ entry ∷ entries) (length before) entry ≡ entry = get_or_at before entry entries entry (length before) refl in
    let first : IsLawful before entry.change = subst (λ (l : List Entry). IsLawful l entry.change) prefix (subst (λ (e : Entry). IsLawful (take (length before) (before ++ entry ∷ entries)) e.change) at here) in
    let count : length (before ++ entry ∷ []) ≡ length before + 1 = length-append before (entry ∷ []) in
    let one = made_one before entry.change made first in
    (first, all_push (IsNumbered (length (before ++ entry ∷ []))) before entry (AreMade-more (length before) (length (before ++ entry ∷ [])) before (omega (arith, count)) made) (made_up (length before + 1) (length (before ++ entry ∷ [])) entry.change (omega (arith, count)) one))

lawful_after : (before entries : List Entry) → AreMade (length before) before → AreLawfulAt (before ++ entries) → AreLawfulAfter before entries
lawful_after before [] made lawful = tt
lawful_after before (entry ∷ entries) made lawful =
    let next = next_made before entries entry made lawful in
    (lawful_is before entry.change made next.0, lawful_after (before ++ entry ∷ []) entries next.1 (subst AreLawfulAt (sym (append_assoc before (entry ∷ []) entries)) lawful))

made_prefix : (before prefix back : List Entry) → AreMade (length before) before → AreLawfulAt (before ++ (prefix ++ back)) → AreMade (length (before ++ prefix)) (before ++ prefix)
made_prefix before [] back made lawful = subst (λ (l : List Entry). AreMade (length l) l) (sym (append-nil before)) made
made_prefix before (entry ∷ prefix) back made lawful =
    let next = next_made before (prefix ++ back) entry made lawful in
    subst (λ (l : List Entry). AreMade (length l) l) (append_assoc before (entry ∷ []) prefix) (made_prefix (before ++ entry ∷ []) prefix back next.1 (subst AreLawfulAt (sym (append_assoc before (entry ∷ []) (prefix ++ back))) lawful))

-- what precedes others in lawful entries speaks of what it has made itself
pub made_before : (before entries : List Entry) → AreLawfulAt (before ++ entries) → AreMade (length before) before
made_before before entries lawful = made_prefix [] before entries tt lawful

pub posts_once : (setup : Setup) (S : State) → IsSoundState setup S → PostsOnce S.entries
posts_once setup S sound = once.posts_once S.entries (lawful_after [] S.entries tt sound.lawful)
