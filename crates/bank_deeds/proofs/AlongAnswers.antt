-- A deed on a recurring transfer enters its own entry, and after it those of the transfers that wait.
use Rattle.std.proofs.Common.{◌≡◌, ℕ, ◌+◌, Bool, true, false, eqb, List, [], ◌∷◌, ◌++◌, length, length-append, Option, refl, sym, ap, ◌∙◌, subst}
use Rattle.std.specs.Prelude.{option_to_list}
use Rattle.std.specs.List.{AllByRecursion, IsDistinct}
use Rattle.ofx_types.specs.declared.transfer.TransferRow.{TransferRow}
use Rattle.ofx_types.specs.declared.transfer.Change.{Change}
use Rattle.bank_model.specs.declared.entry.Entry.{Entry}
use Rattle.bank_model.specs.declared.setup.Setup.{Setup}
use Rattle.bank_model.specs.declared.event.State.{State}
use Rattle.bank_model.specs.Ledger.{row_of}
use Rattle.bank_model.specs.Models.{waiting_of}
use Rattle.bank_model.specs.Deeds.{entries_after, if_pending}
use Rattle.bank_transfers.specs.TransfersView.{waits}
use Rattle.bank_invariants.specs.SoundStates.{IsSoundState}
use Rattle.bank_invariants.specs.Pending.{waiting_if, ids_of, rows_at, AreWaiting, AreTerms, SuitsRow}
use Rattle.bank_ledger.specs.DraftView.{DraftView, drafted, HasAdded}
use Rattle.bank_ledger.proofs.DraftStates.{drafted-added}
use Rattle.bank_invariants.proofs.ModelChanges.{IsOfModel}
use Rattle.bank_invariants.proofs.PendingLemmas.{IsHere, HaveOwnIds, waiting_here, waiting_own}
use Rattle.ofx_types.specs.AccountForm.{same_account}
use Rattle.ofx_types.specs.declared.transfer.XferInfo.{XferInfo}
use Rattle.bank_invariants.proofs.DeedLemmas.{IsToChange}
use Rattle.bank_invariants.proofs.DoneLemmas.{here_after, all_apart}

rows_back : (entries : List Entry) (rows : List TransferRow) → AllByRecursion (IsHere entries) rows → rows_at entries (ids_of rows) ≡ rows
rows_back entries [] here = refl
rows_back entries (row ∷ rows) here =
    ap (λ (r : Option TransferRow). option_to_list r ++ rows_at entries (ids_of rows)) here.0.0 ∙ ap (λ (l : List TransferRow). row ∷ l) (rows_back entries rows here.1)

ids_wait : (entries : List Entry) (rows : List TransferRow) → AllByRecursion (IsHere entries) rows → AllByRecursion (λ (id : ℕ). waits (row_of id entries) ≡ true) (ids_of rows)
ids_wait entries [] here = tt
ids_wait entries (row ∷ rows) here = (ap waits here.0.0 ∙ here.0.1, ids_wait entries rows here.1)

ids_apart : (id : ℕ) (rows : List TransferRow) → AllByRecursion (λ (row : TransferRow). eqb id row.id ≡ false) rows → AllByRecursion (λ (other : ℕ). eqb id other ≡ false) (ids_of rows)
ids_apart id [] apart = tt
ids_apart id (row ∷ rows) apart = (apart.0, ids_apart id rows apart.1)

ids_once : (rows : List TransferRow) → HaveOwnIds rows → IsDistinct (λ (a b : ℕ). eqb a b) (ids_of rows)
unfolding IsDistinct
ids_once [] own = tt
ids_once (row ∷ rows) own = (ids_apart row.id rows own.0, ids_once rows own.1)

nothing_waits : (entries : List Entry) → AreWaiting entries []
unfolding IsDistinct
nothing_waits entries = record { wait = tt; once = tt }

-- The transfers that go along wait after the deed's own entry.
pub along_wait : (setup : Setup) (S : State) (entry : Entry) (also : Bool) (id : ℕ) → IsSoundState setup S → IsOfModel entry.change → AreWaiting (S.entries ++ entry ∷ []) (ids_of (waiting_if also id S))
along_wait setup S entry false id sound of = nothing_waits (S.entries ++ entry ∷ [])
along_wait setup S entry true id sound of =
    let here = here_after S.entries entry id (waiting_of id S.entries) of (waiting_here id S.entries) in
    record { wait = ids_wait (S.entries ++ entry ∷ []) (waiting_of id S.entries) here; once = ids_once (waiting_of id S.entries) (waiting_own id S.entries sound.lawful) }

-- Their entries are those of the deed.
pub along_entries : (setup : Setup) (S : State) (entry : Entry) (change : TransferRow → Change) (also : Bool) (id : ℕ) → IsOfModel entry.change → entries_after setup (length (S.entries ++ entry ∷ [])) change (rows_at (S.entries ++ entry ∷ []) (ids_of (waiting_if also id S))) ≡ if_pending also (entries_after setup (length S.entries + 1) change (waiting_of id S.entries))
unfolding entries_after
along_entries setup S entry change false id of = refl
along_entries setup S entry change true id of =
    let here = here_after S.entries entry id (waiting_of id S.entries) of (waiting_here id S.entries) in
    ap (λ (n : ℕ). entries_after setup n change (rows_at (S.entries ++ entry ∷ []) (ids_of (waiting_of id S.entries)))) (length-append S.entries (entry ∷ []))
    ∙ ap (entries_after setup (length S.entries + 1) change) (rows_back (S.entries ++ entry ∷ []) (waiting_of id S.entries) here)

-- ---- the draft between

-- What is known of the draft between a deed's own entry and those of the transfers that go along.
pub record IsBetween (setup : Setup) (old mid : DraftView) (change : TransferRow → Change) (also : Bool) (id : ℕ) (ids : List ℕ) : Type 0 where
  pub size : length (drafted mid).entries ≡ length (drafted old).entries + 1
  pub waiting : AreWaiting (drafted mid).entries ids
  pub rest : entries_after setup (length (drafted mid).entries) change (rows_at (drafted mid).entries ids) ≡ if_pending also (entries_after setup (length (drafted old).entries + 1) change (waiting_of id (drafted old).entries))

pub between : (setup : Setup) (old mid : DraftView) (entry : Entry) (change : TransferRow → Change) (also : Bool) (id : ℕ) (ids : List ℕ) → IsSoundState setup (drafted old) → IsOfModel entry.change → ids ≡ ids_of (waiting_if also id (drafted old)) → HasAdded old mid (entry ∷ []) → IsBetween setup old mid change also id ids
between setup old mid entry change also id ids sound of are has =
    let E : List Entry = (drafted old).entries in
    let one : (drafted mid).entries ≡ E ++ entry ∷ [] = ap (λ (T : State). T.entries) (drafted-added old mid (entry ∷ []) has) in
    record {
      size = ap length one ∙ length-append E (entry ∷ []);
      waiting = subst (λ (l : List Entry). AreWaiting l ids) (sym one) (subst (AreWaiting (E ++ entry ∷ [])) (sym are) (along_wait setup (drafted old) entry also id sound of));
      rest =
          ap (λ (l : List Entry). entries_after setup (length l) change (rows_at l ids)) one
          ∙ ap (λ (l : List ℕ). entries_after setup (length (E ++ entry ∷ [])) change (rows_at (E ++ entry ∷ []) l)) are
          ∙ along_entries setup (drafted old) entry change also id of;
    }

suits_rows : (info : XferInfo) (entries : List Entry) (rows : List TransferRow) → AllByRecursion (IsHere entries) rows → AllByRecursion (λ (row : TransferRow). same_account info.to row.from ≡ false) rows → AllByRecursion (λ (id : ℕ). SuitsRow info (row_of id entries)) (ids_of rows)
suits_rows info entries [] here apart = tt
suits_rows info entries (row ∷ rows) here apart = (subst (SuitsRow info) (sym here.0.0) apart.0, suits_rows info entries rows here.1 apart.1)

suits_along : (setup : Setup) (S : State) (entry : Entry) (also : Bool) (id : ℕ) (info : XferInfo) → IsSoundState setup S → IsOfModel entry.change → (to : IsToChange setup S id info) → AllByRecursion (λ (one : ℕ). SuitsRow info (row_of one (S.entries ++ entry ∷ []))) (ids_of (waiting_if also id S))
suits_along setup S entry false id info sound of to = tt
suits_along setup S entry true id info sound of to =
    suits_rows info (S.entries ++ entry ∷ []) (waiting_of id S.entries) (here_after S.entries entry id (waiting_of id S.entries) of (waiting_here id S.entries)) (all_apart setup S id info (waiting_of id S.entries) sound to (waiting_here id S.entries))

pub terms_between : (setup : Setup) (old mid : DraftView) (entry : Entry) (also : Bool) (id : ℕ) (ids : List ℕ) (info : XferInfo) → IsSoundState setup (drafted old) → IsOfModel entry.change → ids ≡ ids_of (waiting_if also id (drafted old)) → HasAdded old mid (entry ∷ []) → IsToChange setup (drafted old) id info → AreTerms setup (drafted mid).entries ids info
terms_between setup old mid entry also id ids info sound of are has to =
    let E : List Entry = (drafted old).entries in
    let one : (drafted mid).entries ≡ E ++ entry ∷ [] = ap (λ (T : State). T.entries) (drafted-added old mid (entry ∷ []) has) in
    record {
      to = to.change.to;
      positive = to.change.positive;
      apart = subst (λ (l : List Entry). AllByRecursion (λ (n : ℕ). SuitsRow info (row_of n l)) ids) (sym one)
          (subst (AllByRecursion (λ (n : ℕ). SuitsRow info (row_of n (E ++ entry ∷ [])))) (sym are) (suits_along setup (drafted old) entry also id info sound of to));
    }
