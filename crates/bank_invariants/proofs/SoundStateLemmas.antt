-- One entry more in a sound state, and entries one after another.
use Rattle.std.proofs.Common.{◌≡◌, ℕ, ◌+◌, ◌<◌, ◌≤◌, ◌⊎◌, inl, inr, Bool, true, false, cond, eqb, ltb, List, [], ◌∷◌, ◌++◌, length, length-append, take, get_or, Option, None, Some, refl, sym, ap, ◌∙◌, subst, append_assoc, arith}
use Rattle.std.specs.List.{AllByRecursion}
use Rattle.std.specs.Option.{IfSome}
use Rattle.std.proofs.lemmas.Bool.{ltb-true, ltb-false, eqb-true}
use Rattle.std.proofs.lemmas.List.{append-nil, get_or_push, take-append-le}
use Rattle.std.proofs.Math.ListN.{get_or-append}
use Rattle.std.proofs.Math.Seq.{take-append_seam}
use Rattle.ofx_types.specs.declared.number.Day.{Day}
use Rattle.ofx_types.specs.declared.transfer.TransferRow.{TransferRow}
use Rattle.ofx_types.specs.declared.transfer.Change.{Change}
use Rattle.ofx_types.specs.declared.transfer.Change.TheVariants.{NewTransfer, SetTransfer, DropTransfer, NewModel, SetModel, DropModel, NewMail}
use Rattle.ofx_types.specs.declared.recurring.ModelRow.{ModelRow}
use Rattle.bank_model.specs.declared.entry.Entry.{Entry}
use Rattle.bank_model.specs.declared.once.UsedPair.{UsedPair}
use Rattle.bank_model.specs.declared.setup.Setup.{Setup}
use Rattle.bank_model.specs.declared.event.State.{State}
use Rattle.bank_model.specs.Models.{model_of, next_occurrence}
use Rattle.bank_model.specs.Due.{occurrence_date}
use Rattle.bank_model.specs.Rules.{with_entries}
use Rattle.bank_model.proofs.SetupParts.{all_push}
use Rattle.bank_recur.specs.Growth.{occurrence_after}
use Rattle.bank_invariants.specs.SoundStates.{MayBeReported, IsSoundModel, HasSoundRow, HasSoundModel, IsSoundState, IsLawful, IsNextOf, IsNumbered}
use Rattle.bank_invariants.specs.Next.{IsNext, AreNext}
use Rattle.bank_invariants.proofs.RowLemmas.{made_up, AreMade-more}
use Rattle.bank_invariants.proofs.SourceLemmas.{sources_more}
use Rattle.bank_recur.proofs.GrowthLemmas.{next_occurrence-push}
use Rattle.bank_recur.proofs.SeriesDays.{few_occurrences}
use Rattle.bank_invariants.proofs.SoundFound.{models_sound}

-- ---- numbers and what may stand after others

abbrev AreNumbered : List Entry → Type 0
AreNumbered entries = (k : ℕ) (d : Entry) → k < length entries → (get_or entries k d).number ≡ k + 1

numbered_more : (entries : List Entry) (entry : Entry) → AreNumbered entries → entry.number ≡ length entries + 1 → AreNumbered (entries ++ entry ∷ [])
numbered_more entries entry numbered next k d below = numbered_at (ltb k (length entries)) refl
  where
    numbered_at : (b : Bool) → ltb k (length entries) ≡ b → (get_or (entries ++ entry ∷ []) k d).number ≡ k + 1
    numbered_at true less = rw (get_or-append entries (entry ∷ []) d k (ltb-true k (length entries) less)) (numbered k d (ltb-true k (length entries) less))
    numbered_at false least =
        let last : length entries ≡ k = omega (arith, ltb-false k (length entries) least, length-append entries (entry ∷ [])) in
        rw (get_or_push entries entry d k last) (next ∙ ap (λ (n : ℕ). n + 1) last)

abbrev pub AreLawfulAt : List Entry → Type 0
AreLawfulAt entries = (k : ℕ) (d : Entry) → k < length entries → IsLawful (take k entries) (get_or entries k d).change

lawful_more : (entries : List Entry) (entry : Entry) → AreLawfulAt entries → IsLawful entries entry.change → AreLawfulAt (entries ++ entry ∷ [])
lawful_more entries entry lawful next k d below = lawful_at (ltb k (length entries)) refl
  where
    lawful_at : (b : Bool) → ltb k (length entries) ≡ b → IsLawful (take k (entries ++ entry ∷ [])) (get_or (entries ++ entry ∷ []) k d).change
    lawful_at true is =
        let less : k < length entries = ltb-true k (length entries) is in
        let prefix : take k (entries ++ entry ∷ []) ≡ take k entries = take-append-le k entries (entry ∷ []) (omega arith) in
        let at : get_or (entries ++ entry ∷ []) k d ≡ get_or entries k d = get_or-append entries (entry ∷ []) d k less in
        subst (λ (l : List Entry). IsLawful l (get_or (entries ++ entry ∷ []) k d).change) (sym prefix)
        (subst (λ (e : Entry). IsLawful (take k entries) e.change) (sym at) (lawful k d less))
    lawful_at false is =
        let last : length entries ≡ k = omega (arith, ltb-false k (length entries) is, length-append entries (entry ∷ [])) in
        let prefix : take k (entries ++ entry ∷ []) ≡ entries = ap (λ (n : ℕ). take n (entries ++ entry ∷ [])) (sym last) ∙ take-append_seam entries (entry ∷ []) in
        let at : get_or (entries ++ entry ∷ []) k d ≡ entry = get_or_push entries entry d k last in
        subst (λ (l : List Entry). IsLawful l (get_or (entries ++ entry ∷ []) k d).change) (sym prefix)
        (subst (λ (e : Entry). IsLawful entries e.change) (sym at) next)

-- ---- places

-- a place that has a date is one of the calendar's
pub occurrence_most : (setup : Setup) (row : Option ModelRow) (occurrence : ℕ) (date : Day) → IfSome row (IsSoundModel setup) → occurrence_date row occurrence ≡ Some date → occurrence ≤ 2958463
occurrence_most setup None occurrence date sound is = cc
occurrence_most setup (Some row) occurrence date sound is = (few_occurrences row.first date row.recur.freq occurrence sound.first is).0

occurrence_new : (setup : Setup) (id : ℕ) (entries : List Entry) (row : TransferRow) (b : Bool) → eqb row.model id ≡ b → AllByRecursion (HasSoundModel setup) entries → 0 < id → next_occurrence id entries ≤ 2958464 → (row.model ≡ 0) ⊎ IsNextOf entries row → cond b (next_occurrence id entries + 1) (next_occurrence id entries) ≤ 2958464
occurrence_new setup id entries row false is models some most made = most
occurrence_new setup id entries row true is models some most (inl none) = absurd (let same : row.model ≡ id = eqb-true row.model id is in omega arith)
occurrence_new setup id entries row true is models some most (inr next) =
    let same : row.model ≡ id = eqb-true row.model id is in
    let below : next_occurrence row.model entries ≤ 2958463 = occurrence_most setup (model_of row.model entries) (next_occurrence row.model entries) row.due (models_sound setup row.model entries models) next.0 in
    let here : next_occurrence id entries ≤ 2958463 = subst (λ (n : ℕ). next_occurrence n entries ≤ 2958463) same below in
    omega arith

occurrence_anew : (occurrence : ℕ) (b : Bool) → occurrence ≤ 2958464 → cond b 0 (cond false (occurrence + 1) occurrence) ≤ 2958464
occurrence_anew occurrence true most = omega arith
occurrence_anew occurrence false most = most

occurrence_change : (setup : Setup) (id : ℕ) (entries : List Entry) (change : Change) → AllByRecursion (HasSoundModel setup) entries → 0 < id → next_occurrence id entries ≤ 2958464 → IsLawful entries change → occurrence_after id (next_occurrence id entries) change ≤ 2958464
occurrence_change setup id entries (NewTransfer row) models some most lawful = occurrence_new setup id entries row (eqb row.model id) refl models some most lawful.1
occurrence_change setup id entries (SetTransfer row) models some most lawful = most
occurrence_change setup id entries (DropTransfer gone) models some most lawful = most
occurrence_change setup id entries (NewModel row) models some most lawful = occurrence_anew (next_occurrence id entries) (eqb row.id id) most
occurrence_change setup id entries (SetModel row pending) models some most lawful = occurrence_anew (next_occurrence id entries) (eqb row.id id) most
occurrence_change setup id entries (DropModel gone pending) models some most lawful = most
occurrence_change setup id entries (NewMail mail) models some most lawful = most

occurrences_more : (setup : Setup) (entries : List Entry) (entry : Entry) → AllByRecursion (HasSoundModel setup) entries → ((id : ℕ) → 0 < id → next_occurrence id entries ≤ 2958464) → IsLawful entries entry.change → (id : ℕ) → 0 < id → next_occurrence id (entries ++ entry ∷ []) ≤ 2958464
occurrences_more setup entries entry models occurrences lawful id some =
    subst (λ (n : ℕ). n ≤ 2958464) (sym (next_occurrence-push id entries entry)) (occurrence_change setup id entries entry.change models some (occurrences id some) lawful)

-- ---- one entry more

pub sound_more : (setup : Setup) (S : State) (entry : Entry) (used : List UsedPair) → IsSoundState setup S → IsNext setup S entry → length S.entries + 1 ≤ setup.entries → IsSoundState setup (record S { used = used }) → IsSoundState setup (record S { entries = S.entries ++ entry ∷ []; used = used })
sound_more setup S entry used sound next few rest =
    let count : length (S.entries ++ entry ∷ []) ≡ length S.entries + 1 = length-append S.entries (entry ∷ []) in
    record {
      numbered = numbered_more S.entries entry sound.numbered next.number;
      few = omega (arith, count);
      rows = all_push (HasSoundRow setup) S.entries entry sound.rows next.sound;
      models = all_push (HasSoundModel setup) S.entries entry sound.models next.sound_model;
      made = all_push (IsNumbered (length (S.entries ++ entry ∷ []))) S.entries entry (AreMade-more (length S.entries) (length (S.entries ++ entry ∷ [])) S.entries (omega (arith, count)) sound.made) (made_up (length S.entries + 1) (length (S.entries ++ entry ∷ [])) entry.change (omega (arith, count)) next.made);
      reported = all_push MayBeReported S.entries entry sound.reported next.reported;
      lawful = lawful_more S.entries entry sound.lawful next.lawful;
      sources = sources_more S.entries entry sound.made sound.sources next.lawful;
      occurrences = occurrences_more setup S.entries entry sound.models sound.occurrences next.lawful;
      covered = next.covered;
      used = rest.used;
      kept = rest.kept;
      day = rest.day;
    }

-- ---- entries one after another

pub sound_all : (setup : Setup) (S : State) (entries : List Entry) → IsSoundState setup S → AreNext setup S entries → length S.entries + length entries ≤ setup.entries → IsSoundState setup (with_entries S entries)
sound_all setup S [] sound next few = subst (λ (l : List Entry). IsSoundState setup (record S { entries = l })) (sym (append-nil S.entries)) sound
sound_all setup S (entry ∷ more) sound next few =
    let count : length (S.entries ++ entry ∷ []) ≡ length S.entries + 1 = length-append S.entries (entry ∷ []) in
    let here : IsSoundState setup (with_entries S (entry ∷ [])) = sound_more setup S entry S.used sound next.0 (omega arith) sound in
    subst (λ (l : List Entry). IsSoundState setup (record S { entries = l })) (append_assoc S.entries (entry ∷ []) more)
    (sound_all setup (with_entries S (entry ∷ [])) more here next.1 (omega (arith, count)))
