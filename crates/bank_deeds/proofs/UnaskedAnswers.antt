-- What a draft has to come to for what the bank does by itself.
use Rattle.std.proofs.Common.{◌≡◌, ℕ, ◌+◌, ◌≤◌, true, List, [], ◌∷◌, length, codes, Option, None, Some, sym, ap, ◌∙◌, subst}
use Rattle.std.specs.Prelude.{is_some}
use Rattle.std.specs.Option.{IfSome, option_map}
use Rattle.std.proofs.lemmas.List.Elements.{All-head, All-tail}
use Rattle.ofx_types.specs.Calendar.{IsMoment, IsDay}
use Rattle.ofx_types.specs.declared.account.AcctName.{AcctName}
use Rattle.ofx_types.specs.declared.number.AcctId.{AcctId}
use Rattle.ofx_types.specs.declared.number.ObjectId.{ObjectId}
use Rattle.ofx_types.specs.declared.number.Day.{Day}
use Rattle.ofx_types.specs.declared.number.Moment.{Moment}
use Rattle.ofx_types.specs.declared.transfer.TransferRow.{TransferRow}
use Rattle.ofx_types.specs.declared.transfer.Change.TheVariants.{NewTransfer, SetTransfer}
use Rattle.ofx_types.specs.declared.recurring.ModelRow.{ModelRow}
use Rattle.bank_model.specs.declared.entry.Entry.{Entry}
use Rattle.bank_model.specs.declared.setup.Setup.{Setup}
use Rattle.bank_model.specs.declared.event.State.{State}
use Rattle.bank_model.specs.SetupForm.{IsWithinLimits}
use Rattle.bank_model.specs.SetupLookups.{account_of}
use Rattle.bank_model.specs.Ledger.{row_of, posting_of}
use Rattle.bank_model.specs.Models.{model_of}
use Rattle.bank_model.specs.Deeds.{object_of}
use Rattle.bank_model.specs.Due.{may_post, processed_row, has_cover, posts, may_spawn, spawned_row, occurrence_date, spawns}
use Rattle.bank_model.specs.Rules.{named_by_row}
use Rattle.bank_accounts.specs.AccountView.{AccountView}
use Rattle.bank_accounts.specs.HeldAccounts.{IsHeld, AreHeld}
use Rattle.bank_ledger.specs.declared.row_change.RowChange.TheVariants.{Row, Made}
use Rattle.bank_ledger.specs.Changes.{GivesRows}
use Rattle.bank_deeds.specs.Made.{made_row}
use Rattle.bank_invariants.specs.SoundStates.{IsSoundState}
use Rattle.bank_invariants.specs.Next.{IsNext}
use Rattle.bank_invariants.proofs.RowLemmas.{model_of-named}
use Rattle.bank_ledger.specs.DraftView.{HasBothHeld}
use Rattle.bank_deeds.proofs.DeedAnswers.{entry_is, some_row}
use Rattle.bank_deeds.proofs.Giving.{set_gives, made_gives}
use Rattle.bank_invariants.proofs.NextLemmas.{waiting_posts}
use Rattle.bank_invariants.proofs.EventLemmas.{few_number, to_post, settled_fields, post_entry, post_next, post_entries, to_spawn, spawned_fields, spawn_entry, spawn_next, spawn_entries, date_known}
use Rattle.bank_deeds.specs.Entries.{entry_with}

-- ---- posting

pub post_few : (setup : Setup) (S : State) (id : ℕ) → IsSoundState setup S → may_post setup S (row_of id S.entries) ≡ true → length S.entries + 1 ≤ setup.entries
post_few setup S id sound may = few_number setup S (to_post setup S id sound may).number

pub post_there : (setup : Setup) (S : State) (id : ℕ) → IsSoundState setup S → may_post setup S (row_of id S.entries) ≡ true → is_some (row_of id S.entries) ≡ true
post_there setup S id sound may = ap is_some (to_post setup S id sound may).found

pub post_own : (setup : Setup) (S : State) (id : ℕ) → IsSoundState setup S → may_post setup S (row_of id S.entries) ≡ true → IfSome (row_of id S.entries) (λ (row : TransferRow). is_some (account_of setup row.from) ≡ true)
post_own setup S id sound may =
    let to = to_post setup S id sound may in
    subst (λ (r : Option TransferRow). IfSome r (λ (row : TransferRow). is_some (account_of setup row.from) ≡ true)) (sym to.found) to.sound.from

named_first : (setup : Setup) (accounts : List AccountView) (row : TransferRow) → AreHeld accounts (named_by_row setup (Some row)) → HasBothHeld setup accounts row
named_first setup accounts row held =
    let P : Option AcctId → Type 0 = λ entry. IfSome entry (IsHeld accounts) in
    let more = All-tail P (account_of setup row.from) (account_of setup row.to ∷ []) held in
    (All-head P (account_of setup row.from) (account_of setup row.to ∷ []) held, All-head P (account_of setup row.to) [] more)

pub post_held : (setup : Setup) (S : State) (id : ℕ) (accounts : List AccountView) → IsSoundState setup S → may_post setup S (row_of id S.entries) ≡ true → AreHeld accounts (named_by_row setup (row_of id S.entries)) → IfSome (row_of id S.entries) (λ (row : TransferRow). IfSome (account_of setup row.from) (IsHeld accounts))
post_held setup S id accounts sound may held =
    let to = to_post setup S id sound may in
    let named = subst (λ (r : Option TransferRow). AreHeld accounts (named_by_row setup r)) to.found held in
    subst (λ (r : Option TransferRow). IfSome r (λ (row : TransferRow). IfSome (account_of setup row.from) (IsHeld accounts))) (sym to.found) (named_first setup accounts to.row named).0

abbrev pub settled_as : Setup → State → Moment → TransferRow → TransferRow
settled_as setup S at row = processed_row (has_cover setup S row) at row

pub post_from : (setup : Setup) (S : State) (id : ℕ) (at : Moment) (row : TransferRow) → IsSoundState setup S → may_post setup S (row_of id S.entries) ≡ true → option_map (settled_as setup S at) (row_of id S.entries) ≡ Some row → is_some (account_of setup row.from) ≡ true
post_from setup S id at row sound may is =
    let to = to_post setup S id sound may in
    let row_is : row ≡ settled_as setup S at to.row = some_row (row_of id S.entries) (settled_as setup S at) to.row row to.found is in
    ap (λ (r : TransferRow). is_some (account_of setup r.from)) row_is ∙ ap (λ (name : AcctName). is_some (account_of setup name)) (settled_fields (has_cover setup S to.row) at to.row).2 ∙ to.sound.from

-- What a posting enters, by the parts that are made of it.
pub record IsPostEntry (setup : Setup) (S : State) (at : Moment) (id : ℕ) (number : ℕ) (object : ObjectId) (uid : List ℕ) (row reported : TransferRow) : Type 0 where
  pub next : IsNext setup S (entry_with number object uid (SetTransfer reported))
  pub gives : GivesRows S.entries (SetTransfer reported) (Row row)
  pub entries : entry_with number object uid (SetTransfer reported) ∷ [] ≡ posts setup S at (row_of id S.entries)
  pub held : (accounts : List AccountView) → AreHeld accounts (named_by_row setup (row_of id S.entries)) → HasBothHeld setup accounts row

pub IsPostEntry-of : (setup : Setup) (S : State) (at : Moment) (id : ℕ) (number : ℕ) (object : ObjectId) (uid : List ℕ) (row reported : TransferRow) → IsWithinLimits setup → IsSoundState setup S → IsMoment at.0 → may_post setup S (row_of id S.entries) ≡ true → number ≡ length S.entries + 1 → object ≡ object_of setup row.from → uid ≡ codes "0" → option_map (settled_as setup S at) (row_of id S.entries) ≡ Some row → reported ≡ row → IsPostEntry setup S at id number object uid row reported
IsPostEntry-of setup S at id number object uid row reported within sound moment may is_number is_object is_uid is_row is_reported =
    let to = to_post setup S id sound may in
    let fields = settled_fields (has_cover setup S to.row) at to.row in
    let row_is : row ≡ settled_as setup S at to.row = some_row (row_of id S.entries) (settled_as setup S at) to.row row to.found is_row in
    let from : row.from ≡ to.row.from = ap (λ (r : TransferRow). r.from) row_is ∙ fields.2 in
    let destination : row.to ≡ to.row.to = ap (λ (r : TransferRow). r.to) row_is ∙ fields.3 in
    let entry : entry_with number object uid (SetTransfer reported) ≡ post_entry setup S at to.row =
    entry_is _ _ _ _ _ _ _ _ is_number (is_object ∙ ap (object_of setup) from) is_uid (ap (λ (r : TransferRow). SetTransfer r) (is_reported ∙ row_is)) in
    let next : IsNext setup S (entry_with number object uid (SetTransfer reported)) = subst (IsNext setup S) (sym entry) (post_next setup S id at within sound moment to) in
    record {
      next = next;
      gives = set_gives setup S reported row next.lawful next.reported is_reported;
      entries = ap (λ (e : Entry). e ∷ []) entry ∙ sym (post_entries setup S at id to.row to.found);
      held = λ accounts held.
          (let both = named_first setup accounts to.row (subst (λ (r : Option TransferRow). AreHeld accounts (named_by_row setup r)) to.found held) in
          (subst (λ (name : AcctName). IfSome (account_of setup name) (IsHeld accounts)) (sym from) both.0, subst (λ (name : AcctName). IfSome (account_of setup name) (IsHeld accounts)) (sym destination) both.1));
    }

-- ---- making the next transfer

abbrev pub index_in : State → ℕ → ℕ → Option Day
index_in S id occurrence = occurrence_date (model_of id S.entries) occurrence

pub spawn_dated : (setup : Setup) (S : State) (id occurrence : ℕ) → IsSoundState setup S → may_spawn setup S id occurrence ≡ true → is_some (index_in S id occurrence) ≡ true
spawn_dated setup S id occurrence sound may =
    let to = to_spawn setup S id occurrence sound may in
    ap is_some (ap (λ (r : Option ModelRow). occurrence_date r occurrence) to.found ∙ to.has_date)

pub spawn_first : (setup : Setup) (S : State) (id occurrence : ℕ) → IsSoundState setup S → may_spawn setup S id occurrence ≡ true → IfSome (model_of id S.entries) (λ (row : ModelRow). IsDay row.first.0)
spawn_first setup S id occurrence sound may =
    let to = to_spawn setup S id occurrence sound may in
    subst (λ (r : Option ModelRow). IfSome r (λ (row : ModelRow). IsDay row.first.0)) (sym to.found) to.sound.first

pub spawn_day : (setup : Setup) (S : State) (id occurrence : ℕ) → IsSoundState setup S → may_spawn setup S id occurrence ≡ true → IfSome (index_in S id occurrence) (λ (day : Day). IsDay day.0)
spawn_day setup S id occurrence sound may =
    let to = to_spawn setup S id occurrence sound may in
    subst (λ (d : Option Day). IfSome d (λ (day : Day). IsDay day.0)) (sym (ap (λ (r : Option ModelRow). occurrence_date r occurrence) to.found ∙ to.has_date)) (date_known to.row to.date occurrence to.sound.first to.has_date)

spawned_is : (number occurrence : ℕ) (found : Option ModelRow) (row : ModelRow) (date : Day) (made : TransferRow) → found ≡ Some row → occurrence_date (Some row) occurrence ≡ Some date → made_row number found (occurrence_date found occurrence) ≡ Some made → made ≡ spawned_row number date row
spawned_is number occurrence None row date made is dated made_is = cc
spawned_is number occurrence (Some held) row date made is dated made_is =
    let same : held ≡ row = cc in
    let here : occurrence_date (Some held) occurrence ≡ Some date = ap (λ (r : ModelRow). occurrence_date (Some r) occurrence) same ∙ dated in
    let e : Some (spawned_row number date held) ≡ Some made = sym (ap (made_row number (Some held)) here) ∙ made_is in
    let one : spawned_row number date held ≡ made = cc in
    sym one ∙ ap (spawned_row number date) same

-- What the next transfer of a recurring one enters.
pub record IsSpawnEntry (setup : Setup) (S : State) (id occurrence : ℕ) (number : ℕ) (object : ObjectId) (uid : List ℕ) (row reported : TransferRow) : Type 0 where
  pub next : IsNext setup S (entry_with number object uid (NewTransfer reported))
  pub gives : GivesRows S.entries (NewTransfer reported) (Made row)
  pub entries : entry_with number object uid (NewTransfer reported) ∷ [] ≡ spawns setup S id occurrence
  pub nothing : posting_of number (Some reported) ≡ []

pub spawn_from : (setup : Setup) (S : State) (id occurrence number : ℕ) (row : TransferRow) → IsSoundState setup S → may_spawn setup S id occurrence ≡ true → made_row number (model_of id S.entries) (index_in S id occurrence) ≡ Some row → is_some (account_of setup row.from) ≡ true
spawn_from setup S id occurrence number row sound may is =
    let to = to_spawn setup S id occurrence sound may in
    let row_is : row ≡ spawned_row number to.date to.row = spawned_is number occurrence (model_of id S.entries) to.row to.date row to.found to.has_date is in
    ap (λ (r : TransferRow). is_some (account_of setup r.from)) row_is ∙ ap (λ (name : AcctName). is_some (account_of setup name)) (spawned_fields number to.date to.row).2 ∙ to.sound.from

pub IsSpawnEntry-of : (setup : Setup) (S : State) (id occurrence : ℕ) (number : ℕ) (object : ObjectId) (uid : List ℕ) (row reported : TransferRow) → IsSoundState setup S → may_spawn setup S id occurrence ≡ true → number ≡ length S.entries + 1 → object ≡ object_of setup row.from → uid ≡ codes "0" → made_row number (model_of id S.entries) (index_in S id occurrence) ≡ Some row → reported ≡ row → IsSpawnEntry setup S id occurrence number object uid row reported
IsSpawnEntry-of setup S id occurrence number object uid row reported sound may is_number is_object is_uid is_row is_reported =
    let to = to_spawn setup S id occurrence sound may in
    let row_is : row ≡ spawned_row (length S.entries + 1) to.date to.row =
    spawned_is number occurrence (model_of id S.entries) to.row to.date row to.found to.has_date is_row ∙ ap (λ (n : ℕ). spawned_row n to.date to.row) is_number in
    let fields = spawned_fields (length S.entries + 1) to.date to.row in
    let from : row.from ≡ to.row.from = ap (λ (r : TransferRow). r.from) row_is ∙ fields.2 in
    let entry : entry_with number object uid (NewTransfer reported) ≡ spawn_entry setup S to.date to.row =
    entry_is _ _ _ _ _ _ _ _ is_number (is_object ∙ ap (object_of setup) from) is_uid (ap (λ (r : TransferRow). NewTransfer r) (is_reported ∙ row_is)) in
    let spawned = spawn_next setup S id occurrence sound to (date_known to.row to.date occurrence to.sound.first to.has_date) in
    let next : IsNext setup S (entry_with number object uid (NewTransfer reported)) = subst (IsNext setup S) (sym entry) spawned in
    record {
      next = next;
      gives = made_gives setup S reported row sound next.lawful next.reported is_reported (ap is_some (ap (λ (r : TransferRow). model_of r.model S.entries) (is_reported ∙ row_is) ∙ ap (λ (n : ℕ). model_of n S.entries) (fields.1 ∙ model_of-named id S.entries to.row to.found) ∙ to.found));
      entries = ap (λ (e : Entry). e ∷ []) entry ∙ sym (spawn_entries setup S id occurrence to);
      nothing = ap (λ (r : TransferRow). posting_of number (Some r)) (is_reported ∙ row_is) ∙ waiting_posts number (spawned_row (length S.entries + 1) to.date to.row) fields.4;
    }
