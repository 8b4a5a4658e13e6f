-- A history grows in order: after deeds, synchronisations, files and whatever the bank does by itself.
use Rattle.std.proofs.Common.{◌≡◌, ℕ, ◌+◌, ◌≤◌, Bool, true, false, cond, eqb, List, [], ◌∷◌, ◌++◌, length, length-append, Option, None, Some, refl, sym, ap, ◌∙◌, subst, append_assoc, arith}
use Rattle.std.proofs.lemmas.Bool.{eqb-true, and_parts}
use Rattle.std.specs.Option.{IfSome}
use Rattle.std.proofs.lemmas.List.{append-nil}
use Rattle.ofx_types.specs.declared.number.AcctId.{AcctId}
use Rattle.ofx_types.specs.declared.number.UserId.{UserId}
use Rattle.ofx_types.specs.declared.number.Day.{Day}
use Rattle.ofx_types.specs.declared.number.Moment.{Moment}
use Rattle.ofx_types.specs.declared.transfer.TransferRow.{TransferRow}
use Rattle.ofx_types.specs.declared.transfer.Deed.{Deed}
use Rattle.ofx_types.specs.declared.transfer.Change.TheVariants.{SetTransfer}
use Rattle.ofx_types.specs.declared.transfer.Family.TheVariants as families
use Rattle.ofx_types.specs.declared.recurring.ModelRow.{ModelRow}
use Rattle.ofx_types.specs.declared.sync.SyncAsk.{SyncAsk}
use Rattle.ofx_types.specs.declared.request.Ask.{Ask}
use Rattle.bank_model.specs.declared.entry.Entry.{Entry}
use Rattle.bank_model.specs.declared.setup.Setup.{Setup}
use Rattle.bank_model.specs.declared.event.State.{State}
use Rattle.bank_model.specs.declared.event.Event.{Event}
use Rattle.bank_model.specs.declared.event.Event.TheVariants.{File, Post, Spawn, Letter}
use Rattle.bank_model.specs.Ledger.{row_of}
use Rattle.bank_model.specs.Models.{model_of, is_waiting}
use Rattle.bank_model.specs.Deeds.{object_of, done, code_of, answer_with, deed_answer}
use Rattle.bank_model.specs.Objects.{object_named}
use Rattle.bank_model.specs.Sync.{deeds_or_rejection, sync_answer}
use Rattle.bank_model.specs.Due.{has_number, is_to_post, may_post, posts, processed_row, has_cover, may_spawn, spawned_row, occurrence_date, spawns_on, spawns}
use Rattle.bank_model.specs.Rules.{with_entries, raised, opening_state, ask_answer, ask_answers, letter_entry, state_after, IsLegal}
use Rattle.bank_invariants.specs.Stages.{Stage, after_stage, MayCome, Leads, IsKnownEvent}
use Rattle.bank_invariants.specs.Stages as stages
use Rattle.bank_invariants.proofs.NextLemmas.{row_of-named}
use Rattle.bank_invariants.proofs.EventLemmas.{few_number, settled_open}
use Rattle.bank_invariants.proofs.StageLemmas.{lasts, each_deed, each_ask, each_asks, leads_unless, leads_sync, leads_ask, leads_asks, leads_file, leads_step}
use Rattle.bank_invariants.proofs.StateLemmas.{IsAllowed-from_code}
use Rattle.sync_laws.specs.ObjectFamilies.{IsObjectOf}
use Rattle.sync_laws.specs.Histories.{MaySay, AllFollow, IsInOrder, IsLater}
use Rattle.sync_laws.proofs.Numbers.{follow_both}
use Rattle.sync_laws.proofs.Positions.{mail_index}
use Rattle.sync_laws.proofs.Located.{source_index}
use Rattle.sync_laws.proofs.Done.{done_follow}

-- A later state, which is in order where the earlier one is.
pub record Grows (setup : Setup) (S T : State) : Type 0 where
  pub later : IsLater S T
  pub order : IsInOrder setup S → IsInOrder setup T

grows_by : (setup : Setup) (S T : State) (more : List Entry) → T.entries ≡ S.entries ++ more → (IsInOrder setup S → AllFollow setup S.entries more) → (IsInOrder setup S → length S.entries + length more ≤ setup.entries) → Grows setup S T
grows_by setup S T more is follow few = record {
  later = (more, is);
  order = λ sound. record {
    few = (let least = few sound in let size = length-append S.entries more in let same = ap length is in omega arith);
    follow = subst (AllFollow setup []) (sym is) (follow_both setup [] S.entries more sound.follow (follow sound));
  };
}

grows_same : (setup : Setup) (S T : State) → T.entries ≡ S.entries → Grows setup S T
grows_same setup S T is = record {
  later = ([], is ∙ sym (append-nil S.entries));
  order = λ sound. record {
    few = (let least = sound.few in let same = ap length is in omega arith);
    follow = subst (AllFollow setup []) (sym is) sound.follow;
  };
}

pub later_both : (S T U : State) → IsLater S T → IsLater T U → IsLater S U
later_both S T U first second =
    (first.0 ++ second.0, second.1 ∙ ap (λ l. l ++ second.0) first.1 ∙ append_assoc S.entries first.0 second.0)

grows_both : (setup : Setup) (S T U : State) → Grows setup S T → Grows setup T U → Grows setup S U
grows_both setup S T U first second = record {
  later = later_both S T U first.later second.later;
  order = λ sound. second.order (first.order sound);
}

-- ---- deeds

grows_code : (setup : Setup) (S : State) (user : UserId) (only : Option AcctId) (at : Moment) (trnuid : List ℕ) (deed : Deed) (T : State) (zero : Bool) → eqb (code_of setup S user only at trnuid deed) 0 ≡ zero → T.entries ≡ S.entries ++ cond zero (done setup S user at trnuid deed) [] → Grows setup S T
grows_code setup S user only at trnuid deed T true zero is =
    let allowed = IsAllowed-from_code setup S user only at trnuid deed (eqb-true (code_of setup S user only at trnuid deed) 0 zero) in
    grows_by setup S T (done setup S user at trnuid deed) is
    (λ sound. done_follow setup S user only at trnuid deed sound.follow allowed.judged)
    (λ sound. allowed.few)
grows_code setup S user only at trnuid deed T false zero is = grows_same setup S T (is ∙ append-nil S.entries)

pub grows_deed : (setup : Setup) (S : State) (user : UserId) (only : Option AcctId) (at : Moment) (trnuid : List ℕ) (deed : Deed) → Grows setup S (deed_answer setup S user only at trnuid deed).after
unfolding deed_answer
grows_deed setup S user only at trnuid deed =
    grows_code setup S user only at trnuid deed (answer_with setup S user at trnuid deed (code_of setup S user only at trnuid deed)).after (eqb (code_of setup S user only at trnuid deed) 0) refl refl

-- ---- what the bank does by itself

settled_says : (setup : Setup) (before : List Entry) (covered : Bool) (at : Moment) (id : ℕ) (row : TransferRow) → row_of id before ≡ Some row → is_waiting row.code ≡ true → MaySay setup before (object_of setup row.from) (SetTransfer (processed_row covered at row))
unfolding processed_row
settled_says setup before covered at id row found waits =
    let same = row_of-named id before row found in
    (record { row = row; found = ap (λ (n : ℕ). row_of n before) same ∙ found; waits = waits; here = refl }, settled_open covered, refl, refl)

grows_post : (setup : Setup) (S : State) (at : Moment) (id : ℕ) (found : Option TransferRow) → row_of id S.entries ≡ found → may_post setup S found ≡ true → Grows setup S (with_entries S (posts setup S at found))
grows_post setup S at id None is may = cc
grows_post setup S at id (Some row) is may =
    let both = and_parts (is_to_post S.day row) (has_number setup S) may in
    let waits = and_parts (is_waiting row.code) _ both.0 in
    grows_by setup S (with_entries S (posts setup S at (Some row))) (posts setup S at (Some row)) refl
    (λ held. (record { number = refl; says = settled_says setup S.entries (has_cover setup S row) at id row is waits.0 }, tt))
    (λ held. few_number setup S both.1)

spawn_follow : (setup : Setup) (S : State) (found : Option ModelRow) (date : Option Day) → IfSome found (λ (row : ModelRow). IsObjectOf setup families.Intra (object_of setup row.from).0) → AllFollow setup S.entries (spawns_on setup S found date)
unfolding spawned_row
spawn_follow setup S None date index = tt
spawn_follow setup S (Some row) None index = tt
spawn_follow setup S (Some row) (Some date) index = (record { number = refl; says = (refl, refl, refl, index) }, tt)

-- a recurring transfer goes out of an account of the setup
model_index : (setup : Setup) (S : State) (id : ℕ) (found : Option ModelRow) → model_of id S.entries ≡ found → IsInOrder setup S → IfSome found (λ (row : ModelRow). IsObjectOf setup families.Intra (object_of setup row.from).0)
model_index setup S id None is sound = tt
model_index setup S id (Some row) is sound = source_index setup S.entries id row sound.follow is

spawn_few : (setup : Setup) (S : State) (found : Option ModelRow) (date : Option Day) → length S.entries + 1 ≤ setup.entries → length S.entries + length (spawns_on setup S found date) ≤ setup.entries
spawn_few setup S None date few = omega arith
spawn_few setup S (Some row) None few = omega arith
spawn_few setup S (Some row) (Some date) few = few

grows_spawn : (setup : Setup) (S : State) (id index : ℕ) → may_spawn setup S id index ≡ true → Grows setup S (with_entries S (spawns setup S id index))
unfolding spawns
grows_spawn setup S id index may =
    let both = and_parts _ (has_number setup S) may in
    grows_by setup S (with_entries S (spawns setup S id index)) (spawns setup S id index) refl
    (λ held. spawn_follow setup S (model_of id S.entries) (occurrence_date (model_of id S.entries) index) (model_index setup S id (model_of id S.entries) refl held))
    (λ held. spawn_few setup S (model_of id S.entries) (occurrence_date (model_of id S.entries) index) (few_number setup S both.1))

grows_letter : (setup : Setup) (S : State) (user : UserId) (at : Moment) (subject body : List ℕ) → has_number setup S ≡ true → Grows setup S (with_entries S (letter_entry setup S user at subject body ∷ []))
grows_letter setup S user at subject body may =
    grows_by setup S (with_entries S (letter_entry setup S user at subject body ∷ [])) (letter_entry setup S user at subject body ∷ []) refl
    (λ held. (record { number = refl; says = mail_index setup user }, tt))
    (λ held. few_number setup S may)

-- ---- stages

pub grows_raised : (setup : Setup) (S : State) (at : Moment) → Grows setup S (raised S at)
grows_raised setup S at = grows_same setup S (raised S at) refl

pub grows_stage : (setup : Setup) (S : State) (stage : Stage) → MayCome setup S stage → Grows setup S (after_stage setup S stage)
grows_stage setup S (stages.day at) may = grows_raised setup S at
grows_stage setup S (stages.deed user only at trnuid what) may = grows_deed setup S user only at trnuid what
grows_stage setup S (stages.names user older newer reply) may = grows_same setup S _ refl
grows_stage setup S (stages.post at id) may = grows_post setup S at id (row_of id S.entries) refl may
grows_stage setup S (stages.spawn id index) may = grows_spawn setup S id index may
grows_stage setup S (stages.letter user at subject body) may = grows_letter setup S user at subject body may

-- Nothing need be known of a stage.
abbrev Anything : Stage → Type 0
Anything stage = Unit {0}

-- Wherever stages lead, the history has grown in order.
pub grows_to : (setup : Setup) (S T : State) → Leads setup Anything S T → Grows setup S T
grows_to setup S T leads =
    lasts setup Anything (Grows setup S) S T
    (λ U stage may known grows. grows_both setup S U (after_stage setup U stage) grows (grows_stage setup U stage may))
    leads (grows_same setup S S refl)

-- ---- asks and synchronisations

pub grows_unless : (setup : Setup) (S : State) (user : UserId) (at : Moment) (ask : SyncAsk) (code : Option ℕ) → Grows setup S (deeds_or_rejection setup S user at ask code).after
grows_unless setup S user at ask code =
    grows_to setup S _ (leads_unless setup Anything S user at ask code (each_deed Anything user at ask.deeds (λ only trnuid what. tt)))

pub grows_sync : (setup : Setup) (S : State) (user : UserId) (at : Moment) (ask : SyncAsk) → Grows setup S (sync_answer setup S user at ask).after
unfolding sync_answer
grows_sync setup S user at ask =
    grows_to setup S _ (leads_sync setup Anything S user at ask (object_named setup user ask.object) (each_deed Anything user at ask.deeds (λ only trnuid what. tt)))

pub grows_ask : (setup : Setup) (S : State) (user : UserId) (at : Moment) (ask : Ask) → Grows setup S (ask_answer setup S user at ask).after
grows_ask setup S user at ask = grows_to setup S _ (leads_ask setup Anything S user at ask (each_ask Anything user at ask (λ only trnuid what. tt)))

pub grows_asks : (setup : Setup) (S : State) (user : UserId) (at : Moment) (asks : List Ask) → Grows setup S (ask_answers setup S user at asks).after
grows_asks setup S user at asks = grows_to setup S _ (leads_asks setup Anything S user at asks (each_asks Anything user at asks (λ only trnuid what. tt)))

-- ---- any event

any_event : (at : Moment) (event : Event) → IsKnownEvent Anything at event
any_event at (File user file) = (tt, each_asks Anything user at file.asks (λ only trnuid what. tt), λ reply. tt)
any_event at (Post id) = (tt, tt)
any_event at (Spawn id index) = (tt, tt)
any_event at (Letter user subject body) = (tt, tt)

pub order_step : (setup : Setup) (S : State) (at : Moment) (event : Event) → IsInOrder setup S → IsLegal setup S at event → IsInOrder setup (state_after setup S at event)
order_step setup S at event sound legal = (grows_to setup S _ (leads_step setup Anything S at event legal (any_event at event))).order sound

pub later_step : (setup : Setup) (S : State) (at : Moment) (event : Event) → IsLater S (state_after setup S at event)
later_step setup S at (File user file) = (grows_to setup S _ (leads_file setup Anything S at user file (any_event at (File user file)))).later
later_step setup S at (Post id) = (posts setup (raised S at) at (row_of id S.entries), refl)
later_step setup S at (Spawn id index) = (spawns setup (raised S at) id index, refl)
later_step setup S at (Letter user subject body) = (letter_entry setup (raised S at) user at subject body ∷ [], refl)

pub order_opening : (setup : Setup) → IsInOrder setup opening_state
order_opening setup = record { few = omega arith; follow = tt }
