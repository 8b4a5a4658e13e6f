-- Each event keeps the history such that it may be reported.
use Rattle.std.proofs.Common.{◌≡◌, ℕ, ◌+◌, ◌<◌, ◌≤◌, true, List, [], ◌∷◌, ◌++◌, length, Option, None, Some, refl, sym, subst, arith}
use Rattle.std.specs.List.{AllByRecursion}
use Rattle.std.proofs.lemmas.Bool.{and_parts, ltb-false, not-true}
use Rattle.std.proofs.lemmas.Int.{ints}
use Rattle.ofx_types.specs.Calendar.{IsMoment, IsDay, day_of}
use Rattle.ofx_types.specs.declared.number.Day.{Day}
use Rattle.ofx_types.specs.declared.number.Moment.{Moment}
use Rattle.ofx_types.specs.declared.number.UserId.{UserId}
use Rattle.ofx_types.specs.declared.transfer.TransferRow.{TransferRow}
use Rattle.ofx_types.specs.declared.recurring.ModelRow.{ModelRow}
use Rattle.ofx_types.specs.SyncForm.{object_family}
use Rattle.ofx_types.specs.declared.transfer.Deed.{Deed}
use Rattle.ofx_types.specs.declared.transfer.Family.{Family}
use Rattle.ofx_types.specs.declared.sync.SyncAsk.{SyncAsk}
use Rattle.ofx_types.specs.declared.request.Ask.{Ask}
use Rattle.ofx_types.specs.declared.request.Ask.TheVariants.{Statement, One, Sync}
use Rattle.msg_parts.specs.SoundParts.{IsTextWithin}
use Rattle.bank_model.specs.Sync.{deeds_or_rejection}
use Rattle.bank_model.specs.declared.entry.Entry.{Entry}
use Rattle.bank_model.specs.declared.setup.Setup.{Setup}
use Rattle.bank_model.specs.declared.event.State.{State}
use Rattle.bank_model.specs.declared.event.Event.{Event}
use Rattle.bank_model.specs.declared.event.Event.TheVariants.{File, Post, Spawn, Letter}
use Rattle.bank_model.specs.SetupForm.{IsWithinLimits}
use Rattle.bank_model.specs.Ledger.{row_of}
use Rattle.bank_model.specs.Models.{model_of}
use Rattle.bank_model.specs.Deeds.{is_full}
use Rattle.bank_model.specs.Due.{has_number, posts, has_cover, occurrence_date, spawns_on, spawns}
use Rattle.bank_model.specs.Rules.{opening_state, raised, ask_answer, letter_entry, state_after, IsLegal}
use Rattle.bank_model.specs.Sound as file
use Rattle.bank_invariants.specs.Stages.{Stage, after_stage, MayCome, Leads, IsKnownDeed, IsKnownAsk, IsKnownEvent}
use Rattle.bank_invariants.specs.Stages as stages
use Rattle.bank_invariants.proofs.StageLemmas.{lasts, leads_unless, leads_ask, leads_step}
use Rattle.sync_laws.specs.Histories.{IsInOrder}
use Rattle.sync_laws.proofs.Events.{order_opening, grows_raised, grows_stage}
use Rattle.bank_model.proofs.Lists.{all_append}
use Rattle.sync_laws.proofs.Positions.{at_intra}
use Rattle.reply_laws.specs.Reportable.{IsReportedEntry, IsReportable}
use Rattle.reply_laws.proofs.Values.{uid_within, zero_within, bank_within}
use Rattle.reply_laws.proofs.Arguments.{user_within}
use Rattle.bank_invariants.proofs.RowLemmas.{IsDay-of_moment, IsDay-max}
use Rattle.reply_laws.proofs.Found.{known_row, known_model}
use Rattle.reply_laws.proofs.Rows.{settled_reported_row, spawned_reported, date_is}
use Rattle.reply_laws.proofs.Answers.{MayAsk, reportable_deed}

pub reportable_opening : (setup : Setup) → IsReportable setup opening_state
reportable_opening setup = record { order = order_opening setup; entries = tt; day = (omega (arith, ints), omega (arith, ints)) }

pub reportable_raised : (setup : Setup) (S : State) (at : Moment) → IsReportable setup S → IsMoment at.0 → IsReportable setup (raised S at)
reportable_raised setup S at reportable moment = record {
  order = (grows_raised setup S at).order reportable.order;
  entries = reportable.entries;
  day = IsDay-max S.day.0 (day_of at.0) reportable.day (IsDay-of_moment at.0 moment);
}

-- What is left for the next entry is a number of ten digits.
next_id : (setup : Setup) (S : State) → IsWithinLimits setup → has_number setup S ≡ true → length S.entries + 1 ≤ 9999999999
next_id setup S within has =
    let few = ltb-false setup.entries (length S.entries + 1) (not-true (is_full setup (length S.entries + 1)) has) in
    let most = within.lines.entries_high in
    omega arith

-- ---- what the bank does by itself

posts_reported : (setup : Setup) (S : State) (at : Moment) (id : ℕ) (found : Option TransferRow) → row_of id S.entries ≡ found → IsWithinLimits setup → IsReportable setup S → IsMoment at.0 → AllByRecursion (IsReportedEntry setup) (posts setup S at found)
posts_reported setup S at id None is within reportable moment = tt
posts_reported setup S at id (Some row) is within reportable moment = (
  record {
    trnuid = zero_within 36 (omega arith);
    change = settled_reported_row (has_cover setup S row) at row moment (known_row setup id S.entries row reportable.entries is);
    object = at_intra setup row.from within;
  },
  tt,
)

spawns_reported : (setup : Setup) (S : State) (id occurrence : ℕ) (found : Option ModelRow) (date : Option Day) → model_of id S.entries ≡ found → occurrence_date found occurrence ≡ date → IsWithinLimits setup → IsReportable setup S → length S.entries + 1 ≤ 9999999999 → AllByRecursion (IsReportedEntry setup) (spawns_on setup S found date)
spawns_reported setup S id occurrence None date is on within reportable few = tt
spawns_reported setup S id occurrence (Some row) None is on within reportable few = tt
spawns_reported setup S id occurrence (Some row) (Some date) is on within reportable few =
    let known = known_model setup id S.entries row reportable.entries is in (
      record {
        trnuid = zero_within 36 (omega arith);
        change = spawned_reported (length S.entries + 1) date row few (date_is row occurrence date known on) known;
        object = at_intra setup row.from within;
      },
      tt,
    )

report_of_letter : (setup : Setup) (S : State) (user : UserId) (at : Moment) (subject body : List ℕ) → IsWithinLimits setup → IsMoment at.0 → user.0 < length setup.users → file.IsTextWithin 64 subject → file.IsTextWithin 10000 body → IsReportedEntry setup (letter_entry setup S user at subject body)
report_of_letter setup S user at subject body within moment known subject_is body_is = record {
  trnuid = zero_within 36 (omega arith);
  change = record {
    about = tt;
    user = user_within setup user within known;
    mail = record {
      created = moment;
      sender = bank_within;
      target = user_within setup user within known;
      subject = subject_is;
      body = body_is;
    };
  };
  object = omega arith;
}

with_more : (setup : Setup) (S T : State) (more : List Entry) → IsInOrder setup T → T.entries ≡ S.entries ++ more → T.day ≡ S.day → IsReportable setup S → AllByRecursion (IsReportedEntry setup) more → IsReportable setup T
with_more setup S T more order are same reportable reported = record {
  order = order;
  entries = subst (AllByRecursion (IsReportedEntry setup)) (sym are) (all_append (IsReportedEntry setup) S.entries more reportable.entries reported);
  day = subst (λ (day : Day). IsDay day.0) (sym same) reportable.day;
}

-- ---- stages

-- A moment lies in the years 1900 to 9999, and what a user of the setup asks is sound.
abbrev pub IsReportedStage : Setup → Stage → Type 0
IsReportedStage setup (stages.day at) = IsMoment at.0
IsReportedStage setup (stages.deed user only at trnuid what) =
    IsMoment at.0 × (user.0 < length setup.users) × file.IsSoundDeed what × IsTextWithin 36 trnuid
IsReportedStage setup (stages.names user older newer reply) = Unit {0}
IsReportedStage setup (stages.post at id) = IsMoment at.0
IsReportedStage setup (stages.spawn id occurrence) = Unit {0}
IsReportedStage setup (stages.letter user at subject body) =
    IsMoment at.0 × (user.0 < length setup.users) × file.IsTextWithin 64 subject × file.IsTextWithin 10000 body

order_after : (setup : Setup) (S : State) (stage : Stage) → MayCome setup S stage → IsReportable setup S → IsInOrder setup (after_stage setup S stage)
order_after setup S stage may reportable = (grows_stage setup S stage may).order reportable.order

reportable_stage : (setup : Setup) (S : State) (stage : Stage) → IsWithinLimits setup → MayCome setup S stage → IsReportedStage setup stage → IsReportable setup S → IsReportable setup (after_stage setup S stage)
unfolding spawns
reportable_stage setup S (stages.day at) within may known reportable = reportable_raised setup S at reportable known
reportable_stage setup S (stages.deed user only at trnuid what) within may known reportable =
    reportable_deed setup S user only at trnuid what (record { within = within; reportable = reportable; moment = known.0; known = known.1 }) known.2 known.3
reportable_stage setup S (stages.names user older newer reply) within may known reportable =
    record { order = order_after setup S (stages.names user older newer reply) may reportable; entries = reportable.entries; day = reportable.day }
reportable_stage setup S (stages.post at id) within may known reportable =
    with_more setup S _ (posts setup S at (row_of id S.entries)) (order_after setup S (stages.post at id) may reportable) refl refl reportable
    (posts_reported setup S at id (row_of id S.entries) refl within reportable known)
reportable_stage setup S (stages.spawn id occurrence) within may known reportable =
    let both = and_parts _ (has_number setup S) may in
    with_more setup S _ (spawns setup S id occurrence) (order_after setup S (stages.spawn id occurrence) may reportable) refl refl reportable
    (spawns_reported setup S id occurrence (model_of id S.entries) (occurrence_date (model_of id S.entries) occurrence) refl refl within reportable (next_id setup S within both.1))
reportable_stage setup S (stages.letter user at subject body) within may known reportable =
    with_more setup S _ (letter_entry setup S user at subject body ∷ []) (order_after setup S (stages.letter user at subject body) may reportable) refl refl reportable
    (report_of_letter setup S user at subject body within known.0 known.1 known.2 known.3, tt)

reportable_to : (setup : Setup) (S T : State) → IsWithinLimits setup → IsReportable setup S → Leads setup (IsReportedStage setup) S T → IsReportable setup T
reportable_to setup S T within reportable leads =
    lasts setup (IsReportedStage setup) (IsReportable setup) S T (λ U stage may known holds. reportable_stage setup U stage within may known holds) leads reportable

-- ---- asks

reported_deeds : (setup : Setup) (user : UserId) (at : Moment) (family : Family) (deeds : List (List ℕ × Deed)) → IsMoment at.0 → user.0 < length setup.users → AllByRecursion (file.IsSoundPair family) deeds → AllByRecursion (IsKnownDeed (IsReportedStage setup) user at) deeds
reported_deeds setup user at family [] moment known sound = tt
reported_deeds setup user at family (deed ∷ deeds) moment known sound =
    (λ only. (moment, known, sound.0.1, uid_within deed.0 sound.0.0.1), reported_deeds setup user at family deeds moment known sound.1)

reported_ask : (setup : Setup) (user : UserId) (at : Moment) (ask : Ask) → IsMoment at.0 → user.0 < length setup.users → file.IsSoundAsk ask → IsKnownAsk (IsReportedStage setup) user at ask
reported_ask setup user at (Statement trnuid name period) moment known sound = tt
reported_ask setup user at (One trnuid deed) moment known sound = λ only. (moment, known, sound.1, uid_within trnuid sound.0.1)
reported_ask setup user at (Sync ask) moment known sound = reported_deeds setup user at (object_family ask.object) ask.deeds moment known sound.deeds

reported_asks : (setup : Setup) (user : UserId) (at : Moment) (asks : List Ask) → IsMoment at.0 → user.0 < length setup.users → AllByRecursion file.IsSoundAsk asks → AllByRecursion (IsKnownAsk (IsReportedStage setup) user at) asks
reported_asks setup user at [] moment known sound = tt
reported_asks setup user at (ask ∷ asks) moment known sound = (reported_ask setup user at ask moment known sound.0, reported_asks setup user at asks moment known sound.1)

pub reportable_unless : (setup : Setup) (S : State) (user : UserId) (at : Moment) (ask : SyncAsk) (code : Option ℕ) → MayAsk setup S user at → file.IsSoundSync ask → IsReportable setup (deeds_or_rejection setup S user at ask code).after
reportable_unless setup S user at ask code may sound =
    reportable_to setup S _ may.within may.reportable
    (leads_unless setup (IsReportedStage setup) S user at ask code (reported_deeds setup user at (object_family ask.object) ask.deeds may.moment may.known sound.deeds))

pub reportable_ask : (setup : Setup) (S : State) (user : UserId) (at : Moment) (ask : Ask) → MayAsk setup S user at → file.IsSoundAsk ask → IsReportable setup (ask_answer setup S user at ask).after
reportable_ask setup S user at ask may sound =
    reportable_to setup S _ may.within may.reportable (leads_ask setup (IsReportedStage setup) S user at ask (reported_ask setup user at ask may.moment may.known sound))

-- ---- any event

reported_event : (setup : Setup) (S : State) (at : Moment) (event : Event) → IsMoment at.0 → IsLegal setup S at event → IsKnownEvent (IsReportedStage setup) at event
reported_event setup S at (File user sent) moment legal = (moment, reported_asks setup user at sent.asks moment legal.0 legal.1.asks, λ reply. tt)
reported_event setup S at (Post id) moment legal = (moment, moment)
reported_event setup S at (Spawn id occurrence) moment legal = (moment, tt)
reported_event setup S at (Letter user subject body) moment legal = (moment, (moment, legal.0, legal.1, legal.2))

pub reportable_step : (setup : Setup) (S : State) (at : Moment) (event : Event) → IsWithinLimits setup → IsReportable setup S → IsMoment at.0 → IsLegal setup S at event → IsReportable setup (state_after setup S at event)
reportable_step setup S at event within reportable moment legal =
    reportable_to setup S _ within reportable (leads_step setup (IsReportedStage setup) S at event legal (reported_event setup S at event moment legal))
