-- Logs and journals as runs of the world's bank.
use Rattle.std.proofs.Common.{◌≡◌, ℕ, inl, inr, Bool, true, false, List, [], ◌∷◌, ◌++◌, Option, None, Some, refl, sym, ap, subst, append_assoc, ◌∙◌}
use Rattle.std.specs.Option.{IfSome, IsSomeAnd}
use Rattle.std.specs.List.{All}
use Rattle.std.proofs.lemmas.List.Elements.{All-cons, All-nil}
use Rattle.std.proofs.lemmas.Option.{same_Some, none-some}
use Rattle.ofx_types.specs.declared.number.Moment.{Moment}
use Rattle.bank_model.specs.declared.event.Event.{Event}
use Rattle.bank_model.specs.declared.event.Event.TheVariants as events
use Rattle.bank_model.specs.declared.event.State.{State}
use Rattle.bank_model.specs.declared.log.LogItem.{LogItem}
use Rattle.bank_model.specs.declared.log.LogItem.TheVariants.{Effect, Answer, Adopted, Fault}
use Rattle.bank_model.specs.declared.setup.Setup.{Setup}
use Rattle.bank_model.specs.Log.{endings}
use Rattle.bank_model.specs.LegalLog.{IsWholeLog, ends}
use Rattle.bank_model.specs.Rules.{opening_state}
use Rattle.bank_model.specs.SetupForm.{IsWithinLimits}
use Rattle.event_codec.specs.Coding.{coded}
use Rattle.event_codec.specs.Records.{Reopens}
use Rattle.bank_engine.specs.Kept.{AreKept, CodeEndings, MayRemain}
use Rattle.bank_engine.specs.Laws.{IsAnswered, AreAnswered, LogsReopen}
use Rattle.bank_engine.specs.Truth.{Awaits, IsTrue}
use Rattle.bank_engine.specs.Views as engines
use Rattle.bank_engine.specs.Views.{JournalView}
use Rattle.ofx_world.specs.Server.{ServerView, fresh}
use Rattle.world_laws.specs.BankLaws.{FreshServersAreSound, SoundServersGoOn, IsReported, HasReply, IsRun, LogsAreRuns, IsTried, landed_record, IsPendingAs, IsSeenAs, JournalsAreRuns}
use Rattle.world_laws.specs.ServedBank.{at_rest, MayCommit}
use Rattle.world_laws.proofs.LogRuns.{bank, waiting, pending_waits, seen, MayStay, goes_to_end, comes_by}

-- ---- replies

reported : (setup : Setup) (earlier : List (List ℕ)) (rec : List ℕ) (later : List (List ℕ)) (event : Event) (at : Moment) (reply : List ℕ)
    → IsAnswered setup earlier rec event at reply → IsReported setup (earlier ++ rec ∷ later) event reply
reported setup earlier rec later (events.File user file) at reply answered = record {
  earlier = earlier;
  rec = rec;
  later = later;
  parts = refl;
  state = answered.state;
  holds = answered.reopens;
  at = at;
  user = user;
  file = file;
  codes = answered.codes;
  is_answer = answered.reply_is;
}
reported setup earlier rec later (events.Post id) at reply answered = answered.reply_is
reported setup earlier rec later (events.Spawn model offset) at reply answered = answered.reply_is
reported setup earlier rec later (events.Letter user subject body) at reply answered = answered.reply_is

have_replies : (setup : Setup) (earlier : List (List ℕ)) (items : List LogItem) (records : List (List ℕ)) → AreAnswered setup earlier items records
    → All (HasReply setup (earlier ++ records)) items
have_replies setup earlier [] records answered = All-nil (HasReply setup (earlier ++ records))
have_replies setup earlier (Effect entry ∷ items) records answered =
    All-cons (HasReply setup (earlier ++ records)) (Effect entry) items tt (have_replies setup earlier items records answered)
have_replies setup earlier (Fault count pending ∷ items) records answered =
    All-cons (HasReply setup (earlier ++ records)) (Fault count pending) items tt (have_replies setup earlier items records answered)
have_replies setup earlier (Answer event at reply ∷ items) [] answered = absurd answered
have_replies setup earlier (Answer event at reply ∷ items) (rec ∷ records) answered =
    All-cons (HasReply setup (earlier ++ rec ∷ records)) (Answer event at reply) items (reported setup earlier rec records event at reply answered.0)
    (subst (λ (rs : List (List ℕ)). All (HasReply setup rs) items) (append_assoc earlier (rec ∷ []) records)
    (have_replies setup (earlier ++ rec ∷ []) items records answered.1))
have_replies setup earlier (Adopted fault event at ∷ items) [] answered = absurd answered
have_replies setup earlier (Adopted fault event at ∷ items) (rec ∷ records) answered =
    All-cons (HasReply setup (earlier ++ rec ∷ records)) (Adopted fault event at) items tt
    (subst (λ (rs : List (List ℕ)). All (HasReply setup rs) items) (append_assoc earlier (rec ∷ []) records)
    (have_replies setup (earlier ++ rec ∷ []) items records answered.1))

-- ---- a log

module _ (fresh_sound : FreshServersAreSound) (go_on : SoundServersGoOn) (reopen : LogsReopen) (setup : Setup) (within : IsWithinLimits setup) where
  -- The bank goes along the log to its end, with this known of what waits then.
  run_to : (final : Option Bool) (opening : State) (first written : List (List ℕ)) (log : List LogItem) → Reopens setup opening_state first opening
      → IsWholeLog setup opening log → CodeEndings (endings log) written → MayStay setup (ends setup opening log) final (endings log)
      → IsRun setup opening first log (bank setup (ends setup opening log) (first ++ written) (seen final (waiting (endings log))))
  run_to final opening first written log reopens whole code may =
      let opens = comes_by setup opening_state opening [] first reopens in
      let goes = goes_to_end setup final opening first (endings log) written whole.may_end code may in
      let leads = reopen setup opening first written log reopens whole code in
      record {
        opens = opens;
        goes = goes;
        sound = go_on.log _ _ (endings log) goes (go_on.records (fresh setup) (bank setup opening first None) first opens (fresh_sound setup within));
        replies = have_replies setup first (endings log) written leads.answers;
      }

  pub log_run : (opening : State) (first written : List (List ℕ)) (log : List LogItem) → Reopens setup opening_state first opening
      → IsWholeLog setup opening log → CodeEndings (endings log) written
      → IsRun setup opening first log (at_rest setup (ends setup opening log) (first ++ written))
  log_run opening first written log reopens whole code =
      run_to None opening first written log reopens whole code (λ landed event at is found. absurd (none-some landed is))

  -- ---- a journal

  module _ (opening : State) (first : List (List ℕ)) (journal : JournalView) (is : IsTrue setup opening (Some first) journal) where
    abbrev Runs : Type 0
    Runs = (server : ServerView) × IsRun setup opening first journal.log server × IsSeenAs journal server

    -- nothing is pending
    idle : (records : List (List ℕ)) → journal.records ≡ Some records → (kept : AreKept setup opening first journal.log journal.landed journal.pending records)
        → journal.pending ≡ None → kept.besides ≡ [] → Runs
    idle records reported kept none besides = (
      bank setup (ends setup opening journal.log) (first ++ kept.coded) None,
      run_to None opening first kept.coded journal.log kept.opened is.legal kept.code (λ landed event at same found. absurd (none-some landed same)),
      record {
        setup_is = sym is.own;
        state_is = sym is.holds;
        records_are = reported ∙ ap (λ (rs : List (List ℕ)). Some rs) (kept.parts ∙ ap (λ (b : List (List ℕ)). first ++ kept.coded ++ b) besides);
        pending = subst (λ (pending : Option engines.PendingView). IsPendingAs pending journal.landed None) (sym none) refl;
        fault = refl;
      },
    )

    -- This is pending, and it is told whether its record is stored.
    pending_as : (records : List (List ℕ)) → journal.records ≡ Some records → (kept : AreKept setup opening first journal.log journal.landed journal.pending records)
        → (pending : engines.PendingView) → journal.pending ≡ Some pending → waiting (endings journal.log) ≡ Some (pending.event, pending.at)
        → MayCommit journal.setup journal.state pending.at pending.event → (holds : Bool) → journal.landed ≡ Some holds
        → kept.besides ≡ landed_record (Some (record { event = pending.event; at = pending.at; landed = holds })) → Runs
    pending_as records reported kept pending there waits may holds landed besides =
        let now : MayCommit setup (ends setup opening journal.log) pending.at pending.event =
        subst (λ (S : State). MayCommit setup S pending.at pending.event) is.holds
        (subst (λ (s : Setup). MayCommit s journal.state pending.at pending.event) is.own may) in
        let seen_is : seen (Some holds) (waiting (endings journal.log)) ≡ Some (record { event = pending.event; at = pending.at; landed = holds }) =
        ap (seen (Some holds)) waits in (
          bank setup (ends setup opening journal.log) (first ++ kept.coded) (seen (Some holds) (waiting (endings journal.log))),
          run_to (Some holds) opening first kept.coded journal.log kept.opened is.legal kept.code (λ other event at same found.
              subst (λ (pair : Event × Moment). MayCommit setup (ends setup opening journal.log) pair.1 pair.0)
              (same_Some (pending.event, pending.at) (event, at) (sym waits ∙ found)) now),
          record {
            setup_is = sym is.own;
            state_is = sym is.holds;
            records_are =
                reported
                ∙ ap (λ (rs : List (List ℕ)). Some rs)
                (kept.parts ∙ ap (λ (b : List (List ℕ)). first ++ kept.coded ++ b) (besides ∙ sym (ap landed_record seen_is)));
            pending = subst (λ (p : Option engines.PendingView). IsPendingAs p journal.landed (seen (Some holds) (waiting (endings journal.log)))) (sym there) (holds, landed, seen_is);
            fault = refl;
          },
        )

    by_pending : (records : List (List ℕ)) → journal.records ≡ Some records → (kept : AreKept setup opening first journal.log journal.landed journal.pending records)
        → (pending : Option engines.PendingView) → journal.pending ≡ pending → Awaits journal.log journal.unsettled pending
        → IfSome pending (λ (pending : engines.PendingView). MayCommit journal.setup journal.state pending.at pending.event)
        → MayRemain journal.landed pending kept.besides → Runs
    by_pending records reported kept None there awaits tried remains = idle records reported kept there remains
    by_pending records reported kept (Some pending) there awaits tried (inl has) =
        pending_as records reported kept pending there (pending_waits (endings journal.log) pending.number pending.event pending.at awaits.1) tried true has.is_reported
        (has.is_it ∙ ap (λ (rec : List ℕ). rec ∷ []) has.codes.spelled)
    by_pending records reported kept (Some pending) there awaits tried (inr lost) =
        pending_as records reported kept pending there (pending_waits (endings journal.log) pending.number pending.event pending.at awaits.1) tried false lost.is_reported
        lost.none

    by_records : (records : Option (List (List ℕ))) → journal.records ≡ records
        → IsSomeAnd records (AreKept setup opening first journal.log journal.landed journal.pending) → IsTried journal → Runs
    by_records None reported kept tried = absurd kept
    by_records (Some records) reported kept tried = by_pending records reported kept journal.pending refl is.awaits tried kept.may_remain

    pub journal_run : IsTried journal → Runs
    journal_run tried = by_records journal.records refl is.kept tried

pub logs_run : FreshServersAreSound → SoundServersGoOn → LogsReopen → LogsAreRuns
logs_run fresh go_on reopen setup opening first coded log within reopens whole code = log_run fresh go_on reopen setup within opening first coded log reopens whole code

pub journals_run : FreshServersAreSound → SoundServersGoOn → LogsReopen → JournalsAreRuns
journals_run fresh go_on reopen setup opening first journal within is tried = journal_run fresh go_on reopen setup within opening first journal is tried
