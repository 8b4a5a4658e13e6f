-- What holds of a journal, after each call of its engine.
use Rattle.std.proofs.Common.{◌≡◌, ℕ, ◌<◌, ◌≤◌, ◌⊎◌, inl, inr, ◌+◌, ◌^◌, ◌%◌, List, [], ◌∷◌, ◌++◌, length, Bool, true, false, Option, None, Some, refl, sym, ap, ◌∙◌, subst, arith}
use Rattle.std.specs.List.{All}
use Rattle.std.specs.Option.{IfSome, IsSomeAnd}
use Rattle.std.proofs.lemmas.Bool.{false≢true}
use Rattle.std.proofs.lemmas.List.{append-nil}
use Rattle.std.proofs.lemmas.List.Elements.{All-nil}
use Rattle.std.proofs.lemmas.Option.{same_Some}
use Rattle.ofx_types.specs.declared.number.Moment.{Moment}
use Rattle.ofx_ports.specs.Known.{Stays}
use Rattle.bank_model.specs.declared.event.Event.{Event}
use Rattle.bank_model.specs.declared.event.State.{State}
use Rattle.bank_model.specs.declared.log.LogItem.{LogItem}
use Rattle.bank_model.specs.declared.log.LogItem.TheVariants.{Answer, Adopted, Fault}
use Rattle.bank_model.specs.declared.setup.Setup.{Setup}
use Rattle.bank_model.specs.Rules.{opening_state, state_after, answer_to}
use Rattle.bank_model.specs.Log.{is_ending, endings, entry_of, entries_in}
use Rattle.bank_model.specs.LegalLog.{MayHappen, effects_of, group, after_ending, ends, IsPending, IsWholeLog, IsAbove, MayEnd}
use Rattle.bank_model.specs.declared.submit.SubmitFault.{SubmitFault}
use Rattle.bank_model.specs.declared.submit.SubmitFault.TheVariants.{Keeper, OutOfMemory}
use Rattle.bank_replay.specs.Opening.{RecordsGive}
use Rattle.event_codec.specs.Records.{Reopens}
use Rattle.bank_engine.specs.Calls.{IsAsBefore, Fails, Answers, FailsToKeep, pending_after, FailsToCommit, Adopts, AddsNothing, SettlesAny, Settles, StaysPending, FailsToSettle}
use Rattle.bank_engine.specs.Kept.{AreKept}
use Rattle.bank_engine.specs.Steps.{AddsEntries}
use Rattle.bank_engine.specs.Truth.{IsUpTo, Awaits, IsTrue}
use Rattle.bank_engine.specs.Views.{PendingView, JournalView}
use Rattle.bank_engine.proofs.KeptLemmas.{reported_grows, reported_stays, reported_may, where_opened, kept_more, kept_adopted, kept_dropped, kept_still, kept_landed, kept_lost, kept_idle}
use Rattle.bank_engine.proofs.LogLemmas.{endings_more, ends_more, whole_more, entries_more, entries_same, counts_later, counts_more, counts_rise, pending_new, pending_still}

-- ---- the log and the state

-- the part of a journal's truth that isn't about its keeper
record IsLogTrue (setup : Setup) (opening : State) (S : State) (log : List LogItem) : Type 0 where
  pub legal : IsWholeLog setup opening log
  pub holds : S ≡ ends setup opening log
  pub entries : S.entries ≡ entries_in opening log

-- The state and the log have grown by a group of an event that ends in this item.
record IsGrown (setup : Setup) (S T : State) (log log' : List LogItem) (event : Event) (at : Moment) (item : LogItem) : Type 0 where
  pub adds : AddsEntries setup S at event
  pub after : T ≡ state_after setup S at event
  pub log_is : log' ≡ log ++ (effects_of setup S at event ++ item ∷ [])

-- a group of an event that was answered or adopted
grown_log : (setup : Setup) (opening S T : State) (log log' : List LogItem) (event : Event) (at : Moment) (item : LogItem) → is_ending item ≡ true → entry_of item ≡ [] → group setup S item ≡ effects_of setup S at event ++ item ∷ [] → after_ending setup S item ≡ state_after setup S at event → MayEnd setup S (endings log) item → IsLogTrue setup opening S log → IsGrown setup S T log log' event at item → IsLogTrue setup opening T log' × (endings log' ≡ endings log ++ item ∷ [])
grown_log setup opening S T log log' event at item ends_it none of_item after_item may is grown =
    let here : S ≡ ends setup opening log = is.holds in
    let same : log' ≡ log ++ group setup (ends setup opening log) item = grown.log_is ∙ ap (λ (l : List LogItem). log ++ l) (sym of_item) ∙ ap (λ (R : State). log ++ group setup R item) here in (
      record {
        legal =
            subst (IsWholeLog setup opening) (sym same)
            (whole_more setup opening log item ends_it is.legal (subst (λ (R : State). MayEnd setup R (endings log) item) here may));
        holds =
            grown.after ∙ sym after_item ∙ ap (λ (R : State). after_ending setup R item) here
            ∙ sym (ends_more setup opening (ends setup opening log) log item ends_it) ∙ ap (ends setup opening) (sym same);
        entries =
            ap (λ (R : State). R.entries) grown.after
            ∙ entries_more setup opening S at event grown.adds.added log item none is.entries grown.adds.entries
            ∙ ap (entries_in opening) (sym grown.log_is);
      },
      ap endings same ∙ endings_more setup (ends setup opening log) log item ends_it,
    )

-- a fault
faulty_log : (setup : Setup) (opening S T : State) (log log' : List LogItem) (count : ℕ) (of : Option (Event × Moment)) → All (IsAbove count) (endings log) → IsLogTrue setup opening S log → T ≡ S → log' ≡ log ++ Fault count of ∷ [] → IsLogTrue setup opening T log' × (endings log' ≡ endings log ++ Fault count of ∷ [])
faulty_log setup opening S T log log' count of above holds same is = (
  record {
    legal = subst (IsWholeLog setup opening) (sym is) (whole_more setup opening log (Fault count of) refl holds.legal above);
    holds = same ∙ holds.holds ∙ sym (ends_more setup opening (ends setup opening log) log (Fault count of) refl) ∙ ap (ends setup opening) (sym is);
    entries =
        ap (λ (R : State). R.entries) same
        ∙ entries_same opening S.entries log (Fault count of) refl holds.entries
        ∙ ap (entries_in opening) (sym is);
  },
  ap endings is ∙ endings_more setup (ends setup opening log) log (Fault count of) refl,
)

-- ---- a journal

log_true : (opening : State) (first : Option (List (List ℕ))) (journal : JournalView) → IsTrue journal.setup opening first journal → IsLogTrue journal.setup opening journal.state journal.log
log_true opening first journal is = record { legal = is.legal; holds = is.holds; entries = is.entries }

-- what is reported of the records in a state of this pending event
abbrev AreKeptIn : State → Option (List (List ℕ)) → JournalView → Setup → Option PendingView → Type 0
AreKeptIn opening first journal setup pending =
    IfSome first (λ (rs : List (List ℕ)). IsSomeAnd journal.records (AreKept setup opening rs journal.log journal.landed pending))

-- where it is told whether the record landed, it is just that
never : (landed : Option Bool) (holds other : Bool) → IfSome landed (λ (l : Bool). l ≡ holds) → (other ≡ holds → ⊥) → landed ≡ Some other → ⊥
never None holds other is apart reported = absurd (let none : None ≡ Some other = reported in cc)
never (Some here) holds other is apart reported = apart (sym (same_Some here other reported) ∙ is)

-- an event is answered
answered : (opening : State) (first : Option (List (List ℕ))) (old new : JournalView) (event : Event) (at : Moment) (reply : List ℕ) → old.pending ≡ None → Answers old new event at reply → IsTrue old.setup opening first old → IsTrue old.setup opening first new
answered opening first old new event at reply none answers is = record {
  own = answers.setup;
  legal = both.0.legal;
  holds = both.0.holds;
  entries = both.0.entries;
  kept =
      subst (AreKeptIn opening first new old.setup) (sym answers.pending)
      (where_opened first (λ fs. IsSomeAnd old.records (AreKept old.setup opening fs old.log old.landed None)) (λ fs. IsSomeAnd new.records (AreKept old.setup opening fs new.log new.landed None))
      (λ fs reported. reported_grows old.records new.records (answers.records.0 ∷ []) (AreKept old.setup opening fs old.log old.landed None) (AreKept old.setup opening fs new.log new.landed None) answers.records.2
      (λ rs kept. kept_more old.setup opening fs old.log new.log item old.landed new.landed answers.records.0 rs both.1 (answers.records.1, refl) kept) reported)
      (subst (AreKeptIn opening first old old.setup) none is.kept));
  counts = subst (All (IsUpTo new.faults)) (sym both.1) (counts_more old.faults new.faults (endings old.log) item answers.later is.counts tt);
  awaits = subst (Awaits new.log new.unsettled) (sym answers.pending) answers.unsettled;
}
  where
    item : LogItem
    item = Answer event at reply

    grown : IsGrown old.setup old.state new.state old.log new.log event at item
    grown = record { adds = answers.adds; after = answers.state; log_is = answers.log }

    both : IsLogTrue old.setup opening new.state new.log × (endings new.log ≡ endings old.log ++ item ∷ [])
    both =
        grown_log old.setup opening old.state new.state old.log new.log event at item refl refl refl refl
        (answers.may_happen, answers.reply_is) (log_true opening first old is) grown

-- its append failed
failed : (opening : State) (first : Option (List (List ℕ))) (old new : JournalView) (event : Event) (at : Moment) (count : ℕ) → old.pending ≡ None → FailsToKeep old new event at count → IsTrue old.setup opening first old → IsTrue old.setup opening first new
failed opening first old new event at count none fails is = record {
  own = fails.fails.setup;
  legal = both.0.legal;
  holds = both.0.holds;
  entries = both.0.entries;
  kept =
      subst (AreKeptIn opening first new old.setup) (sym fails.pending)
      (where_opened first (λ fs. IsSomeAnd old.records (AreKept old.setup opening fs old.log old.landed None)) (λ fs. IsSomeAnd new.records (AreKept old.setup opening fs new.log new.landed (Some pending)))
      (λ fs reported. reported_may old.records new.records new.landed fails.records.0 (AreKept old.setup opening fs old.log old.landed None) (AreKept old.setup opening fs new.log new.landed (Some pending)) fails.records.2
      (λ rs lands kept. kept_landed old.setup opening fs old.log new.log count pending old.landed new.landed fails.records.0 rs both.1 fails.records.1 lands kept)
      (λ rs lost kept. kept_lost old.setup opening fs old.log new.log count pending old.landed new.landed rs both.1 lost kept) reported)
      (subst (AreKeptIn opening first old old.setup) none is.kept));
  counts = subst (All (IsUpTo new.faults)) (sym both.1) (counts_more old.faults new.faults (endings old.log) item fails.fails.later is.counts (omega (arith, fails.fails.count_is)));
  awaits =
      subst (Awaits new.log new.unsettled) (sym fails.pending)
      (fails.fails.unsettled, subst (λ (l : List LogItem). IsPending l pending.number event at) (sym both.1) (pending_new (endings old.log) count event at));
}
  where
    item : LogItem
    item = Fault count (Some (event, at))

    pending : PendingView
    pending = pending_after old event at

    above : All (IsAbove count) (endings old.log)
    above = counts_rise old.faults count (endings old.log) (omega (arith, fails.fails.later, fails.fails.count_is)) fails.fails.rose is.counts

    both : IsLogTrue old.setup opening new.state new.log × (endings new.log ≡ endings old.log ++ item ∷ [])
    both = faulty_log old.setup opening old.state new.state old.log new.log count (Some (event, at)) above (log_true opening first old is) fails.fails.state fails.fails.log

-- nothing happened, and nothing was pending
unchanged : (opening : State) (first : Option (List (List ℕ))) (old new : JournalView) → new.setup ≡ old.setup → new.state ≡ old.state → new.log ≡ old.log → Stays old.records new.records → old.faults ≤ new.faults → old.pending ≡ None → new.pending ≡ None → new.unsettled ≡ false → IsTrue old.setup opening first old → IsTrue old.setup opening first new
unchanged opening first old new own same log_is stays later none none' settled is = record {
  own = own;
  legal = subst (IsWholeLog old.setup opening) (sym log_is) is.legal;
  holds = same ∙ is.holds ∙ ap (ends old.setup opening) (sym log_is);
  entries = ap (λ (S : State). S.entries) same ∙ is.entries ∙ ap (entries_in opening) (sym log_is);
  kept =
      subst (AreKeptIn opening first new old.setup) (sym none')
      (where_opened first (λ fs. IsSomeAnd old.records (AreKept old.setup opening fs old.log old.landed None)) (λ fs. IsSomeAnd new.records (AreKept old.setup opening fs new.log new.landed None))
      (λ fs reported. reported_stays old.records new.records (AreKept old.setup opening fs old.log old.landed None) (AreKept old.setup opening fs new.log new.landed None) stays
      (λ rs kept. kept_idle old.setup opening fs old.log new.log old.landed new.landed rs log_is kept) reported)
      (subst (AreKeptIn opening first old old.setup) none is.kept));
  counts = subst (λ (l : List LogItem). All (IsUpTo new.faults) (endings l)) (sym log_is) (counts_later old.faults new.faults (endings old.log) later is.counts);
  awaits = subst (Awaits new.log new.unsettled) (sym none') settled;
}

-- what was pending is adopted
adopted_true : (opening : State) (first : Option (List (List ℕ))) (old new : JournalView) (pending : PendingView) → old.pending ≡ Some pending → Settles old new true → IfSome old.landed (λ landed. landed ≡ true) → Adopts old new pending → IsTrue old.setup opening first old → IsTrue old.setup opening first new
adopted_true opening first old new pending some settles landed adopts is = record {
  own = settles.setup;
  legal = both.0.legal;
  holds = both.0.holds;
  entries = both.0.entries;
  kept =
      subst (AreKeptIn opening first new old.setup) (sym settles.pending)
      (where_opened first (λ fs. IsSomeAnd old.records (AreKept old.setup opening fs old.log old.landed (Some pending))) (λ fs. IsSomeAnd new.records (AreKept old.setup opening fs new.log new.landed None))
      (λ fs reported. reported_stays old.records new.records (AreKept old.setup opening fs old.log old.landed (Some pending)) (AreKept old.setup opening fs new.log new.landed None) settles.records
      (λ rs kept. kept_adopted old.setup opening fs old.log new.log pending old.landed new.landed rs both.1 (never old.landed true false landed false≢true) kept) reported)
      (subst (AreKeptIn opening first old old.setup) some is.kept));
  counts = subst (All (IsUpTo new.faults)) (sym both.1) (counts_more old.faults new.faults (endings old.log) item settles.later is.counts tt);
  awaits = subst (Awaits new.log new.unsettled) (sym settles.pending) settles.unsettled;
}
  where
    item : LogItem
    item = Adopted pending.number pending.event pending.at

    waits : Awaits old.log old.unsettled (Some pending)
    waits = subst (Awaits old.log old.unsettled) some is.awaits

    grown : IsGrown old.setup old.state new.state old.log new.log pending.event pending.at item
    grown = record { adds = adopts.adds; after = adopts.state; log_is = adopts.log }

    both : IsLogTrue old.setup opening new.state new.log × (endings new.log ≡ endings old.log ++ item ∷ [])
    both =
        grown_log old.setup opening old.state new.state old.log new.log pending.event pending.at item refl refl refl refl
        (adopts.may_happen, waits.1) (log_true opening first old is) grown

-- what was pending is given up
dropped : (opening : State) (first : Option (List (List ℕ))) (old new : JournalView) (pending : PendingView) → old.pending ≡ Some pending → Settles old new false → IfSome old.landed (λ landed. landed ≡ false) → AddsNothing old new → IsTrue old.setup opening first old → IsTrue old.setup opening first new
dropped opening first old new pending some settles landed adds is = record {
  own = settles.setup;
  legal = subst (IsWholeLog old.setup opening) (sym adds.log) is.legal;
  holds = adds.state ∙ is.holds ∙ ap (ends old.setup opening) (sym adds.log);
  entries = ap (λ (S : State). S.entries) adds.state ∙ is.entries ∙ ap (entries_in opening) (sym adds.log);
  kept =
      subst (AreKeptIn opening first new old.setup) (sym settles.pending)
      (where_opened first (λ fs. IsSomeAnd old.records (AreKept old.setup opening fs old.log old.landed (Some pending))) (λ fs. IsSomeAnd new.records (AreKept old.setup opening fs new.log new.landed None))
      (λ fs reported. reported_stays old.records new.records (AreKept old.setup opening fs old.log old.landed (Some pending)) (AreKept old.setup opening fs new.log new.landed None) settles.records
      (λ rs kept. kept_idle old.setup opening fs old.log new.log new.landed new.landed rs adds.log
      (kept_dropped old.setup opening fs old.log pending old.landed new.landed rs (never old.landed false true landed (λ same. false≢true (sym same))) kept)) reported)
      (subst (AreKeptIn opening first old old.setup) some is.kept));
  counts = subst (λ (l : List LogItem). All (IsUpTo new.faults) (endings l)) (sym adds.log) (counts_later old.faults new.faults (endings old.log) settles.later is.counts);
  awaits = subst (Awaits new.log new.unsettled) (sym settles.pending) settles.unsettled;
}

settled_as : (opening : State) (first : Option (List (List ℕ))) (old new : JournalView) (pending : Option PendingView) (adopted : Bool) → old.pending ≡ pending → Settles old new adopted → SettlesAny old new pending adopted → IsTrue old.setup opening first old → IsTrue old.setup opening first new
settled_as opening first old new None adopted none settles any is =
    unchanged opening first old new settles.setup any.1.state any.1.log settles.records settles.later none settles.pending settles.unsettled is
settled_as opening first old new (Some pending) true some settles any is = adopted_true opening first old new pending some settles any.0 any.1 is
settled_as opening first old new (Some pending) false some settles any is = dropped opening first old new pending some settles any.0 any.1 is

-- it couldn't be settled
still : (opening : State) (first : Option (List (List ℕ))) (old new : JournalView) (count : ℕ) → StaysPending old new count → IsTrue old.setup opening first old → IsTrue old.setup opening first new
still opening first old new count stays is = record {
  own = stays.fails.setup;
  legal = both.0.legal;
  holds = both.0.holds;
  entries = both.0.entries;
  kept =
      subst (AreKeptIn opening first new old.setup) (sym stays.still.2)
      (where_opened first (λ fs. IsSomeAnd old.records (AreKept old.setup opening fs old.log old.landed (Some pending))) (λ fs. IsSomeAnd new.records (AreKept old.setup opening fs new.log new.landed (Some pending)))
      (λ fs reported. reported_stays old.records new.records (AreKept old.setup opening fs old.log old.landed (Some pending)) (AreKept old.setup opening fs new.log new.landed (Some pending)) stays.records
      (λ rs kept. kept_still old.setup opening fs old.log new.log count old.landed new.landed (Some pending) rs both.1 stays.landed kept) reported)
      (subst (AreKeptIn opening first old old.setup) stays.still.1 is.kept));
  counts = subst (All (IsUpTo new.faults)) (sym both.1) (counts_more old.faults new.faults (endings old.log) item stays.fails.later is.counts (omega (arith, stays.fails.count_is)));
  awaits =
      subst (Awaits new.log new.unsettled) (sym stays.still.2)
      (stays.fails.unsettled, subst (λ (l : List LogItem). IsPending l pending.number pending.event pending.at) (sym both.1) (pending_still (endings old.log) count pending.number pending.event pending.at waits.1));
}
  where
    item : LogItem
    item = Fault count None

    pending : PendingView
    pending = stays.still.0

    waits : Awaits old.log old.unsettled (Some pending)
    waits = subst (Awaits old.log old.unsettled) stays.still.1 is.awaits

    above : All (IsAbove count) (endings old.log)
    above = counts_rise old.faults count (endings old.log) (omega (arith, stays.fails.later, stays.fails.count_is)) stays.fails.rose is.counts

    both : IsLogTrue old.setup opening new.state new.log × (endings new.log ≡ endings old.log ++ item ∷ [])
    both = faulty_log old.setup opening old.state new.state old.log new.log count None above (log_true opening first old is) stays.fails.state stays.fails.log

-- ---- of the bank's setup

-- what holds of a journal of its own setup holds of one of the bank's
own : (setup : Setup) (opening : State) (first : Option (List (List ℕ))) (old new : JournalView) → (IsTrue old.setup opening first old → IsTrue old.setup opening first new) → IsTrue setup opening first old → IsTrue setup opening first new
own setup opening first old new step is = subst (λ (s : Setup). IsTrue s opening first old → IsTrue s opening first new) is.own step is

pub true_answered : (setup : Setup) (opening : State) (first : Option (List (List ℕ))) (old new : JournalView) (event : Event) (at : Moment) (reply : List ℕ) → old.pending ≡ None → Answers old new event at reply → IsTrue setup opening first old → IsTrue setup opening first new
true_answered setup opening first old new event at reply none answers = own setup opening first old new (answered opening first old new event at reply none answers)

pub true_failed : (setup : Setup) (opening : State) (first : Option (List (List ℕ))) (old new : JournalView) (event : Event) (at : Moment) (count : ℕ) → old.pending ≡ None → FailsToKeep old new event at count → IsTrue setup opening first old → IsTrue setup opening first new
true_failed setup opening first old new event at count none fails = own setup opening first old new (failed opening first old new event at count none fails)

pub true_before : (setup : Setup) (opening : State) (first : Option (List (List ℕ))) (old new : JournalView) → old.pending ≡ None → IsAsBefore old new → IsTrue setup opening first old → IsTrue setup opening first new
true_before setup opening first old new none before =
    own setup opening first old new (λ is. unchanged opening first old new before.setup before.state before.log before.records before.later none (before.pending ∙ none) (before.unsettled ∙ subst (Awaits old.log old.unsettled) none is.awaits) is)

pub true_settled : (setup : Setup) (opening : State) (first : Option (List (List ℕ))) (old new : JournalView) (adopted : Bool) → Settles old new adopted → IsTrue setup opening first old → IsTrue setup opening first new
true_settled setup opening first old new adopted settles = own setup opening first old new (settled_as opening first old new old.pending adopted refl settles settles.settles)

pub true_still : (setup : Setup) (opening : State) (first : Option (List (List ℕ))) (old new : JournalView) (count : ℕ) → StaysPending old new count → IsTrue setup opening first old → IsTrue setup opening first new
true_still setup opening first old new count stays = own setup opening first old new (still opening first old new count stays)

pub true_uncommitted : (setup : Setup) (opening : State) (first : Option (List (List ℕ))) (old new : JournalView) (event : Event) (at : Moment) (fault : SubmitFault) → old.pending ≡ None → FailsToCommit old new event at fault → IsTrue setup opening first old → IsTrue setup opening first new
true_uncommitted setup opening first old new event at (Keeper count) none fails = true_failed setup opening first old new event at count none fails
true_uncommitted setup opening first old new event at OutOfMemory none fails = true_before setup opening first old new none fails

pub true_unsettled : (setup : Setup) (opening : State) (first : Option (List (List ℕ))) (old new : JournalView) (fault : SubmitFault) → FailsToSettle old new fault → IsTrue setup opening first old → IsTrue setup opening first new
true_unsettled setup opening first old new (Keeper count) fails = true_still setup opening first old new count fails
true_unsettled setup opening first old new OutOfMemory fails = absurd fails

-- a bank that has opened
pub true_new : (setup : Setup) (opening : State) (first : Option (List (List ℕ))) (journal : JournalView) → journal.setup ≡ setup → journal.state ≡ opening → journal.log ≡ [] → journal.pending ≡ None → journal.unsettled ≡ false → RecordsGive setup first opening → Stays first journal.records → IsTrue setup opening first journal
true_new setup opening first journal own at none none' settled holds stays = record {
  own = own;
  legal = subst (IsWholeLog setup opening) (sym none) (record { may_end = tt; grouped = refl });
  holds = at ∙ ap (ends setup opening) (sym none);
  entries = ap (λ (S : State). S.entries) at ∙ sym (append-nil opening.entries) ∙ ap (entries_in opening) (sym none);
  kept =
      subst (AreKeptIn opening first journal setup) (sym none')
      (subst (λ (l : List LogItem). IfSome first (λ rs. IsSomeAnd journal.records (AreKept setup opening rs l journal.landed None))) (sym none)
      (kept first journal.records holds.are_known stays));
  counts = subst (λ (l : List LogItem). All (IsUpTo journal.faults) (endings l)) (sym none) (All-nil (IsUpTo journal.faults));
  awaits = subst (Awaits journal.log journal.unsettled) (sym none') settled;
}
  where
    all : (rs : List (List ℕ)) → rs ≡ holds.records → AreKept setup opening rs [] journal.landed None rs
    all rs is = record {
      opened = subst (λ (l : List (List ℕ)). Reopens setup opening_state l opening) (sym is) holds.reopens;
      coded = [];
      besides = [];
      parts = sym (append-nil (rs ++ []) ∙ append-nil rs);
      code = refl;
      may_remain = refl;
    }

    kept : (reported now : Option (List (List ℕ))) → IfSome reported (λ rs. rs ≡ holds.records) → Stays reported now → IfSome reported (λ rs. IsSomeAnd now (AreKept setup opening rs [] journal.landed None))
    kept None now are stays = tt
    kept (Some rs) None are stays = absurd stays
    kept (Some rs) (Some here) are stays = subst (AreKept setup opening rs [] journal.landed None) (sym stays) (all rs are)
