-- What a hold of the journal does to what its caller knows.
use Rattle.std.proofs.Common.{◌≡◌, ℕ, inl, inr, List, [], ◌∷◌, ◌++◌, Bool, true, false, Option, None, Some, Result, Ok, Err, IfOk, IfErr, refl, sym, ap, ◌∙◌, subst, append_assoc, append-nil}
use Rattle.std.specs.Option.{IfSome}
use Rattle.ofx_types.specs.declared.number.UserId.{UserId}
use Rattle.ofx_types.specs.declared.number.Moment.{Moment}
use Rattle.ofx_types.specs.declared.request.RequestFile.{RequestFile}
use Rattle.bank_model.specs.declared.event.Event.{Event}
use Rattle.bank_model.specs.declared.event.Event.TheVariants.{File}
use Rattle.bank_model.specs.declared.event.State.{State}
use Rattle.bank_model.specs.declared.log.LogItem.{LogItem}
use Rattle.bank_model.specs.declared.log.LogItem.TheVariants.{Answer, Adopted, Fault}
use Rattle.bank_model.specs.declared.setup.Setup.{Setup}
use Rattle.bank_model.specs.declared.submit.SubmitFault.{SubmitFault}
use Rattle.bank_model.specs.declared.submit.SubmitFault.TheVariants.{Keeper, OutOfMemory}
use Rattle.bank_model.specs.LegalLog.{effects_of, group, ends}
use Rattle.bank_model.specs.Events.{without_signon}
use Rattle.bank_model.specs.Rules.{IsLegal, due}
use Rattle.bank_engine.specs.Calls.{Answers, SettlesAny, FailsToCommit}
use Rattle.bank_engine.specs.Views.{PendingView, JournalView}
use Rattle.token_board.specs.Views.{BoardView, PassView}
use Rattle.token_board.specs.Publishing.{Meets}
use Rattle.bank_callers.specs.Boards.{TokensHold}
use Rattle.bank_callers.specs.Callers.{CallerView, GainsNothing, IsOfFile, IsCommitted, IsUncommitted}
use Rattle.bank_shared.specs.Advancing.{IsAdvanced, IsUnadvanced, state_at}
use Rattle.bank_shared.specs.Calls.{IsSettled, LeavesPending}
use Rattle.bank_shared.specs.Holds.{BeginsAt, MeetsOrStays, caller_of}
use Rattle.bank_shared.specs.Outcomes.{Commits, Faults, IsRefused, HasFound, IsNoLongerLegal, SeesAny}
use Rattle.bank_shared.specs.declared.advance.Advance.TheVariants.{Nothing}
use Rattle.bank_shared.proofs.Meeting.{ClaimsNone, none_of_effects, none_of_both, none_of_adopted, one_of_answer, one_of_fault, gains_ending, gains_nothing, gains_stays, sees_more, no_longer}

-- ---- what settling adds to the log, of which nothing is a caller's

pub record HasSettled (old between : JournalView) : Type 0 where
  pub added : List LogItem
  pub log : between.log ≡ old.log ++ added
  pub none : ClaimsNone added

nothing_added : (old between : JournalView) → between.log ≡ old.log → HasSettled old between
nothing_added old between same = record { added = []; log = same ∙ sym (append-nil old.log); none = λ count. refl }

settled_any : (old between : JournalView) (pending : Option PendingView) (adopted : Bool) → SettlesAny old between pending adopted → HasSettled old between
settled_any old between None adopted adds = nothing_added old between adds.1.log
settled_any old between (Some pending) true landed = record {
  added = group old.setup old.state (Adopted pending.number pending.event pending.at);
  log = landed.1.log;
  none = none_of_adopted old.setup old.state pending.number pending.event pending.at;
}
settled_any old between (Some pending) false lost = nothing_added old between lost.1.log

settled : (old between : JournalView) → IsSettled old between → HasSettled old between
settled old between (adopted, settles) = settled_any old between old.pending adopted settles.settles

-- the log after a settling and more items
after_settling : (old between new added more : List LogItem) → between ≡ old ++ added → new ≡ between ++ more → new ≡ old ++ (added ++ more)
after_settling old between new added more first second = second ∙ (ap (λ (l : List LogItem). l ++ more) first ∙ append_assoc old added more)

answer_log : (old between new : JournalView) (event : Event) (at : Moment) (reply : List ℕ) (s : HasSettled old between) → Answers between new event at reply
    → new.log ≡ old.log ++ ((s.added ++ effects_of between.setup between.state at event) ++ Answer event at reply ∷ [])
answer_log old between new event at reply s answers =
    after_settling old.log between.log new.log s.added (group between.setup between.state (Answer event at reply)) s.log answers.log
    ∙ ap (λ (l : List LogItem). old.log ++ l) (sym (append_assoc s.added (effects_of between.setup between.state at event) (Answer event at reply ∷ [])))

none_before_answer : (old between : JournalView) (event : Event) (at : Moment) (s : HasSettled old between) → ClaimsNone (s.added ++ effects_of between.setup between.state at event)
none_before_answer old between event at s =
    none_of_both s.added (effects_of between.setup between.state at event) s.none (none_of_effects between.setup between.state at event)

-- ---- events

pub commits : (setup : Setup) (opening : State) (board : BoardView) (old between new : JournalView) (before after : PassView) (event : Event) (at : Moment) (reply : List ℕ)
    → TokensHold → BeginsAt setup opening board → Meets board old.log new.log before after → IsSettled old between → Answers between new event at reply
    → Commits event at reply (caller_of opening before) (caller_of opening after)
commits setup opening board old between new before after event at reply law begins m settles answers =
    let s = settled old between settles in
    let others : List LogItem = s.added ++ effects_of between.setup between.state at event in
    record {
      others = m.heard.seen.0 ++ others;
      gains = gains_ending setup opening board old.log new.log others ((m.heard.seen.0 ++ others) ++ Answer event at reply ∷ []) (Answer event at reply) before after law begins m
          (answer_log old between new event at reply s answers) (append_assoc m.heard.seen.0 others (Answer event at reply ∷ []))
          (none_before_answer old between event at s) (one_of_answer event at reply);
    }

faults : (setup : Setup) (opening : State) (board : BoardView) (old new others : List LogItem) (before after : PassView) (event : Event) (at : Moment) (count : ℕ)
    (pending : Option (Event × Moment)) → TokensHold → BeginsAt setup opening board → Meets board old new before after → new ≡ old ++ (others ++ Fault count pending ∷ []) → ClaimsNone others
    → IfSome pending (λ (p : Event × Moment). (p.0 ≡ event) × (p.1 ≡ at)) → Faults event at count (caller_of opening before) (caller_of opening after)
faults setup opening board old new others before after event at count pending law begins m log none own = record {
  others = m.heard.seen.0 ++ others;
  pending = pending;
  own = own;
  gains = gains_ending setup opening board old new others ((m.heard.seen.0 ++ others) ++ Fault count pending ∷ []) (Fault count pending) before after law begins m log
      (append_assoc m.heard.seen.0 others (Fault count pending ∷ [])) none (one_of_fault count pending);
}

-- it couldn't be settled
pub unsettled : (setup : Setup) (opening : State) (board : BoardView) (old new : JournalView) (before after : PassView) (event : Event) (at : Moment) (fault : SubmitFault)
    → TokensHold → BeginsAt setup opening board → MeetsOrStays board old.log new.log before after → LeavesPending old new fault
    → IsRefused event at (caller_of opening before) (caller_of opening after) fault
unsettled setup opening board old new before after event at (Keeper count) law begins (inl m) stays =
    faults setup opening board old.log new.log [] before after event at count None law begins m stays.fails.log (λ count. refl) tt
unsettled setup opening board old new before after event at (Keeper count) law begins (inr same) stays =
    absurd (no_longer old.log (Fault count None) (sym same.1 ∙ stays.fails.log))
unsettled setup opening board old new before after event at OutOfMemory law begins (inl m) same =
    gains_nothing opening board old.log new.log [] before after m (same.log ∙ sym (append-nil old.log)) (λ count. refl)
unsettled setup opening board old new before after event at OutOfMemory law begins (inr stays) same = gains_stays opening before after stays.0

-- it failed after the settling
pub uncommitted : (setup : Setup) (opening : State) (board : BoardView) (old between new : JournalView) (before after : PassView) (event : Event) (at : Moment) (fault : SubmitFault)
    → TokensHold → BeginsAt setup opening board → Meets board old.log new.log before after → IsSettled old between → FailsToCommit between new event at fault
    → IsRefused event at (caller_of opening before) (caller_of opening after) fault
uncommitted setup opening board old between new before after event at (Keeper count) law begins m settles fails =
    let s = settled old between settles in
    faults setup opening board old.log new.log s.added before after event at count (Some (event, at)) law begins m
    (after_settling old.log between.log new.log s.added (Fault count (Some (event, at)) ∷ []) s.log fails.fails.log) s.none (refl, refl)
uncommitted setup opening board old between new before after event at OutOfMemory law begins m settles fails =
    let s = settled old between settles in gains_nothing opening board old.log new.log s.added before after m (fails.log ∙ s.log) s.none

-- memory was refused after the settling
pub settled_alone : (opening : State) (board : BoardView) (old new : JournalView) (before after : PassView) → Meets board old.log new.log before after → IsSettled old new
    → GainsNothing (caller_of opening before) (caller_of opening after)
settled_alone opening board old new before after m settles =
    let s = settled old new settles in gains_nothing opening board old.log new.log s.added before after m s.log s.none

-- ---- files

committed_file : (event : Event) (user : UserId) (file : RequestFile) (at : Moment) (reply : List ℕ) (before after : CallerView) → event ≡ File user file → Commits event at reply before after
    → IsCommitted user file at reply (Some before) (Some after)
committed_file event user file at reply before after is c = record { others = c.others; event = event; same = ap without_signon is; knows = c.gains }

refused_file : (event : Event) (user : UserId) (file : RequestFile) (at : Moment) (fault : SubmitFault) (before after : CallerView) → event ≡ File user file
    → IsRefused event at before after fault → IsUncommitted user file at (Some before) (Some after) fault
refused_file event user file at (Keeper count) before after is r = record { others = r.others; pending = r.pending; own = own r.pending r.own; knows = r.gains }
  where
    own : (pending : Option (Event × Moment)) → IfSome pending (λ (p : Event × Moment). (p.0 ≡ event) × (p.1 ≡ at)) → IsOfFile user file at pending
    own None of = tt
    own (Some p) of = (ap without_signon (of.0 ∙ is), of.1)
refused_file event user file at OutOfMemory before after is r = r

pub committed_if : {A : Type 0} (items : A → List ℕ) (result : Result A SubmitFault) (event : Event) (user : UserId) (file : RequestFile) (at : Moment) (before after : CallerView) → event ≡ File user file
    → IfOk result (λ (reply : A). Commits event at (items reply) before after) → IfOk result (λ (reply : A). IsCommitted user file at (items reply) (Some before) (Some after))
committed_if items (Ok reply) event user file at before after is c = committed_file event user file at (items reply) before after is c
committed_if items (Err fault) event user file at before after is c = tt

pub refused_if : {A : Type 0} (result : Result A SubmitFault) (event : Event) (user : UserId) (file : RequestFile) (at : Moment) (before after : CallerView) → event ≡ File user file
    → IfErr result (IsRefused event at before after) → IfErr result (IsUncommitted user file at (Some before) (Some after))
refused_if (Ok reply) event user file at before after is r = tt
refused_if (Err fault) event user file at before after is r = refused_file event user file at fault before after is r

-- ---- due work

-- the look is what was seen after the settling
look_state : (setup : Setup) (opening : State) (board : BoardView) (old between : JournalView) (last : List LogItem) (before after : PassView) (m : Meets board old.log last before after)
    (s : HasSettled old between) → between.state ≡ ends setup opening between.log → between.state ≡ state_at setup (caller_of opening before) (m.heard.seen.0 ++ s.added)
look_state setup opening board old between last before after m s is =
    is ∙ ap (ends setup opening) (s.log ∙ (ap (λ (l : List LogItem). l ++ s.added) m.heard.seen.1 ∙ append_assoc before.seen m.heard.seen.0 s.added))

due_at : (setup own : Setup) (state look : State) (at : Moment) (answer : Option Event) → own ≡ setup → state ≡ look → due own state at ≡ answer → due setup look at ≡ answer
due_at setup own state look at answer whose is due_is =
    subst (λ (S : State). due setup S at ≡ answer) is (subst (λ (s : Setup). due s state at ≡ answer) whose due_is)

pub legal_at : (setup own : Setup) (state look : State) (at : Moment) (event : Event) → own ≡ setup → state ≡ look → IsLegal own state at event → IsLegal setup look at event
legal_at setup own state look at event whose is legal =
    subst (λ (S : State). IsLegal setup S at event) is (subst (λ (s : Setup). IsLegal s state at event) whose legal)

-- as the book's look has found it
pub due_seen : (setup own : Setup) (state held : State) (at : Moment) (found answer : Option Event) → own ≡ setup → held ≡ state → found ≡ due own held at → found ≡ answer
    → due setup state at ≡ answer
due_seen setup own state held at found answer whose is seen answered =
    subst (λ (s : Setup). due s state at ≡ answer) whose (subst (λ (S : State). due own S at ≡ answer) is (sym seen ∙ answered))

pub nothing : (setup : Setup) (opening : State) (board : BoardView) (old new : JournalView) (before after : PassView) (at : Moment) → TokensHold → BeginsAt setup opening board
    → Meets board old.log new.log before after → IsSettled old new → new.setup ≡ setup → new.state ≡ ends setup opening new.log → due new.setup new.state at ≡ None
    → IsAdvanced setup at (caller_of opening before) (caller_of opening after) Nothing
nothing setup opening board old new before after at law begins m settles own in_state due_is =
    let s = settled old new settles in
    record {
      look = m.heard.seen.0 ++ s.added;
      due_is = due_at setup new.setup new.state (state_at setup (caller_of opening before) (m.heard.seen.0 ++ s.added)) at None own
          (look_state setup opening board old new new.log before after m s in_state) due_is;
      sees = sees_more setup opening board old.log new.log s.added before after law begins m s.log s.none;
    }

-- it couldn't be settled
pub idle : (setup : Setup) (opening : State) (board : BoardView) (old new : JournalView) (before after : PassView) (at : Moment) (fault : SubmitFault)
    → TokensHold → BeginsAt setup opening board → MeetsOrStays board old.log new.log before after → LeavesPending old new fault
    → IsUnadvanced setup at (caller_of opening before) (caller_of opening after) fault
idle setup opening board old new before after at (Keeper count) law begins (inl m) stays = record {
  look = m.heard.seen.0;
  between = [];
  pending = None;
  was_due = tt;
  gains = gains_ending setup opening board old.log new.log [] (m.heard.seen.0 ++ [] ++ Fault count None ∷ []) (Fault count None) before after law begins m stays.fails.log
      (append_assoc m.heard.seen.0 [] (Fault count None ∷ [])) (λ count. refl) (one_of_fault count None);
}
idle setup opening board old new before after at (Keeper count) law begins (inr same) stays = absurd (no_longer old.log (Fault count None) (sym same.1 ∙ stays.fails.log))
idle setup opening board old new before after at OutOfMemory law begins (inl m) same =
    gains_nothing opening board old.log new.log [] before after m (same.log ∙ sym (append-nil old.log)) (λ count. refl)
idle setup opening board old new before after at OutOfMemory law begins (inr stays) same = gains_stays opening before after stays.0

pub found : (setup : Setup) (opening : State) (board : BoardView) (old new : JournalView) (before after : PassView) (event : Event) (at : Moment) → TokensHold → BeginsAt setup opening board
    → Meets board old.log new.log before after → IsSettled old new → new.setup ≡ setup → new.state ≡ ends setup opening new.log → due new.setup new.state at ≡ Some event
    → IsLegal new.setup new.state at event → HasFound setup at event (caller_of opening before) (caller_of opening after)
found setup opening board old new before after event at law begins m settles own in_state due_is legal =
    let s = settled old new settles in
    let look : List LogItem = m.heard.seen.0 ++ s.added in
    let state : new.state ≡ state_at setup (caller_of opening before) look = look_state setup opening board old new new.log before after m s in_state in
    record {
      look = look;
      due_is = due_at setup new.setup new.state (state_at setup (caller_of opening before) look) at (Some event) own state due_is;
      legal = legal_at setup new.setup new.state (state_at setup (caller_of opening before) look) at event own state legal;
      sees = sees_more setup opening board old.log new.log s.added before after law begins m s.log s.none;
    }

pub no_longer_legal : (setup : Setup) (opening : State) (board : BoardView) (old new : JournalView) (before after : PassView) (event : Event) (at : Moment) → TokensHold → BeginsAt setup opening board
    → Meets board old.log new.log before after → IsSettled old new → new.setup ≡ setup → new.state ≡ ends setup opening new.log → (IsLegal new.setup new.state at event → ⊥)
    → IsNoLongerLegal setup at event (caller_of opening before) (caller_of opening after)
no_longer_legal setup opening board old new before after event at law begins m settles own in_state illegal =
    let s = settled old new settles in
    let between : List LogItem = m.heard.seen.0 ++ s.added in
    let state : new.state ≡ state_at setup (caller_of opening before) between = look_state setup opening board old new new.log before after m s in_state in
    record {
      between = between;
      illegal = λ legal. illegal (legal_at new.setup setup (state_at setup (caller_of opening before) between) new.state at event (sym own) (sym state) legal);
      sees = sees_more setup opening board old.log new.log s.added before after law begins m s.log s.none;
    }

pub sees_any : (setup : Setup) (opening : State) (board : BoardView) (old new : JournalView) (before after : PassView) → TokensHold → BeginsAt setup opening board
    → Meets board old.log new.log before after → IsSettled old new → SeesAny (caller_of opening before) (caller_of opening after)
sees_any setup opening board old new before after law begins m settles =
    let s = settled old new settles in (m.heard.seen.0 ++ s.added, sees_more setup opening board old.log new.log s.added before after law begins m s.log s.none)
