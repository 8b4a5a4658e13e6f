-- The records of a whole log, read again.
use Rattle.std.proofs.Common.{◌≡◌, ℕ, List, [], ◌∷◌, ◌++◌, fold, refl, sym, subst}
use Rattle.bank_model.specs.declared.event.Event.{Event}
use Rattle.bank_model.specs.declared.event.State.{State}
use Rattle.bank_model.specs.declared.log.LogItem.{LogItem}
use Rattle.bank_model.specs.declared.log.LogItem.TheVariants.{Effect, Answer, Adopted, Fault}
use Rattle.bank_model.specs.declared.setup.Setup.{Setup}
use Rattle.bank_model.specs.Log.{endings}
use Rattle.bank_model.specs.LegalLog.{AreLegalEndings, IsWholeLog, after_ending, ends}
use Rattle.bank_model.specs.Rules.{opening_state, answer_to, state_after}
use Rattle.event_codec.specs.Records.{Codes, Reopens}
use Rattle.ofx_types.specs.declared.number.Moment.{Moment}
use Rattle.bank_engine.specs.Kept.{CodeEndings}
use Rattle.bank_engine.specs.Laws.{AreAnswered, LeadsOn}

-- records that lead from one state to the next, and others on from there
reopens_on : (setup : Setup) (S T U : State) (records more : List (List ℕ)) → Reopens setup S records T → Reopens setup T more U → Reopens setup S (records ++ more) U
reopens_on setup S T U [] more first then = subst (λ (s : State). Reopens setup s more U) first then
reopens_on setup S T U (rec ∷ records) more first then =
    (first.0, first.1, first.2, first.3, reopens_on setup (state_after setup S first.0 first.1) T U records more first.4 then)

-- the endings of a log lead on
endings_lead : (setup : Setup) (S : State) (before items : List LogItem) (records : List (List ℕ)) → AreLegalEndings setup S before items → CodeEndings items records → Reopens setup S records (fold (after_ending setup) S items)
endings_lead setup S before [] records legal code = subst (λ (rs : List (List ℕ)). Reopens setup S rs S) (sym code) refl
endings_lead setup S before (Effect entry ∷ items) records legal code = absurd legal.0
endings_lead setup S before (Fault count pending ∷ items) records legal code = endings_lead setup S (before ++ Fault count pending ∷ []) items records legal.1 code
endings_lead setup S before (Answer event at reply ∷ items) [] legal code = absurd code
endings_lead setup S before (Answer event at reply ∷ items) (rec ∷ records) legal code =
    (at, event, code.0, legal.0.0.1, endings_lead setup (state_after setup S at event) (before ++ Answer event at reply ∷ []) items records legal.1 code.1)
endings_lead setup S before (Adopted fault event at ∷ items) [] legal code = absurd code
endings_lead setup S before (Adopted fault event at ∷ items) (rec ∷ records) legal code =
    (at, event, code.0, legal.0.0.1, endings_lead setup (state_after setup S at event) (before ++ Adopted fault event at ∷ []) items records legal.1 code.1)

-- Each answer among the endings is the bank's at its own record.
are_answered : (setup : Setup) (earlier : List (List ℕ)) (S : State) (before items : List LogItem) (records : List (List ℕ)) → Reopens setup opening_state earlier S → AreLegalEndings setup S before items → CodeEndings items records → AreAnswered setup earlier items records
are_answered setup earlier S before [] records reopens legal code = code
are_answered setup earlier S before (Effect entry ∷ items) records reopens legal code = absurd legal.0
are_answered setup earlier S before (Fault count pending ∷ items) records reopens legal code =
    are_answered setup earlier S (before ++ Fault count pending ∷ []) items records reopens legal.1 code
are_answered setup earlier S before (Answer event at reply ∷ items) [] reopens legal code = absurd code
are_answered setup earlier S before (Answer event at reply ∷ items) (rec ∷ records) reopens legal code = (
  record { codes = code.0; state = S; reopens = reopens; reply_is = legal.0.1 },
  are_answered setup (earlier ++ rec ∷ []) (state_after setup S at event) (before ++ Answer event at reply ∷ []) items records
      (reopens_on setup opening_state S (state_after setup S at event) earlier (rec ∷ []) reopens (at, event, code.0, legal.0.0.1, refl)) legal.1 code.1,
)
are_answered setup earlier S before (Adopted fault event at ∷ items) [] reopens legal code = absurd code
are_answered setup earlier S before (Adopted fault event at ∷ items) (rec ∷ records) reopens legal code = (
  code.0,
  are_answered setup (earlier ++ rec ∷ []) (state_after setup S at event) (before ++ Adopted fault event at ∷ []) items records
      (reopens_on setup opening_state S (state_after setup S at event) earlier (rec ∷ []) reopens (at, event, code.0, legal.0.0.1, refl)) legal.1 code.1,
)

pub logs_lead : (setup : Setup) (opening : State) (first coded : List (List ℕ)) (log : List LogItem) → Reopens setup opening_state first opening → IsWholeLog setup opening log → CodeEndings (endings log) coded → LeadsOn setup opening first coded log
logs_lead setup opening first coded log reopens whole code = record {
  reopens = reopens_on setup opening_state opening (ends setup opening log) first coded reopens (endings_lead setup opening [] (endings log) coded whole.may_end code);
  answers = are_answered setup first opening [] (endings log) coded reopens whole.may_end code;
}
