-- What holds of a bank since it opened from records.
use Rattle.std.proofs.Common.{◌≡◌, ℕ, ◌≤◌, List, [], ◌∷◌, ◌++◌, length, fold, refl, sym, subst}
use Rattle.std.proofs.lemmas.List.Elements.{All-nil}
use Rattle.ofx_types.specs.Calendar.{IsMoment}
use Rattle.ofx_types.specs.declared.number.Moment.{Moment}
use Rattle.bank_model.specs.declared.event.Event.{Event}
use Rattle.bank_model.specs.declared.event.State.{State}
use Rattle.bank_model.specs.declared.log.LogItem.{LogItem}
use Rattle.bank_model.specs.declared.log.LogItem.TheVariants.{Effect, Answer, Adopted, Fault}
use Rattle.bank_model.specs.declared.setup.Setup.{Setup}
use Rattle.bank_model.specs.LegalLog.{AreLegalEndings, after_ending, ends}
use Rattle.bank_model.specs.Log.{endings}
use Rattle.bank_model.specs.Rules.{IsLegal, opening_state, state_after}
use Rattle.bank_model.specs.SetupForm.{IsWithinLimits}
use Rattle.bank_invariants.specs.Books.{AreBooksRight}
use Rattle.bank_invariants.specs.Next.{ExtendsTo}
use Rattle.bank_invariants.specs.SoundStates.{IsSoundState}
use Rattle.event_codec.specs.Records.{Reopens}
use Rattle.token_board.specs.Views.{BoardView, PassView}
use Rattle.bank_callers.specs.Belonging.{AllBelong, StepsBelong}
use Rattle.bank_callers.specs.Callers.{IsRightView}
use Rattle.bank_shared.specs.Holds.{HasOpened, IsPassOf, caller_of}

-- an event leads from a sound state to one
abbrev pub EventsExtend : Type 0
EventsExtend = (setup : Setup) (S : State) (at : Moment) (event : Event) → IsWithinLimits setup → IsSoundState setup S → IsMoment at.0 → IsLegal setup S at event
    → ExtendsTo setup S (state_after setup S at event)

abbrev pub BooksAreRight : Type 0
BooksAreRight = (setup : Setup) (S : State) → IsWithinLimits setup → IsSoundState setup S → AreBooksRight setup S

-- ---- after records

sound_reopened : (setup : Setup) (S T : State) (records : List (List ℕ)) → EventsExtend → IsWithinLimits setup → IsSoundState setup S → Reopens setup S records T → IsSoundState setup T
sound_reopened setup S T [] extend within sound same = subst (IsSoundState setup) (sym same) sound
sound_reopened setup S T (rec ∷ records) extend within sound (at, event, codes, legal, rest) =
    sound_reopened setup (state_after setup S at event) T records extend within (extend setup S at event within sound codes.moment legal).sound rest

belong_reopened : (setup : Setup) (S T : State) (records : List (List ℕ)) → StepsBelong → IsWithinLimits setup → AllBelong setup S.entries → Reopens setup S records T
    → AllBelong setup T.entries
belong_reopened setup S T [] steps within all same = subst (λ (U : State). AllBelong setup U.entries) (sym same) all
belong_reopened setup S T (rec ∷ records) steps within all (at, event, codes, legal, rest) =
    belong_reopened setup (state_after setup S at event) T records steps within (steps setup S at event within all legal) rest

pub opening_belongs : (setup : Setup) (opening : State) → StepsBelong → IsWithinLimits setup → HasOpened setup opening → AllBelong setup opening.entries
opening_belongs setup opening steps within (records, reopens) = belong_reopened setup opening_state opening records steps within tt reopens

-- ---- after a log

sound_endings : (setup : Setup) (S : State) (before items : List LogItem) → EventsExtend → IsWithinLimits setup → IsSoundState setup S → AreLegalEndings setup S before items
    → IsSoundState setup (fold (after_ending setup) S items)
sound_endings setup S before [] extend within sound legal = sound
sound_endings setup S before (Effect entry ∷ items) extend within sound legal = absurd legal.0
sound_endings setup S before (Answer event at reply ∷ items) extend within sound legal =
    sound_endings setup (state_after setup S at event) (before ++ Answer event at reply ∷ []) items extend within (extend setup S at event within sound legal.0.0.0 legal.0.0.1).sound legal.1
sound_endings setup S before (Adopted fault event at ∷ items) extend within sound legal =
    sound_endings setup (state_after setup S at event) (before ++ Adopted fault event at ∷ []) items extend within (extend setup S at event within sound legal.0.0.0 legal.0.0.1).sound legal.1
sound_endings setup S before (Fault count pending ∷ items) extend within sound legal =
    sound_endings setup S (before ++ Fault count pending ∷ []) items extend within sound legal.1

-- what a pass knows is right
pub known_right : (setup : Setup) (opening : State) (board : BoardView) (pass : PassView) → EventsExtend → BooksAreRight → IsSoundState setup opening_state → IsWithinLimits setup
    → HasOpened setup opening → IsPassOf setup opening board pass → IsRightView setup (caller_of opening pass)
known_right setup opening board pass extend books first within (records, reopens) is =
    let sound : IsSoundState setup opening = sound_reopened setup opening_state opening records extend within first reopens in
    record {
      records = records;
      reopened = reopens;
      legal = is.legal;
      books = books setup (ends setup opening pass.seen) within (sound_endings setup opening [] (endings pass.seen) extend within sound is.legal.may_end);
      rises = is.mine.rises;
      own = is.mine.within;
    }

-- a pass that has seen nothing
pub first_pass : (setup : Setup) (opening : State) (board : BoardView) (pass : PassView) → pass ≡ (record { table = board.table; seen = []; mine = []; polled = [] })
    → IsPassOf setup opening board pass
first_pass setup opening board pass fresh =
    subst (IsPassOf setup opening board) (sym fresh) (record {
      own = refl;
      legal = record { may_end = tt; grouped = refl };
      mine = record { rises = tt; within = All-nil (λ (number : ℕ). (1 ≤ number) × (number ≤ 0)) };
    })

-- what a pass and its parent know but for the parent's endings
pub child_pass : (setup : Setup) (opening : State) (board : BoardView) (parent child : PassView) → child ≡ (record { table = parent.table; seen = parent.seen; mine = []; polled = parent.polled })
    → IsPassOf setup opening board parent → IsPassOf setup opening board child
child_pass setup opening board parent child is of =
    subst (IsPassOf setup opening board) (sym is) (record {
      own = of.own;
      legal = of.legal;
      mine = record { rises = tt; within = All-nil (λ (number : ℕ). (1 ≤ number) × (number ≤ length (endings parent.seen))) };
    })
