-- Records open one bank, or there is one cause why they don't.
use Rattle.std.proofs.Common.{◌≡◌, ℕ, ◌+◌, ◌↔◌, List, [], ◌∷◌, ◌++◌, length, Some, refl, sym, ap, ◌∙◌, subst}
use Rattle.ofx_types.specs.declared.number.Moment.{Moment}
use Rattle.bank_model.specs.Rules.{opening_state, IsLegal}
use Rattle.bank_model.specs.declared.setup.Setup.{Setup}
use Rattle.bank_model.specs.declared.event.State.{State}
use Rattle.bank_model.specs.declared.event.Event.{Event}
use Rattle.event_codec.specs.Reading.{IsRecordFault, fault_offset}
use Rattle.event_codec.specs.Records.{Codes, Reopens}
use Rattle.record_fields.specs.declared.fault.RecordFault.{RecordFault}
use Rattle.bank_replay.specs.Laws.{OneWithoutForm, OneNotLegal, FormlessOrIllegal, FormlessOpenNothing, IllegalOpenNothing}
use Rattle.bank_replay.specs.Opening.{HasNoForm}

-- ---- what is known of records

-- A record with a fault codes no event.
abbrev pub FaultsCodeNothing : Type 0
FaultsCodeNothing = (rec : List ℕ) (fault : RecordFault) (at : Moment) (event : Event) → IsRecordFault rec fault → Codes rec at event → ⊥

-- A record has one first fault.
abbrev pub OneRecordFault : Type 0
OneRecordFault = (rec : List ℕ) (fault other : RecordFault) → IsRecordFault rec fault → IsRecordFault rec other → fault ≡ other

-- Of the events that one record codes all are legal or none is.
abbrev pub AlikeLegal : Type 0
AlikeLegal = (setup : Setup) (state : State) (rec : List ℕ) (at at' : Moment) (event event' : Event) →
    Codes rec at event → Codes rec at' event' → IsLegal setup state at event → IsLegal setup state at' event'

-- Records bring a bank from one state to one other.
abbrev pub OneReopening : Type 0
OneReopening = (setup : Setup) (before : State) (records : List (List ℕ)) (after other : State) →
    Reopens setup before records after → Reopens setup before records other → after ≡ other

-- A bank that comes by records to a state goes on from there.
abbrev pub ReopeningGoesOn : Type 0
ReopeningGoesOn = (setup : Setup) (before : State) (first second : List (List ℕ)) (after : State) →
    Reopens setup before (first ++ second) after ↔ ((between : State) × Reopens setup before first between × Reopens setup between second after)

-- ---- the record after which no bank opens

-- a bank in this state goes on by no records of which this is the first
abbrev IsStuck : Setup → State → List ℕ → Type 0
IsStuck setup state rec = (more : List (List ℕ)) (after : State) → Reopens setup state (rec ∷ more) after → ⊥

stuck_by_form : FaultsCodeNothing → (setup : Setup) (state : State) (rec : List ℕ) (fault : RecordFault) → IsRecordFault rec fault → IsStuck setup state rec
stuck_by_form faults setup state rec fault is more after (at, event, codes, legal, rest) = faults rec fault at event is codes

stuck_by_law : AlikeLegal → (setup : Setup) (state : State) (rec : List ℕ) (at : Moment) (event : Event) → Codes rec at event → (IsLegal setup state at event → ⊥) → IsStuck setup state rec
stuck_by_law alike setup state rec at event codes illegal more after (at', event', codes', legal, rest) =
    illegal (alike setup state rec at' at event' event codes' codes legal)

opens_nothing : ReopeningGoesOn → OneReopening → (setup : Setup) (before : List (List ℕ)) (rec : List ℕ) (more : List (List ℕ)) (state : State) → Reopens setup opening_state before state → IsStuck setup state rec → (all : List (List ℕ)) → all ≡ before ++ rec ∷ more → (after : State) → Reopens setup opening_state all after → ⊥
opens_nothing goes_on one setup before rec more state reopens stuck all is after opens =
    let parts = (goes_on setup opening_state before (rec ∷ more) after).0 (subst (λ (records : List (List ℕ)). Reopens setup opening_state records after) is opens) in
    let same = one setup opening_state before parts.0 state parts.1 reopens in
    stuck more after (subst (λ (s : State). Reopens setup s (rec ∷ more) after) same parts.2)

-- ---- two records of one list

-- Of two records of a list both stand at one place, or one comes before the other.
data Positions (before : List (List ℕ)) (rec : List ℕ) (before' : List (List ℕ)) (rec' : List ℕ) : Type 0 where
  same : before ≡ before' → rec ≡ rec' → Positions before rec before' rec'
  first : (rest : List (List ℕ)) → before' ≡ before ++ rec ∷ rest → Positions before rec before' rec'
  second : (rest : List (List ℕ)) → before ≡ before' ++ rec' ∷ rest → Positions before rec before' rec'

one_after : (x y : List ℕ) (before : List (List ℕ)) (rec : List ℕ) (before' : List (List ℕ)) (rec' : List ℕ) → x ≡ y → Positions before rec before' rec' → Positions (x ∷ before) rec (y ∷ before') rec'
one_after x y before rec before' rec' e (same p q) = same (cc) q
one_after x y before rec before' rec' e (first rest p) = first rest cc
one_after x y before rec before' rec' e (second rest p) = second rest cc

offsets : (before : List (List ℕ)) (rec : List ℕ) (more before' : List (List ℕ)) (rec' : List ℕ) (more' : List (List ℕ)) → before ++ rec ∷ more ≡ before' ++ rec' ∷ more' → Positions before rec before' rec'
offsets [] rec more [] rec' more' e = same refl cc
offsets [] rec more (y ∷ before') rec' more' e = first before' cc
offsets (x ∷ before) rec more [] rec' more' e = second before cc
offsets (x ∷ before) rec more (y ∷ before') rec' more' e = one_after x y before rec before' rec' (cc) (offsets before rec more before' rec' more' (cc))

-- Two records after which no bank opens are one.
record IsOne (before : List (List ℕ)) (rec : List ℕ) (before' : List (List ℕ)) (rec' : List ℕ) : Type 0 where
  before_is : before ≡ before'
  rec_is : rec ≡ rec'

one_stuck : ReopeningGoesOn → OneReopening → (setup : Setup) (before : List (List ℕ)) (rec : List ℕ) (state : State) (before' : List (List ℕ)) (rec' : List ℕ) (state' : State) → Reopens setup opening_state before state → IsStuck setup state rec → Reopens setup opening_state before' state' → IsStuck setup state' rec' → Positions before rec before' rec' → IsOne before rec before' rec'
one_stuck goes_on one setup before rec state before' rec' state' reopens stuck reopens' stuck' (same p q) = record { before_is = p; rec_is = q }
one_stuck goes_on one setup before rec state before' rec' state' reopens stuck reopens' stuck' (first rest p) =
    absurd (opens_nothing goes_on one setup before rec rest state reopens stuck before' p state' reopens')
one_stuck goes_on one setup before rec state before' rec' state' reopens stuck reopens' stuck' (second rest p) =
    absurd (opens_nothing goes_on one setup before' rec' rest state' reopens' stuck' before p state reopens)

-- ---- the laws

pub formless_open_nothing : FaultsCodeNothing → ReopeningGoesOn → OneReopening → FormlessOpenNothing
formless_open_nothing faults goes_on one setup records state number offset none reopens =
    opens_nothing goes_on one setup none.before none.rec none.begin.0 none.state none.reopens (stuck_by_form faults setup none.state none.rec none.cause none.is_cause) records none.begin.1 state reopens

pub illegal_open_nothing : AlikeLegal → ReopeningGoesOn → OneReopening → IllegalOpenNothing
illegal_open_nothing alike goes_on one setup records state number none reopens =
    opens_nothing goes_on one setup none.before none.rec none.begin.0 none.state none.reopens (stuck_by_law alike setup none.state none.rec none.at none.event none.codes none.illegal) records none.begin.1 state reopens

both_formless : FaultsCodeNothing → ReopeningGoesOn → OneReopening → (setup : Setup) (records : List (List ℕ)) (number other offset offset' : ℕ) → (none : HasNoForm setup (Some records) number offset) → (none' : HasNoForm setup (Some records) other offset') → IsOne none.before none.rec none'.before none'.rec
both_formless faults goes_on one setup records number other offset offset' none none' =
    one_stuck goes_on one setup none.before none.rec none.state none'.before none'.rec none'.state
    none.reopens (stuck_by_form faults setup none.state none.rec none.cause none.is_cause)
    none'.reopens (stuck_by_form faults setup none'.state none'.rec none'.cause none'.is_cause)
    (offsets none.before none.rec none.begin.0 none'.before none'.rec none'.begin.0 (sym none.begin.1 ∙ none'.begin.1))

pub one_without_form : FaultsCodeNothing → OneRecordFault → ReopeningGoesOn → OneReopening → OneWithoutForm
one_without_form faults one_fault goes_on one setup records number other offset offset' none none' =
    let is = both_formless faults goes_on one setup records number other offset offset' none none' in
    let cause = one_fault none'.rec none.cause none'.cause (subst (λ (rec : List ℕ). IsRecordFault rec none.cause) is.rec_is none.is_cause) none'.is_cause in
    (none.number_is ∙ (ap (λ (before : List (List ℕ)). length before + 1) is.before_is ∙ sym none'.number_is), none.offset_is ∙ (ap fault_offset cause ∙ sym none'.offset_is))

pub one_not_legal : AlikeLegal → ReopeningGoesOn → OneReopening → OneNotLegal
one_not_legal alike goes_on one setup records number other none none' =
    let is = one_stuck goes_on one setup none.before none.rec none.state none'.before none'.rec none'.state
    none.reopens (stuck_by_law alike setup none.state none.rec none.at none.event none.codes none.illegal)
    none'.reopens (stuck_by_law alike setup none'.state none'.rec none'.at none'.event none'.codes none'.illegal)
    (offsets none.before none.rec none.begin.0 none'.before none'.rec none'.begin.0 (sym none.begin.1 ∙ none'.begin.1)) in
    none.number_is ∙ (ap (λ (before : List (List ℕ)). length before + 1) is.before_is ∙ sym none'.number_is)

pub formless_or_illegal : FaultsCodeNothing → AlikeLegal → ReopeningGoesOn → OneReopening → FormlessOrIllegal
formless_or_illegal faults alike goes_on one setup records number other offset none none' =
    let is = one_stuck goes_on one setup none.before none.rec none.state none'.before none'.rec none'.state
    none.reopens (stuck_by_form faults setup none.state none.rec none.cause none.is_cause)
    none'.reopens (stuck_by_law alike setup none'.state none'.rec none'.at none'.event none'.codes none'.illegal)
    (offsets none.before none.rec none.begin.0 none'.before none'.rec none'.begin.0 (sym none.begin.1 ∙ none'.begin.1)) in
    faults none.rec none.cause none'.at none'.event none.is_cause (subst (λ (rec : List ℕ). Codes rec none'.at none'.event) (sym is.rec_is) none'.codes)
