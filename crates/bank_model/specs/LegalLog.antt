-- Which logs a bank can have that opens in a state, and the state that each ends in.
--
-- A log is a list of groups. Each ends in an answer, an adopted event or a fault, and before that come the effects of just the
-- entries that its event adds. So the endings determine the log.
use Rattle.std.specs.Prelude.{◌≡◌, ℕ, ◌+◌, ◌-◌, ◌^◌, ◌%◌, ◌<◌, ◌⊎◌, List, [], ◌∷◌, ◌++◌, drop, fold, map, length, All, Option, None, Some}
use Rattle.ofx_types.specs.Calendar.{IsMoment}
use Rattle.ofx_types.specs.declared.number.Moment.{Moment}
use Rattle.bank_model.specs.declared.entry.Entry.{Entry}
use Rattle.bank_model.specs.declared.event.Event.{Event}
use Rattle.bank_model.specs.declared.event.State.{State}
use Rattle.bank_model.specs.declared.log.LogItem.{LogItem}
use Rattle.bank_model.specs.declared.log.LogItem.TheVariants.{Effect, Answer, Adopted, Fault}
use Rattle.bank_model.specs.declared.setup.Setup.{Setup}
use Rattle.bank_model.specs.Rules.{IsLegal, state_after, answer_to}
use Rattle.bank_model.specs.Log.{endings}

-- ---- groups

-- the effects of the entries that an event adds, in order
abbrev pub effects_of : Setup → State → Moment → Event → List LogItem
effects_of setup S at event = map Effect (drop (length S.entries) (state_after setup S at event).entries)

-- An answered or an adopted event has its effects before its ending. A fault is alone.
abbrev pub group : Setup → State → LogItem → List LogItem
group setup S (Effect entry) = []
group setup S (Answer event at reply) = effects_of setup S at event ++ Answer event at reply ∷ []
group setup S (Adopted fault event at) = effects_of setup S at event ++ Adopted fault event at ∷ []
group setup S (Fault count pending) = Fault count pending ∷ []

-- the state that a group leaves
abbrev pub after_ending : Setup → State → LogItem → State
after_ending setup S (Effect entry) = S
after_ending setup S (Answer event at reply) = state_after setup S at event
after_ending setup S (Adopted fault event at) = state_after setup S at event
after_ending setup S (Fault count pending) = S

-- The groups of these endings one after another, each in the state that those before it leave.
abbrev pub groups : Setup → State → List LogItem → List LogItem
groups setup S [] = []
groups setup S (item ∷ more) = group setup S item ++ groups setup (after_ending setup S item) more

-- The state that a log ends in is the one that all of its whole groups leave.
abbrev pub ends : Setup → State → List LogItem → State
ends setup S log = fold (after_ending setup) S (endings log)

-- ---- endings

-- an event that may happen in a state at a moment of the years 1900 to 9999
abbrev pub MayHappen : Setup → State → Moment → Event → Type 0
MayHappen setup S at event = IsMoment at.0 × IsLegal setup S at event

-- a settling that failed
abbrev pub IsUnsettled : LogItem → Type 0
IsUnsettled (Effect entry) = ⊥
IsUnsettled (Answer event at reply) = ⊥
IsUnsettled (Adopted fault event at) = ⊥
IsUnsettled (Fault count None) = Unit {0}
IsUnsettled (Fault count (Some pending)) = ⊥

-- After these endings the record of this event may be stored though its append failed. That was in the last fault of an append,
-- after which no event was answered or adopted: all that came since is that it couldn't be settled. The number is the fault's,
-- modulo 2^64.
pub record IsPending (before : List LogItem) (number : ℕ) (event : Event) (at : Moment) : Type 0 where
  pub earlier : List LogItem
  pub count : ℕ
  pub later : List LogItem
  pub parts : before ≡ earlier ++ Fault count (Some (event, at)) ∷ later
  pub unsettled : All IsUnsettled later
  pub number_is : number ≡ (length earlier + 1) % 2 ^ 64

-- A count of faults is above an earlier one, unless both have come to the end of their type.
abbrev pub IsAbove : ℕ → LogItem → Type 0
IsAbove count (Effect entry) = Unit {0}
IsAbove count (Answer event at reply) = Unit {0}
IsAbove count (Adopted fault event at) = Unit {0}
IsAbove count (Fault earlier pending) = (earlier < count) ⊎ ((earlier ≡ 2 ^ 64 - 1) × (count ≡ 2 ^ 64 - 1))

-- What may come to its end in a state after these endings:
-- - an event that may happen is answered, by just its reply;
-- - an event that may happen is adopted, whose record may be stored since the fault of this number;
-- - the keeper fails, and its count of faults is above those of all earlier faults.
abbrev pub MayEnd : Setup → State → List LogItem → LogItem → Type 0
MayEnd setup S before (Effect entry) = ⊥
MayEnd setup S before (Answer event at reply) = MayHappen setup S at event × (reply ≡ answer_to setup S at event)
MayEnd setup S before (Adopted fault event at) = MayHappen setup S at event × IsPending before fault event at
MayEnd setup S before (Fault count pending) = All (IsAbove count) before

-- Each ending may come in the state and after the endings that those before it leave.
abbrev pub AreLegalEndings : Setup → State → List LogItem → List LogItem → Type 0
AreLegalEndings setup S before [] = Unit {0}
AreLegalEndings setup S before (item ∷ more) =
    MayEnd setup S before item × AreLegalEndings setup (after_ending setup S item) (before ++ item ∷ []) more

-- ---- logs

-- A legal log of whole groups: its endings may come one after another, and it has the groups of just these.
pub record IsWholeLog (setup : Setup) (S : State) (log : List LogItem) : Type 0 where
  pub may_end : AreLegalEndings setup S [] (endings log)
  pub grouped : log ≡ groups setup S (endings log)
