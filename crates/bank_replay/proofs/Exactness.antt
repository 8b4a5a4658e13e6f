-- What a bank answers to the records that are known.
use Rattle.std.proofs.Common.{◌≡◌, ℕ, List, Option, None, Some, IsSome, IsSomeAnd, Result, Ok, Err, IfOk, IfErr, MatchResult, IsErrAnd, ◌⊎◌, inl, inr, sym, ap, ◌∙◌, subst}
use Rattle.std.proofs.lemmas.Bool.{true≢false}
use Rattle.bank_model.specs.Rules.{opening_state}
use Rattle.bank_model.specs.declared.setup.Setup.{Setup}
use Rattle.bank_model.specs.declared.event.State.{State}
use Rattle.event_codec.specs.Records.{Reopens}
use Rattle.bank_replay.specs.Laws.{OneOpening, OneWithoutForm, OneNotLegal, FormlessOrIllegal, FormlessOpenNothing, IllegalOpenNothing}
use Rattle.bank_replay.specs.Opening.{RecordsGive, HasNoForm, IsNotLegal, HasCause}
use Rattle.bank_replay.specs.Replay.{IsOfTheOutside}
use Rattle.bank_replay.specs.declared.fault.OpenFault.{OpenFault}
use Rattle.bank_replay.specs.declared.fault.OpenFault.TheVariants.{Read, Record, Illegal, OutOfMemory}

-- The records that are known bring a bank to this state.
abbrev pub AreReportedTo : Setup → Option (List (List ℕ)) → State → Type 0
AreReportedTo setup known state = IsSomeAnd known (λ (all : List (List ℕ)). Reopens setup opening_state all state)

-- a bank that stands for all that is reported
all_reported : (setup : Setup) (all : List (List ℕ)) (state : State) → RecordsGive setup (Some all) state → Reopens setup opening_state all state
all_reported setup all state holds =
    subst (λ (records : List (List ℕ)). Reopens setup opening_state records state) (sym holds.are_known) holds.reopens

same_state : OneOpening → (setup : Setup) (known : Option (List (List ℕ))) (state other : State) → RecordsGive setup known state → AreReportedTo setup known other → state ≡ other
same_state one setup None state other holds are = absurd are
same_state one setup (Some all) state other holds are = one setup all state other (all_reported setup all state holds) are

outside : FormlessOpenNothing → IllegalOpenNothing → (setup : Setup) (known : Option (List (List ℕ))) (state : State) (fault : OpenFault) → HasCause setup known fault → AreReportedTo setup known state → IsOfTheOutside fault
outside formless illegal setup None state fault cause are = absurd are
outside formless illegal setup (Some all) state Read cause are = tt
outside formless illegal setup (Some all) state (Record number offset) cause are = absurd (formless setup all state number offset cause are)
outside formless illegal setup (Some all) state (Illegal number) cause are = absurd (illegal setup all state number cause are)
outside formless illegal setup (Some all) state OutOfMemory cause are = tt

-- Where the records that are known bring a bank to a state it opens in it.
pub opens_exactly : OneOpening → FormlessOpenNothing → IllegalOpenNothing → {A : Type 0} (state_of : A → State) (setup : Setup) (known : Option (List (List ℕ))) (result : Result A OpenFault) → IfOk result (λ (opened : A). RecordsGive setup known (state_of opened)) → IfErr result (HasCause setup known) →
    (state : State) → AreReportedTo setup known state → MatchResult result (λ (opened : A). state_of opened ≡ state) IsOfTheOutside
opens_exactly one formless illegal state_of setup known (Ok opened) holds cause state are = same_state one setup known (state_of opened) state holds are
opens_exactly one formless illegal state_of setup known (Err fault) holds cause state are = outside formless illegal setup known state fault cause are

-- ---- a record without a form

not_formless : FormlessOpenNothing → (setup : Setup) (known : Option (List (List ℕ))) (state : State) (number offset : ℕ) → RecordsGive setup known state → IsSome known → HasNoForm setup known number offset → ⊥
not_formless formless setup None state number offset holds is none = true≢false (sym is)
not_formless formless setup (Some all) state number offset holds is none = formless setup all state number offset none (all_reported setup all state holds)

formless_reported : OneWithoutForm → FormlessOrIllegal → (setup : Setup) (known : Option (List (List ℕ))) (number offset : ℕ) (fault : OpenFault) → HasCause setup known fault → IsSome known → HasNoForm setup known number offset → (fault ≡ Record number offset) ⊎ IsOfTheOutside fault
formless_reported one apart setup None number offset fault cause is none = absurd (true≢false (sym is))
formless_reported one apart setup (Some all) number offset Read cause is none = inr tt
formless_reported one apart setup (Some all) number offset (Record other offset') cause is none =
    let same = one setup all other number offset' offset cause none in
    inl (ap (λ (n : ℕ). Record n offset') same.0 ∙ ap (λ (p : ℕ). Record number p) same.1)
formless_reported one apart setup (Some all) number offset (Illegal other) cause is none = absurd (apart setup all number other offset none cause)
formless_reported one apart setup (Some all) number offset OutOfMemory cause is none = inr tt

-- Where the records that are known have a first one without a form, that is reported.
pub formless_exactly : FormlessOpenNothing → OneWithoutForm → FormlessOrIllegal → {A : Type 0} (state_of : A → State) (setup : Setup) (known : Option (List (List ℕ))) (result : Result A OpenFault) → IfOk result (λ (opened : A). RecordsGive setup known (state_of opened)) → IfErr result (HasCause setup known) →
    (number offset : ℕ) → IsSome known → HasNoForm setup known number offset → IsErrAnd result (λ (fault : OpenFault). (fault ≡ Record number offset) ⊎ IsOfTheOutside fault)
formless_exactly formless one apart state_of setup known (Ok opened) holds cause number offset is none =
    absurd (not_formless formless setup known (state_of opened) number offset holds is none)
formless_exactly formless one apart state_of setup known (Err fault) holds cause number offset is none = formless_reported one apart setup known number offset fault cause is none

-- ---- a record that isn't legal

not_illegal : IllegalOpenNothing → (setup : Setup) (known : Option (List (List ℕ))) (state : State) (number : ℕ) → RecordsGive setup known state → IsSome known → IsNotLegal setup known number → ⊥
not_illegal illegal setup None state number holds is none = true≢false (sym is)
not_illegal illegal setup (Some all) state number holds is none = illegal setup all state number none (all_reported setup all state holds)

illegal_reported : OneNotLegal → FormlessOrIllegal → (setup : Setup) (known : Option (List (List ℕ))) (number : ℕ) (fault : OpenFault) → HasCause setup known fault → IsSome known → IsNotLegal setup known number → (fault ≡ Illegal number) ⊎ IsOfTheOutside fault
illegal_reported one apart setup None number fault cause is none = absurd (true≢false (sym is))
illegal_reported one apart setup (Some all) number Read cause is none = inr tt
illegal_reported one apart setup (Some all) number (Record other offset) cause is none = absurd (apart setup all other number offset cause none)
illegal_reported one apart setup (Some all) number (Illegal other) cause is none = inl (ap (λ (n : ℕ). Illegal n) (one setup all other number cause none))
illegal_reported one apart setup (Some all) number OutOfMemory cause is none = inr tt

-- Where the records that are known have a first one that isn't legal, that is reported.
pub illegal_exactly : IllegalOpenNothing → OneNotLegal → FormlessOrIllegal → {A : Type 0} (state_of : A → State) (setup : Setup) (known : Option (List (List ℕ))) (result : Result A OpenFault) → IfOk result (λ (opened : A). RecordsGive setup known (state_of opened)) → IfErr result (HasCause setup known) →
    (number : ℕ) → IsSome known → IsNotLegal setup known number → IsErrAnd result (λ (fault : OpenFault). (fault ≡ Illegal number) ⊎ IsOfTheOutside fault)
illegal_exactly illegal one apart state_of setup known (Ok opened) holds cause number is none =
    absurd (not_illegal illegal setup known (state_of opened) number holds is none)
illegal_exactly illegal one apart state_of setup known (Err fault) holds cause number is none = illegal_reported one apart setup known number fault cause is none
