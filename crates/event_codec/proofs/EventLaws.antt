-- What records tell of events, and of the states that a bank comes to by them.
use Rattle.std.proofs.Common.{◌≡◌, ◌≢◌, ℕ, true, false, cond, Bool, nat_eq, List, [], ◌∷◌, ◌++◌, Option, Some, Result, Ok, Err, refl, sym, ap, subst, ◌∙◌, ◌⊎◌, inl, inr}
use Rattle.std.specs.Prelude.{IfOk}
use Rattle.std.proofs.lemmas.Bool.{eqb-false, ne_eqb}
use Rattle.ofx_types.specs.declared.number.Moment.{Moment}
use Rattle.bank_model.specs.Rules.{state_after, new_outcome, file_outcome, reply_file}
use Rattle.bank_model.specs.declared.setup.Setup.{Setup}
use Rattle.bank_model.specs.declared.event.State.{State}
use Rattle.bank_model.specs.declared.event.Event.{Event}
use Rattle.bank_model.specs.declared.event.Event.TheVariants.{File, Post, Spawn, Letter}
use Rattle.record_fields.specs.declared.fault.RecordFault.{RecordFault}
use Rattle.record_fields.specs.declared.fault.RecordFault.TheVariants as faults
use Rattle.event_codec.specs.Coding.{coded, event_bytes, file_bytes}
use Rattle.event_codec.specs.Records.{Codes, Reopens}
use Rattle.bank_model.specs.Events.{IsSameEvent, without_signon}
use Rattle.event_codec.specs.Reading.{after_version, located, record_read, fault_of, IsRecordFault}
use Rattle.record_fields.specs.Answers.{ReadsRecord}
use Rattle.record_fields.specs.Fields.{IsBytes}
use Rattle.event_codec.proofs.RecordLaws.{record_codes, record_again}

abbrev some_fault : RecordFault → Option RecordFault
some_fault fault = Some fault

abbrev whole : {A : Type 0} → A → Result A RecordFault
whole x = Ok x

-- ---- what was read of a record

pub is_found : (rec : List ℕ) (r : Result (Event × Moment) RecordFault) → IsBytes rec → ReadsRecord r (record_read rec) → IfOk r (λ found. Codes rec found.1 found.0)
is_found rec (Ok found) bytes h = (record_codes rec found bytes h).0
is_found rec (Err fault) bytes h = tt

pub is_nameless : (rec : List ℕ) (r : Result (Event × Moment) RecordFault) → IsBytes rec → ReadsRecord r (record_read rec) → IfOk r (λ found. found.0 ≡ without_signon found.0)
is_nameless rec (Ok found) bytes h = (record_codes rec found bytes h).1
is_nameless rec (Err fault) bytes h = tt

-- ---- one coding

same_found : (x y : Event × Moment) → whole x ≡ whole y → (x.0 ≡ y.0) × (x.1 ≡ y.1)
same_found x y h = (ap (λ (f : Event × Moment). f.0) (found_is x y h), ap (λ (f : Event × Moment). f.1) (found_is x y h))
  where
    found_is : (x y : Event × Moment) → whole x ≡ whole y → x ≡ y
    found_is x y h = cc

pub one_coding : (rec : List ℕ) (at to : Moment) (event other : Event) → Codes rec at event → Codes rec to other → (at ≡ to) × IsSameEvent event other
one_coding rec at to event other p q =
    let one : Event × Moment = (without_signon event, at) in
    let two : Event × Moment = (without_signon other, to) in
    let same = same_found one two (sym (record_again rec at event p) ∙ record_again rec to other q) in
    (same.1, same.0)

pub kept_coded : (at : Moment) (event : Event) → coded at (without_signon event) ≡ coded at event
unfolding coded event_bytes file_bytes
kept_coded at (File user file) = refl
kept_coded at (Post id) = refl
kept_coded at (Spawn model offset) = refl
kept_coded at (Letter user subject body) = refl

-- ---- faults

no_fault : (r : Result (Event × Moment) RecordFault) (found : Event × Moment) (fault : RecordFault) → r ≡ Ok found → fault_of r ≡ Some fault → ⊥
no_fault (Ok x) found fault p q = cc
no_fault (Err e) found fault p q = cc

pub faults_code_nothing : (rec : List ℕ) (fault : RecordFault) (at : Moment) (event : Event) → IsRecordFault rec fault → Codes rec at event → ⊥
faults_code_nothing rec fault at event p q = no_fault (record_read rec) (without_signon event, at) fault (record_again rec at event q) p

pub one_record_fault : (rec : List ℕ) (fault other : RecordFault) → IsRecordFault rec fault → IsRecordFault rec other → fault ≡ other
one_record_fault rec fault other p q = some_is fault other (sym p ∙ q)
  where
    some_is : (x y : RecordFault) → some_fault x ≡ some_fault y → x ≡ y
    some_is x y h = cc

abbrev IsCodedOrFaulty : List ℕ → Type 0
IsCodedOrFaulty rec = ((at : Moment) × (event : Event) × Codes rec at event) ⊎ ((fault : RecordFault) × IsRecordFault rec fault)

pub coded_or_faulty : (rec : List ℕ) → IsBytes rec → ((at : Moment) × (event : Event) × Codes rec at event) ⊎ ((fault : RecordFault) × IsRecordFault rec fault)
coded_or_faulty rec bytes = by_cases (record_read rec) refl
  where
    by_cases : (r : Result (Event × Moment) RecordFault) → record_read rec ≡ r → IsCodedOrFaulty rec
    by_cases (Ok found) h = inl (found.1, found.0, (record_codes rec found bytes h).0)
    by_cases (Err fault) h = inr (fault, ap fault_of h)

-- The version is told exactly where the first byte isn't 1.
abbrev HasVersion : List ℕ → ℕ → Type 0
HasVersion rec n = (rest : List ℕ) × (rec ≡ n ∷ rest) × (n ≢ 1)

not_located : (r : Result (Event × Moment) ℕ) (n : ℕ) → fault_of (located r) ≡ Some (faults.Version n) → ⊥
not_located (Ok x) n h = cc
not_located (Err offset) n h = cc

pub version_reported : (rec : List ℕ) (n : ℕ) → IsRecordFault rec (faults.Version n) → HasVersion rec n
unfolding record_read
version_reported [] n h = absurd cc
version_reported (version ∷ rest) n h = by_cases (nat_eq version 1) refl
  where
    by_cases : (b : Bool) → nat_eq version 1 ≡ b → HasVersion (version ∷ rest) n
    by_cases true is = absurd (not_located (after_version (version ∷ rest)) n (subst (λ (b : Bool). fault_of (cond b (located (after_version (version ∷ rest))) (Err (faults.Version version))) ≡ Some (faults.Version n)) is h))
    by_cases false is =
        let reported : some_fault (faults.Version version) ≡ some_fault (faults.Version n) = subst (λ (b : Bool). fault_of (cond b (located (after_version (version ∷ rest))) (Err (faults.Version version))) ≡ Some (faults.Version n)) is h in
        let same : version ≡ n = cc in
        (rest, ap (λ (v : ℕ). v ∷ rest) same, λ one. eqb-false version 1 is (same ∙ one))

pub version_is_reported : (rec : List ℕ) (n : ℕ) → HasVersion rec n → IsRecordFault rec (faults.Version n)
unfolding record_read
version_is_reported rec n h =
    let other : nat_eq n 1 ≡ false = ne_eqb n 1 h.2 in
    let reported : record_read (n ∷ h.0) ≡ Err (faults.Version n) = rw other refl in
    ap (λ (l : List ℕ). fault_of (record_read l)) h.1 ∙ ap fault_of reported

-- ---- reopening

-- The name and the password of a file's user change no state.
kept_after : (setup : Setup) (S : State) (at : Moment) (event : Event) → state_after setup S at (without_signon event) ≡ state_after setup S at event
unfolding file_outcome new_outcome reply_file
kept_after setup S at (File user file) = refl
kept_after setup S at (Post id) = refl
kept_after setup S at (Spawn model offset) = refl
kept_after setup S at (Letter user subject body) = refl

same_after : (setup : Setup) (S : State) (at to : Moment) (event other : Event) → at ≡ to → IsSameEvent event other → state_after setup S at event ≡ state_after setup S to other
same_after setup S at to event other p q =
    sym (kept_after setup S at event) ∙ ap (state_after setup S at) q ∙ ap (λ (m : Moment). state_after setup S m (without_signon other)) p ∙ kept_after setup S to other

pub one_reopening : (setup : Setup) (S : State) (records : List (List ℕ)) (A B : State) → Reopens setup S records A → Reopens setup S records B → A ≡ B
one_reopening setup S [] A B p q = p ∙ sym q
one_reopening setup S (rec ∷ records) A B p q =
    let same = one_coding rec p.0 q.0 p.1 q.1 p.2 q.2 in
    let state : state_after setup S p.0 p.1 ≡ state_after setup S q.0 q.1 = same_after setup S p.0 q.0 p.1 q.1 same.0 same.1 in
    one_reopening setup (state_after setup S q.0 q.1) records A B (subst (λ (T : State). Reopens setup T records A) state p.4) q.4

pub reopens_then : (setup : Setup) (S : State) (first second : List (List ℕ)) (B C : State) → Reopens setup S first B → Reopens setup B second C → Reopens setup S (first ++ second) C
reopens_then setup S [] second B C p q = subst (λ (T : State). Reopens setup T second C) p q
reopens_then setup S (rec ∷ first) second B C p q = (p.0, p.1, p.2, p.3, reopens_then setup (state_after setup S p.0 p.1) first second B C p.4 q)

pub reopens_apart : (setup : Setup) (S : State) (first second : List (List ℕ)) (C : State) → Reopens setup S (first ++ second) C → (B : State) × Reopens setup S first B × Reopens setup B second C
reopens_apart setup S [] second C p = (S, refl, p)
reopens_apart setup S (rec ∷ first) second C p =
    let rest = reopens_apart setup (state_after setup S p.0 p.1) first second C p.4 in
    (rest.0, (p.0, p.1, p.2, p.3, rest.1), rest.2)
