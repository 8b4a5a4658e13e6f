-- How a bank comes from one kept record to the next.
use Rattle.std.proofs.Common.{◌≡◌, ℕ, ◌+◌, ◌-◌, ◌≤◌, List, [], ◌∷◌, ◌++◌, length, Option, None, Some, IfSome, Result, Ok, Err, is_ok, IsErrOf, ◌⊎◌, inl, inr, arith, refl, sym, ap, ◌∙◌, length-append, append_assoc, append-nil}
use Rattle.std.specs.Prelude.{slice_get}
use Rattle.std.proofs.lemmas.Bool.{true≢false}
use Rattle.ofx_ports.specs.Faults.{CountsFaults}
use Rattle.ofx_ports.specs.Known.{Stays}
use Rattle.ofx_ports.proofs.FaultLaws.{Rose-later}
use Rattle.bank_model.specs.Rules.{opening_state}
use Rattle.bank_model.specs.declared.setup.Setup.{Setup}
use Rattle.bank_model.specs.declared.event.State.{State}
use Rattle.event_codec.specs.Records.{Reopens}
use Rattle.bank_replay.proofs.OneOpening.{ReopeningGoesOn}
use Rattle.bank_replay.specs.Opening.{RecordsGive, BeginWith, HasCause}
use Rattle.bank_replay.specs.Replay.{IsKept, IsNotTaken, IsOfTheOutside}
use Rattle.bank_replay.specs.declared.fault.OpenFault.{OpenFault}
use Rattle.bank_replay.specs.declared.fault.OpenFault.TheVariants.{Read, Record, Illegal, OutOfMemory}

-- Where records are told they begin with these.
abbrev BeginsWith : Option (List (List ℕ)) → List (List ℕ) → Type 0
BeginsWith known records = IfSome known (λ (all : List (List ℕ)). (more : List (List ℕ)) × (all ≡ records ++ more))

-- A bank has come to a state by so many records, with which those that are told begin.
pub record HasTaken (setup : Setup) (known : Option (List (List ℕ))) (count : ℕ) (state : State) : Type 0 where
  pub records : List (List ℕ)
  pub begins : BeginsWith known records
  pub counted : length records ≡ count
  pub reopens : Reopens setup opening_state records state

begins_empty : (known : Option (List (List ℕ))) → BeginsWith known []
begins_empty None = tt
begins_empty (Some all) = (all, refl)

pub none_taken : (setup : Setup) (known : Option (List (List ℕ))) → HasTaken setup known 0 opening_state
none_taken setup known = record { records = []; begins = begins_empty known; counted = refl; reopens = refl }

-- the record at the offset after others is the next one
next_at : (before more : List (List ℕ)) (rec : List ℕ) → slice_get (before ++ more) (length before) ≡ Some rec → (rest : List (List ℕ)) × (more ≡ rec ∷ rest)
next_at [] [] rec found = cc
next_at [] (first ∷ rest) rec found = (rest, cc)
next_at (other ∷ before) more rec found = next_at before more rec found

next_of : (known now : Option (List (List ℕ))) (before : List (List ℕ)) (count : ℕ) (rec : List ℕ) → BeginsWith known before → length before ≡ count → Stays known now → IsKept now (count + 1) rec → BeginWith known before rec
next_of None now before count rec begins counted stays kept = tt
next_of (Some all) None before count rec begins counted stays kept = absurd stays
next_of (Some all) (Some now) before count rec (more, is) counted stays kept =
    let offset : (count + 1) - 1 ≡ length before = omega (arith, counted) in
    let found : slice_get (before ++ more) (length before) ≡ Some rec =
    ap (λ (list : List (List ℕ)). slice_get list (length before)) (sym is ∙ sym stays) ∙ (ap (λ (k : ℕ). slice_get now k) (sym offset) ∙ kept) in
    let next = next_at before more rec found in
    (next.0, is ∙ ap (λ (list : List (List ℕ)). before ++ list) next.1)

begins_on : (known : Option (List (List ℕ))) (before : List (List ℕ)) (rec : List ℕ) → BeginWith known before rec → BeginsWith known (before ++ rec ∷ [])
begins_on None before rec begin = tt
begins_on (Some all) before rec (more, is) = (more, is ∙ sym (append_assoc before (rec ∷ []) more))

-- A record more is taken.
pub one_more : ReopeningGoesOn → (setup : Setup) (known now : Option (List (List ℕ))) (count : ℕ) (state after : State) (rec : List ℕ) → HasTaken setup known count state → Stays known now → IsKept now (count + 1) rec → Reopens setup state (rec ∷ []) after → HasTaken setup known (count + 1) after
one_more goes_on setup known now count state after rec taken stays kept next = record {
  records = taken.records ++ rec ∷ [];
  begins = begins_on known taken.records rec (next_of known now taken.records count rec taken.begins taken.counted stays kept);
  counted = omega (arith, taken.counted, length-append taken.records (rec ∷ []));
  reopens = (goes_on setup opening_state taken.records (rec ∷ []) after).1 (state, taken.reopens, next);
}

-- Why the next record isn't taken is why the bank doesn't open.
stopped : (setup : Setup) (known now : Option (List (List ℕ))) (count : ℕ) (state : State) (rec : List ℕ) (fault : OpenFault) → HasTaken setup known count state → Stays known now → IsKept now (count + 1) rec → IsNotTaken setup state (count + 1) rec fault → HasCause setup known fault
stopped setup known now count state rec Read taken stays kept why = absurd why
stopped setup known now count state rec (Record number offset) taken stays kept why = record {
  before = taken.records;
  rec = rec;
  state = state;
  cause = why.1.cause;
  begin = next_of known now taken.records count rec taken.begins taken.counted stays kept;
  reopens = taken.reopens;
  number_is = omega (arith, why.0, taken.counted);
  is_cause = why.1.is_cause;
  offset_is = why.1.offset_is;
}
stopped setup known now count state rec (Illegal number) taken stays kept why = record {
  before = taken.records;
  rec = rec;
  state = state;
  at = why.1.at;
  event = why.1.event;
  begin = next_of known now taken.records count rec taken.begins taken.counted stays kept;
  reopens = taken.reopens;
  number_is = omega (arith, why.0, taken.counted);
  codes = why.1.codes;
  illegal = why.1.illegal;
}
stopped setup known now count state rec OutOfMemory taken stays kept why = tt

outside_cause : (setup : Setup) (known : Option (List (List ℕ))) (fault : OpenFault) → IsOfTheOutside fault → HasCause setup known fault
outside_cause setup known Read outside = tt
outside_cause setup known (Record number offset) outside = absurd outside
outside_cause setup known (Illegal number) outside = absurd outside
outside_cause setup known OutOfMemory outside = tt

pub has_cause : (setup : Setup) (known now : Option (List (List ℕ))) (count : ℕ) (state : State) (rec : List ℕ) (fault : OpenFault) → HasTaken setup known count state → Stays known now → IsOfTheOutside fault ⊎ (IsKept now (count + 1) rec × IsNotTaken setup state (count + 1) rec fault) → HasCause setup known fault
has_cause setup known now count state rec fault taken stays (inl outside) = outside_cause setup known fault outside
has_cause setup known now count state rec fault taken stays (inr why) = stopped setup known now count state rec fault taken stays why.0 why.1

nothing_more : (records more all : List (List ℕ)) → all ≡ records ++ more → length all ≡ length records → all ≡ records
nothing_more records [] all is same = is ∙ append-nil records
nothing_more records (rec ∷ more) all is same = absurd (omega (arith, same, ap length is, length-append records (rec ∷ more)))

are_all : (known : Option (List (List ℕ))) (records : List (List ℕ)) (count : ℕ) → BeginsWith known records → length records ≡ count → IfSome known (λ (all : List (List ℕ)). count ≡ length all) → IfSome known (λ (all : List (List ℕ)). all ≡ records)
are_all None records count begins counted last = tt
are_all (Some all) records count (more, is) counted last = nothing_more records more all is (sym last ∙ sym counted)

-- A bank that has taken as many records as are kept stands for them.
pub all_taken : (setup : Setup) (known : Option (List (List ℕ))) (count size : ℕ) (state : State) → HasTaken setup known count state → count ≡ size → IfSome known (λ (all : List (List ℕ)). size ≡ length all) → RecordsGive setup known state
all_taken setup known count size state taken last is = record {
  records = taken.records;
  are_known = are_all known taken.records size taken.begins (taken.counted ∙ last) is;
  reopens = taken.reopens;
}

-- ---- counts of faults

-- a call that fails by this fault
abbrev failing : (X : Type 0) → OpenFault → Result X OpenFault
failing X fault = Err fault

-- Two calls fail alike, whatever they answer otherwise.
fails_alike : (X Y : Type 0) (fault other : OpenFault) → failing X fault ≡ failing X other → failing Y fault ≡ failing Y other
fails_alike X Y fault other same = let is : fault ≡ other = cc in ap (failing Y) is

-- A call that fails leaves the count of faults to those before it.
pub counts_after : {X Y : Type 0} (before mid now : ℕ) (fault other : OpenFault) → before ≤ mid → CountsFaults mid now (IsErrOf {T = X} (Err fault) other) → CountsFaults before now (IsErrOf {T = Y} (Err fault) other)
counts_after {X = X} {Y = Y} before mid now fault other low counts = record {
  later = omega (arith, low, counts.later);
  cause = λ h. Rose-later before mid now low (counts.cause (fails_alike Y X fault other h));
}

-- a run that doesn't fail
pub counts_done : {X : Type 0} (before now : ℕ) (opened : X) (other : OpenFault) → before ≤ now → CountsFaults before now (IsErrOf {T = X} (Ok opened) other)
counts_done {X = X} before now opened other low = record {
  later = low;
  cause = λ h. absurd (true≢false (ap (λ (r : Result X OpenFault). is_ok r) h));
}

-- want of memory is no fault of a read
pub counts_refused : {X : Type 0} (before now : ℕ) → before ≤ now → CountsFaults before now (IsErrOf {T = X} (Err OutOfMemory) Read)
counts_refused {X = X} before now low = record {
  later = low;
  cause = λ h. absurd (let both : failing X OutOfMemory ≡ failing X Read = h in cc);
}
