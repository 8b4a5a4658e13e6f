-- Exactly where a run ends that has no bank, whatever command it is.
use Rattle.std.proofs.Common.{◌≡◌, ℕ, List, Option, Some, Err, ◌⊎◌, inl, inr, arith, refl, sym, ap, ◌∙◌, subst}
use Rattle.bank_model.specs.Rules.{opening_state}
use Rattle.bank_model.specs.SetupForm.{SpellsSetup}
use Rattle.bank_model.specs.SetupFault.{IsSetupFault}
use Rattle.bank_model.specs.declared.setup.Setup.{Setup}
use Rattle.bank_model.specs.declared.event.State.{State}
use Rattle.bank_replay.specs.Opening.{RecordsGive, HasNoForm, IsNotLegal}
use Rattle.event_codec.specs.Records.{Reopens}
use Rattle.ofx_types.specs.declared.told.Note.{Note}
use Rattle.ofx_types.specs.declared.told.Note.TheVariants.{Plain, Place, Record, Illegal}
use Rattle.ofx_types.specs.declared.told.Told.{Told}
use Rattle.bank_opening.specs.SetupRead.{IsSetupOf, IsNoSetup}
use Rattle.bank_opening.specs.Reports.{reported_of, reported}
use Rattle.bank_opening.specs.declared.stop.RecordsFault.TheVariants.{NoForm, NotLegal}
use Rattle.bank_opening.specs.declared.stop.Stop.{Stop}
use Rattle.bank_opening.specs.declared.stop.Stop.TheVariants as stops
use Rattle.bank_opening.specs.OneBank.{OneBank}
use Rattle.bank_opening.proofs.OneSetup.{OneSetup}
use Rattle.bank_session.specs.PortsView.{PortsView}
use Rattle.bank_session.specs.Run.{NeverOpens}
use Rattle.bank_session.specs.Statuses.{HasRecords, Opens, IsInterrupted, IsDueInterrupted, RefusesSetup, RefusesRecord, RefusesIllegal}

-- what is reported of a run that has no bank
pub data Unopened (before after : PortsView) (what : Told) : Type 0 where
  interrupted : IsDueInterrupted before after what → Unopened before after what
  no_setup : (line : ℕ) → IsNoSetup before.setup_left line → what ≡ reported 3 (Place line) → Unopened before after what
  no_form : (setup : Setup) (number offset : ℕ) → IsSetupOf before.setup_left setup → HasNoForm setup before.records number offset → what ≡ reported 9 (Record number offset) → Unopened before after what
  not_legal : (setup : Setup) (number : ℕ) → IsSetupOf before.setup_left setup → IsNotLegal setup before.records number → what ≡ reported 9 (Illegal number) → Unopened before after what

pub unopened : (before after : PortsView) (stop : Stop) → NeverOpens before after stop → Unopened before after (reported_of (Err stop))
unopened before after (stops.Setup line) (inl h) = no_setup line h.cause refl
unopened before after stops.ReadFailed (inl h) = interrupted (inl (refl, h.cause))
unopened before after stops.NoMemory (inl h) = interrupted (inr (inr (inr refl)))
unopened before after stops.Usage (inl h) = absurd h.cause
unopened before after (stops.Frame offset) (inl h) = absurd h.cause
unopened before after stops.WriteFailed (inl h) = absurd h.cause
unopened before after stops.KeeperFailed (inl h) = absurd h.cause
unopened before after (stops.Records fault) (inl h) = absurd h.cause
unopened before after (stops.Letter fault) (inl h) = absurd h.cause
unopened before after (stops.Records (NoForm number offset)) (inr h) = no_form h.setup number offset h.found h.cause refl
unopened before after (stops.Records (NotLegal number)) (inr h) = not_legal h.setup number h.found h.cause refl
unopened before after stops.KeeperFailed (inr h) = interrupted (inr (inr (inl (refl, h.cause))))
unopened before after stops.NoMemory (inr h) = interrupted (inr (inr (inr refl)))
unopened before after stops.ReadFailed (inr h) = absurd h.cause
unopened before after stops.WriteFailed (inr h) = absurd h.cause
unopened before after stops.Usage (inr h) = absurd h.cause
unopened before after (stops.Setup line) (inr h) = absurd h.cause
unopened before after (stops.Frame offset) (inr h) = absurd h.cause
unopened before after (stops.Letter fault) (inr h) = absurd h.cause

-- what gives up where the input isn't read gives up where it is
pub wider : (before after : PortsView) (what : Told) → IsDueInterrupted before after what → IsInterrupted before after what
wider before after what (inl (e, rose)) = inl (e, inl rose)
wider before after what (inr why) = inr why

pub or_interrupted : (before after : PortsView) (what : Told) (P : Type 0) → P ⊎ IsDueInterrupted before after what → P ⊎ IsInterrupted before after what
or_interrupted before after what P (inl p) = inl p
or_interrupted before after what P (inr why) = inr (wider before after what why)

-- ---- the setup

-- a told setup that is spelled isn't refused
pub no_setup_spelled : (before : PortsView) (text : List ℕ) (setup : Setup) (line : ℕ) → before.setup_left ≡ Some text → SpellsSetup text setup → IsNoSetup before.setup_left line → ⊥
no_setup_spelled before text setup line reported spelled refused =
    let P : Option (List ℕ) → Type 0 = λ left. IsNoSetup left line in (subst P reported refused).0 setup spelled

-- and one that isn't is no run's
pub unspelled_setup : (before : PortsView) (text : List ℕ) (setup : Setup) → before.setup_left ≡ Some text → ((other : Setup) → SpellsSetup text other → ⊥) → IsSetupOf before.setup_left setup → ⊥
unspelled_setup before text setup reported none found =
    let P : Option (List ℕ) → Type 0 = λ left. IsSetupOf left setup in none setup (subst P reported found)

-- the line of its fault is reported
fault_reported : (before : PortsView) (text : List ℕ) (line : ℕ) → before.setup_left ≡ Some text → IsNoSetup before.setup_left line → IsSetupFault text line
fault_reported before text line reported refused =
    let P : Option (List ℕ) → Type 0 = λ left. IsNoSetup left line in (subst P reported refused).1

pub unopened_setup : (before after : PortsView) (what : Told) → Unopened before after what → RefusesSetup IsDueInterrupted before after what
unopened_setup before after what (interrupted why) text left none = inr why
unopened_setup before after what (no_setup line refused e) text left none = inl (line, fault_reported before text line left refused, e)
unopened_setup before after what (no_form setup number offset found unformed e) text left none = absurd (unspelled_setup before text setup left none found)
unopened_setup before after what (not_legal setup number found illegal e) text left none = absurd (unspelled_setup before text setup left none found)

-- ---- the records

-- the setup that is found is the one that is reported
same_setup : OneSetup → (before : PortsView) (setup found : Setup) (records : List (List ℕ)) → HasRecords before setup records → IsSetupOf before.setup_left found → found ≡ setup
same_setup one before setup found records has is =
    one has.text found setup (subst (λ (left : Option (List ℕ)). IsSetupOf left found) has.setup_is is) has.spelled

-- a fact of the setup that is found and of the records is one of the setup and the records that are known
of_reported : OneSetup → (before : PortsView) (setup found : Setup) (records : List (List ℕ)) (P : Setup → Option (List (List ℕ)) → Type 0) →
    HasRecords before setup records → IsSetupOf before.setup_left found → P found before.records → P setup (Some records)
of_reported one before setup found records P has is fact =
    subst (λ (s : Setup). P s (Some records)) (same_setup one before setup found records has is) (subst (λ (all : Option (List (List ℕ))). P found all) has.records_are fact)

pub unopened_record : OneSetup → OneBank → (before after : PortsView) (what : Told) → Unopened before after what → RefusesRecord IsDueInterrupted before after what
unopened_record one opening before after what (interrupted why) setup records number offset has unformed = inr why
unopened_record one opening before after what (no_setup line refused e) setup records number offset has unformed =
    absurd (no_setup_spelled before has.text setup line has.setup_is has.spelled refused)
unopened_record one opening before after what (no_form found number' offset' is unformed' e) setup records number offset has unformed =
    let same = opening.formless setup records number' number offset' offset (of_reported one before setup found records (λ (s : Setup) (all : Option (List (List ℕ))). HasNoForm s all number' offset') has is unformed') unformed in
    inl (e ∙ (ap (λ (n : ℕ). reported 9 (Record n offset')) same.0 ∙ ap (λ (k : ℕ). reported 9 (Record number k)) same.1))
unopened_record one opening before after what (not_legal found number' is illegal e) setup records number offset has unformed =
    absurd (opening.apart setup records number number' offset unformed (of_reported one before setup found records (λ (s : Setup) (all : Option (List (List ℕ))). IsNotLegal s all number') has is illegal))

pub unopened_illegal : OneSetup → OneBank → (before after : PortsView) (what : Told) → Unopened before after what → RefusesIllegal IsDueInterrupted before after what
unopened_illegal one opening before after what (interrupted why) setup records number has illegal = inr why
unopened_illegal one opening before after what (no_setup line refused e) setup records number has illegal =
    absurd (no_setup_spelled before has.text setup line has.setup_is has.spelled refused)
unopened_illegal one opening before after what (no_form found number' offset' is unformed e) setup records number has illegal =
    absurd (opening.apart setup records number' number offset' (of_reported one before setup found records (λ (s : Setup) (all : Option (List (List ℕ))). HasNoForm s all number' offset') has is unformed) illegal)
unopened_illegal one opening before after what (not_legal found number' is illegal' e) setup records number has illegal =
    inl (e ∙ ap (λ (n : ℕ). reported 9 (Illegal n)) (opening.illegal setup records number' number (of_reported one before setup found records (λ (s : Setup) (all : Option (List (List ℕ))). IsNotLegal s all number') has is illegal') illegal))

-- where the bank opens by what is told, a run without it gave up
pub opens_or_interrupted : OneSetup → OneBank → (before after : PortsView) (what : Told) (setup : Setup) (start : State) → Opens before setup start → Unopened before after what → IsDueInterrupted before after what
opens_or_interrupted one opening before after what setup start opens (interrupted why) = why
opens_or_interrupted one opening before after what setup start opens (no_setup line refused e) =
    absurd (no_setup_spelled before opens.has.text setup line opens.has.setup_is opens.has.spelled refused)
opens_or_interrupted one opening before after what setup start opens (no_form found number offset is unformed e) =
    absurd (opening.formless_opens setup opens.records start number offset (of_reported one before setup found opens.records (λ (s : Setup) (all : Option (List (List ℕ))). HasNoForm s all number offset) opens.has is unformed) opens.reopens)
opens_or_interrupted one opening before after what setup start opens (not_legal found number is illegal e) =
    absurd (opening.illegal_opens setup opens.records start number (of_reported one before setup found opens.records (λ (s : Setup) (all : Option (List (List ℕ))). IsNotLegal s all number) opens.has is illegal) opens.reopens)

-- ---- the bank that is found

-- a run has this setup, and a bank that stands for its records in this state
pub record IsBankOf (before : PortsView) (setup : Setup) (start : State) : Type 0 where
  pub found : IsSetupOf before.setup_left setup
  pub holds : RecordsGive setup before.records start

-- it comes to its state by the records that are known
reopened : (setup : Setup) (records : List (List ℕ)) (start : State) → RecordsGive setup (Some records) start → Reopens setup opening_state records start
reopened setup records start holds = subst (λ (all : List (List ℕ)). Reopens setup opening_state all start) (sym holds.are_known) holds.reopens

reopens_reported : OneSetup → (before : PortsView) (setup found : Setup) (start : State) (records : List (List ℕ)) → HasRecords before setup records → IsBankOf before found start → Reopens setup opening_state records start
reopens_reported one before setup found start records has bank =
    reopened setup records start (of_reported one before setup found records (λ (s : Setup) (all : Option (List (List ℕ))). RecordsGive s all start) has bank.found bank.holds)

-- so none of them is without a form, and each is legal
pub record_refused : OneSetup → OneBank → (before : PortsView) (setup found : Setup) (start : State) (records : List (List ℕ)) (number offset : ℕ) → HasRecords before setup records → HasNoForm setup (Some records) number offset → IsBankOf before found start → ⊥
record_refused one opening before setup found start records number offset has unformed bank =
    opening.formless_opens setup records start number offset unformed (reopens_reported one before setup found start records has bank)

pub illegal_refused : OneSetup → OneBank → (before : PortsView) (setup found : Setup) (start : State) (records : List (List ℕ)) (number : ℕ) → HasRecords before setup records → IsNotLegal setup (Some records) number → IsBankOf before found start → ⊥
illegal_refused one opening before setup found start records number has illegal bank =
    opening.illegal_opens setup records start number illegal (reopens_reported one before setup found start records has bank)

-- and a fact of the bank that is found is one of the bank that opens by what is told
pub of_found : OneSetup → OneBank → (before : PortsView) (setup found : Setup) (start state : State) (P : Setup → State → Type 0) → Opens before setup start → IsBankOf before found state → P found state → P setup start
of_found one opening before setup found start state P opens bank fact =
    let same = opening.opened setup opens.records state start (reopens_reported one before setup found state opens.records opens.has bank) opens.reopens in
    subst (λ (S : State). P setup S) same (subst (λ (s : Setup). P s state) (same_setup one before setup found opens.records opens.has bank.found) fact)

-- ---- arguments without a form are told otherwise

pub status_is : (what : Told) (status : ℕ) (note : Note) → what ≡ reported status note → what.status.0 ≡ 2 → status ≡ 2
status_is what status note e two = ap (λ (t : Told). t.status.0) (sym e) ∙ two

pub interrupted_otherwise : (before after : PortsView) (what : Told) → IsInterrupted before after what → what.status.0 ≡ 2 → ⊥
interrupted_otherwise before after what (inl (e, rose)) two = absurd (omega (arith, status_is what 5 Plain e two))
interrupted_otherwise before after what (inr (inl (e, rose))) two = absurd (omega (arith, status_is what 6 Plain e two))
interrupted_otherwise before after what (inr (inr (inl (e, rose)))) two = absurd (omega (arith, status_is what 8 Plain e two))
interrupted_otherwise before after what (inr (inr (inr e))) two = absurd (omega (arith, status_is what 7 Plain e two))

pub unopened_otherwise : (before after : PortsView) (what : Told) → Unopened before after what → what.status.0 ≡ 2 → ⊥
unopened_otherwise before after what (interrupted why) two = interrupted_otherwise before after what (wider before after what why) two
unopened_otherwise before after what (no_setup line refused e) two = absurd (omega (arith, status_is what 3 (Place line) e two))
unopened_otherwise before after what (no_form setup number offset is unformed e) two = absurd (omega (arith, status_is what 9 (Record number offset) e two))
unopened_otherwise before after what (not_legal setup number is illegal e) two = absurd (omega (arith, status_is what 9 (Illegal number) e two))
