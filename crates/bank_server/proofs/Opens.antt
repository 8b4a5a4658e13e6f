-- A bank that doesn't open from its records.
use Rattle.std.proofs.Common.{◌≡◌, ℕ, List, Option, Some, Err, inl, inr, refl, ap, ◌∙◌, subst}
use Rattle.ofx_ports.specs.Faults.{CountsFaults}
use Rattle.ofx_types.specs.declared.told.Note.TheVariants.{Record, Illegal}
use Rattle.ofx_types.specs.declared.told.Told.{Told}
use Rattle.bank_model.specs.declared.setup.Setup.{Setup}
use Rattle.bank_replay.specs.Opening.{HasNoForm, IsNotLegal, HasCause}
use Rattle.bank_replay.specs.declared.fault.OpenFault.{OpenFault}
use Rattle.bank_replay.specs.declared.fault.OpenFault.TheVariants as opens
use Rattle.bank_opening.specs.OneBank.{OneBank}
use Rattle.bank_opening.specs.RecordsRead.{opening_stop, StopsOpening}
use Rattle.bank_opening.specs.Reports.{reported, reported_of}
use Rattle.bank_opening.specs.SetupRead.{IsSetupOf}
use Rattle.bank_opening.proofs.OneSetup.{OneSetup}
use Rattle.bank_server.specs.Opening.{OpeningPorts, HasRecords, IsInterrupted, RefusesSetup, DoesntOpen, RefusesOpening}

-- a setup that is found isn't refused
found_spelled : (before after : OpeningPorts) (what : Told) (found : Setup) → IsSetupOf before.setup_left found → RefusesSetup before after what
found_spelled before after what found is text left none =
    let P : Option (List ℕ) → Type 0 = λ all. IsSetupOf all found in absurd (none found (subst P left is))

-- the setup that is found is the one that is reported
same_setup : OneSetup → (before : OpeningPorts) (setup found : Setup) (records : List (List ℕ)) → HasRecords before setup records → IsSetupOf before.setup_left found → found ≡ setup
same_setup one before setup found records has is =
    one has.text found setup (subst (λ (left : Option (List ℕ)). IsSetupOf left found) has.setup_is is) has.spelled

-- a fact of the setup that is found and of the records is one of the setup and the records that are known
of_reported : OneSetup → (before : OpeningPorts) (setup found : Setup) (records : List (List ℕ)) (P : Setup → Option (List (List ℕ)) → Type 0) →
    HasRecords before setup records → IsSetupOf before.setup_left found → P found before.records → P setup (Some records)
of_reported one before setup found records P has is fact =
    subst (λ (s : Setup). P s (Some records)) (same_setup one before setup found records has is) (subst (λ (all : Option (List (List ℕ))). P found all) has.records_are fact)

-- why the bank doesn't open
why : (before after : OpeningPorts) (found : Setup) (fault : OpenFault) (what : Told) → IsSetupOf before.setup_left found → what ≡ reported_of (Err (opening_stop fault))
    → StopsOpening found before.records before.keeper_faults after.keeper_faults (opening_stop fault) → DoesntOpen before after what
why before after found fault what is e cause = record {
  stop = opening_stop fault;
  reported_is = e;
  cause = inr (record { setup = found; found = is; cause = cause });
}

-- something of the outside failed, or memory was refused
outside_failed : (before after : OpeningPorts) (found : Setup) (what : Told) → IsSetupOf before.setup_left found → DoesntOpen before after what → IsInterrupted before after what → RefusesOpening before after what
outside_failed before after found what is ends gave = record {
  ends = ends;
  refuses_setup = found_spelled before after what found is;
  refuses_record = λ setup records number offset has unformed. inr gave;
  refuses_illegal = λ setup records number has illegal. inr gave;
  opens_else = λ setup records state has reopens. gave;
}

pub not_opened : OneSetup → OneBank → (before after : OpeningPorts) (found : Setup) (fault : OpenFault) (what : Told) → IsSetupOf before.setup_left found → what ≡ reported_of (Err (opening_stop fault))
    → HasCause found before.records fault → CountsFaults before.keeper_faults after.keeper_faults (fault ≡ opens.Read) → RefusesOpening before after what
not_opened one opening before after found opens.Read what is e cause counts =
    outside_failed before after found what is (why before after found opens.Read what is e (counts.cause refl)) (inr (inl (e, counts.cause refl)))
not_opened one opening before after found opens.OutOfMemory what is e cause counts =
    outside_failed before after found what is (why before after found opens.OutOfMemory what is e tt) (inr (inr e))
not_opened one opening before after found (opens.Record number offset) what is e cause counts = record {
  ends = why before after found (opens.Record number offset) what is e cause;
  refuses_setup = found_spelled before after what found is;
  refuses_record = λ setup records n p has unformed.
      let same = opening.formless setup records number n offset p (of_reported one before setup found records (λ (s : Setup) (all : Option (List (List ℕ))). HasNoForm s all number offset) has is cause) unformed in
      inl (e ∙ (ap (λ (k : ℕ). reported 9 (Record k offset)) same.0 ∙ ap (λ (k : ℕ). reported 9 (Record n k)) same.1));
  refuses_illegal = λ setup records n has illegal.
      absurd (opening.apart setup records number n offset (of_reported one before setup found records (λ (s : Setup) (all : Option (List (List ℕ))). HasNoForm s all number offset) has is cause) illegal);
  opens_else = λ setup records state has reopens.
      absurd (opening.formless_opens setup records state number offset (of_reported one before setup found records (λ (s : Setup) (all : Option (List (List ℕ))). HasNoForm s all number offset) has is cause) reopens);
}
not_opened one opening before after found (opens.Illegal number) what is e cause counts = record {
  ends = why before after found (opens.Illegal number) what is e cause;
  refuses_setup = found_spelled before after what found is;
  refuses_record = λ setup records n p has unformed.
      absurd (opening.apart setup records n number p unformed (of_reported one before setup found records (λ (s : Setup) (all : Option (List (List ℕ))). IsNotLegal s all number) has is cause));
  refuses_illegal = λ setup records n has illegal.
      inl (e ∙ ap (λ (k : ℕ). reported 9 (Illegal k)) (opening.illegal setup records number n (of_reported one before setup found records (λ (s : Setup) (all : Option (List (List ℕ))). IsNotLegal s all number) has is cause) illegal));
  opens_else = λ setup records state has reopens.
      absurd (opening.illegal_opens setup records state number (of_reported one before setup found records (λ (s : Setup) (all : Option (List (List ℕ))). IsNotLegal s all number) has is cause) reopens);
}
