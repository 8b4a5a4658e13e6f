-- The records of a bank, after each thing that happens to it.
use Rattle.std.proofs.Common.{◌≡◌, ℕ, ◌⊎◌, inl, inr, List, [], ◌∷◌, ◌++◌, Bool, true, false, Option, None, Some, refl, sym, ap, ◌∙◌, subst, append_assoc}
use Rattle.std.specs.Option.{IfSome, IsSomeAnd}
use Rattle.std.proofs.lemmas.List.{append-nil}
use Rattle.ofx_types.specs.declared.number.Moment.{Moment}
use Rattle.ofx_ports.specs.Known.{Stays, Grows}
use Rattle.ofx_ports.specs.Kept.{MayGrow}
use Rattle.bank_model.specs.declared.event.Event.{Event}
use Rattle.bank_model.specs.declared.event.State.{State}
use Rattle.bank_model.specs.declared.log.LogItem.{LogItem}
use Rattle.bank_model.specs.declared.log.LogItem.TheVariants.{Adopted, Fault}
use Rattle.bank_model.specs.declared.setup.Setup.{Setup}
use Rattle.bank_model.specs.Log.{endings}
use Rattle.event_codec.specs.Records.{Codes}
use Rattle.bank_engine.specs.Kept.{CodeEndings, HasLanded, IsLost, MayRemain, AreKept}
use Rattle.bank_engine.specs.Views.{PendingView}
use Rattle.bank_engine.proofs.LogLemmas.{codes_more}

-- ---- lists that are known

pub reported_grows : (reported reported' : Option (List (List ℕ))) (more : List (List ℕ)) (P Q : List (List ℕ) → Type 0) → Grows reported reported' more → ((rs : List (List ℕ)) → P rs → Q (rs ++ more)) → IsSomeAnd reported P → IsSomeAnd reported' Q
reported_grows None reported' more P Q grows step is = absurd is
reported_grows (Some rs) None more P Q grows step is = absurd grows
reported_grows (Some rs) (Some rs') more P Q grows step is = subst Q (sym grows) (step rs is)

pub reported_stays : (reported reported' : Option (List (List ℕ))) (P Q : List (List ℕ) → Type 0) → Stays reported reported' → ((rs : List (List ℕ)) → P rs → Q rs) → IsSomeAnd reported P → IsSomeAnd reported' Q
reported_stays None reported' P Q stays step is = absurd is
reported_stays (Some rs) None P Q stays step is = absurd stays
reported_stays (Some rs) (Some rs') P Q stays step is = subst Q (sym stays) (step rs is)

pub reported_may : (reported reported' : Option (List (List ℕ))) (landed : Option Bool) (rec : List ℕ) (P Q : List (List ℕ) → Type 0) → MayGrow reported reported' landed rec → ((rs : List (List ℕ)) → landed ≡ Some true → P rs → Q (rs ++ rec ∷ [])) → ((rs : List (List ℕ)) → landed ≡ Some false → P rs → Q rs) → IsSomeAnd reported P → IsSomeAnd reported' Q
reported_may None reported' landed rec P Q may lands not is = absurd is
reported_may (Some rs) reported' None rec P Q may lands not is = absurd may
reported_may (Some rs) reported' (Some true) rec P Q may lands not is = reported_grows (Some rs) reported' (rec ∷ []) P Q may (λ l p. lands l refl p) is
reported_may (Some rs) reported' (Some false) rec P Q may lands not is = reported_stays (Some rs) reported' P Q may (λ l p. not l refl p) is

pub where_opened : (opened : Option (List (List ℕ))) (P Q : List (List ℕ) → Type 0) → ((first : List (List ℕ)) → P first → Q first) → IfSome opened P → IfSome opened Q
where_opened None P Q step is = tt
where_opened (Some first) P Q step is = step first is

-- ---- the records

-- a record of the event that is answered comes after the others
pub kept_more : (setup : Setup) (opening : State) (first : List (List ℕ)) (log log' : List LogItem) (item : LogItem) (landed landed' : Option Bool) (rec : List ℕ) (rs : List (List ℕ)) → endings log' ≡ endings log ++ item ∷ [] → CodeEndings (item ∷ []) (rec ∷ []) → AreKept setup opening first log landed None rs → AreKept setup opening first log' landed' None (rs ++ rec ∷ [])
kept_more setup opening first log log' item landed landed' rec rs is codes kept = record {
  opened = kept.opened;
  coded = kept.coded ++ rec ∷ [];
  besides = [];
  parts =
      ap (λ (l : List (List ℕ)). l ++ rec ∷ [])
      (kept.parts ∙ ap (λ (l : List (List ℕ)). first ++ kept.coded ++ l) kept.may_remain ∙ append-nil (first ++ kept.coded))
      ∙ append_assoc first kept.coded (rec ∷ []) ∙ sym (append-nil (first ++ (kept.coded ++ rec ∷ [])));
  code = subst (λ (l : List LogItem). CodeEndings l (kept.coded ++ rec ∷ [])) (sym is) (codes_more (endings log) kept.coded item (rec ∷ []) kept.code codes);
  may_remain = refl;
}

-- the record of the pending event, which has landed, becomes that of the adopted one
pub kept_adopted : (setup : Setup) (opening : State) (first : List (List ℕ)) (log log' : List LogItem) (pending : PendingView) (landed landed' : Option Bool) (rs : List (List ℕ)) → endings log' ≡ endings log ++ Adopted pending.number pending.event pending.at ∷ [] → (landed ≡ Some false → ⊥) → AreKept setup opening first log landed (Some pending) rs → AreKept setup opening first log' landed' None rs
kept_adopted setup opening first log log' pending landed landed' rs is never kept = by kept.may_remain
  where
    by : MayRemain landed (Some pending) kept.besides → AreKept setup opening first log' landed' None rs
    by (inr lost) = absurd (never lost.is_reported)
    by (inl there) = record {
      opened = kept.opened;
      coded = kept.coded ++ there.rec ∷ [];
      besides = [];
      parts =
          kept.parts ∙ ap (λ (l : List (List ℕ)). first ++ kept.coded ++ l) there.is_it
          ∙ append_assoc first kept.coded (there.rec ∷ []) ∙ sym (append-nil (first ++ (kept.coded ++ there.rec ∷ [])));
      code =
          subst (λ (l : List LogItem). CodeEndings l (kept.coded ++ there.rec ∷ [])) (sym is)
          (codes_more (endings log) kept.coded (Adopted pending.number pending.event pending.at) (there.rec ∷ []) kept.code (there.codes, refl));
      may_remain = refl;
    }

-- the record of the pending event hasn't landed, and isn't pending any more
pub kept_dropped : (setup : Setup) (opening : State) (first : List (List ℕ)) (log : List LogItem) (pending : PendingView) (landed landed' : Option Bool) (rs : List (List ℕ)) → (landed ≡ Some true → ⊥) → AreKept setup opening first log landed (Some pending) rs → AreKept setup opening first log landed' None rs
kept_dropped setup opening first log pending landed landed' rs never kept = by kept.may_remain
  where
    by : MayRemain landed (Some pending) kept.besides → AreKept setup opening first log landed' None rs
    by (inl there) = absurd (never there.is_reported)
    by (inr lost) = record {
      opened = kept.opened;
      coded = kept.coded;
      besides = kept.besides;
      parts = kept.parts;
      code = kept.code;
      may_remain = lost.none;
    }

-- what the log says of a fault is of no event
code_fault : (log log' : List LogItem) (count : ℕ) (of : Option (Event × Moment)) (coded : List (List ℕ)) → endings log' ≡ endings log ++ Fault count of ∷ [] → CodeEndings (endings log) coded → CodeEndings (endings log') coded
code_fault log log' count of coded is code =
    subst (λ (l : List LogItem). CodeEndings l coded) (sym is)
    (subst (CodeEndings (endings log ++ Fault count of ∷ [])) (append-nil coded) (codes_more (endings log) coded (Fault count of) [] code refl))

-- what is pending couldn't be settled
pub kept_still : (setup : Setup) (opening : State) (first : List (List ℕ)) (log log' : List LogItem) (count : ℕ) (landed landed' : Option Bool) (pending : Option PendingView) (rs : List (List ℕ)) → endings log' ≡ endings log ++ Fault count None ∷ [] → landed' ≡ landed → AreKept setup opening first log landed pending rs → AreKept setup opening first log' landed' pending rs
kept_still setup opening first log log' count landed landed' pending rs is same kept = record {
  opened = kept.opened;
  coded = kept.coded;
  besides = kept.besides;
  parts = kept.parts;
  code = code_fault log log' count None kept.coded is kept.code;
  may_remain = subst (λ (l : Option Bool). MayRemain l pending kept.besides) (sym same) kept.may_remain;
}

-- an append failed, and its record has landed
pub kept_landed : (setup : Setup) (opening : State) (first : List (List ℕ)) (log log' : List LogItem) (count : ℕ) (pending : PendingView) (landed landed' : Option Bool) (rec : List ℕ) (rs : List (List ℕ)) → endings log' ≡ endings log ++ Fault count (Some (pending.event, pending.at)) ∷ [] → Codes rec pending.at pending.event → landed' ≡ Some true → AreKept setup opening first log landed None rs → AreKept setup opening first log' landed' (Some pending) (rs ++ rec ∷ [])
kept_landed setup opening first log log' count pending landed landed' rec rs is codes lands kept = record {
  opened = kept.opened;
  coded = kept.coded;
  besides = rec ∷ [];
  parts =
      ap (λ (l : List (List ℕ)). l ++ rec ∷ [])
      (kept.parts ∙ ap (λ (l : List (List ℕ)). first ++ kept.coded ++ l) kept.may_remain ∙ append-nil (first ++ kept.coded));
  code = code_fault log log' count (Some (pending.event, pending.at)) kept.coded is kept.code;
  may_remain = inl (record { is_reported = lands; rec = rec; codes = codes; is_it = refl });
}

-- an append failed, and its record hasn't landed
pub kept_lost : (setup : Setup) (opening : State) (first : List (List ℕ)) (log log' : List LogItem) (count : ℕ) (pending : PendingView) (landed landed' : Option Bool) (rs : List (List ℕ)) → endings log' ≡ endings log ++ Fault count (Some (pending.event, pending.at)) ∷ [] → landed' ≡ Some false → AreKept setup opening first log landed None rs → AreKept setup opening first log' landed' (Some pending) rs
kept_lost setup opening first log log' count pending landed landed' rs is lost kept = record {
  opened = kept.opened;
  coded = kept.coded;
  besides = kept.besides;
  parts = kept.parts;
  code = code_fault log log' count (Some (pending.event, pending.at)) kept.coded is kept.code;
  may_remain = inr (record { is_reported = lost; none = kept.may_remain });
}

-- nothing is pending, and the log is as it was
pub kept_idle : (setup : Setup) (opening : State) (first : List (List ℕ)) (log log' : List LogItem) (landed landed' : Option Bool) (rs : List (List ℕ)) → log' ≡ log → AreKept setup opening first log landed None rs → AreKept setup opening first log' landed' None rs
kept_idle setup opening first log log' landed landed' rs same kept = record {
  opened = kept.opened;
  coded = kept.coded;
  besides = kept.besides;
  parts = kept.parts;
  code = subst (λ (l : List LogItem). CodeEndings (endings l) kept.coded) (sym same) kept.code;
  may_remain = kept.may_remain;
}
