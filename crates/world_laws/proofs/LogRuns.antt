-- The world's bank goes along each whole log of a served bank.
use Rattle.std.proofs.Common.{◌≡◌, ℕ, inl, inr, Bool, true, List, [], ◌∷◌, ◌++◌, fold, Option, None, Some, refl, sym, ap, subst, ◌∙◌, append_assoc}
use Rattle.std.specs.List.{AllByRecursion}
use Rattle.std.proofs.lemmas.List.{append-nil}
use Rattle.std.proofs.lemmas.List.Elements.{recursion_from_All}
use Rattle.std.proofs.lemmas.List.Sums.{fold-append}
use Rattle.std.proofs.lemmas.Option.{same_Some, none-some}
use Rattle.ofx_types.specs.declared.number.Moment.{Moment}
use Rattle.bank_model.specs.declared.event.Event.{Event}
use Rattle.bank_model.specs.declared.event.State.{State}
use Rattle.bank_model.specs.declared.log.LogItem.{LogItem}
use Rattle.bank_model.specs.declared.log.LogItem.TheVariants.{Effect, Answer, Adopted, Fault}
use Rattle.bank_model.specs.declared.setup.Setup.{Setup}
use Rattle.bank_model.specs.LegalLog.{AreLegalEndings, IsPending, IsUnsettled, after_ending}
use Rattle.bank_model.specs.Rules.{answer_to, state_after}
use Rattle.event_codec.specs.Coding.{coded}
use Rattle.event_codec.specs.Records.{Codes, Reopens}
use Rattle.bank_engine.specs.Kept.{CodeEndings}
use Rattle.ofx_world.specs.Server.{PendingView, ServerView, committed, reply_to, settled, settled_as}
use Rattle.world_laws.specs.ServedBank.{MayCommit, IsAnswered, IsAdopted, EndsAs, GoesAlong, ComesBy}

-- the world's bank with no fault set
abbrev pub bank : Setup → State → List (List ℕ) → Option PendingView → ServerView
bank setup state records pending = record { setup = setup; state = state; records = records; pending = pending; fault = None }

codes_itself : (rec : List ℕ) (at : Moment) (event : Event) → Codes rec at event → Codes (coded at event) at event
codes_itself rec at event codes = record { moment = codes.moment; within = codes.within; typed = codes.typed; spelled = refl }

-- ---- the event that waits

-- the event whose append failed last, where nothing was answered or adopted since
abbrev waits : Option (Event × Moment) → LogItem → Option (Event × Moment)
waits waiting (Effect entry) = waiting
waits waiting (Answer event at reply) = None
waits waiting (Adopted fault event at) = None
waits waiting (Fault count None) = waiting
waits waiting (Fault count (Some pending)) = Some pending

abbrev pub waiting : List LogItem → Option (Event × Moment)
waiting items = fold waits None items

waiting_more : (items : List LogItem) (item : LogItem) → waiting (items ++ item ∷ []) ≡ waits (waiting items) item
waiting_more items item = fold-append waits None items (item ∷ [])

still_waits : (found : Option (Event × Moment)) (later : List LogItem) → AllByRecursion IsUnsettled later → fold waits found later ≡ found
still_waits found [] all = refl
still_waits found (Effect entry ∷ more) all = absurd all.0
still_waits found (Answer event at reply ∷ more) all = absurd all.0
still_waits found (Adopted fault event at ∷ more) all = absurd all.0
still_waits found (Fault count None ∷ more) all = still_waits found more all.1
still_waits found (Fault count (Some pending) ∷ more) all = absurd all.0

pub pending_waits : (items : List LogItem) (number : ℕ) (event : Event) (at : Moment) → IsPending items number event at → waiting items ≡ Some (event, at)
pending_waits items number event at is =
    ap waiting is.parts ∙ fold-append waits None is.earlier (Fault is.count (Some (event, at)) ∷ is.later)
    ∙ still_waits (Some (event, at)) is.later (recursion_from_All IsUnsettled is.later is.unsettled)

-- ---- what comes of it

-- Whether its record is stored: it is where the event is adopted later, this much is known of it after the last ending, and
-- otherwise it was lost.
abbrev fate : Option Bool → List LogItem → Option Bool
fate final [] = final
fate final (Effect entry ∷ more) = None
fate final (Answer event at reply ∷ more) = None
fate final (Adopted fault event at ∷ more) = Some true
fate final (Fault count None ∷ more) = fate final more
fate final (Fault count (Some pending) ∷ more) = None

-- An event that was lost isn't pending at all.
abbrev pub seen : Option Bool → Option (Event × Moment) → Option PendingView
seen None found = None
seen (Some landed) None = None
seen (Some landed) (Some pending) = Some (record { event = pending.0; at = pending.1; landed = landed })

seen_none : (landed : Option Bool) → seen landed None ≡ None
seen_none None = refl
seen_none (Some landed) = refl

-- What waits after the last ending may be committed, where something is known of its record.
abbrev pub MayStay : Setup → State → Option Bool → List LogItem → Type 0
MayStay setup state final items = (landed : Bool) (event : Event) (at : Moment) → final ≡ Some landed → waiting items ≡ Some (event, at)
    → MayCommit setup state at event

-- ---- one ending

answered_as : (setup : Setup) (S : State) (records : List (List ℕ)) (event : Event) (at : Moment) (reply : List ℕ) → MayCommit setup S at event
    → reply ≡ answer_to setup S at event
    → IsAnswered (bank setup S records None) event at reply (bank setup (state_after setup S at event) (records ++ coded at event ∷ []) None)
unfolding settled committed reply_to
answered_as setup S records event at reply may is = record { may = may; reply_is = ap (λ (r : List ℕ). Some r) (sym is); after_is = refl }

adopted_as : (setup : Setup) (S : State) (records : List (List ℕ)) (pending : Option PendingView) (event : Event) (at : Moment)
    → pending ≡ Some (record { event = event; at = at; landed = true })
    → IsAdopted (bank setup S records pending) event at (bank setup (state_after setup S at event) (records ++ coded at event ∷ []) None)
unfolding settled
adopted_as setup S records pending event at is =
    record { pending = is; after_is = sym (ap (settled_as (bank setup S records pending)) is) }

put_off_as : (setup : Setup) (S : State) (records : List (List ℕ)) (count : ℕ) (pending : Event × Moment) (landed : Option Bool)
    → ((holds : Bool) → landed ≡ Some holds → MayCommit setup S pending.1 pending.0)
    → EndsAs (bank setup S records None) (Fault count (Some pending)) (bank setup S records (seen landed (Some pending)))
unfolding settled committed
put_off_as setup S records count pending None may = inr refl
put_off_as setup S records count pending (Some holds) may = inl (record { landed = holds; may = may holds refl; after_is = refl })

-- ---- all endings

along_between : (items : List LogItem) (before before' after after' : ServerView) → before ≡ before' → after ≡ after' → GoesAlong before items after
    → GoesAlong before' items after'
along_between items before before' after after' first last goes =
    subst (λ (s : ServerView). GoesAlong s items after') first (subst (λ (s : ServerView). GoesAlong before items s) last goes)

module _ (setup : Setup) (final : Option Bool) where
  -- the bank after these endings, with those that come
  abbrev at_ending : State → List (List ℕ) → List LogItem → List LogItem → ServerView
  at_ending S records before items = bank setup S records (seen (fate final items) (waiting before))

  -- and after the last one
  abbrev at_end : State → List (List ℕ) → List LogItem → ServerView
  at_end S records items = bank setup S records (seen final (waiting items))

  may_stay_on : (S : State) (before more : List LogItem) (item : LogItem) → MayStay setup S final (before ++ item ∷ more)
      → MayStay setup S final ((before ++ item ∷ []) ++ more)
  may_stay_on S before more item may = subst (MayStay setup S final) (sym (append_assoc before (item ∷ []) more)) may

  -- What waits and isn't lost may be committed.
  may_commit : (S : State) (before items : List LogItem) (records : List (List ℕ)) (landed : Bool) (event : Event) (at : Moment)
      → AreLegalEndings setup S before items → CodeEndings items records → MayStay setup (fold (after_ending setup) S items) final (before ++ items)
      → fate final items ≡ Some landed → waiting before ≡ Some (event, at) → MayCommit setup S at event
  may_commit S before [] records landed event at legal code may is found =
      may landed event at is (ap waiting (append-nil before) ∙ found)
  may_commit S before (Effect entry ∷ more) records landed event at legal code may is found = absurd legal.0
  may_commit S before (Answer other then reply ∷ more) records landed event at legal code may is found = absurd (none-some landed is)
  may_commit S before (Adopted fault other then ∷ more) [] landed event at legal code may is found = absurd code
  may_commit S before (Adopted fault other then ∷ more) (rec ∷ records) landed event at legal code may is found =
      subst (λ (pair : Event × Moment). MayCommit setup S pair.1 pair.0)
      (same_Some (other, then) (event, at) (sym (pending_waits before fault other then legal.0.1) ∙ found))
      (record { legal = legal.0.0.1; codes = codes_itself rec then other code.0 })
  may_commit S before (Fault count None ∷ more) records landed event at legal code may is found =
      may_commit S (before ++ Fault count None ∷ []) more records landed event at legal.1 code
      (may_stay_on (fold (after_ending setup) S more) before more (Fault count None) may) is (waiting_more before (Fault count None) ∙ found)
  may_commit S before (Fault count (Some pending) ∷ more) records landed event at legal code may is found = absurd (none-some landed is)

  -- the same end, as an event's record came to the records and its ending to the endings
  ended : (T : State) (records rest : List (List ℕ)) (rec other : List ℕ) (before more : List LogItem) (item : LogItem) → rec ≡ other
      → at_end T ((records ++ other ∷ []) ++ rest) ((before ++ item ∷ []) ++ more) ≡ at_end T (records ++ rec ∷ rest) (before ++ item ∷ more)
  ended T records rest rec other before more item same =
      ap (λ (r : List ℕ). at_end T ((records ++ r ∷ []) ++ rest) ((before ++ item ∷ []) ++ more)) (sym same)
      ∙ ap (λ (rs : List (List ℕ)). at_end T rs ((before ++ item ∷ []) ++ more)) (append_assoc records (rec ∷ []) rest)
      ∙ ap (at_end T (records ++ rec ∷ rest)) (append_assoc before (item ∷ []) more)

  -- the bank once an event has happened, after which none waits
  none_waits : (S : State) (records : List (List ℕ)) (before more : List LogItem) (item : LogItem) → waiting (before ++ item ∷ []) ≡ None
      → at_ending S records (before ++ item ∷ []) more ≡ bank setup S records None
  none_waits S records before more item none =
      ap (bank setup S records) (ap (seen (fate final more)) none ∙ seen_none (fate final more))

  goes_along : (S : State) (records : List (List ℕ)) (before items : List LogItem) (written : List (List ℕ)) → AreLegalEndings setup S before items
      → CodeEndings items written → MayStay setup (fold (after_ending setup) S items) final (before ++ items)
      → GoesAlong (at_ending S records before items) items (at_end (fold (after_ending setup) S items) (records ++ written) (before ++ items))
  goes_along S records before [] written legal code may =
      ap (λ (rs : List (List ℕ)). at_end S rs (before ++ [])) (ap (λ (w : List (List ℕ)). records ++ w) code ∙ append-nil records)
      ∙ ap (at_end S records) (append-nil before)
  goes_along S records before (Effect entry ∷ more) written legal code may = absurd legal.0
  goes_along S records before (Answer event at reply ∷ more) [] legal code may = absurd code
  goes_along S records before (Answer event at reply ∷ more) (rec ∷ written) legal code may = (
    bank setup (state_after setup S at event) (records ++ coded at event ∷ []) None,
    answered_as setup S records event at reply (record { legal = legal.0.0.1; codes = codes_itself rec at event code.0 }) legal.0.1,
    along_between more _ _ _ _
        (none_waits (state_after setup S at event) (records ++ coded at event ∷ []) before more (Answer event at reply) (waiting_more before (Answer event at reply)))
        (ended (fold (after_ending setup) (state_after setup S at event) more) records written rec (coded at event) before more (Answer event at reply) code.0.spelled)
        (goes_along (state_after setup S at event) (records ++ coded at event ∷ []) (before ++ Answer event at reply ∷ []) more written legal.1 code.1
        (may_stay_on (fold (after_ending setup) (state_after setup S at event) more) before more (Answer event at reply) may)),
  )
  goes_along S records before (Adopted fault event at ∷ more) [] legal code may = absurd code
  goes_along S records before (Adopted fault event at ∷ more) (rec ∷ written) legal code may = (
    bank setup (state_after setup S at event) (records ++ coded at event ∷ []) None,
    adopted_as setup S records (seen (Some true) (waiting before)) event at (ap (seen (Some true)) (pending_waits before fault event at legal.0.1)),
    along_between more _ _ _ _
        (none_waits (state_after setup S at event) (records ++ coded at event ∷ []) before more (Adopted fault event at) (waiting_more before (Adopted fault event at)))
        (ended (fold (after_ending setup) (state_after setup S at event) more) records written rec (coded at event) before more (Adopted fault event at) code.0.spelled)
        (goes_along (state_after setup S at event) (records ++ coded at event ∷ []) (before ++ Adopted fault event at ∷ []) more written legal.1 code.1
        (may_stay_on (fold (after_ending setup) (state_after setup S at event) more) before more (Adopted fault event at) may)),
  )
  goes_along S records before (Fault count None ∷ more) written legal code may = (
    at_ending S records before more,
    refl,
    along_between more _ _ _ _
        (ap (λ (found : Option (Event × Moment)). bank setup S records (seen (fate final more) found)) (waiting_more before (Fault count None)))
        (ap (at_end (fold (after_ending setup) S more) (records ++ written)) (append_assoc before (Fault count None ∷ []) more))
        (goes_along S records (before ++ Fault count None ∷ []) more written legal.1 code
        (may_stay_on (fold (after_ending setup) S more) before more (Fault count None) may)),
  )
  goes_along S records before (Fault count (Some pending) ∷ more) written legal code may = (
    bank setup S records (seen (fate final more) (Some pending)),
    put_off_as setup S records count pending (fate final more) (λ landed is.
        may_commit S (before ++ Fault count (Some pending) ∷ []) more written landed pending.0 pending.1 legal.1 code
        (may_stay_on (fold (after_ending setup) S more) before more (Fault count (Some pending)) may) is (waiting_more before (Fault count (Some pending)))),
    along_between more _ _ _ _
        (ap (λ (found : Option (Event × Moment)). bank setup S records (seen (fate final more) found)) (waiting_more before (Fault count (Some pending))))
        (ap (at_end (fold (after_ending setup) S more) (records ++ written)) (append_assoc before (Fault count (Some pending) ∷ []) more))
        (goes_along S records (before ++ Fault count (Some pending) ∷ []) more written legal.1 code
        (may_stay_on (fold (after_ending setup) S more) before more (Fault count (Some pending)) may)),
  )

  pub goes_to_end : (S : State) (records : List (List ℕ)) (items : List LogItem) (written : List (List ℕ)) → AreLegalEndings setup S [] items
      → CodeEndings items written → MayStay setup (fold (after_ending setup) S items) final items
      → GoesAlong (bank setup S records None) items (at_end (fold (after_ending setup) S items) (records ++ written) items)
  goes_to_end S records items written legal code may =
      along_between items _ _ _ _ (ap (bank setup S records) (seen_none (fate final items))) refl (goes_along S records [] items written legal code may)

-- ---- the records from which a bank opens

pub comes_by : (setup : Setup) (S T : State) (records first : List (List ℕ)) → Reopens setup S first T
    → ComesBy (bank setup S records None) first (bank setup T (records ++ first) None)
unfolding committed
comes_by setup S T records [] reopens =
    ap (λ (state : State). bank setup state (records ++ []) None) reopens ∙ ap (λ (rs : List (List ℕ)). bank setup S rs None) (append-nil records)
comes_by setup S T records (rec ∷ more) (at, event, codes, legal, rest) = (
  at,
  event,
  codes,
  record { legal = legal; codes = codes_itself rec at event codes },
  subst (λ (rs : List (List ℕ)). ComesBy (bank setup (state_after setup S at event) (records ++ coded at event ∷ []) None) more (bank setup T rs None))
      (ap (λ (r : List ℕ). (records ++ r ∷ []) ++ more) (sym codes.spelled) ∙ append_assoc records (rec ∷ []) more)
      (comes_by setup (state_after setup S at event) T (records ++ coded at event ∷ []) more rest),
)
