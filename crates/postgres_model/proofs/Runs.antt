-- The invariant holds in every world that a schedule reaches, and what was told is never taken back.
use Rattle.std.proofs.Common.{◌≡◌, ℕ, zero, suc, ◌+◌, ◌<◌, ◌≤◌, ◌≢◌, ◌⊎◌, Bool, true, false, cond, eqb, List, [], ◌∷◌, ◌++◌, length, slice_get, Option, Some, None, refl, sym, ap, ap₂, subst, ◌∙◌, arith, inl, inr, append-nil}
use Rattle.std.proofs.lemmas.Bool.{cases_eq, cases_Bool, cases_lt, eqb-true}
use Rattle.postgres_model.specs.Engine.{Row, Log, numbered, taken, is_taken, Request, Take, Retake, Append, Answer, Took, NotHolder, Inserted, Duplicate, after, answer}
use Rattle.postgres_model.specs.World.{Call, Unsent, Waits, Done, updated, Engine, sending, done, Keeper, Closed, Taking, Idle, Appending, Unsettled, Settling, Held, next_number, silent, Told, heard, given_up, Acknowledged, Settled, World, Event, Open, Add, Settle, Do, Hear, GiveUp, Crash, asked, opened, added, settling, with_engine, learnt, happens, run, start}
use Rattle.postgres_model.proofs.Lists.{get-append, get-after}
use Rattle.postgres_model.proofs.Tables.{free}
use Rattle.postgres_model.proofs.Invariant.{updated-here, updated-else, IsSound, Knows, IsKeeper, IsPending, IsAcknowledged, IsSettled, IsWorld}
use Rattle.postgres_model.proofs.Steps.{IsStep, step-keeper, step-acknowledged, step-settled}
use Rattle.postgres_model.proofs.Effects.{ended, not-zero, take-sound, take-step, retake-sound, retake-step, grown, landing-sound, landing-step, IsRefusal, refused-sound, refused-step}
use Rattle.postgres_model.proofs.Asking.{MaySend, IsQuiet, sending-sound, sending-keeper, sending-settled, opening-keeper, settling-keeper, may-append, append-quiet, appending-keeper}
use Rattle.postgres_model.proofs.Hearing.{IsTold, is-silent, is-heard, is-given-up}

-- ---- one keeper changes

keepers-with : (e : Engine) (recs : List (List ℕ)) (keepers : ℕ → Keeper) (k : ℕ) (new : Keeper)
    → ((j : ℕ) → j ≢ k → IsKeeper e recs j (keepers j)) → IsKeeper e recs k new → (j : ℕ) → IsKeeper e recs j (updated keepers k new j)
keepers-with e recs keepers k new others h j =
    elim (cases_eq j k) [
      | inl here ↦
          let there : IsKeeper e recs k (updated keepers k new k) = subst (IsKeeper e recs k) (sym (updated-here keepers k new)) h in
          subst (λ n. IsKeeper e recs n (updated keepers k new n)) (sym here) there
      | inr ne ↦ subst (IsKeeper e recs j) (sym (updated-else keepers k new j ne)) (others j ne)
    ]

-- an item of a list with more at its end is one of the list or of what is more
in-either : {A : Type 0} (P : A → Type 0) (xs ys : List A) → ((i : ℕ) (x : A) → slice_get xs i ≡ Some x → P x) → ((i : ℕ) (x : A) → slice_get ys i ≡ Some x → P x)
    → (i : ℕ) (x : A) → slice_get (xs ++ ys) i ≡ Some x → P x
in-either P [] ys before after i x is = after i x is
in-either P (y ∷ xs) ys before after zero x is = before zero x is
in-either P (y ∷ xs) ys before after (suc i) x is = in-either P xs ys (λ j z at. before (suc j) z at) after i x is

learnt-world : (w : World) (recs : List (List ℕ)) (k : ℕ) (reported : Told) → IsWorld w recs → IsTold w.engine recs k reported → IsWorld (learnt w k reported) recs
learnt-world w recs k reported h t = record {
  engine = h.engine;
  keepers = keepers-with w.engine recs w.keepers k reported.keeper (λ j ne. h.keepers j) t.keeper;
  acknowledged = in-either (IsAcknowledged w.engine recs) w.acknowledged reported.acknowledged h.acknowledged t.acknowledged;
  settled = in-either (IsSettled w.engine) w.settled reported.settled h.settled t.settled;
}

-- ---- the engine does a call

step-world : (w : World) (recs : List (List ℕ)) (i by : ℕ) (request : Request) (found : Answer) (new : Engine) (more : List (List ℕ)) → IsWorld w recs → 0 ≢ i
    → IsSound new more → IsStep w.engine recs i by request found new more → IsWorld (with_engine w new) more
step-world w recs i by request found new more h ne sound s = record {
  engine = sound;
  keepers = λ k. step-keeper w.engine recs i by request found new more s k (w.keepers k) ne (h.keepers k);
  acknowledged = λ j a is. step-acknowledged w.engine recs i by request found new more s a (h.acknowledged j a is);
  settled = λ j t is. step-settled w.engine recs i by request found new more s t (h.settled j t is);
}

abbrev Reached : World → Type 0
Reached w = (recs : List (List ℕ)) × IsWorld w recs

module _ (w : World) (recs : List (List ℕ)) (h : IsWorld w recs) (i by : ℕ) where
  -- what is done, by the answer and the log that a request leaves
  by-effect : (request : Request) (found : Answer) (log : Log) → answer w.engine.log request ≡ found → after w.engine.log request ≡ log
      → Reached (with_engine w (ended w.engine i by request found log)) → Reached (with_engine w (done w.engine i (Waits by request)))
  by-effect request found log a b r =
      subst (λ e. Reached (with_engine w e)) (sym (ap₂ (λ x y. ended w.engine i by request x y) a b)) r

  refused-world : (request : Request) → w.engine.calls i ≡ Waits by request → (found : Answer) → IsRefusal found → ((token : ℕ) → request ≡ Take token → ⊥)
      → Reached (with_engine w (ended w.engine i by request found w.engine.log))
  refused-world request waits found refusal no-take = (
    recs,
    step-world w recs i by request found (ended w.engine i by request found w.engine.log) recs h (not-zero w.engine recs h.engine i by request waits)
        (refused-sound w.engine recs h.engine i by request waits found refusal no-take)
        (refused-step w.engine recs h.engine i by request waits found refusal no-take),
  )

  do-take : (token : ℕ) → w.engine.calls i ≡ Waits by (Take token) → Reached (with_engine w (done w.engine i (Waits by (Take token))))
  do-take token waits = (
    recs,
    step-world w recs i by (Take token) (Took (suc w.engine.log.epoch) w.engine.log.rows) (done w.engine i (Waits by (Take token))) recs h
        (not-zero w.engine recs h.engine i by (Take token) waits)
        (take-sound w.engine recs h.engine i by token waits) (take-step w.engine recs h.engine i by token waits),
  )

  do-retake : (token : ℕ) → w.engine.calls i ≡ Waits by (Retake token) → Reached (with_engine w (done w.engine i (Waits by (Retake token))))
  do-retake token waits =
      elim (cases_Bool (eqb w.engine.log.holder token)) [
        | inl is ↦
            by-effect (Retake token) (Took (suc w.engine.log.epoch) w.engine.log.rows) (taken w.engine.log token) (rw is refl) (rw is refl) (
              recs,
              step-world w recs i by (Retake token) (Took (suc w.engine.log.epoch) w.engine.log.rows)
                  (ended w.engine i by (Retake token) (Took (suc w.engine.log.epoch) w.engine.log.rows) (taken w.engine.log token)) recs h
                  (not-zero w.engine recs h.engine i by (Retake token) waits)
                  (retake-sound w.engine recs h.engine i by token waits (eqb-true _ _ is)) (retake-step w.engine recs h.engine i by token waits (eqb-true _ _ is)),
            )
        | inr other ↦
            by-effect (Retake token) NotHolder w.engine.log (rw other refl) (rw other refl)
            (refused-world (Retake token) waits NotHolder tt (λ t is. absurd cc))
      ]

  -- An append under the log's epoch finds its numbers free.
  do-landing : (first : ℕ) (group : List (List ℕ)) → w.engine.calls i ≡ Waits by (Append w.engine.log.epoch first group) → eqb w.engine.log.epoch w.engine.log.epoch ≡ true
      → Reached (with_engine w (done w.engine i (Waits by (Append w.engine.log.epoch first group))))
  do-landing first group waits same =
      let offset = h.engine.next i by first group waits in
      let none : is_taken first group w.engine.log.rows ≡ false = ap (is_taken first group) h.engine.rows ∙ free first group recs (omega arith) in
      by-effect (Append w.engine.log.epoch first group) (Inserted (length group)) (grown w.engine recs h.engine i by first group waits) (rw (same, none) refl) (rw (same, none) refl) (
        recs ++ group,
        step-world w recs i by (Append w.engine.log.epoch first group) (Inserted (length group))
            (ended w.engine i by (Append w.engine.log.epoch first group) (Inserted (length group)) (grown w.engine recs h.engine i by first group waits)) (recs ++ group) h
            (not-zero w.engine recs h.engine i by (Append w.engine.log.epoch first group) waits)
            (landing-sound w.engine recs h.engine i by first group waits) (landing-step w.engine recs h.engine i by first group waits),
      )

  do-append : (epoch first : ℕ) (group : List (List ℕ)) → w.engine.calls i ≡ Waits by (Append epoch first group)
      → Reached (with_engine w (done w.engine i (Waits by (Append epoch first group))))
  do-append epoch first group waits =
      elim (cases_Bool (eqb w.engine.log.epoch epoch)) [
        | inl is ↦
            let e : w.engine.log.epoch ≡ epoch = eqb-true _ _ is in
            subst (λ n. Reached (with_engine w (done w.engine i (Waits by (Append n first group))))) e
            (do-landing first group (waits ∙ ap (λ n. Waits by (Append n first group)) (sym e)) (subst (λ n. eqb w.engine.log.epoch n ≡ true) (sym e) is))
        | inr other ↦
            by-effect (Append epoch first group) (Inserted 0) w.engine.log (rw other refl) (rw other refl)
            (refused-world (Append epoch first group) waits (Inserted 0) tt (λ t is. absurd cc))
      ]

do-world : (w : World) (recs : List (List ℕ)) → IsWorld w recs → (i : ℕ) (c : Call) → w.engine.calls i ≡ c → Reached (with_engine w (done w.engine i c))
do-world w recs h i Unsent is = (recs, h)
do-world w recs h i (Waits by (Take token)) is = do-take w recs h i by token is
do-world w recs h i (Waits by (Retake token)) is = do-retake w recs h i by token is
do-world w recs h i (Waits by (Append epoch first group)) is = do-append w recs h i by epoch first group is
do-world w recs h i (Done by request found) is = (recs, h)

-- ---- a keeper calls

asked-world : (w : World) (recs : List (List ℕ)) (k : ℕ) (request : Request) (keeper : Keeper) (h : IsWorld w recs) → MaySend w.engine recs h.engine k request
    → ((j : ℕ) → j ≢ k → IsQuiet w.engine recs h.engine k request j) → IsKeeper (sending w.engine k request) recs k keeper → IsWorld (asked w k request keeper) recs
asked-world w recs k request keeper h may quiet new = record {
  engine = sending-sound w.engine recs h.engine k request may;
  keepers = keepers-with (sending w.engine k request) recs w.keepers k keeper
      (λ j ne. sending-keeper w.engine recs h.engine k request j (w.keepers j) (quiet j ne) (h.keepers j)) new;
  acknowledged = h.acknowledged;
  settled = λ j s is. sending-settled w.engine recs h.engine k request s (h.settled j s is);
}

open-world : (w : World) (recs : List (List ℕ)) → IsWorld w recs → (k : ℕ) (keeper : Keeper) → IsWorld (opened w k keeper) recs
open-world w recs h k Closed =
    asked-world w recs k (Take (suc w.engine.sent)) (Taking (suc w.engine.sent)) h
    (record {
      token = λ token is. let a : suc w.engine.sent ≡ token = cc in sym a;
      epoch = λ epoch first group is. absurd cc;
      next = λ first group is. absurd cc;
      one = λ first group is. absurd cc;
    })
    (λ j ne token first group done at is. absurd cc)
    (opening-keeper w.engine recs h.engine k)
open-world w recs h k (Taking call) = h
open-world w recs h k (Idle held) = h
open-world w recs h k (Appending held group append) = h
open-world w recs h k (Unsettled held group append) = h
open-world w recs h k (Settling held group append retake) = h

add-world : (w : World) (recs : List (List ℕ)) → IsWorld w recs → (k : ℕ) (group : List (List ℕ)) → 0 < length group → (keeper : Keeper)
    → IsKeeper w.engine recs k keeper → IsWorld (added w k group keeper) recs
add-world w recs h k group some Closed knows = h
add-world w recs h k group some (Taking call) knows = h
add-world w recs h k group some (Idle held) knows =
    asked-world w recs k (Append held.epoch (next_number held) group) (Appending held group (suc w.engine.sent)) h
    (may-append w.engine recs h.engine k held group knows)
    (append-quiet w.engine recs h.engine k held group knows)
    (appending-keeper w.engine recs h.engine k held group knows some)
add-world w recs h k group some (Appending held old append) knows = h
add-world w recs h k group some (Unsettled held old append) knows = h
add-world w recs h k group some (Settling held old append retake) knows = h

settle-world : (w : World) (recs : List (List ℕ)) → IsWorld w recs → (k : ℕ) (keeper : Keeper) → IsKeeper w.engine recs k keeper → IsWorld (settling w k keeper) recs
settle-world w recs h k Closed knows = h
settle-world w recs h k (Taking call) knows = h
settle-world w recs h k (Idle held) knows = h
settle-world w recs h k (Appending held group append) knows = h
settle-world w recs h k (Unsettled held group append) knows =
    asked-world w recs k (Retake held.token) (Settling held group append (suc w.engine.sent)) h
    (record {
      token = λ token is. absurd cc;
      epoch = λ epoch first rest is. absurd cc;
      next = λ first rest is. absurd cc;
      one = λ first rest is. absurd cc;
    })
    (λ j ne token first rest done at is. absurd cc)
    (settling-keeper w.engine recs h.engine k held group append knows)
settle-world w recs h k (Settling held group append retake) knows = h

-- ---- every schedule

pub happens-world : (w : World) (recs : List (List ℕ)) → IsWorld w recs → (event : Event) → Reached (happens w event)
happens-world w recs h (Open k) = (recs, open-world w recs h k (w.keepers k))
happens-world w recs h (Add k one more) = (recs, add-world w recs h k (one ∷ more) (omega arith) (w.keepers k) (h.keepers k))
happens-world w recs h (Settle k) = (recs, settle-world w recs h k (w.keepers k) (h.keepers k))
happens-world w recs h (Do call) = do-world w recs h call (w.engine.calls call) refl
happens-world w recs h (Hear k) = (recs, learnt-world w recs k (heard k (w.keepers k) w.engine.calls) h (is-heard w.engine recs h.engine k (w.keepers k) (h.keepers k)))
happens-world w recs h (GiveUp k) = (
  recs,
  learnt-world w recs k (silent (given_up (w.keepers k))) h
      (is-silent w.engine recs h.engine k (given_up (w.keepers k)) (is-given-up w.engine recs h.engine k (w.keepers k) (h.keepers k))),
)
happens-world w recs h (Crash k) = (recs, learnt-world w recs k (silent Closed) h (is-silent w.engine recs h.engine k Closed tt))

pub run-world : (w : World) (recs : List (List ℕ)) → IsWorld w recs → (events : List Event) → (more : List (List ℕ)) × IsWorld (run w events) more
run-world w recs h [] = (recs, h)
run-world w recs h (event ∷ events) =
    let next = happens-world w recs h event in
    run-world (happens w event) next.0 next.1 events

pub start-world : IsWorld start []
start-world = record {
  engine = record {
    rows = refl;
    makers = refl;
    unsent = λ i late. refl;
    none = refl;
    holder = omega arith;
    free = λ i by request is. absurd cc;
    tokens = λ i by token is. absurd cc;
    epochs = λ i by epoch first group is. absurd cc;
    next = λ i by first group is. absurd cc;
    one = λ i j by other first second group more is also. absurd cc;
    landed = λ i by epoch first group answer is inserted. absurd cc;
  };
  keepers = λ k. tt;
  acknowledged = λ i a is. absurd cc;
  settled = λ i s is. absurd cc;
}

pub every-world : (events : List Event) → (recs : List (List ℕ)) × IsWorld (run start events) recs
every-world events = run-world start [] start-world events

-- ---- what was told stays told

opened-reports : (w : World) (k : ℕ) (keeper : Keeper) → (w.acknowledged ≡ (opened w k keeper).acknowledged) × (w.settled ≡ (opened w k keeper).settled)
opened-reports w k Closed = (refl, refl)
opened-reports w k (Taking call) = (refl, refl)
opened-reports w k (Idle held) = (refl, refl)
opened-reports w k (Appending held group append) = (refl, refl)
opened-reports w k (Unsettled held group append) = (refl, refl)
opened-reports w k (Settling held group append retake) = (refl, refl)

added-reports : (w : World) (k : ℕ) (new : List (List ℕ)) (keeper : Keeper) → (w.acknowledged ≡ (added w k new keeper).acknowledged) × (w.settled ≡ (added w k new keeper).settled)
added-reports w k new Closed = (refl, refl)
added-reports w k new (Taking call) = (refl, refl)
added-reports w k new (Idle held) = (refl, refl)
added-reports w k new (Appending held group append) = (refl, refl)
added-reports w k new (Unsettled held group append) = (refl, refl)
added-reports w k new (Settling held group append retake) = (refl, refl)

settling-reports : (w : World) (k : ℕ) (keeper : Keeper) → (w.acknowledged ≡ (settling w k keeper).acknowledged) × (w.settled ≡ (settling w k keeper).settled)
settling-reports w k Closed = (refl, refl)
settling-reports w k (Taking call) = (refl, refl)
settling-reports w k (Idle held) = (refl, refl)
settling-reports w k (Appending held group append) = (refl, refl)
settling-reports w k (Unsettled held group append) = (refl, refl)
settling-reports w k (Settling held group append retake) = (refl, refl)

pub reports-on : (w : World) (event : Event) → ((j : ℕ) (a : Acknowledged) → slice_get w.acknowledged j ≡ Some a → slice_get (happens w event).acknowledged j ≡ Some a)
    × ((j : ℕ) (s : Settled) → slice_get w.settled j ≡ Some s → slice_get (happens w event).settled j ≡ Some s)
reports-on w (Open k) = let t = opened-reports w k (w.keepers k) in
    (λ j a is. ap (λ xs. slice_get xs j) (sym t.0) ∙ is, λ j s is. ap (λ xs. slice_get xs j) (sym t.1) ∙ is)
reports-on w (Add k one more) = let t = added-reports w k (one ∷ more) (w.keepers k) in
    (λ j a is. ap (λ xs. slice_get xs j) (sym t.0) ∙ is, λ j s is. ap (λ xs. slice_get xs j) (sym t.1) ∙ is)
reports-on w (Settle k) = let t = settling-reports w k (w.keepers k) in
    (λ j a is. ap (λ xs. slice_get xs j) (sym t.0) ∙ is, λ j s is. ap (λ xs. slice_get xs j) (sym t.1) ∙ is)
reports-on w (Do call) = (λ j a is. is, λ j s is. is)
reports-on w (Hear k) = (
  λ j a is. get-append w.acknowledged (heard k (w.keepers k) w.engine.calls).acknowledged j a is,
  λ j s is. get-append w.settled (heard k (w.keepers k) w.engine.calls).settled j s is,
)
reports-on w (GiveUp k) = (λ j a is. get-append w.acknowledged [] j a is, λ j s is. get-append w.settled [] j s is)
reports-on w (Crash k) = (λ j a is. get-append w.acknowledged [] j a is, λ j s is. get-append w.settled [] j s is)

pub stays-acknowledged : (w : World) (events : List Event) (j : ℕ) (a : Acknowledged) → slice_get w.acknowledged j ≡ Some a → slice_get (run w events).acknowledged j ≡ Some a
stays-acknowledged w [] j a is = is
stays-acknowledged w (event ∷ events) j a is = stays-acknowledged (happens w event) events j a ((reports-on w event).0 j a is)

pub stays-settled : (w : World) (events : List Event) (j : ℕ) (s : Settled) → slice_get w.settled j ≡ Some s → slice_get (run w events).settled j ≡ Some s
stays-settled w [] j s is = is
stays-settled w (event ∷ events) j s is = stays-settled (happens w event) events j s ((reports-on w event).1 j s is)

-- one schedule after another
pub run-on : (w : World) (early late : List Event) → run w (early ++ late) ≡ run (run w early) late
run-on w [] late = refl
run-on w (event ∷ early) late = run-on (happens w event) early late
