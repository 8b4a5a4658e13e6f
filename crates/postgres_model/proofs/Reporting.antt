-- What a take was told has every append of the epochs before it.
use Rattle.std.proofs.Common.{◌≡◌, ℕ, zero, suc, ◌+◌, ◌<◌, ◌≤◌, ◌≢◌, ◌⊎◌, Bool, true, false, cond, eqb, List, [], ◌∷◌, ◌++◌, length, refl, sym, ap, subst, ◌∙◌, arith, inl, inr}
use Rattle.std.proofs.lemmas.Bool.{cases_eq, cases_Bool, eqb-true}
use Rattle.postgres_model.specs.Engine.{Row, Log, numbered, taken, is_taken, Request, Take, Retake, Append, Answer, Took, NotHolder, Inserted, Duplicate, has_inserted, after, answer, append_answer}
use Rattle.postgres_model.specs.World.{Call, Unsent, Waits, Done, updated, Engine, sending, done, Keeper, Closed, Taking, Idle, Appending, Unsettled, Settling, World, Event, Open, Add, Settle, Do, Hear, GiveUp, Crash, opened, added, settling, happens, run, start}
use Rattle.postgres_model.proofs.Lists.{within}
use Rattle.postgres_model.proofs.Tables.{length-numbered}
use Rattle.postgres_model.proofs.Invariant.{updated-here, updated-else, IsSound, IsWorld}
use Rattle.postgres_model.proofs.Asking.{is-done}
use Rattle.postgres_model.proofs.Runs.{happens-world, start-world}

pub record IsTelling (e : Engine) : Type 0 where
  pub bound : (t k epoch : ℕ) (taking : Request) (rows : List Row) → e.calls t ≡ Done k taking (Took epoch rows) → epoch ≤ e.log.epoch
  pub reports : (t c k j epoch past first : ℕ) (taking : Request) (rows : List Row) (group : List (List ℕ)) (found : Answer) → e.calls t ≡ Done k taking (Took epoch rows)
      → e.calls c ≡ Done j (Append past first group) found → has_inserted found ≡ true → past < epoch → first + length group ≤ suc (length rows)

-- ---- one call

-- what is told is the log as it is, under the epoch after it
record IsTale (log : Log) (request : Request) (epoch : ℕ) (rows : List Row) : Type 0 where
  new : epoch ≡ suc log.epoch
  all : rows ≡ log.rows
  later : (after log request).epoch ≡ suc log.epoch
  apart : (past first : ℕ) (group : List (List ℕ)) → request ≡ Append past first group → ⊥

is-tale : (log : Log) (request : Request) (epoch : ℕ) (rows : List Row) → answer log request ≡ Took epoch rows → IsTale log request epoch rows
is-tale log (Take token) epoch rows is =
    let a : suc log.epoch ≡ epoch = cc in
    let b : log.rows ≡ rows = cc in
    record { new = sym a; all = sym b; later = refl; apart = λ past first group same. absurd cc }
is-tale log (Retake token) epoch rows is =
    elim (cases_Bool (eqb log.holder token)) [
      | inl holds ↦
          let reported : Took (suc log.epoch) log.rows ≡ Took epoch rows = rw holds at is in
          let a : suc log.epoch ≡ epoch = cc in
          let b : log.rows ≡ rows = cc in
          record { new = sym a; all = sym b; later = rw holds refl; apart = λ past first group same. absurd cc }
      | inr other ↦ absurd (let reported : NotHolder ≡ Took epoch rows = rw other at is in cc)
    ]
is-tale log (Append past first group) epoch rows is =
    elim (cases_Bool (eqb log.epoch past)) [
      | inl now ↦ elim (cases_Bool (is_taken first group log.rows)) [
        | inl some ↦ absurd (let reported : Duplicate ≡ Took epoch rows = rw (now, some) at is in cc)
        | inr none ↦ absurd (let reported : Inserted (length group) ≡ Took epoch rows = rw (now, none) at is in cc)
      ]
      | inr other ↦ absurd (let reported : Inserted 0 ≡ Took epoch rows = rw other at is in cc)
    ]

-- Only an append under the log's epoch inserts.
is-now : (log : Log) (past first : ℕ) (group : List (List ℕ)) → has_inserted (append_answer log past first group) ≡ true → log.epoch ≡ past
is-now log past first group inserted =
    elim (cases_Bool (eqb log.epoch past)) [
      | inl now ↦ eqb-true _ _ now
      | inr other ↦ absurd (let none : false ≡ true = rw other at inserted in cc)
    ]

no-earlier : (log : Log) (request : Request) → log.epoch ≤ (after log request).epoch
no-earlier log (Take token) = omega arith
no-earlier log (Retake token) =
    elim (cases_Bool (eqb log.holder token)) [ inl holds ↦ rw holds (omega arith) | inr other ↦ rw other (omega arith) ]
no-earlier log (Append past first group) =
    elim (cases_Bool (eqb log.epoch past)) [
      | inl now ↦ elim (cases_Bool (is_taken first group log.rows)) [ inl some ↦ rw (now, some) (omega arith) | inr none ↦ rw (now, none) (omega arith) ]
      | inr other ↦ rw other (omega arith)
    ]

module _ (e : Engine) (recs : List (List ℕ)) (sound : IsSound e recs) (h : IsTelling e) (i by : ℕ) (request : Request) where
  split : (n k : ℕ) (asked : Request) (found : Answer) → updated e.calls i (Done by request (answer e.log request)) n ≡ Done k asked found
      → ((request ≡ asked) × (answer e.log request ≡ found)) ⊎ (e.calls n ≡ Done k asked found)
  split n k asked found is =
      elim (cases_eq n i) [
        | inl here ↦
            let same : Done by request (answer e.log request) ≡ Done k asked found =
            sym (subst (λ m. updated e.calls i (Done by request (answer e.log request)) m ≡ Done by request (answer e.log request)) (sym here) (updated-here e.calls i (Done by request (answer e.log request)))) ∙ is in
            let a : request ≡ asked = cc in
            let b : answer e.log request ≡ found = cc in
            inl (a, b)
        | inr ne ↦ inr (sym (updated-else e.calls i (Done by request (answer e.log request)) n ne) ∙ is)
      ]

  done-bound : (t k epoch : ℕ) (taking : Request) (rows : List Row) → updated e.calls i (Done by request (answer e.log request)) t ≡ Done k taking (Took epoch rows)
      → epoch ≤ (after e.log request).epoch
  done-bound t k epoch taking rows is =
      elim (split t k taking (Took epoch rows) is) [
        | inl new ↦ let tale = is-tale e.log request epoch rows new.1 in let a = tale.new in let b = tale.later in omega arith
        | inr old ↦ let a = h.bound t k epoch taking rows old in let b = no-earlier e.log request in omega arith
      ]

  done-reports : (t c k j epoch past first : ℕ) (taking : Request) (rows : List Row) (group : List (List ℕ)) (found : Answer)
      → updated e.calls i (Done by request (answer e.log request)) t ≡ Done k taking (Took epoch rows)
      → updated e.calls i (Done by request (answer e.log request)) c ≡ Done j (Append past first group) found
      → has_inserted found ≡ true → past < epoch → first + length group ≤ suc (length rows)
  done-reports t c k j epoch past first taking rows group found is also inserted lt =
      elim (split t k taking (Took epoch rows) is) [
        | inl new ↦
            let tale = is-tale e.log request epoch rows new.1 in
            elim (split c j (Append past first group) found also) [
              | inl same ↦ absurd (tale.apart past first group same.0)
              | inr old ↦
                  let fits = within recs first group (sound.landed c j past first group found old inserted).0 in
                  let long : length rows ≡ length recs = ap length (tale.all ∙ sound.rows) ∙ length-numbered 1 recs in
                  omega arith
            ]
        | inr old ↦ elim (split c j (Append past first group) found also) [
          | inl same ↦
              let its : has_inserted (answer e.log (Append past first group)) ≡ true = ap (λ q. has_inserted (answer e.log q)) (sym same.0) ∙ ap has_inserted same.1 ∙ inserted in
              let now = is-now e.log past first group its in
              let a = h.bound t k epoch taking rows old in
              absurd (omega arith)
          | inr both ↦ h.reports t c k j epoch past first taking rows group found old both inserted lt
        ]
      ]

done-reporting : (e : Engine) (recs : List (List ℕ)) → IsSound e recs → IsTelling e → (i : ℕ) (c : Call) → IsTelling (done e i c)
done-reporting e recs sound h i Unsent = h
done-reporting e recs sound h i (Waits by request) = record { bound = done-bound e recs sound h i by request; reports = done-reports e recs sound h i by request }
done-reporting e recs sound h i (Done by request found) = h

sending-reporting : (e : Engine) (recs : List (List ℕ)) → IsSound e recs → (k : ℕ) (request : Request) → IsTelling e → IsTelling (sending e k request)
sending-reporting e recs sound k request h = record {
  bound = λ t j epoch taking rows is. h.bound t j epoch taking rows (is-done e recs sound k request t j taking (Took epoch rows) is);
  reports = λ t c i j epoch past first taking rows group found is also.
      h.reports t c i j epoch past first taking rows group found
      (is-done e recs sound k request t i taking (Took epoch rows) is) (is-done e recs sound k request c j (Append past first group) found also);
}

-- ---- every schedule

opened-reporting : (w : World) (recs : List (List ℕ)) → IsSound w.engine recs → (k : ℕ) (keeper : Keeper) → IsTelling w.engine → IsTelling (opened w k keeper).engine
opened-reporting w recs sound k Closed h = sending-reporting w.engine recs sound k (Take (suc w.engine.sent)) h
opened-reporting w recs sound k (Taking call) h = h
opened-reporting w recs sound k (Idle held) h = h
opened-reporting w recs sound k (Appending held group append) h = h
opened-reporting w recs sound k (Unsettled held group append) h = h
opened-reporting w recs sound k (Settling held group append retake) h = h

added-reporting : (w : World) (recs : List (List ℕ)) → IsSound w.engine recs → (k : ℕ) (group : List (List ℕ)) (keeper : Keeper) → IsTelling w.engine → IsTelling (added w k group keeper).engine
added-reporting w recs sound k group Closed h = h
added-reporting w recs sound k group (Taking call) h = h
added-reporting w recs sound k group (Idle held) h = sending-reporting w.engine recs sound k (Append held.epoch (suc (length held.records)) group) h
added-reporting w recs sound k group (Appending held old append) h = h
added-reporting w recs sound k group (Unsettled held old append) h = h
added-reporting w recs sound k group (Settling held old append retake) h = h

settling-reporting : (w : World) (recs : List (List ℕ)) → IsSound w.engine recs → (k : ℕ) (keeper : Keeper) → IsTelling w.engine → IsTelling (settling w k keeper).engine
settling-reporting w recs sound k Closed h = h
settling-reporting w recs sound k (Taking call) h = h
settling-reporting w recs sound k (Idle held) h = h
settling-reporting w recs sound k (Appending held group append) h = h
settling-reporting w recs sound k (Unsettled held group append) h = sending-reporting w.engine recs sound k (Retake held.token) h
settling-reporting w recs sound k (Settling held group append retake) h = h

happens-reporting : (w : World) (recs : List (List ℕ)) → IsSound w.engine recs → (event : Event) → IsTelling w.engine → IsTelling (happens w event).engine
happens-reporting w recs sound (Open k) h = opened-reporting w recs sound k (w.keepers k) h
happens-reporting w recs sound (Add k one more) h = added-reporting w recs sound k (one ∷ more) (w.keepers k) h
happens-reporting w recs sound (Settle k) h = settling-reporting w recs sound k (w.keepers k) h
happens-reporting w recs sound (Do call) h = done-reporting w.engine recs sound h call (w.engine.calls call)
happens-reporting w recs sound (Hear k) h = h
happens-reporting w recs sound (GiveUp k) h = h
happens-reporting w recs sound (Crash k) h = h

run-reporting : (w : World) (recs : List (List ℕ)) → IsWorld w recs → (events : List Event) → IsTelling w.engine → IsTelling (run w events).engine
run-reporting w recs world [] h = h
run-reporting w recs world (event ∷ events) h =
    let next = happens-world w recs world event in
    run-reporting (happens w event) next.0 next.1 events (happens-reporting w recs world.engine event h)

pub every-reporting : (events : List Event) → IsTelling (run start events).engine
every-reporting events =
    run-reporting start [] start-world events (record {
      bound = λ t k epoch taking rows is. absurd cc;
      reports = λ t c k j epoch past first taking rows group found is also inserted lt. absurd cc;
    })
