-- What a step of the engine, which does one call, leaves true of keepers and of what was told.
use Rattle.std.proofs.Common.{◌≡◌, ℕ, zero, suc, ◌+◌, ◌<◌, ◌≤◌, ◌≢◌, ◌⊎◌, Bool, true, false, cond, List, [], ◌∷◌, ◌++◌, length, replicate, refl, sym, ap, subst, ◌∙◌, arith, inl, inr}
use Rattle.std.proofs.lemmas.Bool.{cases_eq}
use Rattle.postgres_model.specs.Engine.{Row, Log, numbered, Request, Take, Retake, Append, Answer, Took, NotHolder, Inserted, Duplicate, has_inserted}
use Rattle.postgres_model.specs.World.{Call, Unsent, Waits, Done, updated, Engine, Keeper, Closed, Taking, Idle, Appending, Unsettled, Settling, Held, Acknowledged, Settled}
use Rattle.postgres_model.specs.Laws.{has_landed}
use Rattle.postgres_model.proofs.Lists.{IsAt}
use Rattle.postgres_model.proofs.Invariant.{IsDoneBy, IsLive, IsSound, Knows, IsTook, IsTaking, IsCall, with_landed, IsPending, IsRetookAt, IsRetook, IsRetaking, IsKeeper, IsAcknowledged, IsOver, IsSettled}

-- Call i of keeper `by` is done, with this answer.
pub record IsStep (e : Engine) (recs : List (List ℕ)) (i by : ℕ) (request : Request) (answer : Answer) (new : Engine) (more : List (List ℕ)) : Type 0 where
  pub waits : e.calls i ≡ Waits by request
  pub here : new.calls i ≡ Done by request answer
  pub others : (n : ℕ) → n ≢ i → new.calls n ≡ e.calls n
  pub epoch : e.log.epoch ≤ new.log.epoch
  pub current : (epoch token : ℕ) → epoch ≤ e.log.epoch → (e.log.epoch ≡ epoch → e.log.holder ≡ token) → new.log.epoch ≡ epoch → new.log.holder ≡ token
  pub knows : (k epoch token : ℕ) (known : List (List ℕ)) (own : ℕ) → own ≢ i → Knows e recs k epoch token known own → Knows new more k epoch token known own
  pub took : request ≡ Take i → IsTook new more by i answer
  pub pending : (k : ℕ) (held : Held) (group : List (List ℕ)) → IsPending e recs k held group i → IsPending new more k held group i
  pub retook : (k : ℕ) (held : Held) (group : List (List ℕ)) (append : ℕ) → IsPending e recs k held group append → append ≢ i → request ≡ Retake held.token
      → IsRetook new held group append answer
  pub records_at : (first : ℕ) (part : List (List ℕ)) → IsAt recs first part → IsAt more first part
  pub makers_at : (first : ℕ) (part : List ℕ) → IsAt e.makers first part → IsAt new.makers first part
  pub over : IsOver e (Waits by request) → has_inserted answer ≡ false

module _ (e : Engine) (recs : List (List ℕ)) (i by : ℕ) (request : Request) (answer : Answer) (new : Engine) (more : List (List ℕ)) (s : IsStep e recs i by request answer new more) where
  landed-same : (n : ℕ) (held : Held) (group : List (List ℕ)) → n ≢ i → with_landed held group (e.calls n) ≡ with_landed held group (new.calls n)
  landed-same n held group ne = ap (with_landed held group) (sym (s.others n ne))

  step-pending : (k : ℕ) (held : Held) (group : List (List ℕ)) (append : ℕ) → IsPending e recs k held group append → IsPending new more k held group append
  step-pending k held group append p =
      elim (cases_eq append i) [
        | inl here ↦ subst (λ n. IsPending new more k held group n) (sym here) (s.pending k held group (subst (λ n. IsPending e recs k held group n) here p))
        | inr ne ↦ record {
          knows = subst (λ known. Knows new more k held.epoch held.token known append) (landed-same append held group ne)
              (s.knows k held.epoch held.token (with_landed held group (e.calls append)) append ne p.knows);
          call = subst (IsCall k (Append held.epoch (suc (length held.records)) group)) (sym (s.others append ne)) p.call;
          some = p.some;
        }
      ]

  step-took : (k call : ℕ) (answer : Answer) → (0 ≢ i) → IsTook e recs k call answer → IsTook new more k call answer
  step-took k call (Took epoch rows) ne h = (h.0, h.1, s.knows k epoch call h.0 0 ne h.2)
  step-took k call NotHolder ne h = tt
  step-took k call (Inserted count) ne h = tt
  step-took k call Duplicate ne h = tt

  step-taking : (k call : ℕ) (c : Call) → (0 ≢ i) → IsTaking e recs k call c → IsTaking new more k call c
  step-taking k call Unsent ne h = h
  step-taking k call (Waits other asked) ne h = h
  step-taking k call (Done other asked answer) ne h = step-took k call answer ne h

  waiting-take : (k : ℕ) (c : Call) → c ≡ Waits by request → IsTaking e recs k i c → (by ≡ k) × (request ≡ Take i)
  waiting-take k Unsent is h = absurd h
  waiting-take k (Waits other asked) is h = let a : by ≡ other = cc in let b : request ≡ asked = cc in (a ∙ h.0, b ∙ h.1)
  waiting-take k (Done other asked answer) is h = absurd cc

  step-retook : (held : Held) (group : List (List ℕ)) (append : ℕ) (answer : Answer) → IsRetook e held group append answer
      → with_landed held group (e.calls append) ≡ with_landed held group (new.calls append) → IsRetook new held group append answer
  step-retook held group append (Took epoch rows) h same = record {
    rows = h.rows ∙ ap (numbered 1) same;
    later = h.later;
    past = let a = s.epoch in let b = h.past in omega arith;
    current = s.current epoch held.token h.past h.current;
  }
  step-retook held group append NotHolder h same = tt
  step-retook held group append (Inserted count) h same = tt
  step-retook held group append Duplicate h same = tt

  waiting-retake : (k : ℕ) (held : Held) (group : List (List ℕ)) (append : ℕ) (c : Call) → c ≡ Waits by request → IsRetaking e k held group append c → request ≡ Retake held.token
  waiting-retake k held group append Unsent is h = absurd h
  waiting-retake k held group append (Waits other asked) is h = let b : request ≡ asked = cc in b ∙ h.1
  waiting-retake k held group append (Done other asked answer) is h = absurd cc

  waiting-call : (k : ℕ) (wanted : Request) (c : Call) → c ≡ Waits by request → IsCall k wanted c → (by ≡ k) × (request ≡ wanted)
  waiting-call k wanted Unsent is h = absurd h
  waiting-call k wanted (Waits other asked) is h = let a : by ≡ other = cc in let b : request ≡ asked = cc in (a ∙ h.0, b ∙ h.1)
  waiting-call k wanted (Done other asked answer) is h = absurd cc

  -- The call that is done is no append that had a landing before, nor one after, where its epoch is over.
  over-landed : (n : ℕ) → n ≡ i → has_inserted answer ≡ false → has_landed (e.calls n) ≡ has_landed (new.calls n)
  over-landed n is none =
      let a : has_landed (e.calls n) ≡ false = ap (λ m. has_landed (e.calls m)) is ∙ ap has_landed s.waits in
      let b : has_landed (new.calls n) ≡ false = ap (λ m. has_landed (new.calls m)) is ∙ ap has_landed s.here ∙ none in
      a ∙ sym b

  over-at : (k epoch first : ℕ) (group : List (List ℕ)) (n : ℕ) → n ≡ i → IsCall k (Append epoch first group) (e.calls n) → epoch < e.log.epoch → has_inserted answer ≡ false
  over-at k epoch first group n is call lt =
      let asked = waiting-call k (Append epoch first group) (e.calls n) (ap (λ m. e.calls m) is ∙ s.waits) call in
      s.over (subst (λ q. IsOver e (Waits by q)) (sym asked.1) lt)

  step-retaking : (k : ℕ) (held : Held) (group : List (List ℕ)) (append : ℕ) (c : Call) → IsPending e recs k held group append
      → IsRetaking e k held group append c → IsRetaking new k held group append c
  step-retaking k held group append Unsent p h = h
  step-retaking k held group append (Waits other asked) p h = h
  step-retaking k held group append (Done other asked NotHolder) p h = tt
  step-retaking k held group append (Done other asked (Inserted count)) p h = tt
  step-retaking k held group append (Done other asked Duplicate) p h = tt
  step-retaking k held group append (Done other asked (Took epoch rows)) p h =
      elim (cases_eq append i) [
        | inl here ↦
            let lt : held.epoch < e.log.epoch = (let a = h.later in let b = h.past in omega arith) in
            step-retook held group append (Took epoch rows) h
            (ap (λ b. cond b (held.records ++ group) held.records)
            (over-landed append here (over-at k held.epoch (suc (length held.records)) group append here p.call lt)))
        | inr ne ↦ step-retook held group append (Took epoch rows) h (landed-same append held group ne)
      ]

  not-append : (k : ℕ) (held : Held) (group : List (List ℕ)) (append : ℕ) → IsPending e recs k held group append → request ≡ Retake held.token → append ≢ i
  not-append k held group append p asked is =
      let a = waiting-call k (Append held.epoch (suc (length held.records)) group) (e.calls append) (ap (λ m. e.calls m) is ∙ s.waits) p.call in
      let bad : Retake held.token ≡ Append held.epoch (suc (length held.records)) group = sym asked ∙ a.1 in
      cc

  step-settling : (k : ℕ) (held : Held) (group : List (List ℕ)) (append retake : ℕ) → IsPending e recs k held group append
      → IsRetaking e k held group append (e.calls retake) → IsRetaking new k held group append (new.calls retake)
  step-settling k held group append retake p h =
      elim (cases_eq retake i) [
        | inl here ↦
            let asked = waiting-retake k held group append (e.calls retake) (ap (λ m. e.calls m) here ∙ s.waits) h in
            let found = s.retook k held group append p (not-append k held group append p asked) asked in
            subst (λ c. IsRetaking new k held group append c) (sym (ap (λ m. new.calls m) here ∙ s.here)) found
        | inr ne ↦ subst (λ c. IsRetaking new k held group append c) (sym (s.others retake ne)) (step-retaking k held group append (e.calls retake) p h)
      ]

  step-opening : (k call : ℕ) → 0 ≢ i → IsTaking e recs k call (e.calls call) → IsTaking new more k call (new.calls call)
  step-opening k call zero-ne h =
      elim (cases_eq call i) [
        | inl here ↦
            let h' : IsTaking e recs k i (e.calls i) = subst (λ m. IsTaking e recs k m (e.calls m)) here h in
            let asked = waiting-take k (e.calls i) s.waits h' in
            let found : IsTook new more k i answer = subst (λ m. IsTook new more m i answer) asked.0 (s.took asked.1) in
            let there : IsTaking new more k i (new.calls i) = subst (λ c. IsTaking new more k i c) (sym s.here) found in
            subst (λ m. IsTaking new more k m (new.calls m)) (sym here) there
        | inr ne ↦ subst (λ c. IsTaking new more k call c) (sym (s.others call ne)) (step-taking k call (e.calls call) zero-ne h)
      ]

  -- What keepers know stays true.
  pub step-keeper : (k : ℕ) (keeper : Keeper) → 0 ≢ i → IsKeeper e recs k keeper → IsKeeper new more k keeper
  step-keeper k Closed ne h = tt
  step-keeper k (Taking call) ne h = step-opening k call ne h
  step-keeper k (Idle held) ne h = s.knows k held.epoch held.token held.records 0 ne h
  step-keeper k (Appending held group append) ne h = step-pending k held group append h
  step-keeper k (Unsettled held group append) ne h = step-pending k held group append h
  step-keeper k (Settling held group append retake) ne h =
      (step-pending k held group append h.0, step-settling k held group append retake h.0 h.1)

  pub step-acknowledged : (a : Acknowledged) → IsAcknowledged e recs a → IsAcknowledged new more a
  step-acknowledged a h = (s.records_at a.first a.group h.0, s.makers_at a.first (replicate (length a.group) a.keeper) h.1)

  stays-over : (c : Call) → IsOver e c → IsOver new c
  stays-over Unsent h = h
  stays-over (Waits other (Take token)) h = h
  stays-over (Waits other (Retake token)) h = h
  stays-over (Waits other (Append epoch first group)) h = let a = s.epoch in omega arith
  stays-over (Done other asked answer) h = tt

  pub step-settled : (t : Settled) → IsSettled e t → IsSettled new t
  step-settled t h =
      elim (cases_eq t.append i) [
        | inl here ↦
            let waits : e.calls t.append ≡ Waits by request = ap (λ m. e.calls m) here ∙ s.waits in
            let is : new.calls t.append ≡ Done by request answer = ap (λ m. new.calls m) here ∙ s.here in
            let none = s.over (subst (IsOver e) waits h.1) in
            (sym (over-landed t.append here none) ∙ h.0, subst (IsOver new) (sym is) tt)
        | inr ne ↦ (ap has_landed (s.others t.append ne) ∙ h.0, subst (IsOver new) (sym (s.others t.append ne)) (stays-over (e.calls t.append) h.1))
      ]
