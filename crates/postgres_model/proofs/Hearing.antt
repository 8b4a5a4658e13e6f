-- What a keeper learns from an answer is so.
use Rattle.std.proofs.Common.{◌≡◌, ℕ, zero, suc, ◌+◌, ◌<◌, ◌≤◌, ◌≢◌, ◌⊎◌, Bool, true, false, cond, eqb, List, [], ◌∷◌, ◌++◌, length, replicate, slice_get, Option, Some, None, refl, sym, ap, subst, ◌∙◌, arith, inl, inr}
use Rattle.std.specs.Str.{bytes_eq}
use Rattle.std.proofs.lemmas.Bool.{cases_eq, cases_Bool, eqb-true}
use Rattle.std.proofs.lemmas.Slice.Eq.{bytes_eq-Decides}
use Rattle.postgres_model.specs.Engine.{Row, Log, numbered, fetched, Request, Take, Retake, Append, Answer, Took, NotHolder, Inserted, Duplicate, has_inserted}
use Rattle.postgres_model.specs.World.{Call, Unsent, Waits, Done, Engine, Keeper, Closed, Taking, Idle, Appending, Unsettled, Settling, Held, next_number, same_records, silent, Told, told_take, told_append, told_settle, told_retake, heard_call, heard, given_up, Acknowledged, Settled}
use Rattle.postgres_model.specs.Laws.{has_landed}
use Rattle.postgres_model.proofs.Lists.{IsAt}
use Rattle.postgres_model.proofs.Tables.{fetched-whole, fetched-rest, fetched-end, length-numbered}
use Rattle.postgres_model.proofs.Invariant.{IsDoneBy, IsLive, IsSound, Knows, IsTook, IsTaking, IsCall, with_landed, IsPending, IsRetookAt, IsRetook, IsRetaking, IsKeeper, IsAcknowledged, IsOver, IsSettled}

pub record IsTold (e : Engine) (recs : List (List ℕ)) (k : ℕ) (reported : Told) : Type 0 where
  pub keeper : IsKeeper e recs k reported.keeper
  pub acknowledged : (i : ℕ) (a : Acknowledged) → slice_get reported.acknowledged i ≡ Some a → IsAcknowledged e recs a
  pub settled : (i : ℕ) (s : Settled) → slice_get reported.settled i ≡ Some s → IsSettled e s

no-item : {A : Type 0} (P : A → Type 0) (i : ℕ) (x : A) → slice_get [] i ≡ Some x → P x
no-item P i x is = absurd cc

one-item : {A : Type 0} (P : A → Type 0) (only : A) → P only → (i : ℕ) (x : A) → slice_get (only ∷ []) i ≡ Some x → P x
one-item P only h zero x is = let a : only ≡ x = cc in subst P a h
one-item P only h (suc i) x is = absurd cc

same-itself : (xs : List (List ℕ)) → same_records xs xs ≡ true
same-itself [] = refl
same-itself (x ∷ xs) = rw (bytes-itself x) (same-itself xs)
  where
    bytes-itself : (x : List ℕ) → bytes_eq x x ≡ true
    bytes-itself x = (bytes_eq-Decides x x).1 refl

module _ (e : Engine) (recs : List (List ℕ)) (sound : IsSound e recs) (k : ℕ) where
  pub is-silent : (keeper : Keeper) → IsKeeper e recs k keeper → IsTold e recs k (silent keeper)
  is-silent keeper h = record { keeper = h; acknowledged = no-item (IsAcknowledged e recs); settled = no-item (IsSettled e) }

  reported-took : (call epoch : ℕ) (rows : List Row) → IsTook e recs k call (Took epoch rows) → IsTold e recs k (told_take call (Took epoch rows))
  reported-took call epoch rows h =
      let all : fetched 1 (length rows) rows ≡ h.0 =
      ap (λ xs. fetched 1 (length xs) xs) h.1 ∙ ap (λ n. fetched 1 n (numbered 1 h.0)) (length-numbered 1 h.0) ∙ fetched-whole h.0 in
      is-silent (Idle (record { epoch = epoch; token = call; records = fetched 1 (length rows) rows }))
      (subst (λ known. Knows e recs k epoch call known 0) (sym all) h.2)

  hear-take : (call : ℕ) (c : Call) → IsTaking e recs k call c → IsKeeper e recs k (Taking call) → IsTold e recs k (heard_call (Taking call) (told_take call) c)
  hear-take call Unsent h before = absurd h
  hear-take call (Waits by request) h before = is-silent (Taking call) before
  hear-take call (Done by request (Took epoch rows)) h before = reported-took call epoch rows h
  hear-take call (Done by request NotHolder) h before = is-silent Closed tt
  hear-take call (Done by request (Inserted count)) h before = is-silent Closed tt
  hear-take call (Done by request Duplicate) h before = is-silent Closed tt

  -- An append that was done isn't on its way.
  not-live : (append by : ℕ) (request : Request) (answer : Answer) → e.calls append ≡ Done by request answer
      → (n other first : ℕ) (group : List (List ℕ)) → IsLive e n other first group → n ≡ append → ⊥
  not-live append by request answer done n other first group live is =
      let a : Done by request answer ≡ Waits other (Append e.log.epoch first group) = sym done ∙ ap (λ m. e.calls m) (sym is) ∙ live in
      cc

  -- What the keeper knows once its append has landed or can't any more.
  pub settled-knows : (epoch token : ℕ) (known : List (List ℕ)) (append new : ℕ) → Knows e recs k epoch token known append
      → new ≤ e.log.epoch → (e.log.epoch ≡ new → e.log.holder ≡ token)
      → ((n other first : ℕ) (group : List (List ℕ)) → IsLive e n other first group → n ≡ append → ⊥) → Knows e recs k new token known 0
  settled-knows epoch token known append new h past current none = record {
    past = past;
    current = current;
    taken = h.taken;
    more = h.more;
    prefix = h.prefix;
    whole = h.whole;
    alone = λ is n other first group live. absurd (none n other first group live (h.alone is n other first group live));
  }

  module _ (held : Held) (group : List (List ℕ)) (append : ℕ) (p : IsPending e recs k held group append) where
    -- An acknowledged group stands, by the keeper's own append.
    ack : (by : ℕ) (request : Request) (answer : Answer) → e.calls append ≡ Done by request answer → has_inserted answer ≡ true
        → IsAcknowledged e recs (record { keeper = k; first = next_number held; group = group })
    ack by request answer done inserted =
        let call = subst (IsCall k (Append held.epoch (suc (length held.records)) group)) done p.call in
        let whole : e.calls append ≡ Done k (Append held.epoch (suc (length held.records)) group) answer =
        done ∙ ap (λ b. Done b request answer) call.0 ∙ ap (λ q. Done k q answer) call.1 in
        sound.landed append k held.epoch (suc (length held.records)) group answer whole inserted

    landed-knows : (by : ℕ) (request : Request) (answer : Answer) → e.calls append ≡ Done by request answer → has_inserted answer ≡ true
        → Knows e recs k held.epoch held.token (held.records ++ group) append
    landed-knows by request answer done inserted =
        subst (λ known. Knows e recs k held.epoch held.token known append)
        (ap (with_landed held group) done ∙ ap (λ b. cond b (held.records ++ group) held.records) inserted) p.knows

    inserted-some : (count : ℕ) → count ≡ length group → has_inserted (Inserted count) ≡ true
    inserted-some zero is = absurd (let a = p.some in omega arith)
    inserted-some (suc count) is = refl

    reported-inserted : (by : ℕ) (request : Request) (count : ℕ) → e.calls append ≡ Done by request (Inserted count) → IsTold e recs k (told_append k held group append (Inserted count))
    reported-inserted by request count done =
        elim (cases_Bool (eqb count (length group))) [
          | inl whole ↦
              let inserted = inserted-some count (eqb-true _ _ whole) in
              rw whole (record {
                keeper = settled-knows held.epoch held.token (held.records ++ group) append held.epoch (landed-knows by request (Inserted count) done inserted)
                    p.knows.past p.knows.current (not-live append by request (Inserted count) done);
                acknowledged = one-item (IsAcknowledged e recs) (record { keeper = k; first = next_number held; group = group }) (ack by request (Inserted count) done inserted);
                settled = no-item (IsSettled e);
              })
          | inr other ↦ rw other (is-silent (Unsettled held group append) p)
        ]

    pub hear-append : (c : Call) → e.calls append ≡ c → IsTold e recs k (heard_call (Appending held group append) (told_append k held group append) c)
    hear-append Unsent is = is-silent (Appending held group append) p
    hear-append (Waits by request) is = is-silent (Appending held group append) p
    hear-append (Done by request (Took epoch rows)) is = is-silent (Unsettled held group append) p
    hear-append (Done by request NotHolder) is = is-silent (Unsettled held group append) p
    hear-append (Done by request (Inserted count)) is = reported-inserted by request count is
    hear-append (Done by request Duplicate) is = is-silent (Unsettled held group append) p

    -- ---- settling

    module _ (epoch : ℕ) (rows : List Row) (h : IsRetookAt e held group append epoch rows) where
      -- The append is of an epoch that is over.
      past-live : (n other first : ℕ) (rest : List (List ℕ)) → IsLive e n other first rest → n ≡ append → ⊥
      past-live n other first rest live is =
          let call = subst (IsCall k (Append held.epoch (suc (length held.records)) group)) (ap (λ m. e.calls m) (sym is) ∙ live) p.call in
          let same : Append e.log.epoch first rest ≡ Append held.epoch (suc (length held.records)) group = call.1 in
          let a : e.log.epoch ≡ held.epoch = cc in
          let b = h.later in
          let c = h.past in
          omega arith

      its-over : (c : Call) → IsCall k (Append held.epoch (suc (length held.records)) group) c → IsOver e c
      its-over Unsent call = call
      its-over (Waits by (Take token)) call = let a : Take token ≡ Append held.epoch (suc (length held.records)) group = call.1 in absurd cc
      its-over (Waits by (Retake token)) call = let a : Retake token ≡ Append held.epoch (suc (length held.records)) group = call.1 in absurd cc
      its-over (Waits by (Append was first rest)) call =
          let same : Append was first rest ≡ Append held.epoch (suc (length held.records)) group = call.1 in
          let a : was ≡ held.epoch = cc in
          let b = h.later in
          let c = h.past in
          omega arith
      its-over (Done by request answer) call = tt

      is-settled : (holds : Bool) → has_landed (e.calls append) ≡ holds → IsSettled e (record { append = append; holds = holds })
      is-settled holds landed = (landed, its-over (e.calls append) p.call)

      found-none : has_landed (e.calls append) ≡ false → fetched (next_number held) (length group) rows ≡ []
      found-none none =
          ap (fetched (next_number held) (length group)) (h.rows ∙ ap (λ b. numbered 1 (cond b (held.records ++ group) held.records)) none)
          ∙ fetched-end held.records (next_number held) (length group) (omega arith)

      found-all : has_landed (e.calls append) ≡ true → fetched (next_number held) (length group) rows ≡ group
      found-all landed =
          ap (fetched (next_number held) (length group)) (h.rows ∙ ap (λ b. numbered 1 (cond b (held.records ++ group) held.records)) landed)
          ∙ fetched-rest held.records group

      reported-none : has_landed (e.calls append) ≡ false → IsTold e recs k (told_settle k held group append epoch [])
      reported-none none = record {
        keeper = settled-knows held.epoch held.token held.records append epoch
            (subst (λ known. Knows e recs k held.epoch held.token known append) (ap (λ b. cond b (held.records ++ group) held.records) none) p.knows)
            h.past h.current past-live;
        acknowledged = no-item (IsAcknowledged e recs);
        settled = one-item (IsSettled e) (record { append = append; holds = false }) (is-settled false none);
      }

      has-answer : (c : Call) → has_landed c ≡ true → (by : ℕ) × (request : Request) × (answer : Answer) × (c ≡ Done by request answer) × (has_inserted answer ≡ true)
      has-answer Unsent is = absurd cc
      has-answer (Waits by request) is = absurd cc
      has-answer (Done by request answer) is = (by, request, answer, refl, is)

      reported-all : (one : List ℕ) (more : List (List ℕ)) → one ∷ more ≡ group → has_landed (e.calls append) ≡ true → IsTold e recs k (told_settle k held group append epoch (one ∷ more))
      reported-all one more is landed =
          let same : same_records (one ∷ more) group ≡ true = ap (λ g. same_records (one ∷ more) g) (sym is) ∙ same-itself (one ∷ more) in
          let done = has-answer (e.calls append) landed in
          rw same (record {
            keeper = settled-knows held.epoch held.token (held.records ++ group) append epoch (landed-knows done.0 done.1 done.2 done.3 done.4) h.past h.current past-live;
            acknowledged = one-item (IsAcknowledged e recs) (record { keeper = k; first = next_number held; group = group }) (ack done.0 done.1 done.2 done.3 done.4);
            settled = one-item (IsSettled e) (record { append = append; holds = true }) (is-settled true landed);
          })

      reported-found : (g : List (List ℕ)) → g ≡ group → has_landed (e.calls append) ≡ true → IsTold e recs k (told_settle k held group append epoch g)
      reported-found [] is landed = absurd (let a = p.some in let b : 0 ≡ length group = ap length is in omega arith)
      reported-found (one ∷ more) is landed = reported-all one more is landed

      pub reported-retook : IsTold e recs k (told_settle k held group append epoch (fetched (next_number held) (length group) rows))
      reported-retook =
          elim (cases_Bool (has_landed (e.calls append))) [
            | inl landed ↦ subst (λ g. IsTold e recs k (told_settle k held group append epoch g)) (sym (found-all landed)) (reported-found group refl landed)
            | inr none ↦ subst (λ g. IsTold e recs k (told_settle k held group append epoch g)) (sym (found-none none)) (reported-none none)
          ]

    pub hear-retake : (retake : ℕ) (c : Call) → IsRetaking e k held group append c → IsKeeper e recs k (Settling held group append retake)
        → IsTold e recs k (heard_call (Settling held group append retake) (told_retake k held group append) c)
    hear-retake retake Unsent h before = is-silent (Settling held group append retake) before
    hear-retake retake (Waits by request) h before = is-silent (Settling held group append retake) before
    hear-retake retake (Done by request (Took epoch rows)) h before = reported-retook epoch rows h
    hear-retake retake (Done by request NotHolder) h before = is-silent Closed tt
    hear-retake retake (Done by request (Inserted count)) h before = is-silent Closed tt
    hear-retake retake (Done by request Duplicate) h before = is-silent Closed tt

  pub is-heard : (keeper : Keeper) → IsKeeper e recs k keeper → IsTold e recs k (heard k keeper e.calls)
  is-heard Closed h = is-silent Closed tt
  is-heard (Taking call) h = hear-take call (e.calls call) h h
  is-heard (Idle held) h = is-silent (Idle held) h
  is-heard (Appending held group append) h = hear-append held group append h (e.calls append) refl
  is-heard (Unsettled held group append) h = is-silent (Unsettled held group append) h
  is-heard (Settling held group append retake) h = hear-retake held group append h.0 retake (e.calls retake) h.1 h

  pub is-given-up : (keeper : Keeper) → IsKeeper e recs k keeper → IsKeeper e recs k (given_up keeper)
  is-given-up Closed h = tt
  is-given-up (Taking call) h = tt
  is-given-up (Idle held) h = h
  is-given-up (Appending held group append) h = h
  is-given-up (Unsettled held group append) h = h
  is-given-up (Settling held group append retake) h = h.0
