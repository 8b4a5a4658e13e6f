-- What a keeper's new call leaves true.
use Rattle.std.proofs.Common.{◌≡◌, ℕ, zero, suc, ◌+◌, ◌<◌, ◌≤◌, ◌≢◌, ◌⊎◌, Bool, true, false, cond, List, [], ◌∷◌, ◌++◌, length, replicate, refl, sym, ap, subst, ◌∙◌, arith, inl, inr}
use Rattle.std.proofs.lemmas.Bool.{cases_eq}
use Rattle.postgres_model.specs.Engine.{Row, Log, numbered, Request, Take, Retake, Append, Answer, Took, NotHolder, Inserted, Duplicate, has_inserted}
use Rattle.postgres_model.specs.World.{Call, Unsent, Waits, Done, updated, Engine, sending, Keeper, Closed, Taking, Idle, Appending, Unsettled, Settling, Held, next_number, Acknowledged, Settled}
use Rattle.postgres_model.specs.Laws.{has_landed}
use Rattle.postgres_model.proofs.Lists.{IsAt}
use Rattle.postgres_model.proofs.Invariant.{updated-here, updated-else, IsDoneBy, IsLive, IsSound, Knows, IsTook, IsTaking, IsCall, with_landed, IsPending, IsRetookAt, IsRetook, IsRetaking, IsKeeper, IsAcknowledged, IsOver, IsSettled}

module _ (e : Engine) (recs : List (List ℕ)) (sound : IsSound e recs) (k : ℕ) (request : Request) where
  new-call : e.calls (suc e.sent) ≡ Unsent
  new-call = sound.unsent (suc e.sent) (omega arith)

  -- A call that was sent is no other.
  sent-before : (n : ℕ) → (e.calls n ≡ Unsent → ⊥) → n ≢ suc e.sent
  sent-before n sent is = sent (ap (λ m. e.calls m) is ∙ new-call)

  stays : (n : ℕ) → (e.calls n ≡ Unsent → ⊥) → updated e.calls (suc e.sent) (Waits k request) n ≡ e.calls n
  stays n sent = updated-else e.calls (suc e.sent) (Waits k request) n (sent-before n sent)

  done-sent : (other : ℕ) (c : Call) → IsDoneBy other c → c ≡ Unsent → ⊥
  done-sent other Unsent h is = h
  done-sent other (Waits by asked) h is = h
  done-sent other (Done by asked answer) h is = absurd cc

  done-stays : (other token : ℕ) → IsDoneBy other (e.calls token) → IsDoneBy other (updated e.calls (suc e.sent) (Waits k request) token)
  done-stays other token h = subst (IsDoneBy other) (sym (stays token (done-sent other (e.calls token) h))) h

  -- What waits is the new call, or waited before.
  waiting : (n other : ℕ) (asked : Request) → updated e.calls (suc e.sent) (Waits k request) n ≡ Waits other asked
      → ((n ≡ suc e.sent) × (request ≡ asked)) ⊎ (e.calls n ≡ Waits other asked)
  waiting n other asked h =
      elim (cases_eq n (suc e.sent)) [
        | inl here ↦
            let a : Waits k request ≡ Waits other asked = sym (subst (λ m. updated e.calls (suc e.sent) (Waits k request) m ≡ Waits k request) (sym here) (updated-here e.calls (suc e.sent) (Waits k request))) ∙ h in
            let b : request ≡ asked = cc in
            inl (here, b)
        | inr ne ↦ inr (sym (updated-else e.calls (suc e.sent) (Waits k request) n ne) ∙ h)
      ]

  pub is-done : (n other : ℕ) (asked : Request) (answer : Answer) → updated e.calls (suc e.sent) (Waits k request) n ≡ Done other asked answer → e.calls n ≡ Done other asked answer
  is-done n other asked answer h =
      elim (cases_eq n (suc e.sent)) [
        | inl here ↦ absurd (
            let a : Waits k request ≡ Done other asked answer = sym (subst (λ m. updated e.calls (suc e.sent) (Waits k request) m ≡ Waits k request) (sym here) (updated-here e.calls (suc e.sent) (Waits k request))) ∙ h in
            cc)
        | inr ne ↦ sym (updated-else e.calls (suc e.sent) (Waits k request) n ne) ∙ h
      ]

  -- An append may be sent under an epoch that was, or under the log's as the only one, at the log's end.
  pub record MaySend : Type 0 where
    pub token : (token : ℕ) → request ≡ Take token → token ≡ suc e.sent
    pub epoch : (epoch first : ℕ) (group : List (List ℕ)) → request ≡ Append epoch first group → epoch ≤ e.log.epoch
    pub next : (first : ℕ) (group : List (List ℕ)) → request ≡ Append e.log.epoch first group → first ≡ suc (length recs)
    pub one : (first : ℕ) (group : List (List ℕ)) → request ≡ Append e.log.epoch first group → (n by second : ℕ) (rest : List (List ℕ)) → IsLive e n by second rest → ⊥

  pub sending-sound : MaySend → IsSound (sending e k request) recs
  sending-sound may = record {
    rows = sound.rows;
    makers = sound.makers;
    unsent = λ n late. updated-else e.calls (suc e.sent) (Waits k request) n (λ is. omega arith) ∙ sound.unsent n (omega arith);
    none = updated-else e.calls (suc e.sent) (Waits k request) 0 (λ is. omega arith) ∙ sound.none;
    holder = let a = sound.holder in omega arith;
    free = λ n other asked h. elim (waiting n other asked h) [
      | inl new ↦ (λ is. let a = sound.holder in let b = new.0 in omega arith)
      | inr old ↦ sound.free n other asked old
    ];
    tokens = λ n other token h. elim (waiting n other (Take token) h) [
      | inl new ↦ may.token token new.1 ∙ sym new.0
      | inr old ↦ sound.tokens n other token old
    ];
    epochs = λ n other epoch first group h. elim (waiting n other (Append epoch first group) h) [
      | inl new ↦ may.epoch epoch first group new.1
      | inr old ↦ sound.epochs n other epoch first group old
    ];
    next = λ n other first group h. elim (waiting n other (Append e.log.epoch first group) h) [
      | inl new ↦ may.next first group new.1
      | inr old ↦ sound.next n other first group old
    ];
    one = λ n m other another first second group rest h g. elim (waiting n other (Append e.log.epoch first group) h) [
      | inl new ↦ elim (waiting m another (Append e.log.epoch second rest) g) [
        | inl also ↦ new.0 ∙ sym also.0
        | inr old ↦ absurd (may.one first group new.1 m another second rest old)
      ]
      | inr old ↦ elim (waiting m another (Append e.log.epoch second rest) g) [
        | inl new ↦ absurd (may.one second rest new.1 n other first group old)
        | inr also ↦ sound.one n m other another first second group rest old also
      ]
    ];
    landed = λ n other epoch first group answer h inserted. sound.landed n other epoch first group answer (is-done n other (Append epoch first group) answer h) inserted;
  }

  -- ---- other keepers

  -- The call is no append under the log's epoch, where this keeper has the log.
  abbrev pub IsQuiet : ℕ → Type 0
  IsQuiet other = (token first : ℕ) (group : List (List ℕ)) → IsDoneBy other (e.calls token) → e.log.holder ≡ token → request ≡ Append e.log.epoch first group → ⊥

  pub sending-knows : (other epoch token : ℕ) (known : List (List ℕ)) (own : ℕ) → IsQuiet other → Knows e recs other epoch token known own
      → Knows (sending e k request) recs other epoch token known own
  sending-knows other epoch token known own quiet h = record {
    past = h.past;
    current = h.current;
    taken = done-stays other token h.taken;
    more = h.more;
    prefix = h.prefix;
    whole = h.whole;
    alone = λ is n by first group g. elim (waiting n by (Append e.log.epoch first group) g) [
      | inl new ↦ absurd (quiet token first group h.taken is new.1)
      | inr old ↦ h.alone is n by first group old
    ];
  }

  sending-took : (other call : ℕ) (answer : Answer) → IsQuiet other → IsTook e recs other call answer → IsTook (sending e k request) recs other call answer
  sending-took other call (Took epoch rows) quiet h = (h.0, h.1, sending-knows other epoch call h.0 0 quiet h.2)
  sending-took other call NotHolder quiet h = tt
  sending-took other call (Inserted count) quiet h = tt
  sending-took other call Duplicate quiet h = tt

  sending-taking : (other call : ℕ) (c : Call) → IsQuiet other → IsTaking e recs other call c → IsTaking (sending e k request) recs other call c
  sending-taking other call Unsent quiet h = h
  sending-taking other call (Waits by asked) quiet h = h
  sending-taking other call (Done by asked answer) quiet h = sending-took other call answer quiet h

  taking-sent : (other call : ℕ) (c : Call) → IsTaking e recs other call c → c ≡ Unsent → ⊥
  taking-sent other call Unsent h is = h
  taking-sent other call (Waits by asked) h is = absurd cc
  taking-sent other call (Done by asked answer) h is = absurd cc

  call-sent : (other : ℕ) (wanted : Request) (c : Call) → IsCall other wanted c → c ≡ Unsent → ⊥
  call-sent other wanted Unsent h is = h
  call-sent other wanted (Waits by asked) h is = absurd cc
  call-sent other wanted (Done by asked answer) h is = absurd cc

  retaking-sent : (other : ℕ) (held : Held) (group : List (List ℕ)) (append : ℕ) (c : Call) → IsRetaking e other held group append c → c ≡ Unsent → ⊥
  retaking-sent other held group append Unsent h is = h
  retaking-sent other held group append (Waits by asked) h is = absurd cc
  retaking-sent other held group append (Done by asked answer) h is = absurd cc

  append-stays : (other : ℕ) (held : Held) (group : List (List ℕ)) (append : ℕ) → IsPending e recs other held group append
      → updated e.calls (suc e.sent) (Waits k request) append ≡ e.calls append
  append-stays other held group append p = stays append (call-sent other (Append held.epoch (suc (length held.records)) group) (e.calls append) p.call)

  pub sending-pending : (other : ℕ) (held : Held) (group : List (List ℕ)) (append : ℕ) → IsQuiet other → IsPending e recs other held group append
      → IsPending (sending e k request) recs other held group append
  sending-pending other held group append quiet p =
      let same = append-stays other held group append p in
      record {
        knows = subst (λ known. Knows (sending e k request) recs other held.epoch held.token known append) (ap (with_landed held group) (sym same))
            (sending-knows other held.epoch held.token (with_landed held group (e.calls append)) append quiet p.knows);
        call = subst (IsCall other (Append held.epoch (suc (length held.records)) group)) (sym same) p.call;
        some = p.some;
      }

  sending-retaking : (other : ℕ) (held : Held) (group : List (List ℕ)) (append : ℕ) (c : Call) → IsPending e recs other held group append
      → IsRetaking e other held group append c → IsRetaking (sending e k request) other held group append c
  sending-retaking other held group append Unsent p h = h
  sending-retaking other held group append (Waits by asked) p h = h
  sending-retaking other held group append (Done by asked NotHolder) p h = tt
  sending-retaking other held group append (Done by asked (Inserted count)) p h = tt
  sending-retaking other held group append (Done by asked Duplicate) p h = tt
  sending-retaking other held group append (Done by asked (Took epoch rows)) p h = record {
    rows = h.rows ∙ ap (λ c. numbered 1 (with_landed held group c)) (sym (append-stays other held group append p));
    later = h.later;
    past = h.past;
    current = h.current;
  }

  pub sending-keeper : (other : ℕ) (keeper : Keeper) → IsQuiet other → IsKeeper e recs other keeper → IsKeeper (sending e k request) recs other keeper
  sending-keeper other Closed quiet h = tt
  sending-keeper other (Taking call) quiet h =
      subst (IsTaking (sending e k request) recs other call) (sym (stays call (taking-sent other call (e.calls call) h))) (sending-taking other call (e.calls call) quiet h)
  sending-keeper other (Idle held) quiet h = sending-knows other held.epoch held.token held.records 0 quiet h
  sending-keeper other (Appending held group append) quiet h = sending-pending other held group append quiet h
  sending-keeper other (Unsettled held group append) quiet h = sending-pending other held group append quiet h
  sending-keeper other (Settling held group append retake) quiet h = (
    sending-pending other held group append quiet h.0,
    subst (IsRetaking (sending e k request) other held group append) (sym (stays retake (retaking-sent other held group append (e.calls retake) h.1)))
        (sending-retaking other held group append (e.calls retake) h.0 h.1),
  )

  over-sent : (c : Call) → IsOver e c → c ≡ Unsent → ⊥
  over-sent Unsent h is = h
  over-sent (Waits by asked) h is = absurd cc
  over-sent (Done by asked answer) h is = absurd cc

  still-over : (c : Call) → IsOver e c → IsOver (sending e k request) c
  still-over Unsent h = h
  still-over (Waits by (Take token)) h = h
  still-over (Waits by (Retake token)) h = h
  still-over (Waits by (Append epoch first group)) h = h
  still-over (Done by asked answer) h = tt

  pub sending-settled : (s : Settled) → IsSettled e s → IsSettled (sending e k request) s
  sending-settled s h =
      let same = stays s.append (over-sent (e.calls s.append) h.1) in
      (ap has_landed same ∙ h.0, subst (IsOver (sending e k request)) (sym same) (still-over (e.calls s.append) h.1))

  pub new-is : updated e.calls (suc e.sent) (Waits k request) (suc e.sent) ≡ Waits k request
  new-is = updated-here e.calls (suc e.sent) (Waits k request)

-- ---- what each call begins

pub opening-keeper : (e : Engine) (recs : List (List ℕ)) (sound : IsSound e recs) (k : ℕ)
    → IsKeeper (sending e k (Take (suc e.sent))) recs k (Taking (suc e.sent))
opening-keeper e recs sound k =
    subst (IsTaking (sending e k (Take (suc e.sent))) recs k (suc e.sent)) (sym (new-is e recs sound k (Take (suc e.sent)))) (refl, refl)

pub settling-keeper : (e : Engine) (recs : List (List ℕ)) (sound : IsSound e recs) (k : ℕ) (held : Held) (group : List (List ℕ)) (append : ℕ)
    → IsPending e recs k held group append → IsKeeper (sending e k (Retake held.token)) recs k (Settling held group append (suc e.sent))
settling-keeper e recs sound k held group append p = (
  sending-pending e recs sound k (Retake held.token) k held group append (λ token first rest done is asked. absurd cc) p,
  subst (IsRetaking (sending e k (Retake held.token)) k held group append) (sym (new-is e recs sound k (Retake held.token))) (refl, refl),
)

module _ (e : Engine) (recs : List (List ℕ)) (sound : IsSound e recs) (k : ℕ) (held : Held) (group : List (List ℕ)) (h : Knows e recs k held.epoch held.token held.records 0) where
  no-live : e.log.holder ≡ held.token → (n by second : ℕ) (rest : List (List ℕ)) → IsLive e n by second rest → ⊥
  no-live is n by second rest live =
      let zero-is = h.alone is n by second rest live in
      let a : Unsent ≡ Waits by (Append e.log.epoch second rest) = sym sound.none ∙ ap (λ m. e.calls m) (sym zero-is) ∙ live in
      cc

  pub may-append : MaySend e recs sound k (Append held.epoch (next_number held) group)
  may-append = record {
    token = λ token is. absurd cc;
    epoch = λ epoch first rest is. let a : held.epoch ≡ epoch = cc in let b = h.past in omega arith;
    next = λ first rest is.
        let a : held.epoch ≡ e.log.epoch = cc in
        let b : suc (length held.records) ≡ first = cc in
        sym b ∙ ap (λ xs. suc (length xs)) (sym (h.whole (h.current (sym a))));
    one = λ first rest is.
        let a : held.epoch ≡ e.log.epoch = cc in
        no-live (h.current (sym a));
  }

  pub append-quiet : (other : ℕ) → other ≢ k → IsQuiet e recs sound k (Append held.epoch (next_number held) group) other
  append-quiet other ne token first rest done is asked =
      let a : held.epoch ≡ e.log.epoch = cc in
      let same : token ≡ held.token = sym is ∙ h.current (sym a) in
      ne (one-owner (e.calls held.token) (subst (λ m. IsDoneBy other (e.calls m)) same done) h.taken)
    where
      one-owner : (c : Call) → IsDoneBy other c → IsDoneBy k c → other ≡ k
      one-owner Unsent x y = absurd x
      one-owner (Waits by asked) x y = absurd x
      one-owner (Done by asked answer) x y = sym x ∙ y

  pub appending-keeper : 0 < length group → IsKeeper (sending e k (Append held.epoch (next_number held) group)) recs k (Appending held group (suc e.sent))
  appending-keeper some =
      let new = new-is e recs sound k (Append held.epoch (next_number held) group) in
      let none : with_landed held group (updated e.calls (suc e.sent) (Waits k (Append held.epoch (next_number held) group)) (suc e.sent)) ≡ held.records = ap (with_landed held group) new in
      record {
        knows = subst (λ known. Knows (sending e k (Append held.epoch (next_number held) group)) recs k held.epoch held.token known (suc e.sent)) (sym none) (record {
          past = h.past;
          current = h.current;
          taken = done-stays e recs sound k (Append held.epoch (next_number held) group) k held.token h.taken;
          more = h.more;
          prefix = h.prefix;
          whole = h.whole;
          alone = λ is n by first rest g. elim (waiting e recs sound k (Append held.epoch (next_number held) group) n by (Append e.log.epoch first rest) g) [
            | inl new ↦ new.0
            | inr old ↦ absurd (no-live is n by first rest old)
          ];
        });
        call = subst (IsCall k (Append held.epoch (suc (length held.records)) group)) (sym new) (refl, refl);
        some = some;
      }
