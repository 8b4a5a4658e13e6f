-- The four things that a call may do to the log: take it, take it again, insert a group, or nothing.
use Rattle.std.proofs.Common.{◌≡◌, ℕ, zero, suc, ◌+◌, ◌<◌, ◌≤◌, ◌≢◌, ◌⊎◌, Bool, true, false, cond, List, [], ◌∷◌, ◌++◌, length, replicate, refl, sym, ap, subst, ◌∙◌, arith, inl, inr, append-nil, append_assoc}
use Rattle.std.proofs.lemmas.Bool.{cases_eq, cases_lt}
use Rattle.std.proofs.lemmas.List.{length-append, length-replicate}
use Rattle.postgres_model.specs.Engine.{Row, Log, numbered, taken, Request, Take, Retake, Append, Answer, Took, NotHolder, Inserted, Duplicate, has_inserted}
use Rattle.postgres_model.specs.World.{Call, Unsent, Waits, Done, updated, Engine, Held, made}
use Rattle.postgres_model.specs.Laws.{has_landed}
use Rattle.postgres_model.proofs.Lists.{IsAt, at-grown, at-end}
use Rattle.postgres_model.proofs.Tables.{table-grown}
use Rattle.postgres_model.proofs.Invariant.{updated-here, updated-else, IsDoneBy, IsLive, IsSound, Knows, IsTook, IsTaking, IsCall, with_landed, IsPending, IsRetookAt, IsRetook, IsOver}
use Rattle.postgres_model.proofs.Steps.{IsStep}

-- The engine after call i, with this answer, and the log so.
abbrev pub ended : Engine → (i by : ℕ) → Request → Answer → Log → Engine
ended e i by request answer log =
    record { log = log; sent = e.sent; calls = updated e.calls i (Done by request answer); makers = e.makers ++ made by answer }

module _ (e : Engine) (recs : List (List ℕ)) (sound : IsSound e recs) (i by : ℕ) (request : Request) (waits : e.calls i ≡ Waits by request) where
  pub not-zero : 0 ≢ i
  not-zero is = let a : Unsent ≡ Waits by request = sym sound.none ∙ ap (λ m. e.calls m) is ∙ waits in cc

  sent : i ≤ e.sent
  sent = elim (cases_lt e.sent i) [
    | inl late ↦ absurd (let a : Unsent ≡ Waits by request = sym (sound.unsent i late) ∙ waits in cc)
    | inr le ↦ le
  ]

  done-apart : (k token : ℕ) → IsDoneBy k (e.calls token) → token ≢ i
  done-apart k token h is = subst (IsDoneBy k) (ap (λ m. e.calls m) is ∙ waits) h

  module _ (answer : Answer) where
    taken-after : (k token : ℕ) → IsDoneBy k (e.calls token) → IsDoneBy k (updated e.calls i (Done by request answer) token)
    taken-after k token h = subst (IsDoneBy k) (sym (updated-else e.calls i (Done by request answer) token (done-apart k token h))) h

    -- A call that waits after the step waited before it, and is another.
    back : (n other : ℕ) (asked : Request) → updated e.calls i (Done by request answer) n ≡ Waits other asked → (n ≢ i) × (e.calls n ≡ Waits other asked)
    back n other asked h =
        elim (cases_eq n i) [
          | inl here ↦ absurd (
              let a : Done by request answer ≡ Waits other asked = sym (subst (λ m. updated e.calls i (Done by request answer) m ≡ Done by request answer) (sym here) (updated-here e.calls i (Done by request answer))) ∙ h in
              cc)
          | inr ne ↦ (ne, sym (updated-else e.calls i (Done by request answer) n ne) ∙ h)
        ]

    -- Under an epoch that has just begun no append is on its way.
    fresh : (n other first : ℕ) (group : List (List ℕ)) → updated e.calls i (Done by request answer) n ≡ Waits other (Append (suc e.log.epoch) first group) → ⊥
    fresh n other first group h =
        let a = sound.epochs n other (suc e.log.epoch) first group (back n other (Append (suc e.log.epoch) first group) h).1 in
        omega arith

    landed-after : (log : Log) (more : List (List ℕ)) → ((first : ℕ) (part : List (List ℕ)) → IsAt recs first part → IsAt more first part)
        → ((epoch first : ℕ) (group : List (List ℕ)) → request ≡ Append epoch first group → has_inserted answer ≡ true
        → IsAt more first group × IsAt (e.makers ++ made by answer) first (replicate (length group) by))
        → (n other epoch first : ℕ) (group : List (List ℕ)) (found : Answer) → updated e.calls i (Done by request answer) n ≡ Done other (Append epoch first group) found
        → has_inserted found ≡ true → IsAt more first group × IsAt (e.makers ++ made by answer) first (replicate (length group) other)
    landed-after log more grown own n other epoch first group found is inserted =
        elim (cases_eq n i) [
          | inl here ↦
              let same : Done by request answer ≡ Done other (Append epoch first group) found = sym (subst (λ m. updated e.calls i (Done by request answer) m ≡ Done by request answer) (sym here) (updated-here e.calls i (Done by request answer))) ∙ is in
              let a : request ≡ Append epoch first group = cc in
              let b : answer ≡ found = cc in
              let c : by ≡ other = cc in
              let made-it = own epoch first group a (ap has_inserted b ∙ inserted) in
              (made-it.0, subst (λ k. IsAt (e.makers ++ made by answer) first (replicate (length group) k)) c made-it.1)
          | inr ne ↦
              let before = sound.landed n other epoch first group found (sym (updated-else e.calls i (Done by request answer) n ne) ∙ is) inserted in
              (grown first group before.0, at-grown e.makers first (replicate (length group) other) (made by answer) before.1)
        ]

    sound-after : (log : Log) (more : List (List ℕ))
        → log.rows ≡ numbered 1 more → length (e.makers ++ made by answer) ≡ length more → log.holder ≤ e.sent
        → ((n other : ℕ) (asked : Request) → n ≢ i → e.calls n ≡ Waits other asked → log.holder ≢ n)
        → e.log.epoch ≤ log.epoch
        → ((n other first : ℕ) (group : List (List ℕ)) → updated e.calls i (Done by request answer) n ≡ Waits other (Append log.epoch first group) → first ≡ suc (length more))
        → ((n m other another first second : ℕ) (group rest : List (List ℕ)) → updated e.calls i (Done by request answer) n ≡ Waits other (Append log.epoch first group)
        → updated e.calls i (Done by request answer) m ≡ Waits another (Append log.epoch second rest) → n ≡ m)
        → ((first : ℕ) (part : List (List ℕ)) → IsAt recs first part → IsAt more first part)
        → ((epoch first : ℕ) (group : List (List ℕ)) → request ≡ Append epoch first group → has_inserted answer ≡ true
        → IsAt more first group × IsAt (e.makers ++ made by answer) first (replicate (length group) by))
        → IsSound (ended e i by request answer log) more
    sound-after log more rows makers holder free epoch next one grown own = record {
      rows = rows;
      makers = makers;
      unsent = λ n late. updated-else e.calls i (Done by request answer) n (λ is. let a = sent in omega arith) ∙ sound.unsent n late;
      none = updated-else e.calls i (Done by request answer) 0 not-zero ∙ sound.none;
      holder = holder;
      free = λ n other asked h. let b = back n other asked h in free n other asked b.0 b.1;
      tokens = λ n other token h. sound.tokens n other token (back n other (Take token) h).1;
      epochs = λ n other was first group h. let a = sound.epochs n other was first group (back n other (Append was first group) h).1 in omega arith;
      next = next;
      one = one;
      landed = landed-after log more grown own;
    }

-- ---- a take

module _ (e : Engine) (recs : List (List ℕ)) (sound : IsSound e recs) (i by token : ℕ) (waits : e.calls i ≡ Waits by (Take token)) where
  its-token : token ≡ i
  its-token = sound.tokens i by token waits

  pub take-sound : IsSound (ended e i by (Take token) (Took (suc e.log.epoch) e.log.rows) (taken e.log token)) recs
  take-sound =
      sound-after e recs sound i by (Take token) waits (Took (suc e.log.epoch) e.log.rows) (taken e.log token) recs
      sound.rows (ap length (append-nil e.makers) ∙ sound.makers)
      (let a = sent e recs sound i by (Take token) waits in let b = its-token in omega arith)
      (λ n other asked ne h is. ne (sym is ∙ its-token))
      (omega arith)
      (λ n other first group h. absurd (fresh e recs sound i by (Take token) waits (Took (suc e.log.epoch) e.log.rows) n other first group h))
      (λ n m other another first second group rest h g. absurd (fresh e recs sound i by (Take token) waits (Took (suc e.log.epoch) e.log.rows) n other first group h))
      (λ first part h. h)
      (λ epoch first group is. absurd cc)

  no-take : (k : ℕ) (held : Held) (group : List (List ℕ)) → IsPending e recs k held group i → ⊥
  no-take k held group p =
      let call = subst (IsCall k (Append held.epoch (suc (length held.records)) group)) waits p.call in
      let is : Take token ≡ Append held.epoch (suc (length held.records)) group = call.1 in
      cc

  pub take-step : IsStep e recs i by (Take token) (Took (suc e.log.epoch) e.log.rows) (ended e i by (Take token) (Took (suc e.log.epoch) e.log.rows) (taken e.log token)) recs
  take-step = record {
    waits = waits;
    here = updated-here e.calls i (Done by (Take token) (Took (suc e.log.epoch) e.log.rows));
    others = updated-else e.calls i (Done by (Take token) (Took (suc e.log.epoch) e.log.rows));
    epoch = omega arith;
    current = λ epoch holder past before is. absurd (omega arith);
    knows = λ k epoch holder known own ne h. record {
      past = let a = h.past in omega arith;
      current = λ is. absurd (let a = h.past in omega arith);
      taken = taken-after e recs sound i by (Take token) waits (Took (suc e.log.epoch) e.log.rows) k holder h.taken;
      more = h.more;
      prefix = h.prefix;
      whole = λ is. absurd (done-apart e recs sound i by (Take token) waits k holder h.taken (sym is ∙ its-token));
      alone = λ is. absurd (done-apart e recs sound i by (Take token) waits k holder h.taken (sym is ∙ its-token));
    };
    took = λ is. (
      recs,
      sound.rows,
      record {
        past = omega arith;
        current = λ same. its-token;
        taken = subst (IsDoneBy by) (sym (updated-here e.calls i (Done by (Take token) (Took (suc e.log.epoch) e.log.rows)))) refl;
        more = [];
        prefix = sym (append-nil recs);
        whole = λ same. refl;
        alone = λ same n other first group h. absurd (fresh e recs sound i by (Take token) waits (Took (suc e.log.epoch) e.log.rows) n other first group h);
      },
    );
    pending = λ k held group p. absurd (no-take k held group p);
    retook = λ k held group append p ne is. absurd cc;
    records_at = λ first part h. h;
    makers_at = λ first part h. at-grown e.makers first part [] h;
    over = λ h. absurd h;
  }

-- ---- a retake by the holder's token

module _ (e : Engine) (recs : List (List ℕ)) (sound : IsSound e recs) (i by token : ℕ) (waits : e.calls i ≡ Waits by (Retake token)) (holds : e.log.holder ≡ token) where
  pub retake-sound : IsSound (ended e i by (Retake token) (Took (suc e.log.epoch) e.log.rows) (taken e.log token)) recs
  retake-sound =
      sound-after e recs sound i by (Retake token) waits (Took (suc e.log.epoch) e.log.rows) (taken e.log token) recs
      sound.rows (ap length (append-nil e.makers) ∙ sound.makers)
      (let a = sound.holder in omega arith)
      (λ n other asked ne h is. sound.free n other asked h (holds ∙ is))
      (omega arith)
      (λ n other first group h. absurd (fresh e recs sound i by (Retake token) waits (Took (suc e.log.epoch) e.log.rows) n other first group h))
      (λ n m other another first second group rest h g. absurd (fresh e recs sound i by (Retake token) waits (Took (suc e.log.epoch) e.log.rows) n other first group h))
      (λ first part h. h)
      (λ epoch first group is. absurd cc)

  no-retake : (k : ℕ) (held : Held) (group : List (List ℕ)) → IsPending e recs k held group i → ⊥
  no-retake k held group p =
      let call = subst (IsCall k (Append held.epoch (suc (length held.records)) group)) waits p.call in
      let is : Retake token ≡ Append held.epoch (suc (length held.records)) group = call.1 in
      cc

  pub retake-step : IsStep e recs i by (Retake token) (Took (suc e.log.epoch) e.log.rows) (ended e i by (Retake token) (Took (suc e.log.epoch) e.log.rows) (taken e.log token)) recs
  retake-step = record {
    waits = waits;
    here = updated-here e.calls i (Done by (Retake token) (Took (suc e.log.epoch) e.log.rows));
    others = updated-else e.calls i (Done by (Retake token) (Took (suc e.log.epoch) e.log.rows));
    epoch = omega arith;
    current = λ epoch holder past before is. absurd (omega arith);
    knows = λ k epoch holder known own ne h. record {
      past = let a = h.past in omega arith;
      current = λ is. absurd (let a = h.past in omega arith);
      taken = taken-after e recs sound i by (Retake token) waits (Took (suc e.log.epoch) e.log.rows) k holder h.taken;
      more = h.more;
      prefix = h.prefix;
      whole = λ is. h.whole (holds ∙ is);
      alone = λ same n other first group g. absurd (fresh e recs sound i by (Retake token) waits (Took (suc e.log.epoch) e.log.rows) n other first group g);
    };
    took = λ is. absurd cc;
    pending = λ k held group p. absurd (no-retake k held group p);
    retook = λ k held group append p ne is.
        let same : token ≡ held.token = cc in
        record {
          rows = sound.rows ∙ ap (numbered 1) (p.knows.whole (holds ∙ same)
              ∙ ap (with_landed held group) (sym (updated-else e.calls i (Done by (Retake token) (Took (suc e.log.epoch) e.log.rows)) append ne)));
          later = let a = p.knows.past in omega arith;
          past = omega arith;
          current = λ here. same;
        };
    records_at = λ first part h. h;
    makers_at = λ first part h. at-grown e.makers first part [] h;
    over = λ h. absurd h;
  }

-- ---- an append under the log's epoch

module _ (e : Engine) (recs : List (List ℕ)) (sound : IsSound e recs) (i by first : ℕ) (group : List (List ℕ)) (waits : e.calls i ≡ Waits by (Append e.log.epoch first group)) where
  -- the log with the group
  abbrev pub grown : Log
  grown = record { epoch = e.log.epoch; holder = e.log.holder; rows = e.log.rows ++ numbered first group }

  next-first : first ≡ suc (length recs)
  next-first = sound.next i by first group waits

  -- No other append is on its way under this epoch.
  only : (n other second : ℕ) (rest : List (List ℕ)) → updated e.calls i (Done by (Append e.log.epoch first group) (Inserted (length group))) n ≡ Waits other (Append e.log.epoch second rest) → ⊥
  only n other second rest h =
      let b = back e recs sound i by (Append e.log.epoch first group) waits (Inserted (length group)) n other (Append e.log.epoch second rest) h in
      b.0 (sound.one n i other by second first rest group b.1 waits)

  here-at : IsAt (recs ++ group) first group
  here-at = subst (λ n. IsAt (recs ++ group) n group) (sym next-first) (at-end recs group)

  makers-at : IsAt (e.makers ++ replicate (length group) by) first (replicate (length group) by)
  makers-at =
      let n : suc (length e.makers) ≡ first = ap suc sound.makers ∙ sym next-first in
      subst (λ m. IsAt (e.makers ++ replicate (length group) by) m (replicate (length group) by)) n (at-end e.makers (replicate (length group) by))

  own-at : (epoch second : ℕ) (rest : List (List ℕ)) → Append e.log.epoch first group ≡ Append epoch second rest
      → IsAt (recs ++ group) second rest × IsAt (e.makers ++ replicate (length group) by) second (replicate (length rest) by)
  own-at epoch second rest is =
      let a : first ≡ second = cc in
      let b : group ≡ rest = cc in (
        subst (λ n. IsAt (recs ++ group) n rest) a (subst (λ g. IsAt (recs ++ group) first g) b here-at),
        subst (λ n. IsAt (e.makers ++ replicate (length group) by) n (replicate (length rest) by)) a
            (subst (λ g. IsAt (e.makers ++ replicate (length group) by) first (replicate (length g) by)) b makers-at),
      )

  pub landing-sound : IsSound (ended e i by (Append e.log.epoch first group) (Inserted (length group)) grown) (recs ++ group)
  landing-sound =
      sound-after e recs sound i by (Append e.log.epoch first group) waits (Inserted (length group)) grown (recs ++ group)
      (ap (λ n. e.log.rows ++ numbered n group) next-first ∙ ap (λ rows. rows ++ numbered (suc (length recs)) group) sound.rows ∙ table-grown recs group)
      (let a = sound.makers in omega (arith, length-append e.makers (replicate (length group) by), length-replicate (length group) by, length-append recs group))
      sound.holder
      (λ n other asked ne h. sound.free n other asked h)
      (omega arith)
      (λ n other second rest h. absurd (only n other second rest h))
      (λ n m other another second third rest last h g. absurd (only n other second rest h))
      (λ second part h. at-grown recs second part group h)
      (λ epoch second rest is inserted. own-at epoch second rest is)

  landing-knows : (k epoch token : ℕ) (known : List (List ℕ)) (own : ℕ) → own ≢ i → Knows e recs k epoch token known own
      → Knows (ended e i by (Append e.log.epoch first group) (Inserted (length group)) grown) (recs ++ group) k epoch token known own
  landing-knows k epoch token known own ne h = record {
    past = h.past;
    current = h.current;
    taken = taken-after e recs sound i by (Append e.log.epoch first group) waits (Inserted (length group)) k token h.taken;
    more = h.more ++ group;
    prefix = ap (λ xs. xs ++ group) h.prefix ∙ append_assoc known h.more group;
    whole = λ is. absurd (ne (sym (h.alone is i by first group waits)));
    alone = λ is. absurd (ne (sym (h.alone is i by first group waits)));
  }

  -- The keeper's own append lands.
  landing-own : (k : ℕ) (held : Held) (mine : List (List ℕ)) → by ≡ k → group ≡ mine → e.log.epoch ≡ held.epoch → Knows e recs k held.epoch held.token held.records i
      → Knows (ended e i by (Append e.log.epoch first group) (Inserted (length group)) grown) (recs ++ group) k held.epoch held.token (held.records ++ mine) i
  landing-own k held mine is-mine same epoch h =
      let whole : recs ++ group ≡ held.records ++ mine = ap (λ xs. xs ++ group) (h.whole (h.current epoch)) ∙ ap (λ g. held.records ++ g) same in
      record {
        past = h.past;
        current = h.current;
        taken = taken-after e recs sound i by (Append e.log.epoch first group) waits (Inserted (length group)) k held.token h.taken;
        more = [];
        prefix = whole ∙ sym (append-nil (held.records ++ mine));
        whole = λ is. whole;
        alone = λ is n other second rest g. absurd (only n other second rest g);
      }

  some-inserted : (g : List (List ℕ)) → 0 < length g → has_inserted (Inserted (length g)) ≡ true
  some-inserted [] h = absurd (omega arith)
  some-inserted (x ∷ g) h = refl

  landing-pending : (k : ℕ) (held : Held) (mine : List (List ℕ)) → IsPending e recs k held mine i
      → IsPending (ended e i by (Append e.log.epoch first group) (Inserted (length group)) grown) (recs ++ group) k held mine i
  landing-pending k held mine p =
      let call = subst (IsCall k (Append held.epoch (suc (length held.records)) mine)) waits p.call in
      let is : Append e.log.epoch first group ≡ Append held.epoch (suc (length held.records)) mine = call.1 in
      let same : group ≡ mine = cc in
      let epoch : e.log.epoch ≡ held.epoch = cc in
      let before : with_landed held mine (e.calls i) ≡ held.records = ap (with_landed held mine) waits in
      let here : updated e.calls i (Done by (Append e.log.epoch first group) (Inserted (length group))) i ≡ Done by (Append e.log.epoch first group) (Inserted (length group))
      = updated-here e.calls i (Done by (Append e.log.epoch first group) (Inserted (length group))) in
      let inserted : has_inserted (Inserted (length group)) ≡ true = some-inserted group (subst (λ g. 0 < length g) (sym same) p.some) in
      let after : with_landed held mine (updated e.calls i (Done by (Append e.log.epoch first group) (Inserted (length group))) i) ≡ held.records ++ mine
      = ap (with_landed held mine) here ∙ ap (λ b. cond b (held.records ++ mine) held.records) inserted in
      record {
        knows = subst (λ known. Knows (ended e i by (Append e.log.epoch first group) (Inserted (length group)) grown) (recs ++ group) k held.epoch held.token known i) (sym after)
            (landing-own k held mine call.0 same epoch (subst (λ known. Knows e recs k held.epoch held.token known i) before p.knows));
        call = subst (IsCall k (Append held.epoch (suc (length held.records)) mine)) (sym here) call;
        some = p.some;
      }

  pub landing-step : IsStep e recs i by (Append e.log.epoch first group) (Inserted (length group))
      (ended e i by (Append e.log.epoch first group) (Inserted (length group)) grown) (recs ++ group)
  landing-step = record {
    waits = waits;
    here = updated-here e.calls i (Done by (Append e.log.epoch first group) (Inserted (length group)));
    others = updated-else e.calls i (Done by (Append e.log.epoch first group) (Inserted (length group)));
    epoch = omega arith;
    current = λ epoch token past before is. before is;
    knows = landing-knows;
    took = λ is. absurd cc;
    pending = landing-pending;
    retook = λ k held mine append p ne is. absurd cc;
    records_at = λ second part h. at-grown recs second part group h;
    makers_at = λ second part h. at-grown e.makers second part (replicate (length group) by) h;
    over = λ h. absurd (omega arith);
  }

-- ---- a call that changes nothing

abbrev pub IsRefusal : Answer → Type 0
IsRefusal (Took epoch rows) = ⊥
IsRefusal NotHolder = Unit {0}
IsRefusal (Inserted zero) = Unit {0}
IsRefusal (Inserted (suc count)) = ⊥
IsRefusal Duplicate = Unit {0}

refusal-inserts : (answer : Answer) → IsRefusal answer → has_inserted answer ≡ false
refusal-inserts (Took epoch rows) h = absurd h
refusal-inserts NotHolder h = refl
refusal-inserts (Inserted zero) h = refl
refusal-inserts (Inserted (suc count)) h = absurd h
refusal-inserts Duplicate h = refl

refusal-makes : (by : ℕ) (answer : Answer) → IsRefusal answer → made by answer ≡ []
refusal-makes by (Took epoch rows) h = absurd h
refusal-makes by NotHolder h = refl
refusal-makes by (Inserted zero) h = refl
refusal-makes by (Inserted (suc count)) h = absurd h
refusal-makes by Duplicate h = refl

module _ (e : Engine) (recs : List (List ℕ)) (sound : IsSound e recs) (i by : ℕ) (request : Request) (waits : e.calls i ≡ Waits by request)
    (answer : Answer) (refusal : IsRefusal answer) (no-take : (token : ℕ) → request ≡ Take token → ⊥) where
  pub refused-sound : IsSound (ended e i by request answer e.log) recs
  refused-sound =
      sound-after e recs sound i by request waits answer e.log recs
      sound.rows (ap length (ap (λ xs. e.makers ++ xs) (refusal-makes by answer refusal) ∙ append-nil e.makers) ∙ sound.makers)
      sound.holder
      (λ n other asked ne h. sound.free n other asked h)
      (omega arith)
      (λ n other first group h. sound.next n other first group (back e recs sound i by request waits answer n other (Append e.log.epoch first group) h).1)
      (λ n m other another first second group rest h g. sound.one n m other another first second group rest
      (back e recs sound i by request waits answer n other (Append e.log.epoch first group) h).1
      (back e recs sound i by request waits answer m another (Append e.log.epoch second rest) g).1)
      (λ first part h. h)
      (λ epoch first group is inserted. absurd (let a : false ≡ true = sym (refusal-inserts answer refusal) ∙ inserted in cc))

  refused-knows : (k epoch token : ℕ) (known : List (List ℕ)) (own : ℕ) → Knows e recs k epoch token known own
      → Knows (ended e i by request answer e.log) recs k epoch token known own
  refused-knows k epoch token known own h = record {
    past = h.past;
    current = h.current;
    taken = taken-after e recs sound i by request waits answer k token h.taken;
    more = h.more;
    prefix = h.prefix;
    whole = h.whole;
    alone = λ is n other first group g. h.alone is n other first group (back e recs sound i by request waits answer n other (Append e.log.epoch first group) g).1;
  }

  refused-pending : (k : ℕ) (held : Held) (group : List (List ℕ)) → IsPending e recs k held group i → IsPending (ended e i by request answer e.log) recs k held group i
  refused-pending k held group p =
      let here : updated e.calls i (Done by request answer) i ≡ Done by request answer = updated-here e.calls i (Done by request answer) in
      let same : with_landed held group (e.calls i) ≡ with_landed held group (updated e.calls i (Done by request answer) i) =
      ap (with_landed held group) waits ∙ sym (ap (with_landed held group) here ∙ ap (λ b. cond b (held.records ++ group) held.records) (refusal-inserts answer refusal)) in
      record {
        knows = subst (λ known. Knows (ended e i by request answer e.log) recs k held.epoch held.token known i) same
            (refused-knows k held.epoch held.token (with_landed held group (e.calls i)) i p.knows);
        call = subst (IsCall k (Append held.epoch (suc (length held.records)) group)) (sym here)
            (subst (IsCall k (Append held.epoch (suc (length held.records)) group)) waits p.call);
        some = p.some;
      }

  refused-retook : (held : Held) (group : List (List ℕ)) (append : ℕ) (found : Answer) → IsRefusal found → IsRetook (ended e i by request answer e.log) held group append found
  refused-retook held group append (Took epoch rows) h = absurd h
  refused-retook held group append NotHolder h = tt
  refused-retook held group append (Inserted count) h = tt
  refused-retook held group append Duplicate h = tt

  pub refused-step : IsStep e recs i by request answer (ended e i by request answer e.log) recs
  refused-step = record {
    waits = waits;
    here = updated-here e.calls i (Done by request answer);
    others = updated-else e.calls i (Done by request answer);
    epoch = omega arith;
    current = λ epoch token past before is. before is;
    knows = λ k epoch token known own ne h. refused-knows k epoch token known own h;
    took = λ is. absurd (no-take i is);
    pending = refused-pending;
    retook = λ k held group append p ne is. refused-retook held group append answer refusal;
    records_at = λ first part h. h;
    makers_at = λ first part h. at-grown e.makers first part (made by answer) h;
    over = λ h. refusal-inserts answer refusal;
  }
