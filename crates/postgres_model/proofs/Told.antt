-- The laws, from the invariant.
use Rattle.std.proofs.Common.{◌≡◌, ℕ, zero, suc, ◌+◌, ◌<◌, ◌≤◌, Bool, true, false, cond, List, [], ◌∷◌, ◌++◌, length, map, replicate, slice_get, Option, Some, None, refl, sym, ap, subst, ◌∙◌, arith, inl, inr, append_assoc}
use Rattle.std.proofs.lemmas.Bool.{cases_Bool}
use Rattle.std.proofs.lemmas.List.{length-replicate, length-append}
use Rattle.postgres_model.specs.Engine.{Row, Log, numbered, record_at}
use Rattle.postgres_model.specs.World.{Call, Engine, Keeper, Closed, Taking, Idle, Appending, Unsettled, Settling, Held, Acknowledged, Settled, World, Event, run, start}
use Rattle.postgres_model.specs.Laws.{reached, StandsFrom, has_landed, HasLog, texts}
use Rattle.postgres_model.proofs.Lists.{IsAt, get-at, get-replicate}
use Rattle.postgres_model.proofs.Tables.{record_at-table}
use Rattle.postgres_model.proofs.Invariant.{IsSound, Knows, IsKeeper, IsPending, with_landed, IsAcknowledged, IsSettled, IsWorld}
use Rattle.postgres_model.proofs.Runs.{every-world, stays-acknowledged, stays-settled, run-on}

-- A part of the records is in the table.
holds-at : (log : Log) (recs : List (List ℕ)) → log.rows ≡ numbered 1 recs → (first : ℕ) (group : List (List ℕ)) → IsAt recs first group → StandsFrom first group log
holds-at log recs is first group h i lt =
    let n : suc (length h.before + i) ≡ first + i = omega (arith, h.offset) in
    subst (λ m. record_at m log.rows ≡ slice_get group i) n
    (ap (record_at (suc (length h.before + i))) is ∙ record_at-table (length h.before + i) recs ∙ get-at recs first group i (length h.before + i) h lt n)

pub stays-present : (early late : List Event) (j : ℕ) (a : Acknowledged) → slice_get (reached early).acknowledged j ≡ Some a
    → StandsFrom a.first a.group (reached (early ++ late)).engine.log
stays-present early late j a is =
    let w = every-world (early ++ late) in
    let still : slice_get (reached (early ++ late)).acknowledged j ≡ Some a =
    ap (λ x. slice_get x.acknowledged j) (run-on start early late) ∙ stays-acknowledged (reached early) late j a is in
    holds-at (reached (early ++ late)).engine.log w.0 w.1.engine.rows a.first a.group (w.1.acknowledged j a still).0

pub one-keeper : (events : List Event) (i j m n : ℕ) (a b : Acknowledged)
    → slice_get (reached events).acknowledged i ≡ Some a → slice_get (reached events).acknowledged j ≡ Some b
    → m < length a.group → n < length b.group → a.first + m ≡ b.first + n → a.keeper ≡ b.keeper
one-keeper events i j m n a b is also lt less same =
    let w = every-world events in
    let one = (w.1.acknowledged i a is).1 in
    let other = (w.1.acknowledged j b also).1 in
    let offset = length one.before + m in
    let long : m < length (replicate (length a.group) a.keeper) = omega (arith, length-replicate (length a.group) a.keeper) in
    let wide : n < length (replicate (length b.group) b.keeper) = omega (arith, length-replicate (length b.group) b.keeper) in
    let here : suc (length one.before + m) ≡ a.first + m = omega (arith, one.offset) in
    let there : suc (length one.before + m) ≡ b.first + n = here ∙ same in
    let x : Some a.keeper ≡ Some b.keeper =
    sym (get-at (reached events).engine.makers a.first (replicate (length a.group) a.keeper) m (length one.before + m) one long here ∙ get-replicate (length a.group) m a.keeper lt)
    ∙ (get-at (reached events).engine.makers b.first (replicate (length b.group) b.keeper) n (length one.before + m) other wide there ∙ get-replicate (length b.group) n b.keeper less) in
    cc

pub stays-as-settled : (early late : List Event) (j : ℕ) (s : Settled) → slice_get (reached early).settled j ≡ Some s
    → has_landed ((reached (early ++ late)).engine.calls s.append) ≡ s.holds
stays-as-settled early late j s is =
    let w = every-world (early ++ late) in
    let still : slice_get (reached (early ++ late)).settled j ≡ Some s =
    ap (λ x. slice_get x.settled j) (run-on start early late) ∙ stays-settled (reached early) late j s is in
    (w.1.settled j s still).0

-- What a keeper holds is at the start.
prefix-at : (e : Engine) (recs : List (List ℕ)) (k epoch token : ℕ) (known : List (List ℕ)) (own : ℕ) → Knows e recs k epoch token known own → IsAt recs 1 known
prefix-at e recs k epoch token known own h = record { before = []; rest = h.more; parts = h.prefix; offset = refl }

pending-at : (e : Engine) (recs : List (List ℕ)) (k : ℕ) (held : Held) (group : List (List ℕ)) (append : ℕ) → IsPending e recs k held group append → IsAt recs 1 held.records
pending-at e recs k held group append p =
    elim (cases_Bool (has_landed (e.calls append))) [
      | inl landed ↦ record {
        before = [];
        rest = group ++ p.knows.more;
        parts = p.knows.prefix ∙ ap (λ b. cond b (held.records ++ group) held.records ++ p.knows.more) landed ∙ append_assoc held.records group p.knows.more;
        offset = refl;
      }
      | inr none ↦ record {
        before = [];
        rest = p.knows.more;
        parts = p.knows.prefix ∙ ap (λ b. cond b (held.records ++ group) held.records ++ p.knows.more) none;
        offset = refl;
      }
    ]

held-at : (e : Engine) (recs : List (List ℕ)) (k : ℕ) (keeper : Keeper) (held : Held) → IsKeeper e recs k keeper → HasLog keeper held → IsAt recs 1 held.records
held-at e recs k Closed held h has = absurd has
held-at e recs k (Taking call) held h has = absurd has
held-at e recs k (Idle known) held h has = subst (λ x. IsAt recs 1 x.records) has (prefix-at e recs k known.epoch known.token known.records 0 h)
held-at e recs k (Appending known group append) held h has = subst (λ x. IsAt recs 1 x.records) has (pending-at e recs k known group append h)
held-at e recs k (Unsettled known group append) held h has = subst (λ x. IsAt recs 1 x.records) has (pending-at e recs k known group append h)
held-at e recs k (Settling known group append retake) held h has = subst (λ x. IsAt recs 1 x.records) has (pending-at e recs k known group append h.0)

pub prefix : (events : List Event) (k : ℕ) (held : Held) → HasLog ((reached events).keepers k) held → StandsFrom 1 held.records (reached events).engine.log
prefix events k held has =
    let w = every-world events in
    holds-at (reached events).engine.log w.0 w.1.engine.rows 1 held.records
    (held-at (reached events).engine w.0 k ((reached events).keepers k) held (w.1.keepers k) has)

pub whole : (events : List Event) (k : ℕ) (held : Held) → (reached events).keepers k ≡ Idle held → (reached events).engine.log.epoch ≡ held.epoch
    → (reached events).engine.log.rows ≡ numbered 1 held.records
whole events k held is epoch =
    let w = every-world events in
    let h : IsKeeper (reached events).engine w.0 k (Idle held) = subst (IsKeeper (reached events).engine w.0 k) is (w.1.keepers k) in
    w.1.engine.rows ∙ ap (numbered 1) (h.whole (h.current epoch))

texts-numbered : (first : ℕ) (recs : List (List ℕ)) → texts (numbered first recs) ≡ recs
texts-numbered first [] = refl
texts-numbered first (x ∷ recs) = ap (λ xs. x ∷ xs) (texts-numbered (suc first) recs)

pub no-gap : (events : List Event) → (reached events).engine.log.rows ≡ numbered 1 (texts (reached events).engine.log.rows)
no-gap events =
    let w = every-world events in
    w.1.engine.rows ∙ ap (numbered 1) (sym (ap texts w.1.engine.rows ∙ texts-numbered 1 w.0))
