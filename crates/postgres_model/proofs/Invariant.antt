-- What holds in every world: of the engine and its calls, and of what each keeper knows of the log.
use Rattle.std.proofs.Common.{◌≡◌, ℕ, zero, suc, ◌+◌, ◌<◌, ◌≤◌, ◌≢◌, ◌⊎◌, Bool, true, false, cond, eqb, List, [], ◌∷◌, ◌++◌, length, replicate, slice_get, Option, Some, None, refl, sym, ap, subst, ◌∙◌, arith, inl, inr}
use Rattle.std.proofs.lemmas.Bool.{cases_eq, eq-eqb, ne_eqb}
use Rattle.postgres_model.specs.Engine.{Row, Log, numbered, Request, Take, Retake, Append, Answer, Took, NotHolder, Inserted, Duplicate, has_inserted}
use Rattle.postgres_model.specs.World.{Call, Unsent, Waits, Done, updated, Engine, Keeper, Closed, Taking, Idle, Appending, Unsettled, Settling, Held, Acknowledged, Settled, World}
use Rattle.postgres_model.specs.Laws.{has_landed}
use Rattle.postgres_model.proofs.Lists.{IsAt}

-- ---- a function with another value at one place

pub updated-here : {A : Type 0} (f : ℕ → A) (offset : ℕ) (new : A) → updated f offset new offset ≡ new
updated-here f offset new = let t : eqb offset offset ≡ true = eq-eqb _ _ refl in rw t refl

pub updated-else : {A : Type 0} (f : ℕ → A) (offset : ℕ) (new : A) (n : ℕ) → n ≢ offset → updated f offset new n ≡ f n
updated-else f offset new n ne = let t : eqb n offset ≡ false = ne_eqb _ _ ne in rw t refl

-- ---- the engine

-- The keeper's call was done.
abbrev pub IsDoneBy : ℕ → Call → Type 0
IsDoneBy k Unsent = ⊥
IsDoneBy k (Waits by request) = ⊥
IsDoneBy k (Done by request answer) = by ≡ k

-- An append on its way, under the epoch that the log has.
abbrev pub IsLive : Engine → ℕ → ℕ → ℕ → List (List ℕ) → Type 0
IsLive e i by first group = e.calls i ≡ Waits by (Append e.log.epoch first group)

pub record IsSound (e : Engine) (recs : List (List ℕ)) : Type 0 where
  pub rows : e.log.rows ≡ numbered 1 recs
  pub makers : length e.makers ≡ length recs
  pub unsent : (i : ℕ) → e.sent < i → e.calls i ≡ Unsent
  pub none : e.calls 0 ≡ Unsent
  pub holder : e.log.holder ≤ e.sent
  pub free : (i by : ℕ) (request : Request) → e.calls i ≡ Waits by request → e.log.holder ≢ i
  pub tokens : (i by token : ℕ) → e.calls i ≡ Waits by (Take token) → token ≡ i
  pub epochs : (i by epoch first : ℕ) (group : List (List ℕ)) → e.calls i ≡ Waits by (Append epoch first group) → epoch ≤ e.log.epoch
  pub next : (i by first : ℕ) (group : List (List ℕ)) → IsLive e i by first group → first ≡ suc (length recs)
  pub one : (i j by other first second : ℕ) (group more : List (List ℕ)) → IsLive e i by first group → IsLive e j other second more → i ≡ j
  pub landed : (i by epoch first : ℕ) (group : List (List ℕ)) (answer : Answer) → e.calls i ≡ Done by (Append epoch first group) answer
      → has_inserted answer ≡ true → IsAt recs first group × IsAt e.makers first (replicate (length group) by)

-- ---- keepers

-- Keeper k, by a take that was done, knows these records of the log. As long as the token is the holder's, they are all, and
-- no append but its own one is on its way under the log's epoch.
pub record Knows (e : Engine) (recs : List (List ℕ)) (k epoch token : ℕ) (known : List (List ℕ)) (own : ℕ) : Type 0 where
  pub past : epoch ≤ e.log.epoch
  pub current : e.log.epoch ≡ epoch → e.log.holder ≡ token
  pub taken : IsDoneBy k (e.calls token)
  pub more : List (List ℕ)
  pub prefix : recs ≡ known ++ more
  pub whole : e.log.holder ≡ token → recs ≡ known
  pub alone : e.log.holder ≡ token → (i by first : ℕ) (group : List (List ℕ)) → IsLive e i by first group → i ≡ own

abbrev pub IsTook : Engine → List (List ℕ) → ℕ → ℕ → Answer → Type 0
IsTook e recs k call (Took epoch rows) = (known : List (List ℕ)) × (rows ≡ numbered 1 known) × Knows e recs k epoch call known 0
IsTook e recs k call NotHolder = Unit {0}
IsTook e recs k call (Inserted count) = Unit {0}
IsTook e recs k call Duplicate = Unit {0}

abbrev pub IsTaking : Engine → List (List ℕ) → ℕ → ℕ → Call → Type 0
IsTaking e recs k call Unsent = ⊥
IsTaking e recs k call (Waits by request) = (by ≡ k) × (request ≡ Take call)
IsTaking e recs k call (Done by request answer) = IsTook e recs k call answer

-- the call is this request of the keeper's, on its way or done
abbrev pub IsCall : ℕ → Request → Call → Type 0
IsCall k request Unsent = ⊥
IsCall k request (Waits by asked) = (by ≡ k) × (asked ≡ request)
IsCall k request (Done by asked answer) = (by ≡ k) × (asked ≡ request)

-- the records with those of an append that has landed
abbrev pub with_landed : Held → List (List ℕ) → Call → List (List ℕ)
with_landed held group call = cond (has_landed call) (held.records ++ group) held.records

pub record IsPending (e : Engine) (recs : List (List ℕ)) (k : ℕ) (held : Held) (group : List (List ℕ)) (append : ℕ) : Type 0 where
  pub knows : Knows e recs k held.epoch held.token (with_landed held group (e.calls append)) append
  pub call : IsCall k (Append held.epoch (suc (length held.records)) group) (e.calls append)
  pub some : 0 < length group

-- What a retake was told is what is left of the append for ever, which can't land any more.
pub record IsRetookAt (e : Engine) (held : Held) (group : List (List ℕ)) (append epoch : ℕ) (table : List Row) : Type 0 where
  pub rows : table ≡ numbered 1 (with_landed held group (e.calls append))
  pub later : held.epoch < epoch
  pub past : epoch ≤ e.log.epoch
  pub current : e.log.epoch ≡ epoch → e.log.holder ≡ held.token

abbrev pub IsRetook : Engine → Held → List (List ℕ) → ℕ → Answer → Type 0
IsRetook e held group append (Took epoch rows) = IsRetookAt e held group append epoch rows
IsRetook e held group append NotHolder = Unit {0}
IsRetook e held group append (Inserted count) = Unit {0}
IsRetook e held group append Duplicate = Unit {0}

abbrev pub IsRetaking : Engine → ℕ → Held → List (List ℕ) → ℕ → Call → Type 0
IsRetaking e k held group append Unsent = ⊥
IsRetaking e k held group append (Waits by request) = (by ≡ k) × (request ≡ Retake held.token)
IsRetaking e k held group append (Done by request answer) = IsRetook e held group append answer

abbrev pub IsKeeper : Engine → List (List ℕ) → ℕ → Keeper → Type 0
IsKeeper e recs k Closed = Unit {0}
IsKeeper e recs k (Taking call) = IsTaking e recs k call (e.calls call)
IsKeeper e recs k (Idle held) = Knows e recs k held.epoch held.token held.records 0
IsKeeper e recs k (Appending held group append) = IsPending e recs k held group append
IsKeeper e recs k (Unsettled held group append) = IsPending e recs k held group append
IsKeeper e recs k (Settling held group append retake) =
    IsPending e recs k held group append × IsRetaking e k held group append (e.calls retake)

-- ---- what was told

-- The group is at its numbers, and the keeper's append put it there.
abbrev pub IsAcknowledged : Engine → List (List ℕ) → Acknowledged → Type 0
IsAcknowledged e recs a = IsAt recs a.first a.group × IsAt e.makers a.first (replicate (length a.group) a.keeper)

-- The append was done, or can't land any more.
abbrev pub IsOver : Engine → Call → Type 0
IsOver e Unsent = ⊥
IsOver e (Waits by (Take token)) = ⊥
IsOver e (Waits by (Retake token)) = ⊥
IsOver e (Waits by (Append epoch first group)) = epoch < e.log.epoch
IsOver e (Done by request answer) = Unit {0}

abbrev pub IsSettled : Engine → Settled → Type 0
IsSettled e s = (has_landed (e.calls s.append) ≡ s.holds) × IsOver e (e.calls s.append)

pub record IsWorld (w : World) (recs : List (List ℕ)) : Type 0 where
  pub engine : IsSound w.engine recs
  pub keepers : (k : ℕ) → IsKeeper w.engine recs k (w.keepers k)
  pub acknowledged : (i : ℕ) (a : Acknowledged) → slice_get w.acknowledged i ≡ Some a → IsAcknowledged w.engine recs a
  pub settled : (i : ℕ) (s : Settled) → slice_get w.settled i ≡ Some s → IsSettled w.engine s
