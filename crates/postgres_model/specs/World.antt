-- The world of one log: keepers that call the engine, and calls that are done late, once, or never.
use Rattle.std.specs.Prelude.{ℕ, zero, suc, Bool, true, false, ◌==◌, if◌then◌else◌, List, [], ◌∷◌, ◌++◌, length, replicate, Option, None, Some}
use Rattle.std.specs.Str.{bytes_eq}
use Rattle.postgres_model.specs.Engine.{Row, Log, fetched, Request, Take, Retake, Append, Answer, Took, NotHolder, Inserted, Duplicate, after, answer, has_inserted}

-- ---- calls, and the engine that does them

-- A call is on its way from when it was sent until the engine does it, if it ever does. Its answer may come or be lost.
pub data Call : Type 0 where
  Unsent : Call
  Waits : (keeper : ℕ) → Request → Call
  Done : (keeper : ℕ) → Request → Answer → Call

-- the function with another value at one number
abbrev pub updated : {A : Type 0} → (ℕ → A) → ℕ → A → ℕ → A
updated f offset new n = if n == offset then new else f n

-- The log, and all calls that were ever sent, numbered from 1. For each row, the keeper whose append inserted it.
pub record Engine : Type 0 where
  pub log : Log
  pub sent : ℕ
  pub calls : ℕ → Call
  pub makers : List ℕ

-- as many times the keeper as records were inserted
abbrev pub made : ℕ → Answer → List ℕ
made keeper (Inserted count) = replicate count keeper
made keeper _ = []

abbrev pub sending : Engine → ℕ → Request → Engine
sending e keeper request =
    record { log = e.log; sent = suc e.sent; calls = updated e.calls (suc e.sent) (Waits keeper request); makers = e.makers }

-- The engine does a call once, however often it is asked to.
abbrev pub done : Engine → ℕ → Call → Engine
done e call Unsent = e
done e call (Waits keeper request) =
    record {
      log = after e.log request;
      sent = e.sent;
      calls = updated e.calls call (Done keeper request (answer e.log request));
      makers = e.makers ++ made keeper (answer e.log request);
    }
done e call (Done keeper request found) = e

-- ---- keepers

-- The log as a keeper knows it: under which epoch it appends, by which token it took the log, and the records that it holds.
pub record Held : Type 0 where
  pub epoch : ℕ
  pub token : ℕ
  pub records : List (List ℕ)

-- A keeper holds no log; has sent a take; holds the log; has sent an append of a group; has given that up, and doesn't know
-- whether the group is in the log; or has sent a retake to settle it.
pub data Keeper : Type 0 where
  Closed : Keeper
  Taking : (call : ℕ) → Keeper
  Idle : Held → Keeper
  Appending : Held → (group : List (List ℕ)) → (append : ℕ) → Keeper
  Unsettled : Held → (group : List (List ℕ)) → (append : ℕ) → Keeper
  Settling : Held → (group : List (List ℕ)) → (append retake : ℕ) → Keeper

-- A keeper got the answer that this group is in the log, the first record under this number.
pub record Acknowledged : Type 0 where
  pub keeper : ℕ
  pub first : ℕ
  pub group : List (List ℕ)

-- Settling answered whether the group of this append is in the log.
pub record Settled : Type 0 where
  pub append : ℕ
  pub holds : Bool

-- what a keeper is after an answer, and what it has learnt by it
pub record Told : Type 0 where
  pub keeper : Keeper
  pub acknowledged : List Acknowledged
  pub settled : List Settled

abbrev pub same_records : List (List ℕ) → List (List ℕ) → Bool
same_records [] [] = true
same_records [] (y ∷ ys) = false
same_records (x ∷ xs) [] = false
same_records (x ∷ xs) (y ∷ ys) = if bytes_eq x y then same_records xs ys else false

-- Nothing is learnt.
abbrev pub silent : Keeper → Told
silent keeper = record { keeper = keeper; acknowledged = []; settled = [] }

-- the number after those of the records that are held
abbrev pub next_number : Held → ℕ
next_number held = suc (length held.records)

abbrev pub with_group : Held → List (List ℕ) → List (List ℕ)
with_group held group = held.records ++ group

-- A take makes the log the keeper's, with all its records.
abbrev pub told_take : (call : ℕ) → Answer → Told
told_take call (Took epoch rows) = silent (Idle (record { epoch = epoch; token = call; records = fetched 1 (length rows) rows }))
told_take call _ = silent Closed

-- An append is acknowledged where as many records were inserted as the group has. At any other answer it is to be settled.
abbrev pub told_append : (keeper : ℕ) → Held → List (List ℕ) → (append : ℕ) → Answer → Told
told_append k held group append (Inserted count) =
    if count == length group
    then record {
      keeper = Idle (record { epoch = held.epoch; token = held.token; records = with_group held group });
      acknowledged = record { keeper = k; first = next_number held; group = group } ∷ [];
      settled = [];
    }
    else silent (Unsettled held group append)
told_append k held group append _ = silent (Unsettled held group append)

-- What settling finds under the group's numbers: the group, nothing, or what another keeper put there, after which the
-- keeper gives the log up.
abbrev pub told_settle : (keeper : ℕ) → Held → List (List ℕ) → (append epoch : ℕ) → List (List ℕ) → Told
told_settle k held group append epoch [] =
    record {
      keeper = Idle (record { epoch = epoch; token = held.token; records = held.records });
      acknowledged = [];
      settled = record { append = append; holds = false } ∷ [];
    }
told_settle k held group append epoch (one ∷ more) =
    if same_records (one ∷ more) group
    then record {
      keeper = Idle (record { epoch = epoch; token = held.token; records = with_group held group });
      acknowledged = record { keeper = k; first = next_number held; group = group } ∷ [];
      settled = record { append = append; holds = true } ∷ [];
    }
    else silent Closed

-- A retake is answered with what is from the group's first number on. Who isn't the holder any more gives the log up.
abbrev pub told_retake : (keeper : ℕ) → Held → List (List ℕ) → (append : ℕ) → Answer → Told
told_retake k held group append (Took epoch rows) =
    told_settle k held group append epoch (fetched (next_number held) (length group) rows)
told_retake k held group append _ = silent Closed

-- A keeper hears the answer of the call that it waits for, where the engine has done it.
abbrev pub heard_call : Keeper → (Answer → Told) → Call → Told
heard_call keeper reported (Done by request found) = reported found
heard_call keeper reported _ = silent keeper

abbrev pub heard : (keeper : ℕ) → Keeper → (ℕ → Call) → Told
heard k Closed calls = silent Closed
heard k (Taking call) calls = heard_call (Taking call) (told_take call) (calls call)
heard k (Idle held) calls = silent (Idle held)
heard k (Appending held group append) calls =
    heard_call (Appending held group append) (told_append k held group append) (calls append)
heard k (Unsettled held group append) calls = silent (Unsettled held group append)
heard k (Settling held group append retake) calls =
    heard_call (Settling held group append retake) (told_retake k held group append) (calls retake)

-- A keeper gives up waiting: an answer was lost, or said nothing of the call. What was to be settled still is.
abbrev pub given_up : Keeper → Keeper
given_up (Taking call) = Closed
given_up (Appending held group append) = Unsettled held group append
given_up (Settling held group append retake) = Unsettled held group append
given_up keeper = keeper

-- ---- the world

pub record World : Type 0 where
  pub engine : Engine
  pub keepers : ℕ → Keeper
  pub acknowledged : List Acknowledged
  pub settled : List Settled

-- What may happen next: a keeper opens the log, appends a group of at least one record, or settles; the engine does a call;
-- a keeper hears its answer, gives up waiting for it, or starts anew.
pub data Event : Type 0 where
  Open : (keeper : ℕ) → Event
  Add : (keeper : ℕ) (one : List ℕ) (more : List (List ℕ)) → Event
  Settle : (keeper : ℕ) → Event
  Do : (call : ℕ) → Event
  Hear : (keeper : ℕ) → Event
  GiveUp : (keeper : ℕ) → Event
  Crash : (keeper : ℕ) → Event

-- Keeper k has sent this, and is now that.
abbrev pub asked : World → ℕ → Request → Keeper → World
asked w k request keeper =
    record {
      engine = sending w.engine k request;
      keepers = updated w.keepers k keeper;
      acknowledged = w.acknowledged;
      settled = w.settled;
    }

-- Only who holds no log takes it. The token of a take is new: here it is the number of its call.
abbrev pub opened : World → ℕ → Keeper → World
opened w k Closed = asked w k (Take (suc w.engine.sent)) (Taking (suc w.engine.sent))
opened w k _ = w

-- Only who holds the log, with nothing to be settled, appends to it.
abbrev pub added : World → ℕ → List (List ℕ) → Keeper → World
added w k group (Idle held) =
    asked w k (Append held.epoch (next_number held) group) (Appending held group (suc w.engine.sent))
added w k group _ = w

-- Settling begins by the fence, with the token of the take by which the keeper has the log.
abbrev pub settling : World → ℕ → Keeper → World
settling w k (Unsettled held group append) = asked w k (Retake held.token) (Settling held group append (suc w.engine.sent))
settling w k _ = w

abbrev pub with_engine : World → Engine → World
with_engine w e = record { engine = e; keepers = w.keepers; acknowledged = w.acknowledged; settled = w.settled }

abbrev pub learnt : World → ℕ → Told → World
learnt w k reported =
    record {
      engine = w.engine;
      keepers = updated w.keepers k reported.keeper;
      acknowledged = w.acknowledged ++ reported.acknowledged;
      settled = w.settled ++ reported.settled;
    }

abbrev pub happens : World → Event → World
happens w (Open k) = opened w k (w.keepers k)
happens w (Add k one more) = added w k (one ∷ more) (w.keepers k)
happens w (Settle k) = settling w k (w.keepers k)
happens w (Do call) = with_engine w (done w.engine call (w.engine.calls call))
happens w (Hear k) = learnt w k (heard k (w.keepers k) w.engine.calls)
happens w (GiveUp k) = learnt w k (silent (given_up (w.keepers k)))
happens w (Crash k) = learnt w k (silent Closed)

-- a whole schedule
abbrev pub run : World → List Event → World
run w [] = w
run w (event ∷ events) = run (happens w event) events

-- Nothing was sent, the log is empty, and nobody holds it.
abbrev pub start : World
start =
    record {
      engine = record { log = record { epoch = 0; holder = 0; rows = [] }; sent = 0; calls = λ call. Unsent; makers = [] };
      keepers = λ keeper. Closed;
      acknowledged = [];
      settled = [];
    }
