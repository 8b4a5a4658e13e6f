-- The engine as one log: what it keeps, what may be asked of it, and what each request does.
use Rattle.std.specs.Prelude.{ℕ, zero, suc, ◌+◌, Bool, true, false, ◌==◌, ◌||◌, if◌then◌else◌, List, [], ◌∷◌, ◌++◌, length, Option, None, Some, is_some}

-- A row of the table of records. The number is its key.
pub record Row : Type 0 where
  pub number : ℕ
  pub bytes : List ℕ

-- The rows in the order in which they were inserted, and the fence: only who knows the epoch may insert, and only the
-- holder's token may take a new epoch without taking the log from its holder.
pub record Log : Type 0 where
  pub epoch : ℕ
  pub holder : ℕ
  pub rows : List Row

-- the record of a number
abbrev pub record_at : ℕ → List Row → Option (List ℕ)
record_at n [] = None
record_at n (row ∷ rows) = if row.number == n then Some row.bytes else record_at n rows

abbrev pub found : Option (List ℕ) → List (List ℕ) → List (List ℕ)
found None more = []
found (Some bytes) more = bytes ∷ more

-- The records from a number on, up to the first number that has none, and at most so many.
abbrev pub fetched : (first limit : ℕ) → List Row → List (List ℕ)
fetched first zero rows = []
fetched first (suc limit) rows = found (record_at first rows) (fetched (suc first) limit rows)

-- the rows of a group of records, numbered from the first on
abbrev pub numbered : ℕ → List (List ℕ) → List Row
numbered first [] = []
numbered first (bytes ∷ group) = record { number = first; bytes = bytes } ∷ numbered (suc first) group

-- one of the numbers of a group has a row
abbrev pub is_taken : ℕ → List (List ℕ) → List Row → Bool
is_taken first [] rows = false
is_taken first (bytes ∷ group) rows = is_some (record_at first rows) || is_taken (suc first) group rows

-- Taking makes the token the holder's. Taking again asks for the holder's token. Both end the epoch. An append is of a group
-- of records under an epoch.
pub data Request : Type 0 where
  Take : (token : ℕ) → Request
  Retake : (token : ℕ) → Request
  Append : (epoch first : ℕ) (group : List (List ℕ)) → Request

-- What is answered: the new epoch, with what the log has then; that the holder is another; how many records were inserted;
-- that a number is taken already.
pub data Answer : Type 0 where
  Took : (epoch : ℕ) (rows : List Row) → Answer
  NotHolder : Answer
  Inserted : (count : ℕ) → Answer
  Duplicate : Answer

-- ---- what a request leaves

abbrev pub taken : Log → ℕ → Log
taken log token = record { epoch = suc log.epoch; holder = token; rows = log.rows }

abbrev pub retaken : Log → ℕ → Log
retaken log token = if log.holder == token then taken log token else log

-- A group is inserted as a whole or not at all: not under another epoch, nor where a number is taken. The statement looks at
-- the epoch and the numbers alone, so it would leave a gap too.
abbrev pub appended : Log → ℕ → ℕ → List (List ℕ) → Log
appended log epoch first group =
    if log.epoch == epoch
    then (if is_taken first group log.rows then log
    else record { epoch = log.epoch; holder = log.holder; rows = log.rows ++ numbered first group })
    else log

abbrev pub after : Log → Request → Log
after log (Take token) = taken log token
after log (Retake token) = retaken log token
after log (Append epoch first group) = appended log epoch first group

-- ---- what is answered

abbrev pub take_answer : Log → Answer
take_answer log = Took (suc log.epoch) log.rows

abbrev pub retake_answer : Log → ℕ → Answer
retake_answer log token = if log.holder == token then take_answer log else NotHolder

-- Under another epoch nothing is inserted, which is no error.
abbrev pub append_answer : Log → ℕ → ℕ → List (List ℕ) → Answer
append_answer log epoch first group =
    if log.epoch == epoch then (if is_taken first group log.rows then Duplicate else Inserted (length group)) else Inserted 0

abbrev pub answer : Log → Request → Answer
answer log (Take token) = take_answer log
answer log (Retake token) = retake_answer log token
answer log (Append epoch first group) = append_answer log epoch first group

-- the answer says that records were inserted
abbrev pub has_inserted : Answer → Bool
has_inserted (Inserted (suc count)) = true
has_inserted _ = false
