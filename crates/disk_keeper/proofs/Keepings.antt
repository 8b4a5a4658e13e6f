-- What the disk under a keeper has, and what a crash leaves of it.
use Rattle.std.proofs.Common.{◌≡◌, ◌≢◌, ◌⊎◌, inl, inr, ℕ, zero, suc, ◌+◌, ◌-◌, ◌<◌, ◌≤◌, ◌^◌, List, [], ◌∷◌, ◌++◌, length, take, drop, get_or, Bool, true, false, Option, Some, None, refl, sym, ◌∙◌, ap, subst, arith, append_assoc, length-append, length-take}
use Rattle.std.specs.Prelude.{nat_lt, slice_index, slice_get, if◌then◌else◌, ◌==◌, IfSome, OnOk, Result, Ok, Err}
use Rattle.std.proofs.lemmas.List.{append-nil, take_at, take_all, get_or_at, nil_from_length}
use Rattle.std.proofs.lemmas.Bool.{cases_eq}
use Rattle.std.proofs.lemmas.Bool.Decides.{nat_tests}
use Rattle.ofx_ports.specs.Known.{Stays, Grows}
use Rattle.ofx_ports.specs.Kept.{MayGrow, KnowsLanding}
use Rattle.ofx_ports.proofs.KnownLaws.{Stays-refl}
use Rattle.disk_keeper.specs.Disk.{History, MayLeave, Leaves, LeavesThroughout, LeavesOnly, GoesOn, after, shown, write_of}
use Rattle.disk_keeper.specs.File.{mark, size_bytes, listed}
use Rattle.disk_keeper.specs.Layout.{prefix, IsFile, MayHave}
use Rattle.disk_keeper.specs.Appending.{IsSettled, Appends, ReachedBy}
use Rattle.disk_keeper.specs.Passing.{Holds, Passed}
use Rattle.disk_keeper.specs.Reading.{IsRecord}
use Rattle.ofx_ports.specs.declared.fault.FetchFault.{FetchFault}
use Rattle.disk_keeper.specs.DiskKeeperView.{DiskKeeperView, records_on, landed_on, settled_on, Lists, ListsWith, NowLeaves, SettlesWith}
use Rattle.disk_keeper.specs.Opening.{OpensReported, Opens}
use Rattle.disk_keeper.specs.declared.fault.DiskFault.{DiskFault}
use Rattle.disk_keeper.specs.Keeping.{is_begun, opened_by, NextWithin, IsStored, Keeps}
use Rattle.disk_keeper.specs.declared.begun.Begun.{Begun}
use Rattle.disk_keeper.specs.declared.begun.Begun.TheVariants.{Nothing, Body, Opening}
use Rattle.disk_keeper.specs.declared.appending.Reached.{Reached}
use Rattle.disk_keeper.specs.declared.appending.Reached.TheVariants as reached
use Rattle.disk_keeper.specs.declared.change.Change.{Change}
use Rattle.disk_keeper.specs.declared.change.Change.TheVariants.{Sync}
use Rattle.disk_keeper.specs.declared.reading.Gate.{Gate}
use Rattle.disk_keeper.proofs.DiskLemmas.{reported_on, reported_before, reported_synced, same_reported}
use Rattle.disk_keeper.proofs.FileLemmas.{listed_file}
use Rattle.disk_keeper.proofs.Gates.{prefix_push}
use Rattle.disk_keeper.proofs.Moments.{throughout_map}
use Rattle.disk_keeper.proofs.Passes.{passed_push, passed_none, held, record_found}

-- a file of these records, or one more, lists them
pub lists_with : (rs : List (List ℕ)) (bytes : List ℕ) (offset next : ℕ) (c : List ℕ) → MayHave rs bytes offset next c → ListsWith rs bytes c
lists_with rs bytes offset next c (inl file) = inl (listed_file rs offset c file)
lists_with rs bytes offset next c (inr file) = inr (listed_file (rs ++ bytes ∷ []) next c file)

all_settled : (rs : List (List ℕ)) (size : ℕ) → size ≡ length rs → take size rs ≡ rs
all_settled rs size is = take_all size rs (omega (arith, is))

one_more : (rs : List (List ℕ)) (bytes : List ℕ) (size : ℕ) → size ≡ length rs → take size (rs ++ bytes ∷ []) ≡ rs
one_more rs bytes size is = take_at rs (bytes ∷ []) size (sym is)

-- with nothing begun a crash leaves the acknowledged records
pub settled_now : (a : Option History) (end last : Gate) → ((h : History) → a ≡ Some h → Keeps end last Nothing h) → NowLeaves (Lists (settled_on end.records (records_on a))) a
settled_now None end last keeps = tt
settled_now (Some h) end last keeps =
    let k = keeps h refl in
    let is = listed_file k.records end.offset (shown h) k.now.0 in
    let all : settled_on end.records (listed (shown h)) ≡ k.records = ap (settled_on end.records) is ∙ all_settled k.records end.records k.count in
    subst (λ rs. NowLeaves (Lists rs) (Some h)) (sym all) (is, (λ c left. ap listed (k.now.1 c left) ∙ is))

-- at each moment of a call that changes nothing
pub settled_moments : (a b : Option History) (end last : Gate) → ((h : History) → a ≡ Some h → Keeps end last Nothing h) → b ≡ a → LeavesOnly (Lists (settled_on end.records (records_on a))) a b
settled_moments None b end last keeps same = tt
settled_moments (Some h) b end last keeps same = ([], same, (settled_now (Some h) end last keeps).1)

settled_is : (h : History) (end last : Gate) → (k : Keeps end last Nothing h) → settled_on end.records (listed (shown h)) ≡ k.records
settled_is h end last k = ap (settled_on end.records) (listed_file k.records end.offset (shown h) k.now.0) ∙ all_settled k.records end.records k.count

-- how an append leaves the end and what is begun
abbrev pub end_after : Gate → Reached → Gate
end_after end (reached.Acknowledged next) = record { records = end.records + 1; offset = next }
end_after end reached.Body = end
end_after end (reached.Gate next) = end

abbrev pub begun_after : Reached → Begun
begun_after (reached.Acknowledged next) = Nothing
begun_after reached.Body = Body
begun_after (reached.Gate next) = Opening next

-- what an append tells
abbrev pub Told : Option History → Option History → Gate → List ℕ → Reached → Type 0
Told a b end bytes r = (h : History) (rs : List (List ℕ)) → a ≡ Some h → IsFile rs end.offset (shown h) → IsSettled h → Appends rs end.offset bytes r h b

abbrev pub AllKept : Option History → Gate → Gate → Begun → Type 0
AllKept a end last begun = (h : History) → a ≡ Some h → Keeps end last begun h

-- at each moment of an append
pub append_moments : (a b : Option History) (end last : Gate) (bytes : List ℕ) (r : Reached) → AllKept a end last Nothing → Told a b end bytes r
    → LeavesOnly (ListsWith (settled_on end.records (records_on a)) bytes) a b
append_moments None b end last bytes r keeps known = tt
append_moments (Some h) b end last bytes r keeps known =
    let k = keeps h refl in
    let t = known h k.records refl k.now.0 k.now.1 in (
      t.more,
      t.known,
      throughout_map _ _ h t.more (λ c have. subst (λ rs. ListsWith rs bytes c) (sym (settled_is h end last k)) (lists_with k.records bytes end.offset _ c have)) t.moments,
    )

-- and after it
pub kept_after : (a b : Option History) (end last : Gate) (bytes : List ℕ) (r : Reached) → AllKept a end last Nothing → (a ≡ None → b ≡ None) → Told a b end bytes r
    → AllKept b (end_after end r) last (begun_after r)
kept_after a b end last bytes r keeps quiet known g is =
    let before = reported_before a b g quiet is in
    let k = keeps before.0 before.1 in
    let t = known before.0 k.records before.1 k.now.0 k.now.1 in
    subst (Keeps (end_after end r) last (begun_after r)) (same_reported b (after before.0 t.more) g t.known is) (now before.0 k t.more r t.now)
  where
    now : (h : History) (k : Keeps end last Nothing h) (more : List Change) (r : Reached) → ReachedBy k.records end.offset bytes r (after h more)
        → Keeps (end_after end r) last (begun_after r) (after h more)
    now h k more (reached.Acknowledged next) done = record {
      records = k.records ++ bytes ∷ [];
      count = omega (arith, k.count, length-append k.records (bytes ∷ []));
      offset = done.0.offset_is;
      read = passed_push k.records bytes last k.read;
      now = done;
    }
    now h k more reached.Body done = record { records = k.records; count = k.count; offset = k.offset; read = k.read; now = done }
    now h k more (reached.Gate next) done = record { records = k.records; count = k.count; offset = k.offset; read = k.read; now = (bytes, done.0, done.1) }

grows_by : (o p : Option (List (List ℕ))) (rs : List (List ℕ)) (bytes : List ℕ) → o ≡ Some rs → p ≡ Some (rs ++ bytes ∷ []) → Grows o p (bytes ∷ [])
grows_by o p rs bytes old new = rw (old, new) refl

-- an append that is acknowledged has put its record at the end
pub list_grows : (a b : Option History) (end last : Gate) (bytes : List ℕ) (next : ℕ) → AllKept a end last Nothing → Told a b end bytes (reached.Acknowledged next)
    → Grows (records_on a) (records_on b) (bytes ∷ [])
list_grows None b end last bytes next keeps known = tt
list_grows (Some h) b end last bytes next keeps known =
    let k = keeps h refl in
    let t = known h k.records refl k.now.0 k.now.1 in
    grows_by (listed (shown h)) (records_on b) k.records bytes (listed_file k.records end.offset (shown h) k.now.0)
    (ap records_on t.known ∙ listed_file (k.records ++ bytes ∷ []) next (shown (after h t.more)) t.now.0)

may_grow_by : (rs new : List (List ℕ)) (bytes : List ℕ) (b : Bool) → (b ≡ false → new ≡ rs) → (b ≡ true → new ≡ rs ++ bytes ∷ []) → MayGrow (Some rs) (Some new) (Some b) bytes
may_grow_by rs new bytes true same more = more refl
may_grow_by rs new bytes false same more = same refl

not_landed : (size : ℕ) (rs : List (List ℕ)) → size ≡ length rs → nat_lt size (length rs) ≡ true → ⊥
not_landed size rs is more = grind (arith, nat_tests)

landed : (size : ℕ) (rs : List (List ℕ)) (bytes : List ℕ) → size ≡ length rs → nat_lt size (length (rs ++ bytes ∷ [])) ≡ false → ⊥
landed size rs bytes is lacks = let long = length-append rs (bytes ∷ []) in grind (arith, nat_tests)

may_grow : (o p : Option (List (List ℕ))) (rs : List (List ℕ)) (bytes : List ℕ) (size : ℕ) → o ≡ Some rs → size ≡ length rs → (p ≡ Some rs) ⊎ (p ≡ Some (rs ++ bytes ∷ []))
    → MayGrow o p (landed_on size p) bytes
may_grow o p rs bytes size old is (inl new) =
    rw (old, new) (may_grow_by rs rs bytes (nat_lt size (length rs)) (λ _. refl) (λ more. absurd (not_landed size rs is more)))
may_grow o p rs bytes size old is (inr new) =
    rw (old, new) (may_grow_by rs (rs ++ bytes ∷ []) bytes (nat_lt size (length (rs ++ bytes ∷ []))) (λ lacks. absurd (landed size rs bytes is lacks)) (λ _. refl))

-- what the image lists after an append that failed
lists_after : (rs : List (List ℕ)) (offset : ℕ) (bytes : List ℕ) (r : Reached) (h : History) → ReachedBy rs offset bytes r h → ListsWith rs bytes (shown h)
lists_after rs offset bytes (reached.Acknowledged next) h done = inr (listed_file (rs ++ bytes ∷ []) next (shown h) done.0)
lists_after rs offset bytes reached.Body h done = inl (listed_file rs offset (shown h) done.0)
lists_after rs offset bytes (reached.Gate next) h done = lists_with rs bytes offset next (shown h) done.0

leaves_after : (rs : List (List ℕ)) (offset : ℕ) (bytes : List ℕ) (r : Reached) (h : History) → ReachedBy rs offset bytes r h → Leaves (ListsWith rs bytes) h
leaves_after rs offset bytes (reached.Acknowledged next) h done c left = inr (ap listed (done.1 c left) ∙ listed_file (rs ++ bytes ∷ []) next (shown h) done.0)
leaves_after rs offset bytes reached.Body h done c left = inl (listed_file rs offset c (done.1 c left))
leaves_after rs offset bytes (reached.Gate next) h done c left = lists_with rs bytes offset next c (done.1 c left)

pub list_may_grow : (a b : Option History) (end last : Gate) (bytes : List ℕ) (r : Reached) → AllKept a end last Nothing → Told a b end bytes r
    → MayGrow (records_on a) (records_on b) (landed_on end.records (records_on b)) bytes
list_may_grow None b end last bytes r keeps known = tt
list_may_grow (Some h) b end last bytes r keeps known =
    let k = keeps h refl in
    let t = known h k.records refl k.now.0 k.now.1 in
    subst (λ o. MayGrow (listed (shown h)) (records_on o) (landed_on end.records (records_on o)) bytes) (sym t.known) (
    may_grow (listed (shown h)) (listed (shown (after h t.more))) k.records bytes end.records (listed_file k.records end.offset (shown h) k.now.0) k.count
    (lists_after k.records end.offset bytes r (after h t.more) t.now)
    )

settled_with : (o : Option (List (List ℕ))) (rs : List (List ℕ)) (bytes : List ℕ) (size : ℕ) → size ≡ length rs → (o ≡ Some rs) ⊎ (o ≡ Some (rs ++ bytes ∷ [])) → settled_on size o ≡ rs
settled_with o rs bytes size is (inl new) = ap (settled_on size) new ∙ all_settled rs size is
settled_with o rs bytes size is (inr new) = ap (settled_on size) new ∙ one_more rs bytes size is

-- The acknowledged records stay after an append that failed.
pub settled_stay : (a b : Option History) (end last : Gate) (bytes : List ℕ) (r : Reached) → AllKept a end last Nothing → (a ≡ None → b ≡ None) → Told a b end bytes r
    → settled_on end.records (records_on b) ≡ settled_on end.records (records_on a)
settled_stay None b end last bytes r keeps quiet known = ap (λ o. settled_on end.records (records_on o)) (quiet refl)
settled_stay (Some h) b end last bytes r keeps quiet known =
    let k = keeps h refl in
    let t = known h k.records refl k.now.0 k.now.1 in
    ap (λ o. settled_on end.records (records_on o)) t.known
    ∙ settled_with (listed (shown (after h t.more))) k.records bytes end.records k.count (lists_after k.records end.offset bytes r (after h t.more) t.now)
    ∙ sym (settled_is h end last k)

-- and a crash leaves them, or them and the one that was begun
pub append_awaits : (a b : Option History) (end last : Gate) (bytes : List ℕ) (r : Reached) → AllKept a end last Nothing → (a ≡ None → b ≡ None) → Told a b end bytes r
    → NowLeaves (ListsWith (settled_on end.records (records_on b)) bytes) b
append_awaits None b end last bytes r keeps quiet known = subst (λ o. NowLeaves (ListsWith (settled_on end.records (records_on o)) bytes) o) (sym (quiet refl)) tt
append_awaits (Some h) b end last bytes r keeps quiet known =
    let k = keeps h refl in
    let t = known h k.records refl k.now.0 k.now.1 in
    let all = settled_with (listed (shown (after h t.more))) k.records bytes end.records k.count (lists_after k.records end.offset bytes r (after h t.more) t.now) in
    subst (λ o. NowLeaves (ListsWith (settled_on end.records (records_on o)) bytes) o) (sym t.known) (
    subst (λ rs. NowLeaves (ListsWith rs bytes) (Some (after h t.more))) (sym all)
    (lists_after k.records end.offset bytes r (after h t.more) t.now, leaves_after k.records end.offset bytes r (after h t.more) t.now)
    )

-- a sync leaves what is as it is
holds_synced : (rs : List (List ℕ)) (offset : ℕ) (begun : Begun) (h : History) → IsStored rs offset begun h → IsStored rs offset begun (after h (Sync ∷ []))
holds_synced rs offset Nothing h now = (now.0, λ c left. left)
holds_synced rs offset Body h now = (now.0, λ c left. subst (IsFile rs offset) (sym left) now.0)
holds_synced rs offset (Opening next) h now = (now.0, now.1, λ c left. subst (MayHave rs now.0 offset next) (sym left) now.1)

pub kept_synced : (a b : Option History) (end last : Gate) (begun : Begun) → AllKept a end last begun → (a ≡ None → b ≡ None) → GoesOn a b (Sync ∷ []) → AllKept b end last begun
kept_synced a b end last begun keeps quiet synced g is =
    let t = reported_synced a b g quiet synced is in
    let k = keeps t.0 t.1 in
    subst (Keeps end last begun) (sym t.2) (record { records = k.records; count = k.count; offset = k.offset; read = k.read; now = holds_synced k.records end.offset begun t.0 k.now })

gate_shut : (rs : List (List ℕ)) (offset : ℕ) (file : List ℕ) → IsFile rs offset file → slice_index file offset ≡ 1 → ⊥
gate_shut rs offset file is is_open = is.shut (sym (get_or_at (prefix rs) is.gate is.suffix 0 offset (sym is.offset_is)) ∙ ap (λ (l : List ℕ). get_or l offset 0) (sym is.bytes) ∙ is_open)

gate_open : (rs : List (List ℕ)) (bytes : List ℕ) (offset next : ℕ) (file : List ℕ) → offset ≡ length (prefix rs) → IsFile (rs ++ bytes ∷ []) next file → slice_index file offset ≡ 1
gate_open rs bytes offset next file at is =
    ap (λ (l : List ℕ). get_or l offset 0) (is.bytes ∙ prefix_push rs bytes (is.gate ∷ is.suffix))
    ∙ get_or_at (prefix rs) 1 (size_bytes (length bytes) ++ bytes ++ is.gate ∷ is.suffix) 0 offset (sym at)

some_if : (b : Bool) (x n : ℕ) → (if b then Some x else None) ≡ Some n → (b ≡ true) × (x ≡ n)
some_if true x n is = (refl, cc)
some_if false x n is = cc

none_if : (b : Bool) (x : ℕ) → (if b then Some x else None) ≡ None → b ≡ false
none_if true x is = cc
none_if false x is = refl

is_one : (gate : ℕ) → (gate == 1) ≡ true → gate ≡ 1
is_one gate is = grind (arith, nat_tests)

isnt_one : (gate : ℕ) → (gate == 1) ≡ false → gate ≡ 1 → ⊥
isnt_one gate lacks is = grind (arith, nat_tests)

-- the gate that was read says whether the record is stored
pub holds_open : (rs : List (List ℕ)) (offset : ℕ) (begun : Begun) (h : History) (gate next : ℕ) → offset ≡ length (prefix rs) → IsStored rs offset begun h → gate ≡ slice_index (shown h) offset
    → opened_by begun gate ≡ Some next → (bytes : List ℕ) × IsFile (rs ++ bytes ∷ []) next (shown h)
holds_open rs offset Nothing h gate next at now is found = cc
holds_open rs offset Body h gate next at now is found = cc
holds_open rs offset (Opening suffix) h gate next at now is found = (now.0, subst (λ n. IsFile (rs ++ now.0 ∷ []) n (shown h)) known.1 (one now.1))
  where
    known : ((gate == 1) ≡ true) × (suffix ≡ next)
    known = some_if (gate == 1) suffix next found

    one : MayHave rs now.0 offset suffix (shown h) → IsFile (rs ++ now.0 ∷ []) suffix (shown h)
    one (inl file) = absurd (gate_shut rs offset (shown h) file (sym is ∙ is_one gate known.0))
    one (inr file) = file

pub holds_shut : (rs : List (List ℕ)) (offset : ℕ) (begun : Begun) (h : History) (gate : ℕ) → offset ≡ length (prefix rs) → IsStored rs offset begun h → gate ≡ slice_index (shown h) offset
    → opened_by begun gate ≡ None → IsFile rs offset (shown h)
holds_shut rs offset Nothing h gate at now is found = now.0
holds_shut rs offset Body h gate at now is found = now.0
holds_shut rs offset (Opening next) h gate at now is found = one now.1
  where
    not_open : gate ≡ 1 → ⊥
    not_open = isnt_one gate (none_if (gate == 1) next found)

    one : MayHave rs now.0 offset next (shown h) → IsFile rs offset (shown h)
    one (inl file) = file
    one (inr file) = absurd (not_open (is ∙ gate_open rs now.0 offset next (shown h) at file))

-- a record that stands is one of the acknowledged ones from then on
pub kept_open : (a : Option History) (end last : Gate) (begun : Begun) (gate next : ℕ) → AllKept a end last begun → ((h : History) → a ≡ Some h → IsSettled h)
    → ((h : History) → a ≡ Some h → gate ≡ slice_index (shown h) end.offset) → opened_by begun gate ≡ Some next
    → AllKept a (record { records = end.records + 1; offset = next }) last Nothing
kept_open a end last begun gate next keeps settled read found h is =
    let k = keeps h is in
    let one = holds_open k.records end.offset begun h gate next k.offset k.now (read h is) found in record {
      records = k.records ++ one.0 ∷ [];
      count = omega (arith, k.count, length-append k.records (one.0 ∷ []));
      offset = one.1.offset_is;
      read = passed_push k.records one.0 last k.read;
      now = (one.1, settled h is);
    }

-- and one that doesn't is forgotten
pub kept_shut : (a : Option History) (end last : Gate) (begun : Begun) (gate : ℕ) → AllKept a end last begun → ((h : History) → a ≡ Some h → IsSettled h)
    → ((h : History) → a ≡ Some h → gate ≡ slice_index (shown h) end.offset) → opened_by begun gate ≡ None → AllKept a end last Nothing
kept_shut a end last begun gate keeps settled read found h is =
    let k = keeps h is in record {
      records = k.records;
      count = k.count;
      offset = k.offset;
      read = k.read;
      now = (holds_shut k.records end.offset begun h gate k.offset k.now (read h is) found, settled h is);
    }

-- after a sync a crash leaves what is shown
pub synced_settled : (a b : Option History) → (a ≡ None → b ≡ None) → GoesOn a b (Sync ∷ []) → (h : History) → b ≡ Some h → IsSettled h
synced_settled a b quiet synced h is =
    let t = reported_synced a b h quiet synced is in subst IsSettled (sym t.2) (λ c left. left)

-- a sync changes no record
pub synced_records : (a b : Option History) → (a ≡ None → b ≡ None) → GoesOn a b (Sync ∷ []) → records_on b ≡ records_on a
synced_records None b quiet synced = ap records_on (quiet refl)
synced_records (Some h) b quiet synced = ap records_on synced

pub records_stay : (a b : Option History) → records_on b ≡ records_on a → Stays (records_on a) (records_on b)
records_stay a b same = subst (λ o. Stays (records_on a) o) (sym same) (Stays-refl (records_on a))

-- the moments of a call that changes nothing, and of a sync
pub same_moments : (P : List ℕ → Type 0) (a b : Option History) → b ≡ a → NowLeaves P a → LeavesOnly P a b
same_moments P None b same now = tt
same_moments P (Some h) b same now = ([], same, now.1)

pub synced_moments : (P : List ℕ → Type 0) (a b : Option History) → GoesOn a b (Sync ∷ []) → NowLeaves P a → LeavesOnly P a b
synced_moments P None b synced now = tt
synced_moments P (Some h) b synced now = (Sync ∷ [], synced, ((λ c left. subst P (sym left) now.0), now.1))

pub synced_now : (P : List ℕ → Type 0) (a b : Option History) → (a ≡ None → b ≡ None) → GoesOn a b (Sync ∷ []) → NowLeaves P a → NowLeaves P b
synced_now P None b quiet synced now = subst (NowLeaves P) (sym (quiet refl)) tt
synced_now P (Some h) b quiet synced now = subst (NowLeaves P) (sym synced) (now.0, λ c left. subst P (sym left) now.0)

-- What settling answers is whether the record landed.
reports : (begun : Begun) (size : ℕ) (o : Option (List (List ℕ))) (holds : Bool) → (is_begun begun ≡ false → holds ≡ false) → ((rs : List (List ℕ)) → o ≡ Some rs → holds ≡ nat_lt size (length rs))
    → KnowsLanding (is_begun begun) (landed_on size o) holds
reports Nothing size o holds none landed_is = none refl
reports Body size None holds none landed_is = tt
reports Body size (Some rs) holds none landed_is = landed_is rs refl
reports (Opening next) size None holds none landed_is = tt
reports (Opening next) size (Some rs) holds none landed_is = landed_is rs refl

-- nothing is to be settled where nothing was begun
pub nothing_begun : (begun : Begun) → is_begun begun ≡ false → begun ≡ Nothing
nothing_begun Nothing is = refl
nothing_begun Body is = cc
nothing_begun (Opening next) is = cc

pub kept_nothing : (a : Option History) (end last : Gate) (begun : Begun) → begun ≡ Nothing → AllKept a end last begun → AllKept a end last Nothing
kept_nothing a end last begun is keeps = subst (AllKept a end last) is keeps

some_list : (rs ps : List (List ℕ)) → Some rs ≡ Some ps → rs ≡ ps
some_list rs ps is = cc

lands : (size : ℕ) (rs : List (List ℕ)) → length rs ≡ size + 1 → true ≡ nat_lt size (length rs)
lands size rs is = grind (arith, nat_tests)

lands_not : (size : ℕ) (rs : List (List ℕ)) → length rs ≡ size → false ≡ nat_lt size (length rs)
lands_not size rs is = grind (arith, nat_tests)

none_open : (begun : Begun) (gate next : ℕ) → opened_by begun gate ≡ Some next → is_begun begun ≡ false → ⊥
none_open Nothing gate next found lacks = cc
none_open Body gate next found lacks = cc
none_open (Opening after_it) gate next found lacks = cc

-- the answer of settling
pub answer_open : (a b : Option History) (end last : Gate) (begun : Begun) (gate next : ℕ) → GoesOn a b (Sync ∷ []) → opened_by begun gate ≡ Some next
    → AllKept b (record { records = end.records + 1; offset = next }) last Nothing → KnowsLanding (is_begun begun) (landed_on end.records (records_on a)) true
answer_open None b end last begun gate next synced found keeps =
    reports begun end.records None true (λ lacks. absurd (none_open begun gate next found lacks)) (λ rs is. cc)
answer_open (Some h) b end last begun gate next synced found keeps =
    let k = keeps (after h (Sync ∷ [])) synced in
    reports begun end.records (listed (shown h)) true (λ lacks. absurd (none_open begun gate next found lacks))
    (λ rs is. lands end.records rs (ap length (some_list rs k.records (sym is ∙ listed_file k.records next (shown h) k.now.0)) ∙ sym k.count))

pub answer_shut : (a b : Option History) (end last : Gate) (begun : Begun) → GoesOn a b (Sync ∷ []) → AllKept b end last Nothing
    → KnowsLanding (is_begun begun) (landed_on end.records (records_on a)) false
answer_shut None b end last begun synced keeps = reports begun end.records None false (λ lacks. refl) (λ rs is. cc)
answer_shut (Some h) b end last begun synced keeps =
    let k = keeps (after h (Sync ∷ [])) synced in
    reports begun end.records (listed (shown h)) false (λ lacks. refl)
    (λ rs is. lands_not end.records rs (ap length (some_list rs k.records (sym is ∙ listed_file k.records end.offset (shown h) k.now.0)) ∙ sym k.count))

-- The record that is acknowledged then is the one that was begun.
pub settles_open : (a b : Option History) (end last : Gate) (next : ℕ) (begun : List ℕ) → GoesOn a b (Sync ∷ []) → AllKept b (record { records = end.records + 1; offset = next }) last Nothing
    → NowLeaves (ListsWith (settled_on end.records (records_on a)) begun) a
    → SettlesWith (settled_on end.records (records_on a)) begun true a (settled_on (end.records + 1) (records_on b))
settles_open None b end last next begun synced keeps now = tt
settles_open (Some h) b end last next begun synced keeps now =
    ap (λ o. settled_on (end.records + 1) (records_on o)) synced ∙ settled_is (after h (Sync ∷ [])) _ last k ∙ by_list now.0
  where
    k : Keeps (record { records = end.records + 1; offset = next }) last Nothing (after h (Sync ∷ []))
    k = keeps (after h (Sync ∷ [])) synced

    lists : listed (shown h) ≡ Some k.records
    lists = listed_file k.records next (shown h) k.now.0

    short : length (settled_on end.records (listed (shown h))) ≤ end.records
    short = omega (arith, ap length (ap (settled_on end.records) lists), length-take end.records k.records)

    by_list : ListsWith (settled_on end.records (listed (shown h))) begun (shown h) → k.records ≡ settled_on end.records (listed (shown h)) ++ begun ∷ []
    by_list (inl same) = absurd (omega (arith, ap length (some_list k.records _ (sym lists ∙ same)), short, k.count))
    by_list (inr more) = some_list k.records _ (sym lists ∙ more)

pub settles_shut : (a b : Option History) (size : ℕ) (begun : List ℕ) → records_on b ≡ records_on a
    → SettlesWith (settled_on size (records_on a)) begun false a (settled_on size (records_on b))
settles_shut None b size begun same = tt
settles_shut (Some h) b size begun same = ap (settled_on size) same

pub next_within : (begun : Begun) (gate next : ℕ) (end : Gate) (size : ℕ) → opened_by begun gate ≡ Some next → NextWithin end size begun → (next < size) × (next < 2 ^ 63) × (end.offset < next)
next_within Nothing gate next end size found within = cc
next_within Body gate next end size found within = cc
next_within (Opening suffix) gate next end size found within =
    subst (λ n. (n < size) × (n < 2 ^ 63) × (end.offset < n)) (some_if (gate == 1) suffix next found).1 within

if_some : (o : Option (List (List ℕ))) (rs : List (List ℕ)) (P : List (List ℕ) → Type 0) → o ≡ Some rs → P rs → IfSome o P
if_some o rs P is p = subst (λ q. IfSome q P) (sym is) p

-- The record that was read after a gate is the one of its number.
pub found_after_gate : (a : Option History) (end last gate : Gate) (number : ℕ) (taken : List ℕ) (r : Result (Unit {0}) FetchFault) → AllKept a end last Nothing
    → gate.records + 1 ≡ number → number ≤ end.records
    → ((h : History) (rs : List (List ℕ)) → a ≡ Some h → Holds rs (shown h) → number ≤ length rs → Passed rs last → Passed rs gate)
    → ((h : History) → a ≡ Some h → gate.offset < length (shown h) → OnOk r (IsRecord (drop (gate.offset + 1) (shown h)) taken))
    → OnOk r (IfSome (records_on a) (λ rs. slice_get rs (number - 1) ≡ Some taken))
found_after_gate a end last gate number taken (Err fault) keeps at few passed read = tt
found_after_gate None end last gate number taken (Ok done) keeps at few passed read = tt
found_after_gate (Some h) end last gate number taken (Ok done) keeps at few passed read =
    let k = keeps h refl in
    let holds = held k.records end.offset (shown h) k.now.0 in
    let p = passed h k.records refl holds (omega (arith, few, k.count)) k.read in
    if_some (listed (shown h)) k.records (λ rs. slice_get rs (number - 1) ≡ Some taken) (listed_file k.records end.offset (shown h) k.now.0) (
    ap (slice_get k.records) (omega (arith, at)) ∙ record_found k.records gate (shown h) holds p (omega (arith, at, few, k.count)) taken (λ within. read h refl within)
    )

-- another gate was read last
pub kept_read : (a b : Option History) (end last gate : Gate) (number : ℕ) → AllKept a end last Nothing → b ≡ a → number ≤ end.records
    → ((h : History) (rs : List (List ℕ)) → a ≡ Some h → Holds rs (shown h) → number ≤ length rs → Passed rs last → Passed rs gate) → AllKept b end gate Nothing
kept_read a b end last gate number keeps same few passed h is =
    let k = keeps h (sym same ∙ is) in record {
      records = k.records;
      count = k.count;
      offset = k.offset;
      read = passed h k.records (sym same ∙ is) (held k.records end.offset (shown h) k.now.0) (omega (arith, few, k.count)) k.read;
      now = k.now;
    }

-- a search for a gate begins at the one that was read last, or at the first
pub passed_from : (rs : List (List ℕ)) (last from : Gate) → (from ≡ last) ⊎ (from ≡ record { records = 0; offset = 8 }) → Passed rs last → Passed rs from
passed_from rs last from (inl is) passed = subst (Passed rs) (sym is) passed
passed_from rs last from (inr is) passed = subst (Passed rs) (sym is) (passed_none rs)

pub offset_from : (last from end : Gate) (size : ℕ) → (from ≡ last) ⊎ (from ≡ record { records = 0; offset = 8 }) → last.offset ≤ size → 8 ≤ size → from.offset ≤ size
offset_from last from end size (inl is) low first = omega (arith, ap (λ g. g.offset) is, low)
offset_from last from end size (inr is) low first = omega (arith, ap (λ g. g.offset) is, first)

-- the number of records that are known
pub size_reported : (a : Option History) (end last : Gate) → AllKept a end last Nothing → IfSome (records_on a) (λ rs. end.records ≡ length rs)
size_reported None end last keeps = tt
size_reported (Some h) end last keeps =
    let k = keeps h refl in if_some (listed (shown h)) k.records (λ rs. end.records ≡ length rs) (listed_file k.records end.offset (shown h) k.now.0) k.count

-- a file of the mark and a gate that is shut
pub kept_made : (a b d : Option History) → (a ≡ None → b ≡ None) → (b ≡ None → d ≡ None) → GoesOn a b (write_of 0 (mark ++ 0 ∷ []) ∷ []) → GoesOn b d (Sync ∷ [])
    → AllKept d (record { records = 0; offset = 8 }) (record { records = 0; offset = 8 }) Nothing
kept_made a b d quiet quiet_too written synced h is =
    let two = reported_synced b d h quiet_too synced is in
    let one = reported_before a b two.0 quiet two.1 in
    let same : two.0 ≡ after one.0 (write_of 0 (mark ++ 0 ∷ []) ∷ []) = same_reported b _ _ two.1 (reported_on a b one.0 _ one.1 written) in
    subst (Keeps (record { records = 0; offset = 8 }) (record { records = 0; offset = 8 }) Nothing) (sym (two.2 ∙ ap (λ (o : History). after o (Sync ∷ [])) same)) (record {
      records = [];
      count = refl;
      offset = refl;
      read = passed_none [];
      now = (record { gate = 0; suffix = drop 9 (shown one.0); shut = omega arith; bytes = refl; offset_is = refl; sizes = tt }, λ c left. left);
    })

-- a file in which the last gate was found
pub kept_found : (a b d : Option History) (end : Gate) → (a ≡ None → b ≡ None) → d ≡ b → GoesOn a b (Sync ∷ [])
    → ((h : History) → b ≡ Some h → (records : List (List ℕ)) × IsFile records end.offset (shown h) × (end.records ≡ length records))
    → AllKept d end (record { records = 0; offset = 8 }) Nothing
kept_found a b d end quiet same synced found h is =
    let f = found h (sym same ∙ is) in record {
      records = f.0;
      count = f.2;
      offset = f.1.offset_is;
      read = passed_none f.0;
      now = (f.1, synced_settled a b quiet synced h (sym same ∙ is));
    }

-- what opening comes to, by what is told
pub opens_by : {D : Type 0} (history : D → Option History) (a : Option History) (r : Result (DiskKeeperView D) (DiskFault D)) → ((h : History) → a ≡ Some h → OpensReported (shown h) r history) → Opens history a r
opens_by history None r by_reported = tt
opens_by history (Some h) r by_reported = by_reported h refl

pub opens_kept : (a b d : Option History) (h : History) (end : Gate) → a ≡ Some h → d ≡ b → GoesOn a b (Sync ∷ []) → AllKept d end (record { records = 0; offset = 8 }) Nothing
    → (records : List (List ℕ)) × Lists records (shown h) × (records_on d ≡ Some records)
opens_kept a b d h end is same synced keeps =
    let now : d ≡ Some (after h (Sync ∷ [])) = same ∙ reported_on a b h (Sync ∷ []) is synced in
    let k = keeps (after h (Sync ∷ [])) now in
    let lists = listed_file k.records end.offset (shown h) k.now.0 in
    (k.records, lists, ap records_on now ∙ lists)

-- no records are listed
pub lists_none : (a : Option History) → AllKept a (record { records = 0; offset = 8 }) (record { records = 0; offset = 8 }) Nothing → IfSome a (λ h. records_on (Some h) ≡ Some [])
lists_none None keeps = tt
lists_none (Some h) keeps = let k = keeps h refl in listed_file k.records 8 (shown h) k.now.0 ∙ ap Some (nil_from_length k.records (sym k.count))

pub leaves_none : (a : Option History) → AllKept a (record { records = 0; offset = 8 }) (record { records = 0; offset = 8 }) Nothing → NowLeaves (Lists []) a
leaves_none None keeps = tt
leaves_none (Some h) keeps =
    subst (λ rs. NowLeaves (Lists rs) (Some h)) (settled_is h _ _ (keeps h refl) ∙ nil_from_length _ (sym (keeps h refl).count)) (settled_now (Some h) _ _ keeps)
