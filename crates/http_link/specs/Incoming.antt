-- Requests in the bytes that have come.
use Rattle.std.specs.Prelude.{◌≡◌, ℕ, ◌-◌, ◌<◌, ◌≤◌, List, [], ◌++◌, length, take, drop, Option, Result, Ok, Err}
use Rattle.std.specs.Io.KnownBytes.{IsAtEnd}
use Rattle.ofx_ports.specs.Faults.{Rose}
use Rattle.http_front.specs.declared.head.Head.{Head}
use Rattle.http_link.specs.Requests.{HasHead, HasBadHead, IsRefusedByHead, IsWhole, IsUnfinished}
use Rattle.http_link.specs.declared.request.Prefix.{Prefix}
use Rattle.http_link.specs.declared.request.Prefix.TheVariants as prefixes
use Rattle.http_link.specs.declared.request.Next.{Next}
use Rattle.http_link.specs.declared.request.Next.TheVariants as nexts
use Rattle.http_link.specs.declared.served.ServeError.{ServeError}
use Rattle.http_link.specs.declared.served.ServeError.TheVariants.{ReadFault, WriteFault, Cut, OutOfMemory}

-- Bytes may have come after those that were there.
abbrev pub GrowsOn : List ℕ → List ℕ → Type 0
GrowsOn old new = (more : List ℕ) × (new ≡ old ++ more)

-- Why no more bytes come: a read failed, or there is no room for them.
abbrev pub IsDry : ℕ → ℕ → ServeError → Type 0
IsDry before now ReadFault = Rose before now
IsDry before now OutOfMemory = Unit {0}
IsDry before now WriteFault = ⊥
IsDry before now (Cut count) = ⊥

-- What comes before the bytes: nothing, after which nothing comes; a head, or no head whatever comes.
abbrev pub IsPrefix : List ℕ → Option (List ℕ) → Prefix → Type 0
IsPrefix bytes left prefixes.End = (bytes ≡ []) × IsAtEnd left
IsPrefix bytes left prefixes.Bad = HasBadHead bytes
IsPrefix bytes left (prefixes.Told head) = (0 < head.size) × (head.size ≤ 8192) × (head.size ≤ length bytes) × ((rest : List ℕ) × HasHead bytes head rest)

-- A link that ended after so many bytes of a head ended where a request had, or in one.
abbrev pub LinkEnds : ℕ → Result Prefix ServeError → Type 0
LinkEnds count (Ok prefixes.End) = count ≡ 0
LinkEnds count (Ok prefixes.Bad) = ⊥
LinkEnds count (Ok (prefixes.Told head)) = ⊥
LinkEnds count (Err (Cut cut)) = (cut ≡ count) × (0 < count)
LinkEnds count (Err ReadFault) = ⊥
LinkEnds count (Err WriteFault) = ⊥
LinkEnds count (Err OutOfMemory) = ⊥

-- The first bytes are a whole request, of so many bytes.
pub record HoldsWhole (bytes : List ℕ) (head : Head) (size : ℕ) : Type 0 where
  pub within : size ≤ length bytes
  pub after_head : head.size ≤ size
  pub small : size - head.size ≤ 262144
  pub whole : IsWhole (take size bytes) head (take (size - head.size) (drop head.size bytes))

-- The first bytes are a request, of so many bytes; or nothing comes.
abbrev pub IsNext : List ℕ → Option (List ℕ) → Next → Type 0
IsNext bytes left nexts.End = (bytes ≡ []) × IsAtEnd left
IsNext bytes left (nexts.Refused refusal size) = (size ≤ length bytes) × IsRefusedByHead (take size bytes) refusal
IsNext bytes left (nexts.Whole head size) = HoldsWhole bytes head size

-- Why no request comes: a read failed, or the link ended, where the bytes that have come are unfinished; or memory was refused.
abbrev pub HasNoNext : List ℕ → Option (List ℕ) → ℕ → ℕ → ServeError → Type 0
HasNoNext bytes left before now ReadFault = IsUnfinished bytes × Rose before now
HasNoNext bytes left before now (Cut count) = (count ≡ length bytes) × (0 < count) × IsUnfinished bytes × IsAtEnd left
HasNoNext bytes left before now OutOfMemory = Unit {0}
HasNoNext bytes left before now WriteFault = ⊥

-- Why no whole body comes: the same, with fewer bytes than it ends with.
abbrev pub HasNoBody : ℕ → List ℕ → Option (List ℕ) → ℕ → ℕ → ServeError → Type 0
HasNoBody size bytes left before now ReadFault = (length bytes < size) × Rose before now
HasNoBody size bytes left before now (Cut count) = (count ≡ length bytes) × (length bytes < size) × IsAtEnd left
HasNoBody size bytes left before now OutOfMemory = Unit {0}
HasNoBody size bytes left before now WriteFault = ⊥
