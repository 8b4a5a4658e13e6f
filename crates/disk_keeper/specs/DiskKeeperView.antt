-- What is seen of a keeper on a disk.
use Rattle.std.specs.Prelude.{◌≡◌, ◌⊎◌, ℕ, Bool, List, [], ◌∷◌, ◌++◌, ⊤, take, length, nat_lt, if◌then◌else◌, Option, None, Some, refl}
use Rattle.std.specs.Coded.{Coded, code_by, coded×, coded_ℕ, coded_bool}
use Rattle.disk_keeper.specs.Disk.{History, Leaves, LeavesOnly, shown}
use Rattle.disk_keeper.specs.File.{listed}

pub record DiskKeeperView (D : Type 0) : Type 0 where
  pub disk : D
  -- the number of records, without one that is to be settled
  pub size : ℕ
  -- whether an append failed and is not settled
  pub unsettled : Bool

-- it is stored as its fields
abbrev pub keeper_code : {D : Type 0} → Coded D → Coded (DiskKeeperView D)
keeper_code {D = D} d =
    code_by (D × (ℕ × Bool)) (coded× d (coded× coded_ℕ coded_bool)) (λ s. (s.disk, (s.size, s.unsettled))) (λ p. record { disk = p.0; size = p.1.0; unsettled = p.1.1 })
    (λ _. refl)

-- The records that are stored, where the disk's history is known: those that its image lists.
abbrev pub records_on : Option History → Option (List (List ℕ))
records_on None = None
records_on (Some history) = listed (shown history)

-- Whether the record that is to be settled is stored: the image lists one more than are acknowledged.
abbrev pub landed_on : ℕ → Option (List (List ℕ)) → Option Bool
landed_on size None = None
landed_on size (Some records) = Some (nat_lt size (length records))

-- the records before one that is to be settled
abbrev pub settled_on : ℕ → Option (List (List ℕ)) → List (List ℕ)
settled_on size None = []
settled_on size (Some records) = take size records

-- the acknowledged records of a keeper: those that are stored, without one that is to be settled
abbrev pub acknowledged : {D : Type 0} → (D → Option History) → DiskKeeperView D → List (List ℕ)
acknowledged history keeper = settled_on keeper.size (records_on (history keeper.disk))

-- A crash has left these records.
abbrev pub Lists : List (List ℕ) → List ℕ → Type 0
Lists records crash = listed crash ≡ Some records

-- A crash has left these records, or these and one more.
abbrev pub ListsWith : List (List ℕ) → List ℕ → List ℕ → Type 0
ListsWith records begun crash = Lists records crash ⊎ Lists (records ++ begun ∷ []) crash

-- What a read shows and all that a crash may leave now has P, where the disk's history is known.
abbrev pub NowLeaves : (List ℕ → Type 0) → Option History → Type 0
NowLeaves P None = ⊤
NowLeaves P (Some history) = P (shown history) × Leaves P history

-- Of a disk whose history is known: settling has acknowledged the record that was begun where it is, and otherwise nothing.
abbrev pub SettlesWith : List (List ℕ) → List ℕ → Bool → Option History → List (List ℕ) → Type 0
SettlesWith before begun holds None now = ⊤
SettlesWith before begun holds (Some history) now = now ≡ (if holds then before ++ begun ∷ [] else before)
