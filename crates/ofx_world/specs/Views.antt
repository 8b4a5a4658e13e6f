-- What contracts see of the keeper and of a bag of files.
use Rattle.std.specs.Prelude.{◌≡◌, ℕ, Bool, false, List, [], ◌∷◌, ◌++◌, if◌then◌else◌, Option, None, Some, Result, Ok, Err}
use Rattle.ofx_ports.specs.declared.fault.PutFault.{PutFault}
use Rattle.ofx_ports.specs.declared.fault.PutFault.TheVariants as puts
use Rattle.ofx_ports.specs.declared.fault.FetchFault.{FetchFault}
use Rattle.ofx_ports.specs.declared.fault.FetchFault.TheVariants as fetches

-- Files in the order in which they came in, and for how many more of them there is room.
pub record BagView : Type 0 where
  pub files : List (List ℕ)
  pub room : ℕ

-- a record whose append failed, and whether it is there
pub record Unsettled : Type 0 where
  pub rec : List ℕ
  pub landed : Bool

-- The records that were acknowledged, what a failed append has left unsettled, the fault that is set for the next append, and
-- how many appends failed.
pub record KeeperView : Type 0 where
  pub records : List (List ℕ)
  pub unsettled : Option Unsettled
  pub fault : Option Bool
  pub faults : ℕ

-- An unsettled record that landed comes after the others.
abbrev pub landed_record : Option Unsettled → List (List ℕ)
landed_record None = []
landed_record (Some unsettled) = if unsettled.landed then unsettled.rec ∷ [] else []

abbrev pub is_landed : Option Unsettled → Bool
is_landed None = false
is_landed (Some unsettled) = unsettled.landed

-- An append succeeds where no fault is set. Otherwise it fails and uses the fault up, and its record is unsettled.
pub record Succeeds (before after : KeeperView) (rec : List ℕ) : Type 0 where
  pub unset : before.fault ≡ None
  pub records : after.records ≡ before.records ++ rec ∷ []
  pub closed : after.unsettled ≡ None
  pub fault : after.fault ≡ None

pub record FailsAs (before after : KeeperView) (rec : List ℕ) (landed : Bool) : Type 0 where
  pub set : before.fault ≡ Some landed
  pub records : after.records ≡ before.records
  pub unsettled : after.unsettled ≡ Some (record { rec = rec; landed = landed })
  pub used_up : after.fault ≡ None

abbrev pub Tries : KeeperView → KeeperView → List ℕ → Result (Unit {0}) PutFault → Type 0
Tries before after rec (Ok done) = Succeeds before after rec
Tries before after rec (Err puts.Failed) = (landed : Bool) × FailsAs before after rec landed
Tries before after rec (Err puts.OutOfMemory) = after ≡ before

-- A fetch is refused for want of memory alone.
abbrev pub Fetches : Result (Unit {0}) FetchFault → Type 0
Fetches (Ok done) = Unit {0}
Fetches (Err fetches.Failed) = ⊥
Fetches (Err fetches.OutOfMemory) = Unit {0}

-- Settling never fails. It answers whether the record landed, which then comes after the others; what was set stays set.
abbrev pub SettlesAs : KeeperView → KeeperView → Option Bool → Type 0
SettlesAs before after None = ⊥
SettlesAs before after (Some holds) =
    (holds ≡ is_landed before.unsettled)
    × (after ≡ record {
      records = before.records ++ landed_record before.unsettled;
      unsettled = None;
      fault = before.fault;
      faults = before.faults;
    })
