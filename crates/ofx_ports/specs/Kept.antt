-- What a keeper's calls do to the records that it keeps.
use Rattle.std.specs.Prelude.{◌≡◌, ℕ, ◌+◌, Bool, true, false, List, [], ◌∷◌, ⊤, Option, None, Some, Result, Ok, Err}
use Rattle.ofx_ports.specs.Known.{Stays, Grows}
use Rattle.ofx_ports.specs.declared.fault.Failed.{Failed}
use Rattle.ofx_ports.specs.declared.fault.PutFault.{PutFault}
use Rattle.ofx_ports.specs.declared.fault.PutFault.TheVariants as puts
use Rattle.ofx_ports.specs.declared.fault.FetchFault.{FetchFault}

-- After an append that failed the list has the record at its end where the record landed, and otherwise is as before.
abbrev pub MayGrow : Option (List (List ℕ)) → Option (List (List ℕ)) → Option Bool → List ℕ → Type 0
MayGrow None new landed rec = ⊤
MayGrow (Some rs) new None rec = ⊥
MayGrow (Some rs) new (Some true) rec = Grows (Some rs) new (rec ∷ [])
MayGrow (Some rs) new (Some false) rec = Stays (Some rs) new

-- An acknowledged record is at the end of the list. A failed append leaves something to be settled, and otherwise
-- nothing is to be settled. Want of memory leaves the list as it was.
abbrev pub Appended : Option (List (List ℕ)) → Option (List (List ℕ)) → Option Bool → Bool → List ℕ → Result (Unit {0}) PutFault → Type 0
Appended old new landed unsettled rec (Ok done) = Grows old new (rec ∷ []) × (unsettled ≡ false)
Appended old new landed unsettled rec (Err puts.Failed) = MayGrow old new landed rec × (unsettled ≡ true)
Appended old new landed unsettled rec (Err puts.OutOfMemory) = Stays old new × (unsettled ≡ false)

-- Settling answers whether the record landed, where that is reported. Where nothing is to be settled, no record did.
abbrev pub KnowsLanding : Bool → Option Bool → Bool → Type 0
KnowsLanding false landed holds = holds ≡ false
KnowsLanding true None holds = ⊤
KnowsLanding true (Some landed) holds = holds ≡ landed

-- what a settling answers: whether the record is stored, or nothing where it failed
abbrev pub stands_if : Result Bool Failed → Option Bool
stands_if (Ok holds) = Some holds
stands_if (Err failed) = None

-- the number of records with one more, where that one is stored
abbrev pub counted : ℕ → Bool → ℕ
counted size true = size + 1
counted size false = size

-- the append failed, and not for want of memory
abbrev pub put_failed : Result (Unit {0}) PutFault → Bool
put_failed (Ok done) = false
put_failed (Err puts.Failed) = true
put_failed (Err puts.OutOfMemory) = false

-- the fetch failed, and not for want of memory
abbrev pub fetch_failed : Result (Unit {0}) FetchFault → Bool
fetch_failed (Ok done) = false
fetch_failed (Err FetchFault.Failed) = true
fetch_failed (Err FetchFault.OutOfMemory) = false
