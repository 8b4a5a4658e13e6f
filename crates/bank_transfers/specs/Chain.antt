-- How the postings of an account are found: each posting leads to the one before it that is about an account of the same
-- key. Positions count from 1, and 0 is none.
use Rattle.std.specs.Prelude.{◌≡◌, ℕ, zero, suc, ◌+◌, ◌*◌, ◌%◌, ◌^◌, ◌<◌, ◌≤◌, ◌≤ℤ◌, Bool, true, ◌||◌, ◌==◌, if◌then◌else◌, List, [], ◌∷◌, map, fold, take, length, slice_index_or, Option, None, Some}
use Rattle.std.specs.Map.{lookup}
use Rattle.ofx_types.specs.declared.account.AcctName.{AcctName}
use Rattle.ofx_types.specs.declared.number.Moment.{Moment}
use Rattle.bank_model.specs.Ledger.{Posting}
use Rattle.bank_transfers.specs.declared.skip_link.SkipLink.{SkipLink}
use Rattle.bank_transfers.specs.declared.postings.Linked.{Linked}

-- the key of an account, from its number
abbrev pub key_step : ℕ → ℕ → ℕ
key_step key byte = (key * 257 % 2 ^ 64 + byte) % 2 ^ 64

abbrev pub key_of : AcctName → ℕ
key_of name = fold key_step 0 name.number

-- A posting is about an account of the key where its source or its destination has the key.
abbrev pub touches : ℕ → Posting → Bool
touches key posting = (key_of posting.row.from == key) || (key_of posting.row.to == key)

abbrev pub is_of : ℕ → Posting → Bool
is_of id posting = posting.row.id == id

-- the position of the last posting that passes a test, or 0, from whether the first one passes and the position among the rest
abbrev pub index_before : Bool → ℕ → ℕ
index_before passes zero = if passes then 1 else 0
index_before passes (suc index) = suc (suc index)

abbrev pub last_by : (Posting → Bool) → List Posting → ℕ
last_by test [] = 0
last_by test (posting ∷ more) = index_before (test posting) (last_by test more)

abbrev pub posting_of : Linked → Posting
posting_of linked = record { number = linked.number; row = linked.row }

abbrev pub postings_of : List Linked → List Posting
postings_of held = map posting_of held

-- The posting at a position passes a test; at 0 there is none.
abbrev pub PassesAt : (Posting → Bool) → ℕ → List Posting → Type 0
PassesAt test zero postings = Unit {0}
PassesAt test (suc k) postings = (d : Posting) → test (slice_index_or postings k d) ≡ true

-- A stamp is from one moment to another, both included.
abbrev pub IsBetween : Moment → Moment → Posting → Type 0
IsBetween least greatest posting = (least.0 ≤ℤ posting.row.stamp.0) × (posting.row.stamp.0 ≤ℤ greatest.0)

-- The stamps of the postings of a key after one position, up to and at another, are from one moment to another.
abbrev pub AreBetween : ℕ → Moment → Moment → ℕ → ℕ → List Posting → Type 0
AreBetween key least greatest after index postings = (k : ℕ) (d : Posting) → after ≤ k → k < index
    → touches key (slice_index_or postings k d) ≡ true → IsBetween least greatest (slice_index_or postings k d)

-- A posting after k others leads back to the last one of a key before it, and skips to one that is no later; stamps after
-- that one up to its own are between the least and the greatest.
pub record IsLinked (key : ℕ) (link : SkipLink) (k : ℕ) (postings : List Posting) : Type 0 where
  pub before : link.before ≡ last_by (touches key) (take k postings)
  pub skip : link.skip ≤ link.before
  pub lands : PassesAt (touches key) link.skip postings
  pub stamps : AreBetween key link.least link.greatest link.skip (k + 1) postings

-- Each posting leads back to those of its source's key, and of its destination's.
abbrev pub AreLinked : List Linked → Type 0
AreLinked held = (k : ℕ) (d : Linked) → k < length held
    → IsLinked (key_of (slice_index_or held k d).row.from) (slice_index_or held k d).from_link k (postings_of held)
    × IsLinked (key_of (slice_index_or held k d).row.to) (slice_index_or held k d).to_link k (postings_of held)

abbrev pub index_or_none : Option ℕ → ℕ
index_or_none None = 0
index_or_none (Some index) = index

-- The table has, under each key, the position of the last posting that passes the key's test.
abbrev pub HasLasts : (ℕ → Posting → Bool) → List (ℕ × ℕ) → List Posting → Type 0
HasLasts test table postings = (key : ℕ) → index_or_none (lookup (λ k. key == k) table) ≡ last_by (test key) postings
