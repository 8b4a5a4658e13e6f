-- The numbers of the accounts that are taken for an event.
use Rattle.std.proofs.Common.{◌≡◌, ℕ, ◌<◌, ◌⊎◌, ◌↔◌, inl, List, length, map, Option, None, Some, sym, ap, ◌∙◌, subst}
use Rattle.std.proofs.lemmas.List.Elements.{All-weaker, All-contains, All-contains_itself}
use Rattle.std.specs.List.{All, Contains, flat_map}
use Rattle.std.specs.List.Sorted.{IsStrictlyIncreasing}
use Rattle.std.specs.Option.{IfSome}
use Rattle.ofx_types.specs.declared.number.AcctId.{AcctId}
use Rattle.ofx_types.specs.declared.request.RequestFile.{RequestFile}
use Rattle.bank_model.specs.declared.event.Event.{Event}
use Rattle.bank_model.specs.declared.event.Event.TheVariants.{File}
use Rattle.bank_model.specs.declared.event.State.{State}
use Rattle.bank_model.specs.declared.setup.Setup.{Setup}
use Rattle.bank_model.specs.Rules.{named, named_by, opening_state}
use Rattle.bank_accounts.specs.AccountView.{AccountView, Tables}
use Rattle.bank_accounts.specs.HeldAccounts.{IsHeld, AreHeld}
use Rattle.bank_core.proofs.BookSidesLemmas.{named_known}
use Rattle.bank_turns.specs.Taking.{MayBeTaken, AreListed}

abbrev pub is_below : ℕ → AcctId → Type 0
is_below count number = number.0 < count

-- ---- which accounts are held

-- All accounts of these numbers are held, which are those that are named.
pub named_held : (numbers : List AcctId) (held : List AccountView) (entries : List (Option AcctId)) → All (IsHeld held) numbers
    → ((account : AcctId) → Contains numbers account ↔ Contains entries (Some account)) → AreHeld held entries
named_held numbers held entries all only =
    All-weaker (Contains entries) (λ (entry : Option AcctId). IfSome entry (IsHeld held)) one entries (All-contains_itself entries)
  where
    one : (entry : Option AcctId) → Contains entries entry → IfSome entry (IsHeld held)
    one None there = tt
    one (Some account) there = All-contains (IsHeld held) numbers account all ((only account).1 there)

-- ---- which numbers are listed

pub all_listed : (numbers : List AcctId) (entries : List (Option AcctId)) → ((account : AcctId) → Contains numbers account ↔ Contains entries (Some account)) → AreListed numbers entries
all_listed numbers entries only =
    All-weaker (Contains entries) (λ (entry : Option AcctId). IfSome entry (Contains numbers)) one entries (All-contains_itself entries)
  where
    one : (entry : Option AcctId) → Contains entries entry → IfSome entry (Contains numbers)
    one None there = tt
    one (Some account) there = (only account).1 there

-- What is in one of two lists is in both together.
pub listed_in_both : (count : ℕ) (first second all : List AcctId) → All (is_below count) first
    → ((number : AcctId) → number.0 < count → (Contains first number ⊎ Contains second number) ↔ Contains all number)
    → (entries : List (Option AcctId)) → AreListed first entries → AreListed all entries
listed_in_both count first second all below both entries listed =
    All-weaker (λ (entry : Option AcctId). IfSome entry (Contains first)) (λ (entry : Option AcctId). IfSome entry (Contains all)) one entries listed
  where
    one : (entry : Option AcctId) → IfSome entry (Contains first) → IfSome entry (Contains all)
    one None there = tt
    one (Some number) there = (both number (All-contains (is_below count) first number below there)).0 (inl there)

-- ---- the same bank

-- what an event names, of a book that has the journal's setup and state
pub named_alike : (setup own : Setup) (state held : State) (event : Event) (numbers : List AcctId) → own ≡ setup → held ≡ state
    → ((account : AcctId) → Contains numbers account ↔ Contains (named own held event) (Some account)) → (account : AcctId) → Contains numbers account ↔ Contains (named setup state event) (Some account)
named_alike setup own state held event numbers whose same only =
    subst (λ (s : Setup). (account : AcctId) → Contains numbers account ↔ Contains (named s state event) (Some account)) whose
    (subst (λ (S : State). (account : AcctId) → Contains numbers account ↔ Contains (named own S event) (Some account)) same only)

-- ---- a file

-- the accounts that a file names, by the bank's own copy of the setup
abbrev pub AreOfFile : Setup → RequestFile → List AcctId → Type 0
AreOfFile setup file numbers = (account : AcctId) → Contains numbers account ↔ Contains (flat_map (named_by setup) file.asks) (Some account)

pub file_may : (setup own : Setup) (tables : Tables) (file : RequestFile) (numbers : List AcctId) → own ≡ setup → length tables ≡ length setup.accounts
    → IsStrictlyIncreasing (map (λ (account : AcctId). account.0) numbers) → AreOfFile own file numbers → MayBeTaken tables numbers
file_may setup own tables file numbers same count rising only = record {
  rising = rising;
  known = named_known own opening_state (File (record { 0 = 0 }) file) numbers (length tables) (count ∙ ap (λ (s : Setup). length s.accounts) (sym same)) only;
}

pub file_listed : (setup own : Setup) (file : RequestFile) (numbers : List AcctId) → own ≡ setup → AreOfFile own file numbers → AreListed numbers (flat_map (named_by setup) file.asks)
file_listed setup own file numbers same only = all_listed numbers (flat_map (named_by setup) file.asks) (subst (λ (s : Setup). AreOfFile s file numbers) same only)
