-- What a search by halves among lines in order ends with, and a sort by that order.
use Rattle.std.proofs.Common.{◌≡◌, ℕ, length, Bool, List, Result, Ok, Err, IfOk, IfErr, ap}
use Rattle.std.specs.Borrow.{Bor}
use Rattle.std.specs.Cmp.{IsStrictWeakOrder}
use Rattle.std.specs.Fn.{Mut, Called, ComparesAs}
use Rattle.std.specs.List.Sorted.{IsSearchInRange, IsBinarySearchResult, IsSortedBy}
use Rattle.std.specs.Ordering.{is_lt}
use Rattle.std.specs.declared.cmp.Ordering.{Ordering}
use Rattle.std.proofs.lemmas.Fn.{always_returns_same}
use Rattle.std.proofs.lemmas.List.MinMax.{ranks_by}
use Rattle.file_register.specs.Order.{line_cmp, line_total}
use Rattle.file_register.specs.Registers.{IsRising}
use Rattle.file_register.specs.Gathering.{IsFoundAt, IsNewTo}
use Rattle.file_register.specs.declared.line.Line.{Line}
use Rattle.file_register.proofs.SortedLists.{gap_apart}

pub searched : (lines : List Line) (line : Line) (r : Result ℕ ℕ) → IsRising lines → IsSearchInRange r (length lines) → IsBinarySearchResult (λ other. line_cmp other line) lines r
    → IfOk r (IsFoundAt lines line) × IfErr r (λ at. IsNewTo lines line)
searched lines line (Ok at) rising lt tied = (record { within = lt; tied = tied }, tt)
searched lines line (Err at) rising le parted = (tt, gap_apart line_cmp line_total lines line at rising parted)

-- what a sort is ensured to give, where each call compares two lines
pub sorts : {F : Type 0} {g : Mut F (Bor Line × (Bor Line × Unit {0})) Ordering} {f : F} (lines : List Line)
    → ((lt : Line → Line → Bool) → IsStrictWeakOrder lt → ComparesAs g lt f → IsSortedBy lt lines)
    → ((a : Bor Line × (Bor Line × Unit {0})) (r : Ordering) (f' : F) → Called g f a r f' → (r ≡ line_cmp a.0.now a.1.0.now) × (f' ≡ f))
    → IsSortedBy (λ one other. is_lt (line_cmp one other)) lines
sorts {g = g} {f = f} lines up h = up (λ one other. is_lt (line_cmp one other)) (ranks_by line_total (λ (line : Line). line))
    (always_returns_same g (λ a r. is_lt r ≡ is_lt (line_cmp a.0.now a.1.0.now)) f (λ a r f' called. (ap is_lt (h a r f' called).0, (h a r f' called).1)))
