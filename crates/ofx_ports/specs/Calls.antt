-- The calls of a memory form: which of them fail, how many were made, and how many failed.
use Rattle.std.specs.Prelude.{ℕ, ◌+◌, ◌-◌, ◌^◌, min, Bool, ◌==◌, List, if◌then◌else◌}
use Rattle.std.specs.List.{list_any}

pub record Calls : Type 0 where
  -- the numbers of the calls that fail, counted from 1
  pub failing : List ℕ
  -- the number of calls made
  pub made : ℕ
  -- the number of calls that failed
  pub faults : ℕ

-- One more. A number that has reached the end of its type stays the same.
abbrev pub one_more : ℕ → ℕ
one_more n = min (n + 1) (2 ^ 64 - 1)

-- whether the next call is one of those that fail
abbrev pub fails_next : Calls → Bool
fails_next calls = list_any (λ number. number == one_more calls.made) calls.failing

-- the calls after one more, which failed or did not
abbrev pub after_call : Calls → Bool → Calls
after_call calls failed = record {
  failing = calls.failing;
  made = one_more calls.made;
  faults = if failed then one_more calls.faults else calls.faults;
}
