use Rattle.std.specs.Prelude.{◌≡◌, false, is_some}
use Rattle.serve_tests.proofs.servers.crowd.kept_again.Given as goal

-- nothing is to be settled
abbrev pub invariant-loop-record : goal.invariant-loop-record
invariant-loop-record g l = is_some l.keeper.landed ≡ false
