-- A bank that opens from records has come by a run of events.
use Rattle.std.proofs.Common.{◌≡◌, ℕ, List, [], ◌∷◌}
use Rattle.bank_model.specs.Rules.{opening_state, state_after}
use Rattle.bank_model.specs.declared.setup.Setup.{Setup}
use Rattle.bank_model.specs.declared.event.State.{State}
use Rattle.bank_invariants.specs.Runs.{Happening, after_all, AreLegal}
use Rattle.event_codec.specs.Records.{Reopens}
use Rattle.bank_replay.specs.Laws.{ReopeningsAreRuns, RunsReopen}
use Rattle.bank_replay.specs.Runs.{CodeAll}

-- Records that bring a bank from one state to another, as a run of events.
record RunFrom (setup : Setup) (before : State) (records : List (List ℕ)) (after : State) : Type 0 where
  run : List Happening
  code : CodeAll records run
  legal : AreLegal setup before run
  leaves : after ≡ after_all setup before run

run_from : (setup : Setup) (before : State) (records : List (List ℕ)) (after : State) → Reopens setup before records after → RunFrom setup before records after
run_from setup before [] after same = record { run = []; code = tt; legal = tt; leaves = same }
run_from setup before (rec ∷ records) after (at, event, codes, legal, rest) =
    let more = run_from setup (state_after setup before at event) records after rest in
    record {
      run = record { at = at; event = event } ∷ more.run;
      code = (codes, more.code);
      legal = ((codes.moment, legal), more.legal);
      leaves = more.leaves;
    }

pub are_runs : ReopeningsAreRuns
are_runs setup records state reopens =
    let from = run_from setup opening_state records state reopens in
    record { run = from.run; code = from.code; legal = from.legal; leaves = from.leaves }

reopen_from : (setup : Setup) (before : State) (records : List (List ℕ)) (run : List Happening) (after : State) → CodeAll records run → AreLegal setup before run → after ≡ after_all setup before run → Reopens setup before records after
reopen_from setup before [] [] after code legal leaves = leaves
reopen_from setup before [] (first ∷ more) after code legal leaves = absurd code
reopen_from setup before (rec ∷ records) [] after code legal leaves = absurd code
reopen_from setup before (rec ∷ records) (first ∷ more) after code legal leaves =
    (first.at, first.event, code.0, legal.0.1, reopen_from setup (state_after setup before first.at first.event) records more after code.1 legal.1 leaves)

pub runs_reopen : RunsReopen
runs_reopen setup records state are = reopen_from setup opening_state records are.run state are.code are.legal are.leaves
