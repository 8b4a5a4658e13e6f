-- What the guards of a run wrap.
use Rattle.run_guards.specs.declared.latched_keeper.LatchedKeeper.{LatchedKeeper}

-- the keeper whose lost file shuts the listener
abbrev pub keeper_within : {K : Type 0} → LatchedKeeper K → K
keeper_within latched = latched.keeper
