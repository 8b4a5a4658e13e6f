-- What the log's adapters wrap.
use Rattle.std.specs.Prelude.{ℕ}
use Rattle.serve_log.specs.declared.door.LoggedDoor.{LoggedDoor}
use Rattle.serve_log.specs.declared.keeper.LoggedKeeper.{LoggedKeeper}
use Rattle.serve_log.specs.declared.link.LoggedLink.{LoggedLink}

-- how often no link will come in any more
abbrev pub door_faults : {T C R : Type 0} → LoggedDoor T C R → ℕ
door_faults logged = logged.faults

-- the link that is watched
abbrev pub link_within : {L R : Type 0} → LoggedLink L R → L
link_within logged = logged.link

-- the keeper whose faults are reported
abbrev pub keeper_within : {K R : Type 0} → LoggedKeeper K R → K
keeper_within logged = logged.keeper
