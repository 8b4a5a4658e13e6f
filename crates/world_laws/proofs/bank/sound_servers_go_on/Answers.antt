use Rattle.world_laws.proofs.SoundServers.{world_sound, fresh_sound, steps_sound}
use Rattle.world_laws.proofs.bank.sound_servers_go_on.Goals as goal

pub returns-clause-worlds : goal.returns-clause-worlds
returns-clause-worlds c = world_sound c.laws_of_records.ensures

pub returns-clause-fresh : goal.returns-clause-fresh
returns-clause-fresh c = fresh_sound c.laws_of_records.ensures

pub returns-clause-steps : goal.returns-clause-steps
returns-clause-steps c = steps_sound c.laws_of_records.ensures
