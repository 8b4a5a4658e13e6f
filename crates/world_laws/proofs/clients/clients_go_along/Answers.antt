use Rattle.world_laws.proofs.ClientsBeside.{clients_go}
use Rattle.world_laws.proofs.clients.clients_go_along.Goals as goal

pub returns : goal.returns
returns c = clients_go c.sound_worlds_go_on.ensures.worlds c.sound_worlds_go_on.ensures.steps c.sound_worlds_go_on.ensures.banks
