use Rattle.world_laws.proofs.ClientsBeside.{new_clients, logs_keep, journals_keep, next_runs, acts_done}
use Rattle.world_laws.proofs.clients.clients_stay_right.Goals as goal

pub returns-clause-new : goal.returns-clause-new
returns-clause-new c = new_clients c.sound_worlds_go_on.ensures.worlds

pub returns-clause-along : goal.returns-clause-along
returns-clause-along c = c.clients_go_along.ensures

pub returns-clause-logs : goal.returns-clause-logs
returns-clause-logs c = logs_keep c.clients_go_along.ensures c.logs_are_runs.ensures

pub returns-clause-journals : goal.returns-clause-journals
returns-clause-journals c = journals_keep c.clients_go_along.ensures c.journals_are_runs.ensures

pub returns-clause-next : goal.returns-clause-next
returns-clause-next c = next_runs c.sound_worlds_go_on.ensures.worlds c.sound_worlds_go_on.ensures.banks

pub returns-clause-acts : goal.returns-clause-acts
returns-clause-acts c = acts_done c.acts_are_steps.ensures
