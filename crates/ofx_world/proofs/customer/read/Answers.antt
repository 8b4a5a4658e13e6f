use Rattle.ofx_world.proofs.customer.read.Goals as goal

pub want_of_memory-requires : goal.want_of_memory-requires
want_of_memory-requires c = c.in-Err.ensures.all c.requires.0 c.requires.1
