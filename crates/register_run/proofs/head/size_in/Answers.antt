use Rattle.register_run.proofs.HeadLines.{prefix_is, heads, no_heads}
use Rattle.register_run.proofs.head.size_in.Goals as goal

pub returns-clause-some : goal.returns-clause-some
returns-clause-some c = heads c.args.bytes.now _ c.length_in.result c.requires (prefix_is c.args.bytes.now c.requires) c.length_in.ensures.some

pub returns-clause-none : goal.returns-clause-none
returns-clause-none c = no_heads c.args.bytes.now _ c.length_in.result c.requires (prefix_is c.args.bytes.now c.requires) c.length_in.ensures.none
