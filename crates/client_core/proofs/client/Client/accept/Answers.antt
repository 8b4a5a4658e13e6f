use Rattle.client_core.proofs.Keeping.{accept_keeps}
use Rattle.client_core.proofs.client.Client.accept.Goals as goal

pub invariant_of-self : goal.invariant_of-self
invariant_of-self c =
    accept_keeps c.self.inside.state c.args.reply.now c.accept.new.client c.accept.result c.self.invariant c.requires c.accept.ensures.accepted
    c.accept.ensures.err
