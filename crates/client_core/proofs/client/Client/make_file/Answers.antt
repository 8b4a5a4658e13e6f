use Rattle.std.proofs.Common.{◌<◌, sym, subst}
use Rattle.client_saved.specs.declared.state.ClientState.{ClientState}
use Rattle.client_core.proofs.Keeping.{make_keeps}
use Rattle.client_core.proofs.client.Client.make_file.Goals as goal

pub invariant_of-self : goal.invariant_of-self
invariant_of-self c =
    make_keeps c.self.inside.state c.args.wish.now c.args.at c.make.new.client c.make.result c.self.invariant
    (subst (λ (s : ClientState). s.next < 9999999999) (sym c.self.view_is) c.requires.number) c.requires.wish c.requires.moment
    c.make.ensures.made c.make.ensures.err
