use Rattle.std.proofs.Common.{◌∙◌}
use Rattle.bank_model.specs.Directory.{IsOrderOf}
use Rattle.bank_model.proofs.DirectoryLaws.{any_searched}
use Rattle.bank_model.proofs.directory.Directory.contains.Goals as goal

pub returns : goal.returns
returns g c =
    let order : IsOrderOf g.T.Keyed.key_of g.T.Keyed.order c.deref.result.now c.deref-2.result.now = rw (c.deref.ensures.value, c.deref-2.ensures.value) c.self.invariant in
    rw (← c.self.view_is, ← c.deref.ensures.value)
    (c.is_ok.ensures.value ∙ any_searched g.T.Keyed.key_of g.T.Keyed.order g.met.T.Keyed.total c.deref.result.now c.deref-2.result.now order c.args.key.now
    g.T.Keyed.has_key g.met.T.Keyed.ties c.search.result c.search.ensures.found c.search.ensures.absent)
