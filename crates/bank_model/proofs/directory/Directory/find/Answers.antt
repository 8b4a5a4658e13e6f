use Rattle.std.proofs.Common.{ap, sym, Some}
use Rattle.std.proofs.lemmas.List.{get_or_default}
use Rattle.bank_model.specs.Directory.{IsOrderOf}
use Rattle.bank_model.proofs.DirectoryLaws.{position_found, position_gap}
use Rattle.bank_model.proofs.directory.Directory.find.Goals as goal

pub returns-in-Ok : goal.returns-in-Ok
returns-in-Ok g c =
    let order : IsOrderOf g.T.Keyed.key_of g.T.Keyed.order c.deref.result.now c.deref-2.result.now = rw (c.deref.ensures.value, c.deref-2.ensures.value) c.self.invariant in
    let found = c.in-Ok.ensures.found in
    let is = position_found g.T.Keyed.key_of g.T.Keyed.order g.met.T.Keyed.total c.deref.result.now c.deref-2.result.now order c.args.key.now
    g.T.Keyed.has_key g.met.T.Keyed.ties c.in-Ok.at found in
    rw (← c.self.view_is, ← c.deref.ensures.value, is, c.index.ensures, ← c.deref-2.ensures.value)
    (ap Some (get_or_default c.deref-2.result.now c.in-Ok.at _ 0 found.within))

pub returns-in-Err : goal.returns-in-Err
returns-in-Err g c =
    let order : IsOrderOf g.T.Keyed.key_of g.T.Keyed.order c.deref.result.now c.deref-2.result.now = rw (c.deref.ensures.value, c.deref-2.ensures.value) c.self.invariant in
    rw (← c.self.view_is, ← c.deref.ensures.value)
    (sym (position_gap g.T.Keyed.key_of g.T.Keyed.order g.met.T.Keyed.total c.deref.result.now c.deref-2.result.now order c.args.key.now
    g.T.Keyed.has_key g.met.T.Keyed.ties c.in-Err.field-0 c.in-Err.ensures.absent))
