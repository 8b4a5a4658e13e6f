use Rattle.std.proofs.Common.{◌≡◌, ap, sym, not, length, rules}
use Rattle.bank_model.specs.Directory.{IsOrderOf, IsGap}
use Rattle.bank_model.proofs.DirectoryLaws.{any_found, any_gap, inserted}
use Rattle.bank_model.proofs.directory.Directory.add.Goals as goal

-- the place of the item goes where the search ended
pub invariant_of-self-in-Err : goal.invariant_of-self-in-Err
invariant_of-self-in-Err g c =
    let gap : IsGap g.T.Keyed.key_of g.T.Keyed.order c.self.inside.items.items c.self.inside.indices.items (g.T.Keyed.key_of c.args.item) c.in-Err.at =
    rw (← c.deref.ensures.value, ← c.deref-2.ensures.value, ← c.key.ensures) c.in-Err.ensures.absent in
    let index : c.len.result ≡ length c.self.inside.items.items = search rules in
    rw (c.push_reserved.ensures.items, c.in_ok-insert-in-Err.ensures.items, index, c.reserve.ensures.items)
    (inserted g.T.Keyed.key_of g.T.Keyed.order g.met.T.Keyed.total c.self.inside.items.items c.self.inside.indices.items c.self.invariant
    c.args.item c.in-Err.at gap)

pub returns-in-Ok-clause-free : goal.returns-in-Ok-clause-free
returns-in-Ok-clause-free g c =
    let order : IsOrderOf g.T.Keyed.key_of g.T.Keyed.order c.deref.result.now c.deref-2.result.now =
    rw (c.deref.ensures.value, c.deref-2.ensures.value) c.self.invariant in
    rw (← c.self.view_is, ← c.deref.ensures.value, ← c.key.ensures)
    (ap not (sym (any_found g.T.Keyed.key_of g.T.Keyed.order g.met.T.Keyed.total c.deref.result.now c.deref-2.result.now order c.key.result.now
    g.T.Keyed.has_key g.met.T.Keyed.ties _ c.in-Ok.ensures.found)))

pub returns-in_ok-insert-in-Err-clause-free : goal.returns-in_ok-insert-in-Err-clause-free
returns-in_ok-insert-in-Err-clause-free g c =
    let order : IsOrderOf g.T.Keyed.key_of g.T.Keyed.order c.deref.result.now c.deref-2.result.now =
    rw (c.deref.ensures.value, c.deref-2.ensures.value) c.self.invariant in
    rw (← c.self.view_is, ← c.deref.ensures.value, ← c.key.ensures)
    (ap not (sym (any_gap g.T.Keyed.key_of g.T.Keyed.order g.met.T.Keyed.total c.deref.result.now c.deref-2.result.now order c.key.result.now
    g.T.Keyed.has_key g.met.T.Keyed.ties _ c.in-Err.ensures.absent)))
