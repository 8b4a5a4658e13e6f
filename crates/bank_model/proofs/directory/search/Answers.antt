use Rattle.std.proofs.Common.{rules}
use Rattle.std.specs.List.{slice_get}
use Rattle.std.proofs.lemmas.Fn.{always_returns_same}
use Rattle.bank_model.specs.Directory.{compared}
use Rattle.bank_model.proofs.DirectoryLaws.{searched}
use Rattle.bank_model.proofs.directory.search.Goals as goal

-- the closure compares the item at a place with the key
pub returns : goal.returns
returns g c =
    let facts = c.binary_search_by.ensures in
    let by = facts.position (λ index. compared g.T.Keyed.key_of g.T.Keyed.order c.args.key.now (slice_get c.args.items.now index))
    (always_returns_same _ _ _ (λ a r f called. search rules)) in
    let ends = searched g.T.Keyed.key_of g.T.Keyed.order g.met.T.Keyed.total c.args.items.now c.args.indices.now c.requires c.args.key.now _ facts.bound by in
    record { found = ends.0; absent = ends.1 }
