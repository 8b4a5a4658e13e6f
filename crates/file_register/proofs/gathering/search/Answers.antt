use Rattle.std.proofs.Common.{rules}
use Rattle.std.proofs.lemmas.Fn.{always_returns_same}
use Rattle.file_register.specs.Order.{line_cmp}
use Rattle.file_register.proofs.Searching.{searched}
use Rattle.file_register.proofs.gathering.search.Goals as goal

-- the closure compares a line with the one that is looked for
pub returns : goal.returns
returns c =
    let facts = c.binary_search_by.ensures in
    let by = facts.position (λ other. line_cmp other c.args.line.now) (always_returns_same _ _ _ (λ a r f called. search rules)) in
    let ends = searched c.args.lines.now c.args.line.now _ c.requires facts.bound by in
    record { found = ends.0; absent = ends.1 }
