use Rattle.std.proofs.Common.{option_map, ap, sym, ◌∙◌}
use Rattle.client_store.specs.RowForm.{seen}
use Rattle.client_store.proofs.Located.{row_there}
use Rattle.client_store.proofs.row_index.row_among.Goals as goal

-- no row but that at the place has the id
pub returns : goal.returns
returns c =
    ap (option_map seen) c.row_at.ensures
    ∙ sym (row_there c.args.family c.args.id 0 c.args.rows.now c.index.result c.requires c.index.ensures.index)
