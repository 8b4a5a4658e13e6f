use Rattle.std.proofs.Common.{sym, ◌∙◌}
use Rattle.client_store.proofs.Located.{model_there}
use Rattle.client_store.proofs.row_index.model_among.Goals as goal

-- no row but that at the place has the id
pub returns : goal.returns
returns c =
    c.model_at.ensures
    ∙ sym (model_there c.args.family c.args.id 0 c.args.rows.now c.index.result c.requires c.index.ensures.index)
