use Rattle.std.proofs.Common.{length, sym, ap, ◌∙◌}
use Rattle.std.proofs.lemmas.List.{length-map}
use Rattle.client_store.specs.RowForm.{seen}
use Rattle.client_report.proofs.words.row_count.Goals as goal

pub returns : goal.returns
returns c = sym (length-map c.rows.result.now seen) ∙ ap length c.rows.ensures
