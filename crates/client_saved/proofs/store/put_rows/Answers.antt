use Rattle.std.proofs.Common.{◌∙◌}
use Rattle.client_saved.proofs.Loops.{sound_at, rows_written}
use Rattle.client_saved.proofs.store.put_rows.Goals as goal

pub put_row-requires : goal.put_row-requires
put_row-requires c = rw c.row-item.is (sound_at c.args.rows.now c.loop-row.row-index _ c.requires c.loop-row-test.true)

pub returns-clause-bytes : goal.returns-clause-bytes
returns-clause-bytes c = c.loop-row.invariant.bytes ∙ rows_written c.args.rows.now c.loop-row.row-index c.args.out.now.items c.loop-row-test.false
