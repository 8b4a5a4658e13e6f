use Rattle.std.proofs.Common.{arith}
use Rattle.postgres_model.proofs.MemRows.{text_at, rows_more}
use Rattle.postgres_model.proofs.rows.rows_of.Goals as goal

pub loop-bytes-preserved : goal.loop-bytes-preserved
loop-bytes-preserved c = record {
  rows = rw c.in_ok-push.ensures.items (rows_more c.loop-bytes.rows.items c.in_ok-row.row c.args.first c.loop-bytes.bytes-index c.loop-bytes.number c.args.group.now _ c.in_ok-row.ensures
      c.loop-bytes.invariant.rows c.loop-bytes.invariant.next c.loop-bytes-test.true (text_at c.args.group.now c.loop-bytes.bytes-index _ c.loop-bytes-test.true));
  next = omega arith;
}
