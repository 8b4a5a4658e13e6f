use Rattle.std.proofs.Common.{[]}
use Rattle.std.proofs.lemmas.Result.{err_from_is_err_and}
use Rattle.postgres_messages.proofs.Groups.{group_fails, group_more, group_sized}
use Rattle.postgres_messages.proofs.writing.put_values.Goals as goal

pub returns-in_err-put_sized : goal.returns-in_err-put_sized
returns-in_err-put_sized c =
    let p = err_from_is_err_and c.from_residual.result c.from_residual.ensures.1 in
    rw (p.1, p.2) (group_fails c.args.values.now c.loop-value.value-index _ [] [] [] [] [] [] c.in_err-put_sized.field-0.0 c.loop-value-test.true c.in_err-put_sized.ensures)

pub loop-value-preserved : goal.loop-value-preserved
loop-value-preserved c = record {
  written = group_more c.args.values.now c.loop-value.value-index _ c.loop-value.out.items c.args.out.now.items c.put_sized.new.out.items c.loop-value-test.true c.loop-value.invariant.written c.in_ok-put_sized.ensures.0;
  sized = group_sized c.args.values.now c.loop-value.value-index _ c.loop-value-test.true c.loop-value.invariant.sized c.in_ok-put_sized.ensures.1;
}
