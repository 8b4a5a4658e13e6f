use Rattle.std.proofs.Common.{◌≡◌, true, false, ◌+◌, length, rules, arith}
use Rattle.std.specs.Prelude.{is_some}
use Rattle.postgres_model.specs.Engine.{is_taken}
use Rattle.postgres_model.proofs.MemRows.{taken_found, taken_more}
use Rattle.postgres_model.proofs.rows.is_any_taken.Goals as goal

pub returns-then-is_some : goal.returns-then-is_some
returns-then-is_some c =
    let some : is_some c.find.result ≡ true = search rules in
    taken_found c.args.first c.loop-number.number c.args.group.now c.args.rows.now _ c.find.result (omega arith) (omega arith) c.find.ensures some c.loop-number.invariant

pub loop-number-preserved : goal.loop-number-preserved
loop-number-preserved c =
    let none : is_some c.find.result ≡ false = search rules in
    taken_more c.args.first c.loop-number.number c.args.group.now c.args.rows.now _ c.find.result (omega arith) (omega arith) c.find.ensures none c.loop-number.invariant
