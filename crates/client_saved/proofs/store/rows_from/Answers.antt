use Rattle.std.proofs.Common.{[], ◌∷◌}
use Rattle.std.proofs.lemmas.List.{map-append}
use Rattle.std.proofs.lemmas.Result.{err_from_is_err_and}
use Rattle.bank_model.specs.Stores.{id_of}
use Rattle.client_store.specs.RowForm.{seen, all_seen, bound_after}
use Rattle.client_saved.specs.Reading.{rows_from}
use Rattle.client_saved.proofs.Loops.{after_one, rows_go_on, rows_end, rows_done}
use Rattle.client_saved.proofs.store.rows_from.Goals as goal

pub returns-in_err-row-clause-gives : goal.returns-in_err-row-clause-gives
returns-in_err-row-clause-gives c =
    let p = err_from_is_err_and c.from_residual.result c.from_residual.ensures.1 in
    rw (p.1, p.2) (rows_end c.in_err-row.field-0.0 (all_seen c.loop.rows) c.args.count c.loop.counter c.args.family (bound_after 0 c.loop.before) c.args.text.now c.loop.next (rows_from c.args.count c.args.family 0 c.args.text.now c.args.at) c.loop-test.true c.in_err-row.ensures.gives c.loop.invariant.read)

pub loop-preserved : goal.loop-preserved
loop-preserved c =
    let one = rows_go_on (all_seen c.loop.rows) c.args.count c.loop.counter c.args.family (bound_after 0 c.loop.before) c.args.text.now c.loop.next (seen c.in_ok-row.row) c.in_ok-row.suffix (rows_from c.args.count c.args.family 0 c.args.text.now c.args.at) c.loop-test.true c.in_ok-row.ensures.gives c.loop.invariant.read in
    record {
      within = c.in_ok-row.ensures.within;
      read = rw (c.in_ok-push.ensures.ok, map-append seen c.loop.rows (c.in_ok-row.row ∷ []), c.or-before.ensures, c.id.ensures, after_one (id_of (seen c.in_ok-row.row)) c.loop.before) one;
    }

pub returns-clause-gives : goal.returns-clause-gives
returns-clause-gives c = rows_done (all_seen c.loop.rows) c.args.count c.loop.counter c.args.family (bound_after 0 c.loop.before) c.args.text.now c.loop.next (rows_from c.args.count c.args.family 0 c.args.text.now c.args.at) c.loop-test.false c.loop.invariant.read
