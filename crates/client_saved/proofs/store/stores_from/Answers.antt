use Rattle.std.proofs.Common.{[]}
use Rattle.std.proofs.lemmas.Result.{err_from_is_err_and}
use Rattle.client_saved.specs.Reading.{stores_from}
use Rattle.client_saved.proofs.Loops.{stores_go_on, stores_end, stores_done}
use Rattle.client_saved.proofs.store.stores_from.Goals as goal

pub returns-in_err-store-clause-gives : goal.returns-in_err-store-clause-gives
returns-in_err-store-clause-gives c =
    let p = err_from_is_err_and c.from_residual.result c.from_residual.ensures.1 in
    let here = rw c.items.ensures at c.in_err-store.ensures.gives in
    rw (p.1, p.2) (stores_end c.in_err-store.field-0.0 c.loop.stores c.args.count c.loop.counter c.args.text.now c.loop.next (stores_from c.args.count [] c.args.text.now c.args.at) c.loop-test.true here c.loop.invariant.read)

pub loop-preserved : goal.loop-preserved
loop-preserved c =
    let here = rw c.items.ensures at c.in_ok-store.ensures.gives in
    record {
      within = c.in_ok-store.ensures.within;
      read = rw c.in_ok-push.ensures.ok (stores_go_on c.loop.stores c.args.count c.loop.counter c.args.text.now c.loop.next c.in_ok-store.store c.in_ok-store.suffix (stores_from c.args.count [] c.args.text.now c.args.at) c.loop-test.true here c.loop.invariant.read);
    }

pub returns-clause-gives : goal.returns-clause-gives
returns-clause-gives c = stores_done c.loop.stores c.args.count c.loop.counter c.args.text.now c.loop.next (stores_from c.args.count [] c.args.text.now c.args.at) c.loop-test.false c.loop.invariant.read
