use Rattle.std.proofs.Common.{◌≡◌, ◌≤◌, IfSome, arith, refl, ◌∙◌}
use Rattle.std.proofs.lemmas.Result.{err_from_is_err_and}
use Rattle.bank_callers.specs.Callers.{IsRightView}
use Rattle.bank_connection.proofs.Steps.{start, read_on, goes_on, closes, breaks_so}
use Rattle.bank_connection.proofs.serve.serve_link.Goals as goal

pub loop-incoming-init : goal.loop-incoming-init
loop-incoming-init g c = record {
  so_far = rw c.new-incoming.ensures (start _ _);
  few = omega arith;
  setup = refl;
  through = refl;
  ready = c.requires.ready;
  right = c.setup-setup.ensures.right;
  reads = omega arith;
  writes = omega arith;
}

pub returns-in_err-refuse-in-Refused-clause-converses : goal.returns-in_err-refuse-in-Refused-clause-converses
returns-in_err-refuse-in-Refused-clause-converses g c =
    let i = c.loop-incoming.invariant in
    let p = err_from_is_err_and c.from_residual-in_err-refuse-in-Refused.result c.from_residual-in_err-refuse-in-Refused.ensures.1 in
    let earlier : g.L.Link.write_faults c.args.link.now ≤ g.L.Link.write_faults c.next_request.new.link = omega (arith, i.writes, c.next_request.ensures.writes) in
    let s = read_on _ c.loop-incoming.served _ _ _ _ _ _ _ _ i.so_far c.next_request.ensures.kept c.next_request.ensures.unwritten in
    rw (p.1, p.2) (breaks_so _ c.loop-incoming.served _ _ _ _ _ _ i.few i.right earlier s (c.in_err-refuse-in-Refused.ensures.exchange _ _ _ _))

pub returns-in-Refused-clause-converses : goal.returns-in-Refused-clause-converses
returns-in-Refused-clause-converses g c =
    let i = c.loop-incoming.invariant in
    let s = read_on _ c.loop-incoming.served _ _ _ _ _ _ _ _ i.so_far c.next_request.ensures.kept c.next_request.ensures.unwritten in
    closes _ c.loop-incoming.served _ _ _ _ _ i.few i.right s (c.in_ok-refuse-in-Refused.ensures.exchange _ _ _ _)

pub returns-in_err-closes-in-Whole-clause-converses : goal.returns-in_err-closes-in-Whole-clause-converses
returns-in_err-closes-in-Whole-clause-converses g c =
    let i = c.loop-incoming.invariant in
    let p = err_from_is_err_and c.from_residual-in_err-closes-in-Whole.result c.from_residual-in_err-closes-in-Whole.ensures.1 in
    let earlier : g.L.Link.write_faults c.args.link.now ≤ g.L.Link.write_faults c.next_request.new.link = omega (arith, i.writes, c.next_request.ensures.writes) in
    let right : IfSome (g.O.Office.knows c.exchange.new.office) (IsRightView (g.O.Office.setup c.args.office.now)) = rw (c.exchange.ensures.setup, i.setup) at c.exchange.ensures.right in
    let s = read_on _ c.loop-incoming.served _ _ _ _ _ _ _ _ i.so_far c.next_request.ensures.kept c.next_request.ensures.unwritten in
    rw (p.1, p.2) (breaks_so _ c.loop-incoming.served _ _ _ _ _ _ i.few right earlier s (rw i.setup at c.in_err-closes-in-Whole.ensures.exchange))

pub returns-then-closes-clause-converses : goal.returns-then-closes-clause-converses
returns-then-closes-clause-converses g c =
    let i = c.loop-incoming.invariant in
    let right : IfSome (g.O.Office.knows c.exchange.new.office) (IsRightView (g.O.Office.setup c.args.office.now)) = rw (c.exchange.ensures.setup, i.setup) at c.exchange.ensures.right in
    let s = read_on _ c.loop-incoming.served _ _ _ _ _ _ _ _ i.so_far c.next_request.ensures.kept c.next_request.ensures.unwritten in
    closes _ c.loop-incoming.served _ _ _ _ _ i.few right s (rw (i.setup, c.if-closes.true) at c.in_ok-closes-in-Whole.ensures.exchange)

pub loop-incoming-preserved : goal.loop-incoming-preserved
loop-incoming-preserved g c =
    let i = c.loop-incoming.invariant in
    let s = read_on _ c.loop-incoming.served _ _ _ _ _ _ _ _ i.so_far c.next_request.ensures.kept c.next_request.ensures.unwritten in
    record {
      so_far = goes_on _ c.loop-incoming.served _ _ _ _ _ s (rw (i.setup, c.if-closes.false) at c.in_ok-closes-in-Whole.ensures.exchange);
      few = c.in_ok-closes-in-Whole.ensures.goes_on (rw c.if-closes.false refl);
      setup = c.exchange.ensures.setup ∙ i.setup;
      through = c.exchange.ensures.through ∙ i.through;
      ready = c.exchange.ensures.ready;
      right = rw (c.exchange.ensures.setup, i.setup) at c.exchange.ensures.right;
      reads = omega (arith, i.reads, c.next_request.ensures.reads, c.exchange.ensures.reads);
      writes = omega (arith, i.writes, c.next_request.ensures.writes, c.exchange.ensures.writes);
    }
