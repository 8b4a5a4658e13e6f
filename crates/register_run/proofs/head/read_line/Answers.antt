use Rattle.std.proofs.Common.{◌≡◌, ◌≤◌, length, IsTrue, arith, rules}
use Rattle.register_run.proofs.BytesRead.{keeps_read, line_ended, line_goes_on}
use Rattle.register_run.proofs.head.read_line.Goals as goal

pub returns-then-ends_in_line_feed-clause-ends : goal.returns-then-ends_in_line_feed-clause-ends
returns-then-ends_in_line_feed-clause-ends g c =
    let few : c.in_ok-read_more.field-0 ≤ 1 = omega (arith, c.in_ok-read_more.ensures.most, c.loop-source.invariant.room) in
    line_ended c.loop-source.bytes.items c.read_more.new.bytes.items _ _ c.in_ok-read_more.field-0 c.in_ok-read_more.ensures.more few c.if-branch-eq0.false c.loop-source.invariant.clean
    (rw c.deref.ensures.value at (c.ends_in_line_feed.ensures.0 c.if-ends_in_line_feed.true))

pub loop-source-preserved : goal.loop-source-preserved
loop-source-preserved g c =
    let few : c.in_ok-read_more.field-0 ≤ 1 = omega (arith, c.in_ok-read_more.ensures.most, c.loop-source.invariant.room) in
    let size : c.len.result ≡ length c.loop-source.bytes.items = search rules in
    let goes = line_goes_on c.loop-source.bytes.items c.read_more.new.bytes.items _ _ c.in_ok-read_more.field-0 c.in_ok-read_more.ensures.more few c.if-branch-eq0.false c.loop-source.invariant.clean
    (λ e. let is : IsTrue c.ends_in_line_feed.result = c.ends_in_line_feed.ensures.1 (rw c.deref.ensures.value e) in cc) in
    record {
      kept = keeps_read _ _ _ c.loop-source.bytes.items c.read_more.new.bytes.items c.in_ok-read_more.field-0 c.loop-source.invariant.kept c.in_ok-read_more.ensures.more;
      clean = goes.0;
      short = omega (arith, goes.1, size, c.loop-source-test.true);
      room = omega (arith, c.loop-source.invariant.room);
      faults = omega (arith, c.loop-source.invariant.faults, c.read_more.ensures.faults.later);
    }
