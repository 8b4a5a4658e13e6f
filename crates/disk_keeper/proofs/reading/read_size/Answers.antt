-- The length that was read, and whether the record passes the end.
use Rattle.std.proofs.Common.{◌+◌, arith, sym, ◌∙◌}
use Rattle.disk_keeper.specs.Disk.{shown}
use Rattle.disk_keeper.proofs.DiskLemmas.{shown_at, size_reported}
use Rattle.disk_keeper.proofs.Walks.{size_read, size_fits, size_passes}
use Rattle.disk_keeper.proofs.reading.read_size.Goals as goal

pub returns-then-size-left-clause-known : goal.returns-then-size-left-clause-known
returns-then-size-left-clause-known g c h is within =
    let bytes = c.read_at.new.into in
    let long = size_reported _ h _ is c.size.ensures.known in
    let read = size_read (shown h) bytes c.args.offset c.size_in-size.result (omega (arith, c.size.ensures.size, long, c.if-left-lt-HEAD.false, c.requires)) c.read_at.auto.into
    (shown_at _ h (c.args.offset + 1) bytes is c.in_ok-read_at.ensures.shown) c.size_in-size.ensures.value c.size_in-size.ensures.again in
    size_passes (shown h) c.args.offset c.size_in-size.result read.0 (omega (arith, c.size.ensures.size, long, c.if-left-lt-HEAD.false, c.if-size-left.true, c.requires))

pub returns-clause-known : goal.returns-clause-known
returns-clause-known g c h is within =
    let bytes = c.read_at.new.into in
    let long = size_reported _ h _ is c.size.ensures.known in
    let read = size_read (shown h) bytes c.args.offset c.size_in-size.result (omega (arith, c.size.ensures.size, long, c.if-left-lt-HEAD.false, c.requires)) c.read_at.auto.into
    (shown_at _ h (c.args.offset + 1) bytes is c.in_ok-read_at.ensures.shown) c.size_in-size.ensures.value c.size_in-size.ensures.again in (
      size_fits (shown h) c.args.offset c.size_in-size.result read.0 (omega (arith, c.size.ensures.size, long, c.if-left-lt-HEAD.false, c.if-size-left.false, c.requires)),
      read.0,
      read.1,
      c.size_in-size.type_inv,
    )
