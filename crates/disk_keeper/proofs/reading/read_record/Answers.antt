-- What was read in place of the buffer's bytes is the record.
use Rattle.std.proofs.Common.{◌≡◌, ◌+◌, ◌∙◌, length, subst, sym}
use Rattle.std.proofs.lemmas.List.{with_items_is}
use Rattle.disk_keeper.specs.Disk.{shown}
use Rattle.disk_keeper.specs.Reading.{IsRecord}
use Rattle.disk_keeper.proofs.DiskLemmas.{shown_at}
use Rattle.disk_keeper.proofs.Passes.{record_at}
use Rattle.disk_keeper.proofs.reading.read_record.Goals as goal

pub returns-clause-found : goal.returns-clause-found
returns-clause-found g c h is within =
    let taken = c.read_at.new.into in
    let long = c.read_at.auto.into ∙ c.deref_mut.ensures.len in
    let items = with_items_is c.resize.new.self taken long in
    items ∙ record_at (shown h) c.args.offset c.in_ok-size.size taken (c.in_ok-size.ensures.known h is within).1 (long ∙ c.in-Ok.ensures.len)
    (shown_at _ h (c.args.offset + 9) taken (c.whole_size.ensures.history ∙ is) c.in-Ok-read_at.ensures.shown)
