use Rattle.std.proofs.Common.{◌∙◌}
use Rattle.disk_keeper.proofs.FileLemmas.{size_of_is, size_bytes-size_of}
use Rattle.disk_keeper.proofs.reading.size_in.Goals as goal

pub returns-clause-value : goal.returns-clause-value
returns-clause-value c = c.from_be_bytes.ensures ∙ size_of_is c.args.bytes.now

pub returns-clause-again : goal.returns-clause-again
returns-clause-again c = size_bytes-size_of c.args.bytes.now _ c.told-bytes c.fits-bytes c.from_be_bytes.ensures
