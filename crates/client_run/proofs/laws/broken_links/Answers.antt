use Rattle.client_run.proofs.LinkFaults.{only_reads, only_writes}
use Rattle.client_run.proofs.laws.broken_links.Goals as goal

pub returns-clause-reads : goal.returns-clause-reads
returns-clause-reads c = only_reads

pub returns-clause-writes : goal.returns-clause-writes
returns-clause-writes c = only_writes
