use Rattle.std.proofs.Common.{◌∙◌}
use Rattle.bank_server.proofs.Doors.{job_of, as_many}
use Rattle.bank_server.proofs.workers.serve_all.Goals as goal

pub returns-clause-count : goal.returns-clause-count
returns-clause-count g c = c.in_ok-ends.ensures.count ∙ as_many (λ job. job.door) c.in_ok-jobs.jobs.items c.args.workers.items c.in_ok-jobs.ensures.doors

pub returns-clause-each : goal.returns-clause-each
returns-clause-each g c = λ i worker worked at ended.
    let found = job_of (λ job. job.door) (λ job. job.clock) c.in_ok-jobs.jobs.items c.args.workers.items c.in_ok-jobs.ensures.doors c.in_ok-jobs.ensures.clocks i worker at in
    rw found.door at (rw found.clock at (rw found.job.fresh at (c.in_ok-ends.ensures.each i found.job worked found.at ended)))
