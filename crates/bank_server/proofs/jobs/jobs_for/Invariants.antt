use Rattle.std.proofs.Common.{◌≡◌, map}
use Rattle.bank_server.proofs.jobs.jobs_for.Given as goal

-- there is a job for each of the workers so far, and the pass is as it was
abbrev pub invariant-loop-door : goal.invariant-loop-door
invariant-loop-door g l = record {
  doors : map (λ job. job.door) l.jobs.items ≡ map (λ worker. worker.0) l.yielded;
  clocks : map (λ job. job.clock) l.jobs.items ≡ map (λ worker. worker.1) l.yielded;
  same : l.pass ≡ l.fn.pass;
}
