use Rattle.bank_shared.proofs.Begun.{first_pass}
use Rattle.bank_server.proofs.workers.run_job.Goals as goal

pub serve_worker-end-requires-clause-pass : goal.serve_worker-end-requires-clause-pass
serve_worker-end-requires-clause-pass g c κs within = first_pass g.N.BankName.setup g.N.BankName.opening g.N.BankName.board c.args.job.pass c.args.job.fresh
