use Rattle.std.proofs.Common.{inl, inr}
use Rattle.client_run.proofs.laws.order_runs_are_runs.Goals as goal

pub returns : goal.returns
returns c = λ arguments order before after what are run. inr (inl (record {
  order = order;
  are_arguments = are;
  end = run.end;
  runs = run.runs;
  reported_is = run.reported_is;
}))
