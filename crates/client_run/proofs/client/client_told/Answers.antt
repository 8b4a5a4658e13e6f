use Rattle.std.proofs.Common.{inl, inr}
use Rattle.client_run.proofs.client.client_told.Goals as goal

pub returns-in-Ok : goal.returns-in-Ok
returns-in-Ok g c = inr (inl (record {
  order = c.in-Ok.order;
  are_arguments = c.in-Ok.ensures;
  end = c.order_told.ensures.end;
  runs = c.order_told.ensures.runs;
  reported_is = c.order_told.ensures.reported_is;
}))
