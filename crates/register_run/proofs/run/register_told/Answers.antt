use Rattle.std.proofs.Common.{inl, inr, refl, IsTrue}
use Rattle.register_run.proofs.run.register_told.Goals as goal

pub returns-then-not-are_arguments : goal.returns-then-not-are_arguments
returns-then-not-are_arguments g c = inl (record {
  usage = λ are. let is : IsTrue c.are_arguments.result = c.are_arguments.ensures.1 are in cc;
  reported_is = c.plain.ensures;
  unchanged = refl;
})

pub returns : goal.returns
returns g c = inr (record {
  are_arguments = c.are_arguments.ensures.0 c.if-not-are_arguments.false;
  end = c.run.result;
  ends = c.run.ensures;
  reported_is = c.report_of_end.ensures;
})
