use Rattle.ofx_world.proofs.laws.laws_of_histories.Goals as goal

pub returns : goal.returns
returns c = record {
  event = c.histories_are_in_order.ensures.event;
  event_grows = c.histories_grow.ensures.event;
}
