use Rattle.ofx_world.proofs.laws.laws_below.Goals as goal

pub returns : goal.returns
returns c = record {
  histories = c.laws_of_histories.ensures;
  stores = c.laws_of_stores.ensures;
  replies = c.laws_of_replies.ensures;
  records = c.laws_of_records.ensures;
}
