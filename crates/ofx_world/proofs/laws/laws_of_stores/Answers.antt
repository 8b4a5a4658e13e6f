use Rattle.ofx_world.proofs.laws.laws_of_stores.Goals as goal

pub returns : goal.returns
returns c = record {
  makes = c.all_stores_hold.ensures.makes;
  accepts = c.all_stores_hold.ensures.accepts;
  discards = c.all_stores_hold.ensures.discards;
  later = c.all_stores_hold.ensures.later;
  accepted = c.bank_replies_answer.ensures.accepted;
}
