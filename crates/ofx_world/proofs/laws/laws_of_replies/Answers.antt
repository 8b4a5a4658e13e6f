use Rattle.ofx_world.proofs.laws.laws_of_replies.Goals as goal

pub returns : goal.returns
returns c = record {
  again = c.kept_files_change_nothing.ensures.answer;
  again_leaves = c.kept_files_change_nothing.ensures.state;
  kept = c.names_stay_kept.ensures.kept;
  new = c.new_replies_read_back.ensures.answer;
  reads_back = c.new_replies_read_back.ensures.back;
  requests = c.requests_read_back.ensures;
  one_reply = c.one_reply.ensures;
  one_file = c.one_file.ensures;
}
