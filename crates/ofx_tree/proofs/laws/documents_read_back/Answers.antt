use Rattle.ofx_tree.proofs.DocumentTrees.{documents_spell, documents_of_body}
use Rattle.ofx_tree.proofs.DocumentItems.{children_of_branch, named_of_branch, value_of_leaf}
use Rattle.ofx_tree.proofs.laws.documents_read_back.Goals as goal

pub returns : goal.returns
returns c = record {
  spelled = documents_spell;
  body = documents_of_body;
  children = children_of_branch;
  found = named_of_branch;
  values = value_of_leaf;
}
