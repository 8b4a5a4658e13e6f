use Rattle.ofx_file.proofs.RequestLaws.{requests_are_found}
use Rattle.ofx_file.proofs.laws.requests_are_found.Goals as goal

pub returns : goal.returns
returns c = requests_are_found (record {
  statements = c.statements_are_found.ensures;
  transactions = c.transactions_are_found.ensures;
  syncs = c.syncs_are_found.ensures;
  signons = c.signons_are_found.ensures;
})
