use Rattle.ofx_tape.proofs.CountLaws.{tags_fit, named_tags_fit, statement_tags_fit}
use Rattle.ofx_tape.proofs.laws.nodes_fit_the_body.Goals as goal

pub returns-clause-all : goal.returns-clause-all
returns-clause-all c = tags_fit

pub returns-clause-named : goal.returns-clause-named
returns-clause-named c = named_tags_fit

pub returns-clause-statements : goal.returns-clause-statements
returns-clause-statements c = statement_tags_fit
