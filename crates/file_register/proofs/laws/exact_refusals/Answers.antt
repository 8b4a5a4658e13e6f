use Rattle.file_register.proofs.ExactLaws.{signons_are_told, clashes_are_told, full_is_told, others_are_taken}
use Rattle.file_register.proofs.laws.exact_refusals.Goals as goal

pub returns-clause-signons : goal.returns-clause-signons
returns-clause-signons c = signons_are_told

pub returns-clause-clashes : goal.returns-clause-clashes
returns-clause-clashes c = clashes_are_told

pub returns-clause-full : goal.returns-clause-full
returns-clause-full c = full_is_told

pub returns-clause-others : goal.returns-clause-others
returns-clause-others c = others_are_taken
