use Rattle.file_register.proofs.ExactLaws.{imports_add_up, none_is_refused}
use Rattle.file_register.proofs.laws.imports_add_up.Goals as goal

pub returns-clause-register : goal.returns-clause-register
returns-clause-register c = imports_add_up

pub returns-clause-none : goal.returns-clause-none
returns-clause-none c = none_is_refused
