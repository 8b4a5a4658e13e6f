use Rattle.bank_engine.proofs.Truth.{true_answered, true_uncommitted, true_settled, true_unsettled}
use Rattle.bank_engine.proofs.laws.truth_goes_on.Goals as goal

pub returns : goal.returns
returns c = record {
  answers = λ old new event at reply none answers setup opening first. true_answered setup opening first old new event at reply none answers;
  fails = λ old new event at fault none fails setup opening first. true_uncommitted setup opening first old new event at fault none fails;
  settles = λ old new adopted settles setup opening first. true_settled setup opening first old new adopted settles;
  unsettled = λ old new fault fails setup opening first. true_unsettled setup opening first old new fault fails;
}
