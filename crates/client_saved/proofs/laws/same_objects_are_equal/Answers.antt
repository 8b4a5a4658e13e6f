use Rattle.client_saved.proofs.SameObject.{same_is_equal}
use Rattle.client_saved.proofs.laws.same_objects_are_equal.Goals as goal

pub returns : goal.returns
returns c = same_is_equal
