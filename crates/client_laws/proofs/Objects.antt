-- Names of objects that are the same are equal.
use Rattle.std.proofs.Common.{◌≡◌, true, refl}
use Rattle.ofx_types.specs.declared.sync.ObjectName.{ObjectName}
use Rattle.client_saved.specs.Bounds.{same_object}
use Rattle.client_saved.proofs.SameObject.{same_is_equal}

pub object_is : (a b : ObjectName) → same_object a b ≡ true → a ≡ b
object_is a b same = (same_is_equal a b).0 same

pub object_itself : (a : ObjectName) → same_object a a ≡ true
object_itself a = (same_is_equal a a).1 refl
