-- Choices between one thing and itself.
use Rattle.std.proofs.Common.{◌≡◌, Bool, true, false, cond, refl}

pub cond_same : {X : Type 0} (b : Bool) (x : X) → cond b x x ≡ x
cond_same true x = refl
cond_same false x = refl
