-- The clients of the cases are new ones of a user whom the setup has.
use Rattle.std.proofs.Common.{◌≡◌, List, [], ◌∷◌, Some, refl}
use Rattle.std.specs.Prelude.{codes}
use Rattle.std.specs.List.{IsDistinct}
use Rattle.ofx_types.specs.declared.number.UserId.{UserId}
use Rattle.bank_model.specs.SetupLookups.{user_of}
use Rattle.bank_model.specs.declared.setup.Setup.{Setup}
use Rattle.client_core.specs.ClientForm.{new_client}
use Rattle.ofx_world.specs.Kept.{AreNew}

pub new_clients : (setup : Setup) (user : UserId) → user_of setup (codes "alice") ≡ Some user
    → AreNew setup (new_client (codes "c1") (codes "alice") ∷ new_client (codes "c2") (codes "alice") ∷ [])
unfolding IsDistinct
new_clients setup user there = record { new = ((refl, (user, there)), ((refl, (user, there)), tt)); names = ((refl, tt), (tt, tt)) }
