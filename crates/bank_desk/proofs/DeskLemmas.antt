-- What a desk's answers rest on.
use Rattle.std.proofs.Common.{◌≡◌, ℕ, ◌<◌, Option, None, Some, refl, subst}
use Rattle.std.specs.Option.{option_map}
use Rattle.ofx_types.specs.declared.number.UserId.{UserId}

some_inside : {X : Type 0} (x y : X) → Some x ≡ Some y → x ≡ y
some_inside x y e = cc

-- a user's number is one of the setup's where its offset is
pub user_within : (found : Option ℕ) (count : ℕ) (user : UserId) → ((offset : ℕ) → found ≡ Some offset → offset < count) → option_map (λ (offset : ℕ). record { 0 = offset }) found ≡ Some user → user.0 < count
user_within None count user within is = cc
user_within (Some offset) count user within is =
    subst (λ (u : UserId). u.0 < count) (some_inside (record { 0 = offset }) user is) (within offset refl)
