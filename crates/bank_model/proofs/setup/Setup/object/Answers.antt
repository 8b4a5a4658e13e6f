use Rattle.std.proofs.Common.{◌≡◌, ℕ, ◌+◌, ◌*◌, Option, None, Some, refl, ap, ◌∙◌, arith}
use Rattle.std.specs.Option.{option_map}
use Rattle.ofx_types.specs.declared.number.AcctId.{AcctId}
use Rattle.ofx_types.specs.declared.number.ObjectId.{ObjectId}
use Rattle.bank_model.specs.Deeds.{intra_of}
use Rattle.bank_model.specs.Objects.{numbered, object_named}
use Rattle.bank_model.proofs.setup.Setup.object.Goals as goal

-- the first of an account's three objects
first_of_three : (account : Option AcctId) → option_map (λ (a : AcctId). let o : ObjectId = record { 0 = 3 * a.0 + 0 } in o) account ≡ numbered intra_of account
first_of_three None = refl
first_of_three (Some a) = let e : 3 * a.0 + 0 ≡ 3 * a.0 = omega arith in ap (λ (n : ℕ). let o : ObjectId = record { 0 = n } in Some o) e

pub returns-in-Intra : goal.returns-in-Intra
unfolding object_named
returns-in-Intra c = rw c.in-Intra.is (c.numbered.ensures ∙ ap (option_map _) c.own_account.ensures.own ∙ first_of_three _)
