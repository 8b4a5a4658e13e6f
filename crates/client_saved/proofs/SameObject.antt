-- Names that are one object's are equal.
use Rattle.std.proofs.Common.{◌≡◌, ◌↔◌, true, refl, ap, subst}
use Rattle.ofx_types.specs.declared.sync.ObjectName.{ObjectName}
use Rattle.ofx_types.specs.declared.sync.ObjectName.TheVariants as objects
use Rattle.client_saved.specs.Bounds.{same_object}
use Rattle.bank_model.proofs.AccountNames.{same_account-is, same_account-self}

object_is : (a b : ObjectName) → same_object a b ≡ true → a ≡ b
object_is (objects.Intra a) (objects.Intra b) same = ap objects.Intra (same_account-is a b same)
object_is (objects.RecIntra a) (objects.RecIntra b) same = ap objects.RecIntra (same_account-is a b same)
object_is (objects.BankMail a) (objects.BankMail b) same = ap objects.BankMail (same_account-is a b same)
object_is objects.Mail objects.Mail same = refl
object_is (objects.Intra a) (objects.RecIntra b) same = cc
object_is (objects.Intra a) (objects.BankMail b) same = cc
object_is (objects.Intra a) objects.Mail same = cc
object_is (objects.RecIntra a) (objects.Intra b) same = cc
object_is (objects.RecIntra a) (objects.BankMail b) same = cc
object_is (objects.RecIntra a) objects.Mail same = cc
object_is (objects.BankMail a) (objects.Intra b) same = cc
object_is (objects.BankMail a) (objects.RecIntra b) same = cc
object_is (objects.BankMail a) objects.Mail same = cc
object_is objects.Mail (objects.Intra b) same = cc
object_is objects.Mail (objects.RecIntra b) same = cc
object_is objects.Mail (objects.BankMail b) same = cc

object_self : (a : ObjectName) → same_object a a ≡ true
object_self (objects.Intra a) = same_account-self a
object_self (objects.RecIntra a) = same_account-self a
object_self (objects.BankMail a) = same_account-self a
object_self objects.Mail = refl

pub same_is_equal : (a b : ObjectName) → same_object a b ≡ true ↔ a ≡ b
same_is_equal a b = (object_is a b, λ same. subst (λ (c : ObjectName). same_object a c ≡ true) same (object_self a))
