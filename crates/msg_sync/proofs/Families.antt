-- The family of what is synchronised, by a name and by an object.
use Rattle.std.proofs.Common.{◌≡◌, ℕ, ◌≤◌, Bool, true, false, List, if◌then◌else◌, Ok, Err, refl, subst}
use Rattle.std.specs.Str.{bytes_eq}
use Rattle.ofx_types.specs.Nodes.{Item}
use Rattle.ofx_types.specs.MailReading.{account_in}
use Rattle.ofx_types.specs.SyncForm.{object_family, HasObject}
use Rattle.ofx_types.specs.SyncReading.{object_in}
use Rattle.ofx_types.specs.declared.fault.TreeFault.{TreeFault}
use Rattle.ofx_types.specs.declared.fault.TreeFault.TheVariants.{Value}
use Rattle.ofx_types.specs.declared.sync.ObjectName.{ObjectName}
use Rattle.ofx_types.specs.declared.sync.ObjectName.TheVariants as objects
use Rattle.ofx_types.specs.declared.transfer.Family.{Family}
use Rattle.ofx_types.specs.declared.transfer.Family.TheVariants.{Intra, RecIntra, BankMail, Mail}
use Rattle.ofx_types.proofs.Bytes.{bytes_eq_is}
use Rattle.ofx_tree.specs.Located.{Holds, Any, IsWithin}
use Rattle.ofx_tree.proofs.FormLaws.{bind_ok, bind_to, one_value}
use Rattle.ofx_tree.proofs.FormOffsets.{bound, either}
use Rattle.msg_mail.proofs.MailParts.{account_in_found, account_in_again, account_in_within}

-- ---- by a name

-- A name that tells a family is the name of that family.
pub name_of_family : (name_of : Family → List ℕ) (name : List ℕ) (fault : TreeFault) (family : Family) →
    (if bytes_eq name (name_of Intra) then Ok Intra
    else (if bytes_eq name (name_of RecIntra) then Ok RecIntra
    else (if bytes_eq name (name_of BankMail) then Ok BankMail
    else (if bytes_eq name (name_of Mail) then Ok Mail else Err fault)))) ≡ Ok family → name ≡ name_of family
name_of_family name_of name fault family h =
    reported (bytes_eq name (name_of Intra)) (bytes_eq name (name_of RecIntra)) (bytes_eq name (name_of BankMail)) (bytes_eq name (name_of Mail))
    (bytes_eq_is name _) (bytes_eq_is name _) (bytes_eq_is name _) (bytes_eq_is name _) h
  where
    reported : (a b c d : Bool) → (a ≡ true → name ≡ name_of Intra) → (b ≡ true → name ≡ name_of RecIntra) → (c ≡ true → name ≡ name_of BankMail) →
        (d ≡ true → name ≡ name_of Mail) →
        (if a then Ok Intra else (if b then Ok RecIntra else (if c then Ok BankMail else (if d then Ok Mail else Err fault)))) ≡ Ok family → name ≡ name_of family
    reported true b c d f g h i e = subst (λ (x : Family). name ≡ name_of x) (one_value (Ok Intra) Intra family refl e) (f refl)
    reported false true c d f g h i e = subst (λ (x : Family). name ≡ name_of x) (one_value (Ok RecIntra) RecIntra family refl e) (g refl)
    reported false false true d f g h i e = subst (λ (x : Family). name ≡ name_of x) (one_value (Ok BankMail) BankMail family refl e) (h refl)
    reported false false false true f g h i e = subst (λ (x : Family). name ≡ name_of x) (one_value (Ok Mail) Mail family refl e) (i refl)
    reported false false false false f g h i e = cc

-- The fault of a name that tells none has an offset.
pub family_within : (most offset : ℕ) (name : List ℕ) (name_of : Family → List ℕ) → offset ≤ most → Holds most Any
    (if bytes_eq name (name_of Intra) then Ok Intra
    else (if bytes_eq name (name_of RecIntra) then Ok RecIntra
    else (if bytes_eq name (name_of BankMail) then Ok BankMail
    else (if bytes_eq name (name_of Mail) then Ok Mail else Err (Value offset)))))
family_within most offset name name_of h =
    either most Any (bytes_eq name (name_of Intra)) _ _ tt
    (either most Any (bytes_eq name (name_of RecIntra)) _ _ tt
    (either most Any (bytes_eq name (name_of BankMail)) _ _ tt (either most Any (bytes_eq name (name_of Mail)) _ _ tt h)))

-- ---- by an object

pub object_found : (family : Family) (sync : Item) (object : ObjectName) → object_in family sync ≡ Ok object →
    (object_family object ≡ family) × HasObject sync object
object_found Intra sync object h =
    let account = bind_ok (account_in sync) _ object h in
    let P : ObjectName → Type 0 = λ o. (object_family o ≡ Intra) × HasObject sync o in
    subst P (one_value _ _ object refl account.2) (refl, account_in_found sync account.0 account.1)
object_found RecIntra sync object h =
    let account = bind_ok (account_in sync) _ object h in
    let P : ObjectName → Type 0 = λ o. (object_family o ≡ RecIntra) × HasObject sync o in
    subst P (one_value _ _ object refl account.2) (refl, account_in_found sync account.0 account.1)
object_found BankMail sync object h =
    let account = bind_ok (account_in sync) _ object h in
    let P : ObjectName → Type 0 = λ o. (object_family o ≡ BankMail) × HasObject sync o in
    subst P (one_value _ _ object refl account.2) (refl, account_in_found sync account.0 account.1)
object_found Mail sync object h =
    let P : ObjectName → Type 0 = λ o. (object_family o ≡ Mail) × HasObject sync o in
    subst P (one_value _ _ object refl h) (refl, tt)

pub object_again : (sync : Item) (object : ObjectName) → HasObject sync object → object_in (object_family object) sync ≡ Ok object
object_again sync (objects.Intra account) h = bind_to (account_in sync) _ account (account_in_again sync account h)
object_again sync (objects.RecIntra account) h = bind_to (account_in sync) _ account (account_in_again sync account h)
object_again sync (objects.BankMail account) h = bind_to (account_in sync) _ account (account_in_again sync account h)
object_again sync objects.Mail h = refl

pub object_within : (most : ℕ) (family : Family) (sync : Item) → IsWithin most sync → Holds most Any (object_in family sync)
object_within most Intra sync h = bound most Any Any (account_in sync) _ (account_in_within most sync h) (λ account _. tt)
object_within most RecIntra sync h = bound most Any Any (account_in sync) _ (account_in_within most sync h) (λ account _. tt)
object_within most BankMail sync h = bound most Any Any (account_in sync) _ (account_in_within most sync h) (λ account _. tt)
object_within most Mail sync h = tt
