-- Where entries stand, and that objects of two families are two.
use Rattle.std.proofs.Common.{◌≡◌, ℕ, ◌*◌, ◌<◌, ◌≤◌, Bool, true, false, cond, nat_lt, length, Option, None, Some, refl, sym, ap, subst, arith}
use Rattle.std.specs.List.{position_or_len}
use Rattle.std.specs.Option.{option_map}
use Rattle.std.proofs.lemmas.Bool.{and_parts, ltb-true}
use Rattle.ofx_types.specs.AccountForm.{same_account}
use Rattle.ofx_types.specs.SyncForm.{object_family}
use Rattle.ofx_types.specs.declared.account.AcctName.{AcctName}
use Rattle.ofx_types.specs.declared.number.AcctId.{AcctId}
use Rattle.ofx_types.specs.declared.number.ObjectId.{ObjectId}
use Rattle.ofx_types.specs.declared.number.UserId.{UserId}
use Rattle.ofx_types.specs.declared.transfer.Family.{Family}
use Rattle.ofx_types.specs.declared.transfer.Family.TheVariants as families
use Rattle.ofx_types.specs.declared.sync.ObjectName.{ObjectName}
use Rattle.ofx_types.specs.declared.sync.ObjectName.TheVariants as objects
use Rattle.bank_model.specs.declared.setup.AccountLine.{AccountLine}
use Rattle.bank_model.specs.declared.setup.Setup.{Setup}
use Rattle.bank_model.specs.SetupForm.{IsWithinLimits}
use Rattle.bank_model.specs.SetupLookups.{account_of, line_at, names_owner, is_owner, if_owned}
use Rattle.bank_model.specs.Judging.{is_only, is_own_account}
use Rattle.bank_model.specs.Deeds.{intra_of, recurring_of, mail_about_of, mail_object, object_of}
use Rattle.bank_model.specs.Objects.{numbered, object_named}
use Rattle.bank_invariants.proofs.AccountIndices.{slice_get-below}
use Rattle.sync_laws.specs.ObjectFamilies.{IsObjectOf}

-- ---- accounts that are a user's

owned_below : (setup : Setup) (user : UserId) (account : AcctId) → is_owner setup user account ≡ true → account.0 < length setup.accounts
owned_below setup user account owns = by_line (line_at setup account) refl owns
  where
    by_line : (line : Option AccountLine) → line_at setup account ≡ line → names_owner user line ≡ true → account.0 < length setup.accounts
    by_line None is names = absurd cc
    by_line (Some line) is names = slice_get-below setup.accounts account.0 line is

-- an account of the setup
pub record IsKnown (setup : Setup) (found : Option AcctId) : Type 0 where
  pub account : AcctId
  pub is : found ≡ Some account
  pub below : account.0 < length setup.accounts

pub own_known : (setup : Setup) (user : UserId) (only found : Option AcctId) → is_own_account setup user only found ≡ true → IsKnown setup found
own_known setup user only None own = absurd cc
own_known setup user only (Some account) own = record {
  account = account;
  is = refl;
  below = owned_below setup user account (and_parts (is_owner setup user account) (is_only only account) own).0;
}

-- ---- where entries stand

pub at_intra : (setup : Setup) (name : AcctName) → IsWithinLimits setup → IsObjectOf setup families.Intra (object_of setup name).0
at_intra setup name within = by_index (nat_lt index (length setup.accounts)) refl
  where
    index : ℕ
    index = position_or_len (λ (line : AccountLine). same_account line.name name) setup.accounts

    by_index : (b : Bool) → nat_lt index (length setup.accounts) ≡ b → IsObjectOf setup families.Intra (intra_of (option_map (λ (n : ℕ). record { 0 = n }) (cond b (Some index) None))).0
    by_index true is = (index, ltb-true index (length setup.accounts) is, refl)
    by_index false is = (0, within.lines.accounts_low, refl)

pub at_transfers : (setup : Setup) (found : Option AcctId) → IsKnown setup found → IsObjectOf setup families.Intra (intra_of found).0
at_transfers setup found known = subst (λ (f : Option AcctId). IsObjectOf setup families.Intra (intra_of f).0) (sym known.is) (known.account.0, known.below, refl)

pub at_recurring : (setup : Setup) (found : Option AcctId) → IsKnown setup found → IsObjectOf setup families.RecIntra (recurring_of found).0
at_recurring setup found known = subst (λ (f : Option AcctId). IsObjectOf setup families.RecIntra (recurring_of f).0) (sym known.is) (known.account.0, known.below, refl)

pub at_letters : (setup : Setup) (found : Option AcctId) → IsKnown setup found → IsObjectOf setup families.BankMail (mail_about_of found).0
at_letters setup found known = subst (λ (f : Option AcctId). IsObjectOf setup families.BankMail (mail_about_of f).0) (sym known.is) (known.account.0, known.below, refl)

pub mail_index : (setup : Setup) (user : UserId) → IsObjectOf setup families.Mail (mail_object setup user).0
mail_index setup user = omega arith

-- ---- objects and families

-- An object has one family.
pub one_family : (setup : Setup) (one other : Family) (index : ℕ) → IsObjectOf setup one index → IsObjectOf setup other index → one ≡ other
one_family setup families.Intra families.Intra index first second = refl
one_family setup families.Intra families.RecIntra index first second = absurd (let a = first.2 in let b = second.2 in omega arith)
one_family setup families.Intra families.BankMail index first second = absurd (let a = first.2 in let b = second.2 in omega arith)
one_family setup families.Intra families.Mail index first second = absurd (let a = first.2 in let below = first.1 in omega arith)
one_family setup families.RecIntra families.Intra index first second = absurd (let a = first.2 in let b = second.2 in omega arith)
one_family setup families.RecIntra families.RecIntra index first second = refl
one_family setup families.RecIntra families.BankMail index first second = absurd (let a = first.2 in let b = second.2 in omega arith)
one_family setup families.RecIntra families.Mail index first second = absurd (let a = first.2 in let below = first.1 in omega arith)
one_family setup families.BankMail families.Intra index first second = absurd (let a = first.2 in let b = second.2 in omega arith)
one_family setup families.BankMail families.RecIntra index first second = absurd (let a = first.2 in let b = second.2 in omega arith)
one_family setup families.BankMail families.BankMail index first second = refl
one_family setup families.BankMail families.Mail index first second = absurd (let a = first.2 in let below = first.1 in omega arith)
one_family setup families.Mail families.Intra index first second = absurd (let a = second.2 in let below = second.1 in omega arith)
one_family setup families.Mail families.RecIntra index first second = absurd (let a = second.2 in let below = second.1 in omega arith)
one_family setup families.Mail families.BankMail index first second = absurd (let a = second.2 in let below = second.1 in omega arith)
one_family setup families.Mail families.Mail index first second = refl

named_known : (setup : Setup) (user : UserId) (number : Option AcctId → ObjectId) (found : Option AcctId) (object : ObjectId) → numbered number (if_owned setup user found) ≡ Some object → (account : AcctId) × (account.0 < length setup.accounts) × (object ≡ number (Some account))
named_known setup user number None object is = absurd cc
named_known setup user number (Some account) object is = by_owner (is_owner setup user account) refl is
  where
    by_owner : (b : Bool) → is_owner setup user account ≡ b → numbered number (cond b (Some account) None) ≡ Some object → (known : AcctId) × (known.0 < length setup.accounts) × (object ≡ number (Some known))
    by_owner true owns here = (account, owned_below setup user account owns, let same : object ≡ number (Some account) = cc in same)
    by_owner false owns here = absurd cc

-- An object that is named is one of the name's family.
pub named_index : (setup : Setup) (user : UserId) (name : ObjectName) (object : ObjectId) → object_named setup user name ≡ Some object → IsObjectOf setup (object_family name) object.0
unfolding object_named
named_index setup user (objects.Intra account) object is =
    let known = named_known setup user intra_of (account_of setup account) object is in
    (known.0.0, known.1, ap (λ (o : ObjectId). o.0) known.2)
named_index setup user (objects.RecIntra account) object is =
    let known = named_known setup user recurring_of (account_of setup account) object is in
    (known.0.0, known.1, ap (λ (o : ObjectId). o.0) known.2)
named_index setup user (objects.BankMail account) object is =
    let known = named_known setup user mail_about_of (account_of setup account) object is in
    (known.0.0, known.1, ap (λ (o : ObjectId). o.0) known.2)
named_index setup user objects.Mail object is =
    let same : mail_object setup user ≡ object = cc in
    subst (λ (o : ObjectId). 3 * length setup.accounts ≤ o.0) same (mail_index setup user)
