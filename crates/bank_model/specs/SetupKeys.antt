-- The keys under which a setup's users, accounts and owners are found, and that the orders tie just those that are equal.
use Rattle.std.specs.Prelude.{◌≡◌, ℕ, ◌==◌, List}
use Rattle.std.proofs.Common.{Bool, true, false, ◌&&◌, sym, refl, arith}
use Rattle.std.specs.Str.{bytes_eq}
use Rattle.std.specs.Cmp.{tied_then}
use Rattle.std.specs.Cmp.Lexicographic.{slice_cmp}
use Rattle.std.specs.Ordering.{nat_cmp, ordering_then, is_eq}
use Rattle.std.proofs.lemmas.Bool.Decides.{nat_tests}
use Rattle.std.proofs.lemmas.Map.Text.{is_eq-slice_cmp}
use Rattle.ofx_types.specs.AccountForm.{kind_word, same_account}
pub use Rattle.ofx_types.specs.AccountForm.{kind_number}
use Rattle.ofx_types.specs.declared.account.AcctKind.{AcctKind}
use Rattle.ofx_types.specs.declared.account.AcctKind.TheVariants.{Checking, Savings, MoneyMarket, CreditLine}
use Rattle.ofx_types.specs.declared.account.AcctName.{AcctName}

pub name_ties : (a b : List ℕ) → bytes_eq a b ≡ is_eq (slice_cmp nat_cmp a b)
name_ties a b = sym (is_eq-slice_cmp a b)

pub number_ties : (a b : ℕ) → (a == b) ≡ is_eq (nat_cmp a b)
number_ties a b = grind (arith, nat_tests)

kind_ties : (a b : AcctKind) → bytes_eq (kind_word a) (kind_word b) ≡ is_eq (nat_cmp (kind_number a) (kind_number b))
kind_ties Checking Checking = refl
kind_ties Checking Savings = refl
kind_ties Checking MoneyMarket = refl
kind_ties Checking CreditLine = refl
kind_ties Savings Checking = refl
kind_ties Savings Savings = refl
kind_ties Savings MoneyMarket = refl
kind_ties Savings CreditLine = refl
kind_ties MoneyMarket Checking = refl
kind_ties MoneyMarket Savings = refl
kind_ties MoneyMarket MoneyMarket = refl
kind_ties MoneyMarket CreditLine = refl
kind_ties CreditLine Checking = refl
kind_ties CreditLine Savings = refl
kind_ties CreditLine MoneyMarket = refl
kind_ties CreditLine CreditLine = refl

turned : (a b c : Bool) → (a && b && c) ≡ (b && (c && a))
turned true true true = refl
turned true true false = refl
turned true false c = refl
turned false true true = refl
turned false true false = refl
turned false false c = refl

pub account_ties : (a b : AcctName) → same_account a b
    ≡ is_eq (ordering_then (slice_cmp nat_cmp a.number b.number)
    (ordering_then (nat_cmp (kind_number a.kind) (kind_number b.kind)) (slice_cmp nat_cmp a.bank b.bank)))
account_ties a b =
    rw (
      ← tied_then (slice_cmp nat_cmp a.number b.number) (ordering_then (nat_cmp (kind_number a.kind) (kind_number b.kind)) (slice_cmp nat_cmp a.bank b.bank)),
      ← tied_then (nat_cmp (kind_number a.kind) (kind_number b.kind)) (slice_cmp nat_cmp a.bank b.bank),
      ← name_ties a.number b.number,
      ← name_ties a.bank b.bank,
      ← kind_ties a.kind b.kind,
    )
    (turned (bytes_eq a.bank b.bank) (bytes_eq a.number b.number) (bytes_eq (kind_word a.kind) (kind_word b.kind)))
