-- An account's name and another are the same account's exactly where they are equal.
use Rattle.std.proofs.Common.{◌≡◌, ℕ, true, ◌&&◌, List, refl, ap, ◌∙◌}
use Rattle.std.specs.Str.{bytes_eq}
use Rattle.std.proofs.lemmas.Bool.{and_parts}
use Rattle.ofx_types.specs.AccountForm.{kind_word, same_account}
use Rattle.ofx_types.specs.declared.account.AcctKind.{AcctKind}
use Rattle.ofx_types.specs.declared.account.AcctKind.TheVariants.{Checking, Savings, MoneyMarket, CreditLine}
use Rattle.ofx_types.specs.declared.account.AcctName.{AcctName}
use Rattle.ofx_types.specs.declared.number.AcctId.{AcctId}
use Rattle.ofx_types.proofs.Bytes.{bytes_eq_is, bytes_eq_self}

kind_is : (k l : AcctKind) → bytes_eq (kind_word k) (kind_word l) ≡ true → k ≡ l
kind_is Checking Checking same = refl
kind_is Checking Savings same = cc
kind_is Checking MoneyMarket same = cc
kind_is Checking CreditLine same = cc
kind_is Savings Checking same = cc
kind_is Savings Savings same = refl
kind_is Savings MoneyMarket same = cc
kind_is Savings CreditLine same = cc
kind_is MoneyMarket Checking same = cc
kind_is MoneyMarket Savings same = cc
kind_is MoneyMarket MoneyMarket same = refl
kind_is MoneyMarket CreditLine same = cc
kind_is CreditLine Checking same = cc
kind_is CreditLine Savings same = cc
kind_is CreditLine MoneyMarket same = cc
kind_is CreditLine CreditLine same = refl

abbrev name_with : List ℕ → List ℕ → AcctKind → AcctName
name_with bank number kind = record { bank = bank; number = number; kind = kind }

-- names that are the same account's are equal
pub same_account-is : (a b : AcctName) → same_account a b ≡ true → a ≡ b
same_account-is a b same =
    let prefix = and_parts (bytes_eq a.bank b.bank && bytes_eq a.number b.number) (bytes_eq (kind_word a.kind) (kind_word b.kind)) same in
    let words = and_parts (bytes_eq a.bank b.bank) (bytes_eq a.number b.number) prefix.0 in
    let bank : a.bank ≡ b.bank = bytes_eq_is a.bank b.bank words.0 in
    let number : a.number ≡ b.number = bytes_eq_is a.number b.number words.1 in
    let kind : a.kind ≡ b.kind = kind_is a.kind b.kind prefix.1 in
    ap (λ (x : List ℕ). name_with x a.number a.kind) bank ∙ ap (λ (x : List ℕ). name_with b.bank x a.kind) number ∙ ap (name_with b.bank b.number) kind

pub same_account-self : (a : AcctName) → same_account a a ≡ true
same_account-self a = rw (bytes_eq_self a.bank, bytes_eq_self a.number, bytes_eq_self (kind_word a.kind)) refl

-- accounts are equal where their numbers are
pub same_number : (a b : AcctId) → a.0 ≡ b.0 → a ≡ b
same_number a b same = ap (λ (n : ℕ). record { 0 = n }) same
