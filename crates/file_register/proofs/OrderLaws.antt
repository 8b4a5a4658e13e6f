-- The order of lines is total, and lines that tie are of one account and FITID.
use Rattle.std.proofs.Common.{◌≡◌, refl, arith}
use Rattle.std.specs.Ordering.{nat_cmp, ordering_then}
use Rattle.std.specs.Cmp.Lexicographic.{slice_cmp}
use Rattle.std.specs.declared.cmp.Ordering.{Ordering}
use Rattle.std.specs.declared.cmp.Ordering.TheVariants.{Less, Equal, Greater}
use Rattle.std.proofs.lemmas.Cmp.{nat_cmp_total, tied_itself}
use Rattle.std.proofs.lemmas.Map.Lookups.{exact_unsigned, exact_bytes}
use Rattle.ofx_types.specs.AccountForm.{kind_number}
use Rattle.ofx_types.specs.declared.account.AcctKind.{AcctKind}
use Rattle.ofx_types.specs.declared.account.AcctKind.TheVariants.{Checking, Savings, MoneyMarket, CreditLine}
use Rattle.ofx_types.specs.declared.account.AcctName.{AcctName}
use Rattle.file_register.specs.Order.{account_cmp, line_cmp, account_total, IsSameEntry}
use Rattle.file_register.specs.declared.line.Line.{Line}

-- where two comparisons one after the other tie, both do
both_tie : (p q : Ordering) → ordering_then p q ≡ Equal → (p ≡ Equal) × (q ≡ Equal)
both_tie Less q e = absurd cc
both_tie Equal q e = (refl, e)
both_tie Greater q e = absurd cc

one_kind : (a b : AcctKind) → kind_number a ≡ kind_number b → a ≡ b
one_kind Checking Checking e = refl
one_kind Checking Savings e = absurd (omega (arith, e))
one_kind Checking MoneyMarket e = absurd (omega (arith, e))
one_kind Checking CreditLine e = absurd (omega (arith, e))
one_kind Savings Checking e = absurd (omega (arith, e))
one_kind Savings Savings e = refl
one_kind Savings MoneyMarket e = absurd (omega (arith, e))
one_kind Savings CreditLine e = absurd (omega (arith, e))
one_kind MoneyMarket Checking e = absurd (omega (arith, e))
one_kind MoneyMarket Savings e = absurd (omega (arith, e))
one_kind MoneyMarket MoneyMarket e = refl
one_kind MoneyMarket CreditLine e = absurd (omega (arith, e))
one_kind CreditLine Checking e = absurd (omega (arith, e))
one_kind CreditLine Savings e = absurd (omega (arith, e))
one_kind CreditLine MoneyMarket e = absurd (omega (arith, e))
one_kind CreditLine CreditLine e = refl

same_parts : (a b : AcctName) → a.bank ≡ b.bank → a.number ≡ b.number → a.kind ≡ b.kind → a ≡ b
same_parts a b bank number kind = λ i. record { bank = bank i; number = number i; kind = kind i }

pub tied_accounts : (a b : AcctName) → account_cmp a b ≡ Equal → a ≡ b
unfolding account_cmp
tied_accounts a b e =
    let one = both_tie (slice_cmp nat_cmp a.bank b.bank) _ e in
    let two = both_tie (slice_cmp nat_cmp a.number b.number) (nat_cmp (kind_number a.kind) (kind_number b.kind)) one.1 in
    same_parts a b (exact_bytes a.bank b.bank one.0) (exact_bytes a.number b.number two.0) (one_kind a.kind b.kind (exact_unsigned _ _ two.1))

-- lines that tie are of one account and FITID
pub tied_entry : (a b : Line) → line_cmp a b ≡ Equal → IsSameEntry a b
unfolding line_cmp
tied_entry a b e =
    let one = both_tie (account_cmp a.account b.account) (nat_cmp a.fitid b.fitid) e in
    record { account = tied_accounts a.account b.account one.0; fitid = exact_unsigned a.fitid b.fitid one.1 }

-- and those of one account and FITID tie
pub entry_ties : (a b : Line) → IsSameEntry a b → line_cmp a b ≡ Equal
unfolding line_cmp
entry_ties a b same =
    rw (same.account, same.fitid, tied_itself account_total b.account) (tied_itself nat_cmp_total b.fitid)
