-- Accounts, transfers and mails that are read are those that were written.
use Rattle.std.proofs.Common.{◌≡◌, ℕ, zero, suc, ◌<◌, ◌≤◌, [], ◌∷◌, ◌++◌, slice_get, Option, Some, refl, sym, ap, subst, arith}
use Rattle.std.specs.Prelude.{IfSome}
use Rattle.ofx_types.specs.Calendar.{IsDay}
use Rattle.ofx_types.specs.declared.number.Day.{Day}
use Rattle.ofx_types.specs.declared.account.AcctKind.{AcctKind}
use Rattle.ofx_types.specs.declared.account.AcctKind.TheVariants.{Checking, Savings, MoneyMarket, CreditLine}
use Rattle.ofx_types.specs.declared.account.AcctName.{AcctName}
use Rattle.ofx_types.specs.declared.recurring.Freq.{Freq}
use Rattle.ofx_types.specs.declared.recurring.Freq.TheVariants.{Weekly, Biweekly, TwiceMonthly, Monthly, FourWeeks, Bimonthly, Quarterly, Semiannually, Annually}
use Rattle.ofx_types.specs.declared.recurring.Recur.{Recur}
use Rattle.ofx_types.specs.declared.mail.MailText.{MailText}
use Rattle.ofx_types.specs.declared.transfer.XferInfo.{XferInfo}
use Rattle.bank_model.specs.Sound.{IsTextWithin, IsSoundAccount, IsSoundRecur, IsSoundInfo, IsSoundMail}
use Rattle.record_fields.specs.FieldCoding.{u16_bytes, i64_bytes, day_bytes, text_bytes, optional_bytes, kind_number, acct_bytes, freq_number, recur_bytes, info_bytes, mail_bytes}
use Rattle.record_fields.specs.FieldReading.{filled_text_at, choice_at, optional_at, day_at, count_at}
use Rattle.record_fields.specs.PartReading.{account_kinds, acct_at, freqs, recur_at, info_at, mail_at}
use Rattle.record_fields.specs.Fields.{IsCodedAt, IsField}
use Rattle.record_fields.proofs.Steps.{ok_is, joined, apart, step}
use Rattle.record_fields.proofs.NumberLaws.{choice_field, optional_field}
use Rattle.record_fields.proofs.BoundedLaws.{count_field, amount_field, moment_field, day_field}
use Rattle.record_fields.proofs.TextLaws.{filled_field}

abbrev there : {A : Type 0} → A → Option A
there x = Some x

some_is : {A : Type 0} (x y : A) → there x ≡ there y → x ≡ y
some_is x y h = cc

abbrev IsCount : Option ℕ → Type 0
IsCount o = IfSome o (λ n. (0 < n) × (n ≤ 999))

abbrev IsDue : Option Day → Type 0
IsDue o = IfSome o (λ (day : Day). IsDay day.0)

-- ---- accounts

kind_back : (n : ℕ) (kind : AcctKind) → slice_get account_kinds n ≡ Some kind → kind_number kind ≡ n
kind_back zero kind h = ap kind_number (sym (some_is Checking kind h))
kind_back (suc zero) kind h = ap kind_number (sym (some_is Savings kind h))
kind_back (suc (suc zero)) kind h = ap kind_number (sym (some_is MoneyMarket kind h))
kind_back (suc (suc (suc zero))) kind h = ap kind_number (sym (some_is CreditLine kind h))
kind_back (suc (suc (suc (suc n)))) kind h = absurd cc

kind_there : (kind : AcctKind) → slice_get account_kinds (kind_number kind) ≡ Some kind
kind_there Checking = refl
kind_there Savings = refl
kind_there MoneyMarket = refl
kind_there CreditLine = refl

kind_small : (kind : AcctKind) → kind_number kind < 256
kind_small Checking = omega arith
kind_small Savings = omega arith
kind_small MoneyMarket = omega arith
kind_small CreditLine = omega arith

kind_field : IsField (choice_at account_kinds) (λ kind. kind_number kind ∷ []) (λ kind. Unit {0})
kind_field = choice_field account_kinds kind_number (record { there = kind_there; back = kind_back; small = kind_small })

pub text32 : IsField (filled_text_at 32) text_bytes (IsTextWithin 32)
text32 = filled_field 32 (omega arith)

pub text64 : IsField (filled_text_at 64) text_bytes (IsTextWithin 64)
text64 = filled_field 64 (omega arith)

pub text10000 : IsField (filled_text_at 10000) text_bytes (IsTextWithin 10000)
text10000 = filled_field 10000 (omega arith)

pub acct_field : IsField acct_at acct_bytes IsSoundAccount
unfolding acct_at acct_bytes
acct_field = record {
  holds = λ rec at found bytes le e.
      let a = step text32 rec at _ found bytes le e in
      let b = step text32 rec a.next _ found bytes a.holds.within a.rest in
      let c = step kind_field rec b.next _ found bytes b.holds.within b.rest in
      let made : AcctName × ℕ = (record { bank = a.value; number = b.value; kind = c.value }, c.next) in
      subst (λ (f : AcctName × ℕ). IsCodedAt rec at (acct_bytes f.0) f.1 × IsSoundAccount f.0) {x = made} (ok_is made found c.rest)
      (joined (joined a.holds b.holds) c.holds, (a.fits, b.fits));
  again = λ rec at x next le p fits.
      let c = apart rec at (text_bytes x.bank ++ text_bytes x.number) (kind_number x.kind ∷ []) next le p in
      let b = apart rec at (text_bytes x.bank) (text_bytes x.number) c.mid le c.first in
      rw (
        text32.again rec at x.bank b.mid le b.first fits.0,
        text32.again rec b.mid x.number c.mid b.first.within b.second fits.1,
        kind_field.again rec c.mid x.kind next c.first.within c.second tt,
      ) refl;
}

-- ---- transfers

freq_back : (n : ℕ) (freq : Freq) → slice_get freqs n ≡ Some freq → freq_number freq ≡ n
freq_back zero freq h = ap freq_number (sym (some_is Weekly freq h))
freq_back (suc zero) freq h = ap freq_number (sym (some_is Biweekly freq h))
freq_back (suc (suc zero)) freq h = ap freq_number (sym (some_is TwiceMonthly freq h))
freq_back (suc (suc (suc zero))) freq h = ap freq_number (sym (some_is Monthly freq h))
freq_back (suc (suc (suc (suc zero)))) freq h = ap freq_number (sym (some_is FourWeeks freq h))
freq_back (suc (suc (suc (suc (suc zero))))) freq h = ap freq_number (sym (some_is Bimonthly freq h))
freq_back (suc (suc (suc (suc (suc (suc zero)))))) freq h = ap freq_number (sym (some_is Quarterly freq h))
freq_back (suc (suc (suc (suc (suc (suc (suc zero))))))) freq h = ap freq_number (sym (some_is Semiannually freq h))
freq_back (suc (suc (suc (suc (suc (suc (suc (suc zero)))))))) freq h = ap freq_number (sym (some_is Annually freq h))
freq_back (suc (suc (suc (suc (suc (suc (suc (suc (suc n))))))))) freq h = absurd cc

freq_there : (freq : Freq) → slice_get freqs (freq_number freq) ≡ Some freq
freq_there Weekly = refl
freq_there Biweekly = refl
freq_there TwiceMonthly = refl
freq_there Monthly = refl
freq_there FourWeeks = refl
freq_there Bimonthly = refl
freq_there Quarterly = refl
freq_there Semiannually = refl
freq_there Annually = refl

freq_small : (freq : Freq) → freq_number freq < 256
freq_small Weekly = omega arith
freq_small Biweekly = omega arith
freq_small TwiceMonthly = omega arith
freq_small Monthly = omega arith
freq_small FourWeeks = omega arith
freq_small Bimonthly = omega arith
freq_small Quarterly = omega arith
freq_small Semiannually = omega arith
freq_small Annually = omega arith

freq_field : IsField (choice_at freqs) (λ freq. freq_number freq ∷ []) (λ freq. Unit {0})
freq_field = choice_field freqs freq_number (record { there = freq_there; back = freq_back; small = freq_small })

optional_count : IsField (optional_at count_at) (optional_bytes u16_bytes) IsCount
optional_count = optional_field count_field

pub recur_field : IsField recur_at recur_bytes IsSoundRecur
unfolding recur_at recur_bytes
recur_field = record {
  holds = λ rec at found bytes le e.
      let a = step optional_count rec at _ found bytes le e in
      let b = step freq_field rec a.next _ found bytes a.holds.within a.rest in
      let made : Recur × ℕ = (record { count = a.value; freq = b.value }, b.next) in
      subst (λ (f : Recur × ℕ). IsCodedAt rec at (recur_bytes f.0) f.1 × IsSoundRecur f.0) {x = made} (ok_is made found b.rest) (joined a.holds b.holds, a.fits);
  again = λ rec at x next le p fits.
      let b = apart rec at (optional_bytes u16_bytes x.count) (freq_number x.freq ∷ []) next le p in
      rw (optional_count.again rec at x.count b.mid le b.first fits, freq_field.again rec b.mid x.freq next b.first.within b.second tt) refl;
}

optional_day : IsField (optional_at day_at) (optional_bytes day_bytes) IsDue
optional_day = optional_field day_field

pub info_field : IsField info_at info_bytes IsSoundInfo
unfolding info_at info_bytes
info_field = record {
  holds = λ rec at found bytes le e.
      let a = step acct_field rec at _ found bytes le e in
      let b = step acct_field rec a.next _ found bytes a.holds.within a.rest in
      let c = step amount_field rec b.next _ found bytes b.holds.within b.rest in
      let d = step optional_day rec c.next _ found bytes c.holds.within c.rest in
      let made : XferInfo × ℕ = (record { from = a.value; to = b.value; amount = c.value; due = d.value }, d.next) in
      subst (λ (f : XferInfo × ℕ). IsCodedAt rec at (info_bytes f.0) f.1 × IsSoundInfo f.0) {x = made} (ok_is made found d.rest)
      (joined (joined (joined a.holds b.holds) c.holds) d.holds, record { from = a.fits; to = b.fits; amount = c.fits; due = d.fits });
  again = λ rec at x next le p fits.
      let d = apart rec at (acct_bytes x.from ++ acct_bytes x.to ++ i64_bytes x.amount.0) (optional_bytes day_bytes x.due) next le p in
      let c = apart rec at (acct_bytes x.from ++ acct_bytes x.to) (i64_bytes x.amount.0) d.mid le d.first in
      let b = apart rec at (acct_bytes x.from) (acct_bytes x.to) c.mid le c.first in
      rw (
        acct_field.again rec at x.from b.mid le b.first fits.from,
        acct_field.again rec b.mid x.to c.mid b.first.within b.second fits.to,
        amount_field.again rec c.mid x.amount d.mid c.first.within c.second fits.amount,
        optional_day.again rec d.mid x.due next d.first.within d.second fits.due,
      ) refl;
}

-- ---- mails

pub mail_field : IsField mail_at mail_bytes IsSoundMail
unfolding mail_at mail_bytes
mail_field = record {
  holds = λ rec at found bytes le e.
      let a = step moment_field rec at _ found bytes le e in
      let b = step text32 rec a.next _ found bytes a.holds.within a.rest in
      let c = step text32 rec b.next _ found bytes b.holds.within b.rest in
      let d = step text64 rec c.next _ found bytes c.holds.within c.rest in
      let f = step text10000 rec d.next _ found bytes d.holds.within d.rest in
      let made : MailText × ℕ = (record { created = a.value; sender = b.value; target = c.value; subject = d.value; body = f.value }, f.next) in
      subst (λ (m : MailText × ℕ). IsCodedAt rec at (mail_bytes m.0) m.1 × IsSoundMail m.0) {x = made} (ok_is made found f.rest) (
        joined (joined (joined (joined a.holds b.holds) c.holds) d.holds) f.holds,
        record { created = a.fits; sender = b.fits; target = c.fits; subject = d.fits; body = f.fits },
      );
  again = λ rec at x next le p fits.
      let f = apart rec at (i64_bytes x.created.0 ++ text_bytes x.sender ++ text_bytes x.target ++ text_bytes x.subject) (text_bytes x.body) next le p in
      let d = apart rec at (i64_bytes x.created.0 ++ text_bytes x.sender ++ text_bytes x.target) (text_bytes x.subject) f.mid le f.first in
      let c = apart rec at (i64_bytes x.created.0 ++ text_bytes x.sender) (text_bytes x.target) d.mid le d.first in
      let b = apart rec at (i64_bytes x.created.0) (text_bytes x.sender) c.mid le c.first in
      rw (
        moment_field.again rec at x.created b.mid le b.first fits.created,
        text32.again rec b.mid x.sender c.mid b.first.within b.second fits.sender,
        text32.again rec c.mid x.target d.mid c.first.within c.second fits.target,
        text64.again rec d.mid x.subject f.mid d.first.within d.second fits.subject,
        text10000.again rec f.mid x.body next f.first.within f.second fits.body,
      ) refl;
}
