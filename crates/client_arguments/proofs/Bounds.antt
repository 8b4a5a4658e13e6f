-- What words wish is within the bounds of a sound file.
use Rattle.std.proofs.Common.{◌≡◌, ℕ, ◌<◌, ◌≤◌, ◌^◌, Bool, true, false, cond, List, Option, None, Some, refl, arith}
use Rattle.std.specs.Option.{IfSome}
use Rattle.std.specs.Str.Parse.{digits_value}
use Rattle.ofx_types.specs.Calendar.{IsDay}
use Rattle.ofx_types.specs.NumberReading.{is_number_within, number_at}
use Rattle.ofx_types.specs.declared.account.AcctName.{AcctName}
use Rattle.ofx_types.specs.declared.number.Day.{Day}
use Rattle.ofx_types.specs.declared.recurring.Recur.{Recur}
use Rattle.ofx_types.specs.declared.transfer.XferInfo.{XferInfo}
use Rattle.ofx_types.proofs.Numbers.{digits_within, amount_within}
use Rattle.bank_model.specs.Sound.{IsTextWithin, IsSoundAccount, IsSoundInfo, IsSoundRecur, IsId}
use Rattle.client_core.specs.declared.wish.Wish.{Wish}
use Rattle.client_arguments.specs.Arguments.{IsAccount, IsMaybeDay, IsFirstDay, IsCount, IsPayment, IsIdWord, IsWished, IsWishedBy}
use Rattle.client_arguments.specs.Reading.{IsInBounds}
use Rattle.client_arguments.specs.declared.verb.Verb.{Verb}
use Rattle.client_arguments.specs.declared.verb.Verb.TheVariants as verbs

account_in : (bank number kind : List ℕ) (account : AcctName) → IsTextWithin 32 bank → IsAccount bank number kind account → IsSoundAccount account
account_in bank number kind account fits is = (rw is.bank_is fits, rw is.number_is is.number_fits)

-- ---- numbers

id_in : (argument : List ℕ) (id : ℕ) → IsIdWord argument id → IsId id
unfolding number_at
id_in argument id is = by_test (is_number_within 10 argument) (digits_within 10 argument) is
  where
    by_test : (b : Bool) → (b ≡ true → digits_value 10 argument < 10 ^ 10) → cond b (Some (digits_value 10 argument)) None ≡ Some id → id ≤ 9999999999
    by_test true small e =
        let least : digits_value 10 argument < 10 ^ 10 = small refl in
        let same : digits_value 10 argument ≡ id = cc in
        omega arith
    by_test false small e = cc

count_in : (argument : List ℕ) (count : Option ℕ) → IsCount argument count → IfSome count (λ (n : ℕ). (0 < n) × (n ≤ 999))
count_in argument None is = tt
count_in argument (Some n) (some, is) = (some, is.to)

-- ---- transfers

last_day_in : (arguments : List (List ℕ)) (due : Option Day) → IsMaybeDay arguments due → IfSome due (λ (day : Day). IsDay day.0)
last_day_in arguments None is = tt
last_day_in arguments (Some day) (argument, alone, is) = is.within

first_day_in : (argument : List ℕ) (due : Option Day) → IsFirstDay argument due → IfSome due (λ (day : Day). IsDay day.0)
first_day_in argument None is = tt
first_day_in argument (Some day) is = is.within

info_in : (bank number kind other_number other_kind amount : List ℕ) (info : XferInfo) → IsTextWithin 32 bank
    → IsPayment bank number kind other_number other_kind amount info → IfSome info.due (λ (day : Day). IsDay day.0) → IsSoundInfo info
info_in bank number kind other_number other_kind amount info fits is due = record {
  from = account_in bank number kind info.from fits is.from_is;
  to = account_in bank other_number other_kind info.to fits is.to_is;
  amount = amount_within amount info.amount.0 is.amount_is;
  due = due;
}

-- ---- all wishes

wish_in : (bank : List ℕ) (verb : Verb) (arguments : List (List ℕ)) (wish : Wish) → IsTextWithin 32 bank → IsWishedBy bank verb arguments wish → IsInBounds wish
wish_in bank verbs.Sync arguments wish fits (account, e, is) = rw e (account_in bank is.number is.kind account fits is.account_is)
wish_in bank verbs.Transfer arguments wish fits (info, e, is) =
    rw e (info_in bank is.number is.kind is.other_number is.other_kind is.amount info fits is.payment (last_day_in is.more info.due is.due_is))
wish_in bank verbs.Modify arguments wish fits (id, to, amount, due, e, is) =
    rw e (id_in is.argument id is.id_is, (account_in bank is.number is.kind to fits is.to_is, (amount_within is.amount amount.0 is.amount_is, is.day_is.within)))
wish_in bank verbs.Cancel arguments wish fits (id, e, (argument, alone, is)) = rw e (id_in argument id is)
wish_in bank verbs.Repeat arguments wish fits (recur, info, e, is) =
    rw e (
      count_in is.count recur.count is.recur_is.count_is,
      info_in bank is.number is.kind is.other_number is.other_kind is.amount info fits is.payment (first_day_in is.first info.due is.due_is),
    )
wish_in bank verbs.Stop arguments wish fits (id, e, (argument, alone, is)) = rw e (id_in argument id is)
wish_in bank verbs.Mail arguments wish fits (subject, body, e, is) = rw e (is.subject_fits, is.body_fits)
wish_in bank verbs.Check arguments wish fits (account, e, is) = rw e (account_in bank is.number is.kind account fits is.account_is)
wish_in bank verbs.Show arguments wish fits (e, none) = rw e tt

-- A wish that a command has, at a bank whose id fits, is within bounds.
pub wished_in : (bank : List ℕ) (command : List (List ℕ)) (wish : Wish) → IsTextWithin 32 bank → IsWished bank command wish → IsInBounds wish
wished_in bank command wish fits is = wish_in bank is.verb is.rest wish fits is.wish_is
