-- Asks that are read are those that were written.
use Rattle.std.proofs.Common.{◌≡◌, ℕ, zero, suc, ◌≤◌, Bool, true, false, nat_eq, ◌||◌, List, [], ◌∷◌, ◌++◌, length, Option, Ok, refl, sym, ap, subst, arith}
use Rattle.std.specs.Prelude.{IfSome}
use Rattle.std.specs.List.{flat_map, AllByRecursion}
use Rattle.std.proofs.lemmas.List.Concat.{flat_map-cons}
use Rattle.ofx_types.specs.DeedForm.{family_of}
use Rattle.ofx_types.specs.SyncForm.{is_mail_family}
use Rattle.ofx_types.specs.PrintedFile.{is_mail_ask}
use Rattle.ofx_types.specs.declared.transfer.Deed.{Deed}
use Rattle.ofx_types.specs.declared.transfer.Family.{Family}
use Rattle.ofx_types.specs.declared.transfer.Family.TheVariants as families
use Rattle.ofx_types.specs.declared.request.Ask.{Ask}
use Rattle.ofx_types.specs.declared.request.Ask.TheVariants as asks
use Rattle.ofx_types.specs.declared.request.Period.{Period}
use Rattle.bank_model.specs.Sound.{IsSoundPeriod, IsSoundAsk}
use Rattle.record_fields.specs.FieldCoding.{u16_bytes, uid_bytes, acct_bytes, optional_bytes}
use Rattle.event_codec.specs.Coding.{period_bytes, deed_bytes, sync_bytes, ask_bytes, asks_bytes}
use Rattle.record_fields.specs.FieldReading.{optional_at}
use Rattle.event_codec.specs.AskReading.{period_at, statement_at, wanted_after, one_at, sync_ask_at, ask_of, ask_at, asks_from, asks_at}
use Rattle.record_fields.specs.Fields.{IsBytes, IsCodedAt, IsField}
use Rattle.event_codec.specs.AskList.{AreAsks}
use Rattle.record_fields.proofs.Steps.{bind_ok, ok_is, pass_ok, guard_ok, fork, joined, apart, step}
use Rattle.record_fields.proofs.NumberLaws.{u8_field, optional_field}
use Rattle.record_fields.proofs.BoundedLaws.{u16_field}
use Rattle.record_fields.proofs.TextLaws.{given_uid_field, nothing_holds}
use Rattle.record_fields.proofs.PartLaws.{acct_field}
use Rattle.event_codec.proofs.PeriodLaws.{period_field}
use Rattle.event_codec.proofs.DeedLaws.{IsOf, renumbered, deed_field}
use Rattle.event_codec.proofs.SyncLaws.{IsAllowed, not_after, same_offset, sync_field}
use Rattle.event_codec.proofs.AskOrder.{AreInOrder, bank_first, in_order}

abbrev IsMaybePeriod : Option Period → Type 0
IsMaybePeriod o = IfSome o IsSoundPeriod

optional_period : IsField (optional_at period_at) (optional_bytes period_bytes) IsMaybePeriod
optional_period = optional_field period_field

abbrev IsGoodAsk : Bool → Ask → Type 0
IsGoodAsk mail ask = IsSoundAsk ask × IsAllowed mail (is_mail_ask ask)

record AskHolds (mail : Bool) (rec : List ℕ) (at : ℕ) (found : Ask × ℕ) : Type 0 where
  holds : IsCodedAt rec at (ask_bytes found.0) found.1
  good : IsGoodAsk mail found.0

not_mail : (mail is_mail : Bool) → mail ≡ false → IsAllowed mail is_mail
not_mail mail is_mail h = λ suffix. absurd cc

statement_holds : (mail : Bool) (rec : List ℕ) (at next : ℕ) (found : Ask × ℕ) → IsBytes rec → mail ≡ false → IsCodedAt rec at (1 ∷ []) next → statement_at rec next ≡ Ok found → AskHolds mail rec at found
unfolding statement_at ask_bytes
statement_holds mail rec at next found bytes free lead e =
    let uid = step given_uid_field rec next _ found bytes lead.within e in
    let account = step acct_field rec uid.next _ found bytes uid.holds.within uid.rest in
    let period = step optional_period rec account.next _ found bytes account.holds.within account.rest in
    let made : Ask × ℕ = (asks.Statement uid.value account.value period.value, period.next) in
    subst (AskHolds mail rec at) {x = made} (ok_is made found period.rest) (record {
      holds = joined (joined (joined lead uid.holds) account.holds) period.holds;
      good = ((uid.fits, account.fits, period.fits), not_mail mail false free);
    })

mail_is : (family : Family) → is_mail_family family ≡ true → family ≡ families.Mail
mail_is families.Intra h = absurd cc
mail_is families.RecIntra h = absurd cc
mail_is families.BankMail h = absurd cc
mail_is families.Mail h = refl

allowed_of : (mail : Bool) (deed : Deed) → IsOf (wanted_after mail) deed → IsAllowed mail (is_mail_family (family_of deed))
allowed_of true deed h = λ suffix. ap is_mail_family h
allowed_of false deed h = λ suffix. absurd cc

of_allowed : (mail : Bool) (deed : Deed) → IsAllowed mail (is_mail_family (family_of deed)) → IsOf (wanted_after mail) deed
of_allowed true deed h = mail_is (family_of deed) (h refl)
of_allowed false deed h = tt

one_holds : (mail : Bool) (rec : List ℕ) (at next : ℕ) (found : Ask × ℕ) → IsBytes rec → IsCodedAt rec at (2 ∷ []) next → one_at mail rec next ≡ Ok found → AskHolds mail rec at found
unfolding one_at ask_bytes
one_holds mail rec at next found bytes lead e =
    let uid = step given_uid_field rec next _ found bytes lead.within e in
    let deed = step (deed_field (wanted_after mail)) rec uid.next _ found bytes uid.holds.within uid.rest in
    let made : Ask × ℕ = (asks.One uid.value deed.value, deed.next) in
    subst (AskHolds mail rec at) {x = made} (ok_is made found deed.rest) (record {
      holds = joined (joined lead uid.holds) deed.holds;
      good = ((uid.fits, deed.fits.0), allowed_of mail deed.value deed.fits.1);
    })

sync_holds : (mail : Bool) (rec : List ℕ) (at next : ℕ) (found : Ask × ℕ) → IsBytes rec → IsCodedAt rec at (3 ∷ []) next → sync_ask_at mail rec next ≡ Ok found → AskHolds mail rec at found
unfolding sync_ask_at ask_bytes
sync_holds mail rec at next found bytes lead e =
    let ask = step (sync_field mail) rec next _ found bytes lead.within e in
    let made : Ask × ℕ = (asks.Sync ask.value, ask.next) in
    subst (AskHolds mail rec at) {x = made} (ok_is made found ask.rest) (record { holds = joined lead ask.holds; good = ask.fits })

ask_of_holds : (mail : Bool) (kind : ℕ) (rec : List ℕ) (at next : ℕ) (found : Ask × ℕ) → IsBytes rec → IsCodedAt rec at (kind ∷ []) next → ask_of kind mail rec at next ≡ Ok found → AskHolds mail rec at found
unfolding ask_of
ask_of_holds mail kind rec at next found bytes p e =
    fork (nat_eq kind 1) e (λ h e.
    let g = guard_ok mail at (statement_at rec next) found e in
    statement_holds mail rec at next found bytes g.0 (renumbered kind 1 rec at next h p) g.1) (λ _ e.
    fork (nat_eq kind 2) e (λ h e. one_holds mail rec at next found bytes (renumbered kind 2 rec at next h p) e) (λ _ e.
    let g = pass_ok (nat_eq kind 3) at (sync_ask_at mail rec next) found e in
    sync_holds mail rec at next found bytes (renumbered kind 3 rec at next g.0 p) g.1))

ask_again : (mail : Bool) (rec : List ℕ) (at : ℕ) (ask : Ask) (next : ℕ) → at ≤ length rec → IsCodedAt rec at (ask_bytes ask) next → IsGoodAsk mail ask → ask_at mail rec at ≡ Ok (ask, next)
unfolding ask_at ask_of ask_bytes statement_at one_at sync_ask_at
ask_again mail rec at (asks.Statement trnuid account period) next le p fits =
    let d = apart rec at (1 ∷ uid_bytes trnuid ++ acct_bytes account) (optional_bytes period_bytes period) next le p in
    let c = apart rec at (1 ∷ uid_bytes trnuid) (acct_bytes account) d.mid le d.first in
    let b = apart rec at (1 ∷ []) (uid_bytes trnuid) c.mid le c.first in
    rw (
      u8_field.again rec at 1 b.mid le b.first (omega arith),
      not_after mail fits.1,
      given_uid_field.again rec b.mid trnuid c.mid b.first.within b.second fits.0.0,
      acct_field.again rec c.mid account d.mid c.first.within c.second fits.0.1,
      optional_period.again rec d.mid period next d.first.within d.second fits.0.2,
    ) refl
ask_again mail rec at (asks.One trnuid deed) next le p fits =
    let c = apart rec at (2 ∷ uid_bytes trnuid) (deed_bytes deed) next le p in
    let b = apart rec at (2 ∷ []) (uid_bytes trnuid) c.mid le c.first in
    rw (
      u8_field.again rec at 2 b.mid le b.first (omega arith),
      given_uid_field.again rec b.mid trnuid c.mid b.first.within b.second fits.0.0,
      (deed_field (wanted_after mail)).again rec c.mid deed next c.first.within c.second (fits.0.1, of_allowed mail deed fits.1),
    ) refl
ask_again mail rec at (asks.Sync ask) next le p fits =
    let b = apart rec at (3 ∷ []) (sync_bytes ask) next le p in
    rw (u8_field.again rec at 3 b.mid le b.first (omega arith), (sync_field mail).again rec b.mid ask next b.first.within b.second fits) refl

ask_field : (mail : Bool) → IsField (ask_at mail) ask_bytes (IsGoodAsk mail)
unfolding ask_at
ask_field mail = record {
  holds = λ rec at found bytes le e.
      let s = step u8_field rec at _ found bytes le e in
      let a = ask_of_holds mail s.value rec at s.next found bytes s.holds s.rest in
      (a.holds, a.good);
  again = λ rec at ask next le p fits. ask_again mail rec at ask next le p fits;
}

-- ---- lists of asks

record AsksHold (n : ℕ) (mail : Bool) (rec : List ℕ) (at : ℕ) (found : List Ask × ℕ) : Type 0 where
  holds : IsCodedAt rec at (flat_map ask_bytes found.0) found.1
  counted : length found.0 ≡ n
  good : AllByRecursion IsSoundAsk found.0
  ordered : AreInOrder mail found.0

asks_hold : (n : ℕ) (mail : Bool) (rec : List ℕ) (at : ℕ) (found : List Ask × ℕ) → IsBytes rec → at ≤ length rec → asks_from n mail rec at ≡ Ok found → AsksHold n mail rec at found
unfolding asks_from
asks_hold zero mail rec at found bytes le e =
    let made : List Ask × ℕ = ([], at) in
    subst (AsksHold zero mail rec at) {x = made} (ok_is made found e) (record { holds = nothing_holds rec at le; counted = refl; good = tt; ordered = tt })
asks_hold (suc n) mail rec at found bytes le e =
    let a = step (ask_field mail) rec at _ found bytes le e in
    let b = bind_ok (asks_from n (mail || is_mail_ask a.value) rec a.next) (λ others. Ok (a.value ∷ others.0, others.1)) found a.rest in
    let rest = asks_hold n (mail || is_mail_ask a.value) rec a.next b.0 bytes a.holds.within b.1 in
    let made : List Ask × ℕ = (a.value ∷ b.0.0, b.0.1) in
    let whole : IsCodedAt rec at (flat_map ask_bytes (a.value ∷ b.0.0)) b.0.1 = subst (λ (t : List ℕ). IsCodedAt rec at t b.0.1) (sym (flat_map-cons ask_bytes a.value b.0.0)) (joined a.holds rest.holds) in
    subst (AsksHold (suc n) mail rec at) {x = made} (ok_is made found b.2) (record { holds = whole; counted = ap suc rest.counted; good = (a.fits.0, rest.good); ordered = (a.fits.1, rest.ordered) })

asks_again : (mail : Bool) (rec : List ℕ) (at : ℕ) (xs : List Ask) (next : ℕ) → at ≤ length rec → IsCodedAt rec at (flat_map ask_bytes xs) next → AllByRecursion IsSoundAsk xs → AreInOrder mail xs → asks_from (length xs) mail rec at ≡ Ok (xs, next)
unfolding asks_from
asks_again mail rec at [] next le p good ordered = ap (λ (n : ℕ). Ok ([], n)) (sym (same_offset rec at next le p))
asks_again mail rec at (x ∷ xs) next le p good ordered =
    let q : IsCodedAt rec at (ask_bytes x ++ flat_map ask_bytes xs) next = subst (λ (t : List ℕ). IsCodedAt rec at t next) (flat_map-cons ask_bytes x xs) p in
    let a = apart rec at (ask_bytes x) (flat_map ask_bytes xs) next le q in
    rw ((ask_field mail).again rec at x a.mid le a.first (good.0, ordered.0), asks_again (mail || is_mail_ask x) rec a.mid xs next a.first.within a.second good.1 ordered.1) refl

pub asks_field : IsField asks_at asks_bytes AreAsks
unfolding asks_at
asks_field = record {
  holds = λ rec at found bytes le e.
      let a = step u16_field rec at _ found bytes le e in
      let b = asks_hold a.value false rec a.next found bytes a.holds.within a.rest in
      let head : IsCodedAt rec at (u16_bytes (length found.0)) a.next = subst (λ (n : ℕ). IsCodedAt rec at (u16_bytes n) a.next) (sym b.counted) a.holds in
      (joined head b.holds, record { few = omega (arith, a.fits, b.counted); bank_first = bank_first found.0 b.ordered; sound = b.good });
  again = λ rec at x next le p fits.
      let a = apart rec at (u16_bytes (length x)) (flat_map ask_bytes x) next le p in
      rw (u16_field.again rec at (length x) a.mid le a.first (omega (arith, fits.few)), asks_again false rec a.mid x next a.first.within a.second fits.sound (in_order x fits.bank_first)) refl;
}
