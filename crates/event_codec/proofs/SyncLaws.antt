-- Synchronisations that are read are those that were written.
use Rattle.std.proofs.Common.{◌≡◌, ℕ, zero, suc, ◌<◌, ◌≤◌, Bool, true, false, cond, nat_eq, ltb, ◌&&◌, List, [], ◌∷◌, ◌++◌, length, Some, Ok, Err, refl, sym, ap, subst, arith}
use Rattle.std.specs.List.{flat_map, AllByRecursion}
use Rattle.std.proofs.lemmas.Bool.{eqb-true, lt-ltb}
use Rattle.std.proofs.lemmas.List.Concat.{flat_map-cons}
use Rattle.std.proofs.Math.Bool.{and-false}
use Rattle.ofx_types.specs.SyncForm.{object_family, is_mail_family}
use Rattle.ofx_types.specs.declared.transfer.Deed.{Deed}
use Rattle.ofx_types.specs.declared.transfer.Family.{Family}
use Rattle.ofx_types.specs.declared.sync.ObjectName.{ObjectName}
use Rattle.ofx_types.specs.declared.sync.ObjectName.TheVariants as objects
use Rattle.ofx_types.specs.declared.sync.SyncKind.{SyncKind}
use Rattle.ofx_types.specs.declared.sync.SyncKind.TheVariants.{After, TokenOnly, Refresh}
use Rattle.ofx_types.specs.declared.sync.SyncAsk.{SyncAsk}
use Rattle.bank_model.specs.Sound.{IsSoundObject, IsSoundKind, IsSoundPair, IsSoundSync}
use Rattle.record_fields.specs.FieldCoding.{u16_bytes, flag_bytes, text_bytes, uid_bytes, acct_bytes, list_bytes}
use Rattle.event_codec.specs.Coding.{deed_bytes, pair_bytes, object_bytes, sync_kind_bytes, sync_bytes}
use Rattle.event_codec.specs.AskReading.{intra_at, rec_intra_at, bank_mail_object_at, object_of, object_at, after_at, sync_kind_at, pair_at, pairs_from, pairs_at, sync_at}
use Rattle.record_fields.specs.Fields.{IsBytes, IsCodedAt, IsField}
use Rattle.record_fields.proofs.Steps.{bind_ok, done, ok_is, pass_ok, guard_ok, fork, joined, apart, step}
use Rattle.record_fields.proofs.NumberLaws.{u8_field, flag_field, next_is}
use Rattle.record_fields.proofs.BoundedLaws.{u16_field}
use Rattle.record_fields.proofs.TextLaws.{given_uid_field, nothing_holds}
use Rattle.record_fields.proofs.PartLaws.{acct_field, text64}
use Rattle.event_codec.proofs.DeedLaws.{renumbered, deed_field}
use Rattle.std.proofs.Math.Bool.{and-false}

-- ---- objects

-- After a mail ask stands mail alone.
abbrev pub IsAllowed : Bool → Bool → Type 0
IsAllowed is_after_mail is_mail = is_after_mail ≡ true → is_mail ≡ true

abbrev IsGoodObject : Bool → ObjectName → Type 0
IsGoodObject mail object = IsSoundObject object × IsAllowed mail (is_mail_family (object_family object))

record ObjectHolds (mail : Bool) (rec : List ℕ) (at : ℕ) (found : ObjectName × ℕ) : Type 0 where
  holds : IsCodedAt rec at (object_bytes found.0) found.1
  good : IsGoodObject mail found.0

-- where an account may stand, nothing has to be mail
freed : (mail : Bool) (kind k : ℕ) → nat_eq kind k ≡ true → k < 3 → (mail && ltb kind 3) ≡ false → (is_mail : Bool) → IsAllowed mail is_mail
freed true kind k same lt h is_mail = let small : ltb kind 3 ≡ true = lt-ltb _ _ (omega (arith, eqb-true kind k same)) in absurd cc
freed false kind k same lt h is_mail = λ suffix. absurd cc

intra_holds : (mail : Bool) (rec : List ℕ) (at next : ℕ) (found : ObjectName × ℕ) → IsBytes rec → IsAllowed mail false → IsCodedAt rec at (0 ∷ []) next → intra_at rec next ≡ Ok found → ObjectHolds mail rec at found
unfolding intra_at object_bytes
intra_holds mail rec at next found bytes free lead e =
    let account = step acct_field rec next _ found bytes lead.within e in
    let made : ObjectName × ℕ = (objects.Intra account.value, account.next) in
    subst (ObjectHolds mail rec at) {x = made} (ok_is made found account.rest) (record { holds = joined lead account.holds; good = (account.fits, free) })

rec_intra_holds : (mail : Bool) (rec : List ℕ) (at next : ℕ) (found : ObjectName × ℕ) → IsBytes rec → IsAllowed mail false → IsCodedAt rec at (1 ∷ []) next → rec_intra_at rec next ≡ Ok found → ObjectHolds mail rec at found
unfolding rec_intra_at object_bytes
rec_intra_holds mail rec at next found bytes free lead e =
    let account = step acct_field rec next _ found bytes lead.within e in
    let made : ObjectName × ℕ = (objects.RecIntra account.value, account.next) in
    subst (ObjectHolds mail rec at) {x = made} (ok_is made found account.rest) (record { holds = joined lead account.holds; good = (account.fits, free) })

bank_mail_holds : (mail : Bool) (rec : List ℕ) (at next : ℕ) (found : ObjectName × ℕ) → IsBytes rec → IsAllowed mail false → IsCodedAt rec at (2 ∷ []) next → bank_mail_object_at rec next ≡ Ok found → ObjectHolds mail rec at found
unfolding bank_mail_object_at object_bytes
bank_mail_holds mail rec at next found bytes free lead e =
    let account = step acct_field rec next _ found bytes lead.within e in
    let made : ObjectName × ℕ = (objects.BankMail account.value, account.next) in
    subst (ObjectHolds mail rec at) {x = made} (ok_is made found account.rest) (record { holds = joined lead account.holds; good = (account.fits, free) })

mail_holds : (mail : Bool) (rec : List ℕ) (at next : ℕ) (found : ObjectName × ℕ) → IsCodedAt rec at (3 ∷ []) next → done (objects.Mail, next) ≡ done found → ObjectHolds mail rec at found
unfolding object_bytes
mail_holds mail rec at next found lead e =
    let made : ObjectName × ℕ = (objects.Mail, next) in
    subst (ObjectHolds mail rec at) {x = made} (ok_is made found e) (record { holds = lead; good = (tt, λ suffix. refl) })

object_of_holds : (mail : Bool) (kind : ℕ) (rec : List ℕ) (at next : ℕ) (found : ObjectName × ℕ) → IsBytes rec → (mail && ltb kind 3) ≡ false → IsCodedAt rec at (kind ∷ []) next → object_of kind rec at next ≡ Ok found → ObjectHolds mail rec at found
unfolding object_of
object_of_holds mail kind rec at next found bytes allowed p e =
    fork (nat_eq kind 0) e (λ h e. intra_holds mail rec at next found bytes (freed mail kind 0 h (omega arith) allowed false) (renumbered kind 0 rec at next h p) e) (λ _ e.
    fork (nat_eq kind 1) e (λ h e. rec_intra_holds mail rec at next found bytes (freed mail kind 1 h (omega arith) allowed false) (renumbered kind 1 rec at next h p) e) (λ _ e.
    fork (nat_eq kind 2) e (λ h e. bank_mail_holds mail rec at next found bytes (freed mail kind 2 h (omega arith) allowed false) (renumbered kind 2 rec at next h p) e) (λ _ e.
    let g = pass_ok (nat_eq kind 3) at (Ok (objects.Mail, next)) found e in
    mail_holds mail rec at next found (renumbered kind 3 rec at next g.0 p) g.1)))

pub not_after : (mail : Bool) → IsAllowed mail false → mail ≡ false
not_after true h = absurd (let t : false ≡ true = h refl in cc)
not_after false h = refl

object_again : (mail : Bool) (rec : List ℕ) (at : ℕ) (object : ObjectName) (next : ℕ) → at ≤ length rec → IsCodedAt rec at (object_bytes object) next → IsGoodObject mail object → object_at mail rec at ≡ Ok (object, next)
unfolding object_at object_of object_bytes intra_at rec_intra_at bank_mail_object_at
object_again mail rec at (objects.Intra account) next le p fits =
    let a = apart rec at (0 ∷ []) (acct_bytes account) next le p in
    rw (u8_field.again rec at 0 a.mid le a.first (omega arith), not_after mail fits.1, acct_field.again rec a.mid account next a.first.within a.second fits.0) refl
object_again mail rec at (objects.RecIntra account) next le p fits =
    let a = apart rec at (1 ∷ []) (acct_bytes account) next le p in
    rw (u8_field.again rec at 1 a.mid le a.first (omega arith), not_after mail fits.1, acct_field.again rec a.mid account next a.first.within a.second fits.0) refl
object_again mail rec at (objects.BankMail account) next le p fits =
    let a = apart rec at (2 ∷ []) (acct_bytes account) next le p in
    rw (u8_field.again rec at 2 a.mid le a.first (omega arith), not_after mail fits.1, acct_field.again rec a.mid account next a.first.within a.second fits.0) refl
object_again mail rec at objects.Mail next le p fits =
    rw (u8_field.again rec at 3 next le p (omega arith), and-false mail) refl

pub object_field : (mail : Bool) → IsField (object_at mail) object_bytes (λ object. IsSoundObject object × IsAllowed mail (is_mail_family (object_family object)))
unfolding object_at
object_field mail = record {
  holds = λ rec at found bytes le e.
      let s = step u8_field rec at _ found bytes le e in
      let g = guard_ok (mail && ltb s.value 3) at (object_of s.value rec at s.next) found s.rest in
      let o = object_of_holds mail s.value rec at s.next found bytes g.0 s.holds g.1 in
      (o.holds, o.good);
  again = λ rec at object next le p fits. object_again mail rec at object next le p fits;
}

-- an object that comes after no mail ask
pub plain_object_field : IsField (object_at false) object_bytes IsSoundObject
plain_object_field = record {
  holds = λ rec at found bytes le e. let s = (object_field false).holds rec at found bytes le e in (s.0, s.1.0);
  again = λ rec at object next le p fits. (object_field false).again rec at object next le p (fits, λ suffix. absurd cc);
}

-- ---- how much of a history is asked for

record KindHolds (rec : List ℕ) (at : ℕ) (found : SyncKind × ℕ) : Type 0 where
  holds : IsCodedAt rec at (sync_kind_bytes found.0) found.1
  good : IsSoundKind found.0

after_holds : (rec : List ℕ) (at next : ℕ) (found : SyncKind × ℕ) → IsBytes rec → IsCodedAt rec at (0 ∷ []) next → after_at rec next ≡ Ok found → KindHolds rec at found
unfolding after_at sync_kind_bytes
after_holds rec at next found bytes lead e =
    let token = step text64 rec next _ found bytes lead.within e in
    let made : SyncKind × ℕ = (After token.value, token.next) in
    subst (KindHolds rec at) {x = made} (ok_is made found token.rest) (record { holds = joined lead token.holds; good = token.fits })

kind_holds : (rec : List ℕ) (at next : ℕ) (kind : SyncKind) (found : SyncKind × ℕ) → IsCodedAt rec at (sync_kind_bytes kind) next → IsSoundKind kind → done (kind, next) ≡ done found → KindHolds rec at found
kind_holds rec at next kind found lead good e =
    let made : SyncKind × ℕ = (kind, next) in
    subst (KindHolds rec at) {x = made} (ok_is made found e) (record { holds = lead; good = good })

sync_kind_went : (kind : ℕ) (rec : List ℕ) (at next : ℕ) (found : SyncKind × ℕ) → IsBytes rec → IsCodedAt rec at (kind ∷ []) next
    → cond (nat_eq kind 0) (after_at rec next) (cond (nat_eq kind 1) (Ok (TokenOnly, next)) (cond (nat_eq kind 2) (Ok (Refresh, next)) (Err at))) ≡ Ok found → KindHolds rec at found
unfolding sync_kind_bytes
sync_kind_went kind rec at next found bytes p e =
    fork (nat_eq kind 0) e (λ h e. after_holds rec at next found bytes (renumbered kind 0 rec at next h p) e) (λ _ e.
    fork (nat_eq kind 1) e (λ h e. kind_holds rec at next TokenOnly found (renumbered kind 1 rec at next h p) tt e) (λ _ e.
    let g = pass_ok (nat_eq kind 2) at (Ok (Refresh, next)) found e in
    kind_holds rec at next Refresh found (renumbered kind 2 rec at next g.0 p) tt g.1))

sync_kind_again : (rec : List ℕ) (at : ℕ) (kind : SyncKind) (next : ℕ) → at ≤ length rec → IsCodedAt rec at (sync_kind_bytes kind) next → IsSoundKind kind → sync_kind_at rec at ≡ Ok (kind, next)
unfolding sync_kind_at sync_kind_bytes after_at
sync_kind_again rec at (After token) next le p fits =
    let a = apart rec at (0 ∷ []) (text_bytes token) next le p in
    rw (u8_field.again rec at 0 a.mid le a.first (omega arith), text64.again rec a.mid token next a.first.within a.second fits) refl
sync_kind_again rec at TokenOnly next le p fits = rw (u8_field.again rec at 1 next le p (omega arith)) refl
sync_kind_again rec at Refresh next le p fits = rw (u8_field.again rec at 2 next le p (omega arith)) refl

pub sync_kind_field : IsField sync_kind_at sync_kind_bytes IsSoundKind
unfolding sync_kind_at
sync_kind_field = record {
  holds = λ rec at found bytes le e.
      let s = step u8_field rec at _ found bytes le e in
      let k = sync_kind_went s.value rec at s.next found bytes s.holds s.rest in
      (k.holds, k.good);
  again = λ rec at kind next le p fits. sync_kind_again rec at kind next le p fits;
}

-- ---- deeds under their uids

pair_field : (family : Family) → IsField (pair_at family) pair_bytes (IsSoundPair family)
unfolding pair_at
pair_field family = record {
  holds = λ rec at found bytes le e.
      let a = step given_uid_field rec at _ found bytes le e in
      let b = step (deed_field (Some family)) rec a.next _ found bytes a.holds.within a.rest in
      let made : (List ℕ × Deed) × ℕ = ((a.value, b.value), b.next) in
      subst (λ (f : (List ℕ × Deed) × ℕ). IsCodedAt rec at (pair_bytes f.0) f.1 × IsSoundPair family f.0) {x = made} (ok_is made found b.rest)
      (joined a.holds b.holds, (a.fits, b.fits.0, b.fits.1));
  again = λ rec at x next le p fits.
      let b = apart rec at (uid_bytes x.0) (deed_bytes x.1) next le p in
      rw (given_uid_field.again rec at x.0 b.mid le b.first fits.0, (deed_field (Some family)).again rec b.mid x.1 next b.first.within b.second (fits.1, fits.2)) refl;
}

record PairsHold (n : ℕ) (family : Family) (rec : List ℕ) (at : ℕ) (found : List (List ℕ × Deed) × ℕ) : Type 0 where
  holds : IsCodedAt rec at (flat_map pair_bytes found.0) found.1
  counted : length found.0 ≡ n
  good : AllByRecursion (IsSoundPair family) found.0

pairs_hold : (n : ℕ) (family : Family) (rec : List ℕ) (at : ℕ) (found : List (List ℕ × Deed) × ℕ) → IsBytes rec → at ≤ length rec → pairs_from n family rec at ≡ Ok found → PairsHold n family rec at found
unfolding pairs_from
pairs_hold zero family rec at found bytes le e =
    let made : List (List ℕ × Deed) × ℕ = ([], at) in
    subst (PairsHold zero family rec at) {x = made} (ok_is made found e) (record { holds = nothing_holds rec at le; counted = refl; good = tt })
pairs_hold (suc n) family rec at found bytes le e =
    let a = step (pair_field family) rec at _ found bytes le e in
    let b = bind_ok (pairs_from n family rec a.next) (λ others. Ok (a.value ∷ others.0, others.1)) found a.rest in
    let rest = pairs_hold n family rec a.next b.0 bytes a.holds.within b.1 in
    let made : List (List ℕ × Deed) × ℕ = (a.value ∷ b.0.0, b.0.1) in
    let whole : IsCodedAt rec at (flat_map pair_bytes (a.value ∷ b.0.0)) b.0.1 = subst (λ (t : List ℕ). IsCodedAt rec at t b.0.1) (sym (flat_map-cons pair_bytes a.value b.0.0)) (joined a.holds rest.holds) in
    subst (PairsHold (suc n) family rec at) {x = made} (ok_is made found b.2) (record { holds = whole; counted = ap suc rest.counted; good = (a.fits, rest.good) })

-- where there is nothing, the next place is the same
pub same_offset : (rec : List ℕ) (at next : ℕ) → at ≤ length rec → IsCodedAt rec at [] next → next ≡ at
same_offset rec at next le p = omega (arith, next_is rec at [] next le p)

pairs_again : (family : Family) (rec : List ℕ) (at : ℕ) (pairs : List (List ℕ × Deed)) (next : ℕ) → at ≤ length rec → IsCodedAt rec at (flat_map pair_bytes pairs) next → AllByRecursion (IsSoundPair family) pairs → pairs_from (length pairs) family rec at ≡ Ok (pairs, next)
unfolding pairs_from
pairs_again family rec at [] next le p good = ap (λ (n : ℕ). Ok ([], n)) (sym (same_offset rec at next le p))
pairs_again family rec at (x ∷ xs) next le p good =
    let q : IsCodedAt rec at (pair_bytes x ++ flat_map pair_bytes xs) next = subst (λ (t : List ℕ). IsCodedAt rec at t next) (flat_map-cons pair_bytes x xs) p in
    let a = apart rec at (pair_bytes x) (flat_map pair_bytes xs) next le q in
    rw ((pair_field family).again rec at x a.mid le a.first good.0, pairs_again family rec a.mid xs next a.first.within a.second good.1) refl

record AreGoodPairs (family : Family) (pairs : List (List ℕ × Deed)) : Type 0 where
  few : length pairs ≤ 65535
  sound : AllByRecursion (IsSoundPair family) pairs

pairs_field : (family : Family) → IsField (pairs_at family) (list_bytes pair_bytes) (AreGoodPairs family)
unfolding pairs_at
pairs_field family = record {
  holds = λ rec at found bytes le e.
      let a = step u16_field rec at _ found bytes le e in
      let b = pairs_hold a.value family rec a.next found bytes a.holds.within a.rest in
      let head : IsCodedAt rec at (u16_bytes (length found.0)) a.next = subst (λ (n : ℕ). IsCodedAt rec at (u16_bytes n) a.next) (sym b.counted) a.holds in
      (joined head b.holds, record { few = omega (arith, a.fits, b.counted); sound = b.good });
  again = λ rec at x next le p fits.
      let a = apart rec at (u16_bytes (length x)) (flat_map pair_bytes x) next le p in
      rw (u16_field.again rec at (length x) a.mid le a.first (omega (arith, fits.few)), pairs_again family rec a.mid x next a.first.within a.second fits.sound) refl;
}

-- ---- synchronisations

abbrev IsGoodSync : Bool → SyncAsk → Type 0
IsGoodSync mail ask = IsSoundSync ask × IsAllowed mail (is_mail_family (object_family ask.object))

pub sync_field : (mail : Bool) → IsField (sync_at mail) sync_bytes (λ ask. IsSoundSync ask × IsAllowed mail (is_mail_family (object_family ask.object)))
unfolding sync_at sync_bytes
sync_field mail = record {
  holds = λ rec at found bytes le e.
      let a = step (object_field mail) rec at _ found bytes le e in
      let b = step sync_kind_field rec a.next _ found bytes a.holds.within a.rest in
      let c = step flag_field rec b.next _ found bytes b.holds.within b.rest in
      let d = step (pairs_field (object_family a.value)) rec c.next _ found bytes c.holds.within c.rest in
      let made : SyncAsk × ℕ = (record { object = a.value; kind = b.value; reject = c.value; deeds = d.value }, d.next) in
      subst (λ (f : SyncAsk × ℕ). IsCodedAt rec at (sync_bytes f.0) f.1 × IsGoodSync mail f.0) {x = made} (ok_is made found d.rest) (
        joined (joined (joined a.holds b.holds) c.holds) d.holds,
        (record { object = a.fits.0; kind = b.fits; few = d.fits.few; deeds = d.fits.sound }, a.fits.1),
      );
  again = λ rec at x next le p fits.
      let d = apart rec at (object_bytes x.object ++ sync_kind_bytes x.kind ++ flag_bytes x.reject) (list_bytes pair_bytes x.deeds) next le p in
      let c = apart rec at (object_bytes x.object ++ sync_kind_bytes x.kind) (flag_bytes x.reject) d.mid le d.first in
      let b = apart rec at (object_bytes x.object) (sync_kind_bytes x.kind) c.mid le c.first in
      let deeds : AreGoodPairs (object_family x.object) x.deeds = record { few = fits.0.few; sound = fits.0.deeds } in
      rw (
        (object_field mail).again rec at x.object b.mid le b.first (fits.0.object, fits.1),
        sync_kind_field.again rec b.mid x.kind c.mid b.first.within b.second fits.0.kind,
        flag_field.again rec c.mid x.reject d.mid c.first.within c.second tt,
        (pairs_field (object_family x.object)).again rec d.mid x.deeds next d.first.within d.second deeds,
      ) refl;
}
