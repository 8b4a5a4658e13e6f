-- Deeds that are read are those that were written.
use Rattle.std.proofs.Common.{◌≡◌, ℕ, ◌≤◌, true, nat_eq, List, [], ◌∷◌, ◌++◌, length, Option, None, Some, Ok, refl, sym, ap, subst, ◌∙◌, arith}
use Rattle.std.proofs.lemmas.Bool.{eqb-true}
use Rattle.ofx_types.specs.DeedForm.{family_of}
use Rattle.ofx_types.specs.declared.transfer.Deed.{Deed}
use Rattle.ofx_types.specs.declared.transfer.Deed.TheVariants as deeds
use Rattle.ofx_types.specs.declared.transfer.Family.{Family}
use Rattle.ofx_types.specs.declared.transfer.Family.TheVariants as families
use Rattle.bank_model.specs.Sound.{IsSoundDeed}
use Rattle.record_fields.specs.FieldCoding.{u64_bytes, flag_bytes, acct_bytes, recur_bytes, info_bytes, mail_bytes}
use Rattle.event_codec.specs.Coding.{deed_bytes}
use Rattle.event_codec.specs.AskReading.{transfer_at, modify_transfer_at, cancel_transfer_at, model_at, modify_model_at, cancel_model_at, bank_mail_at, mail_deed_at, deed_of, is_kind_of, is_wanted, deed_at}
use Rattle.record_fields.specs.Fields.{IsBytes, IsCodedAt, IsField}
use Rattle.record_fields.proofs.Steps.{ok_is, pass_ok, fork, joined, apart, step}
use Rattle.record_fields.proofs.NumberLaws.{u8_field, flag_field}
use Rattle.record_fields.proofs.BoundedLaws.{id_field}
use Rattle.record_fields.proofs.PartLaws.{acct_field, recur_field, info_field, mail_field}

-- the number of a deed's kind
abbrev deed_kind : Deed → ℕ
deed_kind (deeds.Transfer info) = 1
deed_kind (deeds.ModifyTransfer id info) = 2
deed_kind (deeds.CancelTransfer id) = 3
deed_kind (deeds.Model recur info) = 4
deed_kind (deeds.ModifyModel id recur info pending) = 5
deed_kind (deeds.CancelModel id pending) = 6
deed_kind (deeds.BankMail account mail) = 7
deed_kind (deeds.Mail mail) = 8

-- a deed of the family that is wanted
abbrev pub IsOf : Option Family → Deed → Type 0
IsOf None deed = Unit {0}
IsOf (Some family) deed = family_of deed ≡ family

of_family : (family : Family) (deed : Deed) → is_kind_of family (deed_kind deed) ≡ true → family_of deed ≡ family
of_family families.Intra (deeds.Transfer info) h = refl
of_family families.Intra (deeds.ModifyTransfer id info) h = refl
of_family families.Intra (deeds.CancelTransfer id) h = refl
of_family families.Intra (deeds.Model recur info) h = absurd cc
of_family families.Intra (deeds.ModifyModel id recur info pending) h = absurd cc
of_family families.Intra (deeds.CancelModel id pending) h = absurd cc
of_family families.Intra (deeds.BankMail account mail) h = absurd cc
of_family families.Intra (deeds.Mail mail) h = absurd cc
of_family families.RecIntra (deeds.Transfer info) h = absurd cc
of_family families.RecIntra (deeds.ModifyTransfer id info) h = absurd cc
of_family families.RecIntra (deeds.CancelTransfer id) h = absurd cc
of_family families.RecIntra (deeds.Model recur info) h = refl
of_family families.RecIntra (deeds.ModifyModel id recur info pending) h = refl
of_family families.RecIntra (deeds.CancelModel id pending) h = refl
of_family families.RecIntra (deeds.BankMail account mail) h = absurd cc
of_family families.RecIntra (deeds.Mail mail) h = absurd cc
of_family families.BankMail (deeds.Transfer info) h = absurd cc
of_family families.BankMail (deeds.ModifyTransfer id info) h = absurd cc
of_family families.BankMail (deeds.CancelTransfer id) h = absurd cc
of_family families.BankMail (deeds.Model recur info) h = absurd cc
of_family families.BankMail (deeds.ModifyModel id recur info pending) h = absurd cc
of_family families.BankMail (deeds.CancelModel id pending) h = absurd cc
of_family families.BankMail (deeds.BankMail account mail) h = refl
of_family families.BankMail (deeds.Mail mail) h = absurd cc
of_family families.Mail (deeds.Transfer info) h = absurd cc
of_family families.Mail (deeds.ModifyTransfer id info) h = absurd cc
of_family families.Mail (deeds.CancelTransfer id) h = absurd cc
of_family families.Mail (deeds.Model recur info) h = absurd cc
of_family families.Mail (deeds.ModifyModel id recur info pending) h = absurd cc
of_family families.Mail (deeds.CancelModel id pending) h = absurd cc
of_family families.Mail (deeds.BankMail account mail) h = absurd cc
of_family families.Mail (deeds.Mail mail) h = refl

of_wanted : (wanted : Option Family) (deed : Deed) → is_wanted wanted (deed_kind deed) ≡ true → IsOf wanted deed
of_wanted None deed h = tt
of_wanted (Some family) deed h = of_family family deed h

family_kind : (deed : Deed) → is_kind_of (family_of deed) (deed_kind deed) ≡ true
family_kind (deeds.Transfer info) = refl
family_kind (deeds.ModifyTransfer id info) = refl
family_kind (deeds.CancelTransfer id) = refl
family_kind (deeds.Model recur info) = refl
family_kind (deeds.ModifyModel id recur info pending) = refl
family_kind (deeds.CancelModel id pending) = refl
family_kind (deeds.BankMail account mail) = refl
family_kind (deeds.Mail mail) = refl

wanted_of : (wanted : Option Family) (deed : Deed) → IsOf wanted deed → is_wanted wanted (deed_kind deed) ≡ true
wanted_of None deed h = refl
wanted_of (Some family) deed h = subst (λ (f : Family). is_kind_of f (deed_kind deed) ≡ true) h (family_kind deed)

-- ---- a deed after its kind

record DeedHolds (kind : ℕ) (rec : List ℕ) (at : ℕ) (found : Deed × ℕ) : Type 0 where
  holds : IsCodedAt rec at (deed_bytes found.0) found.1
  good : IsSoundDeed found.0
  is_kind : deed_kind found.0 ≡ kind

transfer_holds : (rec : List ℕ) (at next : ℕ) (found : Deed × ℕ) → IsBytes rec → IsCodedAt rec at (1 ∷ []) next → transfer_at rec next ≡ Ok found → DeedHolds 1 rec at found
unfolding transfer_at deed_bytes
transfer_holds rec at next found bytes lead e =
    let info = step info_field rec next _ found bytes lead.within e in
    let made : Deed × ℕ = (deeds.Transfer info.value, info.next) in
    subst (DeedHolds 1 rec at) {x = made} (ok_is made found info.rest) (record { holds = joined lead info.holds; good = info.fits; is_kind = refl })

modify_transfer_holds : (rec : List ℕ) (at next : ℕ) (found : Deed × ℕ) → IsBytes rec → IsCodedAt rec at (2 ∷ []) next → modify_transfer_at rec next ≡ Ok found → DeedHolds 2 rec at found
unfolding modify_transfer_at deed_bytes
modify_transfer_holds rec at next found bytes lead e =
    let id = step id_field rec next _ found bytes lead.within e in
    let info = step info_field rec id.next _ found bytes id.holds.within id.rest in
    let made : Deed × ℕ = (deeds.ModifyTransfer id.value info.value, info.next) in
    subst (DeedHolds 2 rec at) {x = made} (ok_is made found info.rest) (record { holds = joined (joined lead id.holds) info.holds; good = (id.fits, info.fits); is_kind = refl })

cancel_transfer_holds : (rec : List ℕ) (at next : ℕ) (found : Deed × ℕ) → IsBytes rec → IsCodedAt rec at (3 ∷ []) next → cancel_transfer_at rec next ≡ Ok found → DeedHolds 3 rec at found
unfolding cancel_transfer_at deed_bytes
cancel_transfer_holds rec at next found bytes lead e =
    let id = step id_field rec next _ found bytes lead.within e in
    let made : Deed × ℕ = (deeds.CancelTransfer id.value, id.next) in
    subst (DeedHolds 3 rec at) {x = made} (ok_is made found id.rest) (record { holds = joined lead id.holds; good = id.fits; is_kind = refl })

model_holds : (rec : List ℕ) (at next : ℕ) (found : Deed × ℕ) → IsBytes rec → IsCodedAt rec at (4 ∷ []) next → model_at rec next ≡ Ok found → DeedHolds 4 rec at found
unfolding model_at deed_bytes
model_holds rec at next found bytes lead e =
    let recur = step recur_field rec next _ found bytes lead.within e in
    let info = step info_field rec recur.next _ found bytes recur.holds.within recur.rest in
    let made : Deed × ℕ = (deeds.Model recur.value info.value, info.next) in
    subst (DeedHolds 4 rec at) {x = made} (ok_is made found info.rest) (record { holds = joined (joined lead recur.holds) info.holds; good = (recur.fits, info.fits); is_kind = refl })

modify_model_holds : (rec : List ℕ) (at next : ℕ) (found : Deed × ℕ) → IsBytes rec → IsCodedAt rec at (5 ∷ []) next → modify_model_at rec next ≡ Ok found → DeedHolds 5 rec at found
unfolding modify_model_at deed_bytes
modify_model_holds rec at next found bytes lead e =
    let id = step id_field rec next _ found bytes lead.within e in
    let recur = step recur_field rec id.next _ found bytes id.holds.within id.rest in
    let info = step info_field rec recur.next _ found bytes recur.holds.within recur.rest in
    let pending = step flag_field rec info.next _ found bytes info.holds.within info.rest in
    let made : Deed × ℕ = (deeds.ModifyModel id.value recur.value info.value pending.value, pending.next) in
    subst (DeedHolds 5 rec at) {x = made} (ok_is made found pending.rest) (record { holds = joined (joined (joined (joined lead id.holds) recur.holds) info.holds) pending.holds; good = (id.fits, recur.fits, info.fits); is_kind = refl })

cancel_model_holds : (rec : List ℕ) (at next : ℕ) (found : Deed × ℕ) → IsBytes rec → IsCodedAt rec at (6 ∷ []) next → cancel_model_at rec next ≡ Ok found → DeedHolds 6 rec at found
unfolding cancel_model_at deed_bytes
cancel_model_holds rec at next found bytes lead e =
    let id = step id_field rec next _ found bytes lead.within e in
    let pending = step flag_field rec id.next _ found bytes id.holds.within id.rest in
    let made : Deed × ℕ = (deeds.CancelModel id.value pending.value, pending.next) in
    subst (DeedHolds 6 rec at) {x = made} (ok_is made found pending.rest) (record { holds = joined (joined lead id.holds) pending.holds; good = id.fits; is_kind = refl })

bank_mail_holds : (rec : List ℕ) (at next : ℕ) (found : Deed × ℕ) → IsBytes rec → IsCodedAt rec at (7 ∷ []) next → bank_mail_at rec next ≡ Ok found → DeedHolds 7 rec at found
unfolding bank_mail_at deed_bytes
bank_mail_holds rec at next found bytes lead e =
    let account = step acct_field rec next _ found bytes lead.within e in
    let mail = step mail_field rec account.next _ found bytes account.holds.within account.rest in
    let made : Deed × ℕ = (deeds.BankMail account.value mail.value, mail.next) in
    subst (DeedHolds 7 rec at) {x = made} (ok_is made found mail.rest) (record { holds = joined (joined lead account.holds) mail.holds; good = (account.fits, mail.fits); is_kind = refl })

mail_deed_holds : (rec : List ℕ) (at next : ℕ) (found : Deed × ℕ) → IsBytes rec → IsCodedAt rec at (8 ∷ []) next → mail_deed_at rec next ≡ Ok found → DeedHolds 8 rec at found
unfolding mail_deed_at deed_bytes
mail_deed_holds rec at next found bytes lead e =
    let mail = step mail_field rec next _ found bytes lead.within e in
    let made : Deed × ℕ = (deeds.Mail mail.value, mail.next) in
    subst (DeedHolds 8 rec at) {x = made} (ok_is made found mail.rest) (record { holds = joined lead mail.holds; good = mail.fits; is_kind = refl })

pub renumbered : (kind k : ℕ) (rec : List ℕ) (at next : ℕ) → nat_eq kind k ≡ true → IsCodedAt rec at (kind ∷ []) next → IsCodedAt rec at (k ∷ []) next
renumbered kind k rec at next h p = subst (λ (n : ℕ). IsCodedAt rec at (n ∷ []) next) (eqb-true _ _ h) p

numbered : (kind k : ℕ) (rec : List ℕ) (at : ℕ) (found : Deed × ℕ) → nat_eq kind k ≡ true → DeedHolds k rec at found → DeedHolds kind rec at found
numbered kind k rec at found h d = record { holds = d.holds; good = d.good; is_kind = d.is_kind ∙ sym (eqb-true _ _ h) }

deed_of_holds : (kind : ℕ) (rec : List ℕ) (at next : ℕ) (found : Deed × ℕ) → IsBytes rec → IsCodedAt rec at (kind ∷ []) next → deed_of kind rec at next ≡ Ok found → DeedHolds kind rec at found
unfolding deed_of
deed_of_holds kind rec at next found bytes p e =
    fork (nat_eq kind 1) e (λ h e. numbered kind 1 rec at found h (transfer_holds rec at next found bytes (renumbered kind 1 rec at next h p) e)) (λ _ e.
    fork (nat_eq kind 2) e (λ h e. numbered kind 2 rec at found h (modify_transfer_holds rec at next found bytes (renumbered kind 2 rec at next h p) e)) (λ _ e.
    fork (nat_eq kind 3) e (λ h e. numbered kind 3 rec at found h (cancel_transfer_holds rec at next found bytes (renumbered kind 3 rec at next h p) e)) (λ _ e.
    fork (nat_eq kind 4) e (λ h e. numbered kind 4 rec at found h (model_holds rec at next found bytes (renumbered kind 4 rec at next h p) e)) (λ _ e.
    fork (nat_eq kind 5) e (λ h e. numbered kind 5 rec at found h (modify_model_holds rec at next found bytes (renumbered kind 5 rec at next h p) e)) (λ _ e.
    fork (nat_eq kind 6) e (λ h e. numbered kind 6 rec at found h (cancel_model_holds rec at next found bytes (renumbered kind 6 rec at next h p) e)) (λ _ e.
    fork (nat_eq kind 7) e (λ h e. numbered kind 7 rec at found h (bank_mail_holds rec at next found bytes (renumbered kind 7 rec at next h p) e)) (λ _ e.
    let g = pass_ok (nat_eq kind 8) at (mail_deed_at rec next) found e in
    numbered kind 8 rec at found g.0 (mail_deed_holds rec at next found bytes (renumbered kind 8 rec at next g.0 p) g.1))))))))

deed_again : (wanted : Option Family) (rec : List ℕ) (at : ℕ) (deed : Deed) (next : ℕ) → at ≤ length rec → IsCodedAt rec at (deed_bytes deed) next → IsSoundDeed deed → is_wanted wanted (deed_kind deed) ≡ true → deed_at wanted rec at ≡ Ok (deed, next)
unfolding deed_at deed_of deed_bytes transfer_at modify_transfer_at cancel_transfer_at model_at modify_model_at cancel_model_at bank_mail_at mail_deed_at
deed_again wanted rec at (deeds.Transfer info) next le p fits h =
    let p0 = apart rec at (1 ∷ []) (info_bytes info) next le p in
    rw (
      u8_field.again rec at 1 p0.mid le p0.first (omega arith),
      h,
      info_field.again rec p0.mid info next p0.first.within p0.second fits,
    ) refl
deed_again wanted rec at (deeds.ModifyTransfer id info) next le p fits h =
    let p1 = apart rec at (2 ∷ u64_bytes id) (info_bytes info) next le p in
    let p0 = apart rec at (2 ∷ []) (u64_bytes id) p1.mid le p1.first in
    rw (
      u8_field.again rec at 2 p0.mid le p0.first (omega arith),
      h,
      id_field.again rec p0.mid id p1.mid p0.first.within p0.second fits.0,
      info_field.again rec p1.mid info next p1.first.within p1.second fits.1,
    ) refl
deed_again wanted rec at (deeds.CancelTransfer id) next le p fits h =
    let p0 = apart rec at (3 ∷ []) (u64_bytes id) next le p in
    rw (
      u8_field.again rec at 3 p0.mid le p0.first (omega arith),
      h,
      id_field.again rec p0.mid id next p0.first.within p0.second fits,
    ) refl
deed_again wanted rec at (deeds.Model recur info) next le p fits h =
    let p1 = apart rec at (4 ∷ recur_bytes recur) (info_bytes info) next le p in
    let p0 = apart rec at (4 ∷ []) (recur_bytes recur) p1.mid le p1.first in
    rw (
      u8_field.again rec at 4 p0.mid le p0.first (omega arith),
      h,
      recur_field.again rec p0.mid recur p1.mid p0.first.within p0.second fits.0,
      info_field.again rec p1.mid info next p1.first.within p1.second fits.1,
    ) refl
deed_again wanted rec at (deeds.ModifyModel id recur info pending) next le p fits h =
    let p3 = apart rec at (5 ∷ u64_bytes id ++ recur_bytes recur ++ info_bytes info) (flag_bytes pending) next le p in
    let p2 = apart rec at (5 ∷ u64_bytes id ++ recur_bytes recur) (info_bytes info) p3.mid le p3.first in
    let p1 = apart rec at (5 ∷ u64_bytes id) (recur_bytes recur) p2.mid le p2.first in
    let p0 = apart rec at (5 ∷ []) (u64_bytes id) p1.mid le p1.first in
    rw (
      u8_field.again rec at 5 p0.mid le p0.first (omega arith),
      h,
      id_field.again rec p0.mid id p1.mid p0.first.within p0.second fits.0,
      recur_field.again rec p1.mid recur p2.mid p1.first.within p1.second fits.1,
      info_field.again rec p2.mid info p3.mid p2.first.within p2.second fits.2,
      flag_field.again rec p3.mid pending next p3.first.within p3.second tt,
    ) refl
deed_again wanted rec at (deeds.CancelModel id pending) next le p fits h =
    let p1 = apart rec at (6 ∷ u64_bytes id) (flag_bytes pending) next le p in
    let p0 = apart rec at (6 ∷ []) (u64_bytes id) p1.mid le p1.first in
    rw (
      u8_field.again rec at 6 p0.mid le p0.first (omega arith),
      h,
      id_field.again rec p0.mid id p1.mid p0.first.within p0.second fits,
      flag_field.again rec p1.mid pending next p1.first.within p1.second tt,
    ) refl
deed_again wanted rec at (deeds.BankMail account mail) next le p fits h =
    let p1 = apart rec at (7 ∷ acct_bytes account) (mail_bytes mail) next le p in
    let p0 = apart rec at (7 ∷ []) (acct_bytes account) p1.mid le p1.first in
    rw (
      u8_field.again rec at 7 p0.mid le p0.first (omega arith),
      h,
      acct_field.again rec p0.mid account p1.mid p0.first.within p0.second fits.0,
      mail_field.again rec p1.mid mail next p1.first.within p1.second fits.1,
    ) refl
deed_again wanted rec at (deeds.Mail mail) next le p fits h =
    let p0 = apart rec at (8 ∷ []) (mail_bytes mail) next le p in
    rw (
      u8_field.again rec at 8 p0.mid le p0.first (omega arith),
      h,
      mail_field.again rec p0.mid mail next p0.first.within p0.second fits,
    ) refl

pub deed_field : (wanted : Option Family) → IsField (deed_at wanted) deed_bytes (λ deed. IsSoundDeed deed × IsOf wanted deed)
unfolding deed_at
deed_field wanted = record {
  holds = λ rec at found bytes le e.
      let s = step u8_field rec at _ found bytes le e in
      let g = pass_ok (is_wanted wanted s.value) at (deed_of s.value rec at s.next) found s.rest in
      let d = deed_of_holds s.value rec at s.next found bytes s.holds g.1 in
      let wanted_kind : is_wanted wanted (deed_kind found.0) ≡ true = ap (is_wanted wanted) d.is_kind ∙ g.0 in
      (d.holds, (d.good, of_wanted wanted found.0 wanted_kind));
  again = λ rec at deed next le p fits. deed_again wanted rec at deed next le p fits.0 (wanted_of wanted deed fits.1);
}
