-- Rows that are read are those that were written.
use Rattle.std.proofs.Common.{◌≡◌, ℕ, zero, suc, ◌<◌, ◌≤◌, ◌^◌, true, nat_eq, leb, List, [], ◌∷◌, ◌++◌, length, slice_get, Option, Some, Ok, refl, sym, ap, subst, arith}
use Rattle.std.specs.Prelude.{IfSome}
use Rattle.std.specs.List.{flat_map, AllByRecursion}
use Rattle.std.proofs.lemmas.Bool.{eqb-true, leb-true, le-leb}
use Rattle.std.proofs.lemmas.List.Concat.{flat_map-cons}
use Rattle.ofx_types.specs.declared.account.AcctName.{AcctName}
use Rattle.ofx_types.specs.declared.transfer.Family.{Family}
use Rattle.ofx_types.specs.declared.transfer.Family.TheVariants as families
use Rattle.ofx_types.specs.declared.transfer.XferCode.{XferCode}
use Rattle.ofx_types.specs.declared.transfer.XferCode.TheVariants.{Waiting, Posted, NoFunds, Cancelled}
use Rattle.ofx_types.specs.declared.transfer.TransferRow.{TransferRow}
use Rattle.ofx_types.specs.declared.recurring.ModelRow.{ModelRow}
use Rattle.ofx_types.specs.declared.mail.MailRow.{MailRow}
use Rattle.bank_model.specs.Sound.{IsId, IsSoundAccount}
use Rattle.bank_model.specs.Stores.{Row, transfer_row, model_row, mail_row, id_of}
use Rattle.record_fields.specs.FieldCoding.{u64_bytes, i64_bytes, text_bytes, optional_bytes, moment_bytes, day_bytes, acct_bytes, recur_bytes, mail_bytes}
use Rattle.record_fields.specs.FieldReading.{◌>>=◌, choice_at, optional_at}
use Rattle.record_fields.specs.PartReading.{acct_at}
use Rattle.record_fields.specs.Fields.{IsBytes, IsCodedAt, IsField}
use Rattle.record_fields.proofs.Steps.{bind_ok, pass_ok, ok_is, joined, apart, step}
use Rattle.record_fields.proofs.NumberLaws.{u8_field, choice_field, optional_field}
use Rattle.record_fields.proofs.BoundedLaws.{u64_field, id_field, amount_field, moment_field, day_field}
use Rattle.record_fields.proofs.TextLaws.{nothing_holds}
use Rattle.record_fields.proofs.PartLaws.{acct_field, recur_field, mail_field, text32}
use Rattle.event_codec.proofs.SyncLaws.{same_offset}
use Rattle.client_store.specs.RowForm.{bound_after, may_follow, IsRising}
use Rattle.client_saved.specs.Bounds.{IsSoundTransfer, IsSoundModel, IsSoundMailRow, IsSoundRow}
use Rattle.client_saved.specs.Coding.{code_number, ids_bytes, terms_bytes, processing_bytes, transfer_bytes, model_bytes, mail_row_bytes, row_bytes, counted_bytes}
use Rattle.client_saved.specs.Reading.{rising_id_at, transfer_codes, transfer_at, model_at, mail_row_at, row_kind, row_of, row_at, rows_from, rows_at}

-- ---- ids that rise

rising_id_field : (bound first : ℕ) → IsField (rising_id_at bound first) u64_bytes (λ id. IsId id × (bound ≤ id))
unfolding rising_id_at
rising_id_field bound first = record {
  holds = λ rec at found bytes le e.
      let s = step id_field rec at _ found bytes le e in
      let g = pass_ok (leb bound s.value) first (Ok (s.value, s.next)) found s.rest in
      subst (λ (f : ℕ × ℕ). IsCodedAt rec at (u64_bytes f.0) f.1 × (IsId f.0 × (bound ≤ f.0))) (ok_is (s.value, s.next) found g.1) (s.holds, (s.fits, leb-true _ _ g.0));
  again = λ rec at id next le p fits.
      let rises : leb bound id ≡ true = le-leb _ _ fits.1 in
      rw (id_field.again rec at id next le p fits.0, rises) refl;
}

-- ---- transfers

abbrev some_code : XferCode → Option XferCode
some_code x = Some x

code_is : (x y : XferCode) → some_code x ≡ some_code y → x ≡ y
code_is x y h = cc

code_back : (n : ℕ) (code : XferCode) → slice_get transfer_codes n ≡ Some code → code_number code ≡ n
code_back zero code h = ap code_number (sym (code_is Waiting code h))
code_back (suc zero) code h = ap code_number (sym (code_is Posted code h))
code_back (suc (suc zero)) code h = ap code_number (sym (code_is NoFunds code h))
code_back (suc (suc (suc zero))) code h = ap code_number (sym (code_is Cancelled code h))
code_back (suc (suc (suc (suc n)))) code h = absurd cc

code_there : (code : XferCode) → slice_get transfer_codes (code_number code) ≡ Some code
code_there Waiting = refl
code_there Posted = refl
code_there NoFunds = refl
code_there Cancelled = refl

code_small : (code : XferCode) → code_number code < 256
code_small Waiting = omega arith
code_small Posted = omega arith
code_small NoFunds = omega arith
code_small Cancelled = omega arith

code_field : IsField (choice_at transfer_codes) (λ code. code_number code ∷ []) (λ code. Unit {0})
code_field = choice_field transfer_codes code_number (record { there = code_there; back = code_back; small = code_small })

abbrev IsTransferFrom : ℕ → TransferRow → Type 0
IsTransferFrom bound row = IsSoundTransfer row × (bound ≤ row.id)

transfer_field : (bound first : ℕ) → IsField (transfer_at bound first) transfer_bytes (IsTransferFrom bound)
unfolding transfer_at transfer_bytes ids_bytes terms_bytes processing_bytes
transfer_field bound first = record {
  holds = λ rec at found bytes le e.
      let id = step (rising_id_field bound first) rec at _ found bytes le e in
      let model = step id_field rec id.next _ found bytes id.holds.within id.rest in
      let from = step acct_field rec model.next _ found bytes model.holds.within model.rest in
      let to = step acct_field rec from.next _ found bytes from.holds.within from.rest in
      let amount = step amount_field rec to.next _ found bytes to.holds.within to.rest in
      let due = step day_field rec amount.next _ found bytes amount.holds.within amount.rest in
      let code = step code_field rec due.next _ found bytes due.holds.within due.rest in
      let stamp = step moment_field rec code.next _ found bytes code.holds.within code.rest in
      let row : TransferRow = record { id = id.value; model = model.value; from = from.value; to = to.value; amount = amount.value; due = due.value; code = code.value; stamp = stamp.value } in
      let made : TransferRow × ℕ = (row, stamp.next) in
      let sound : IsSoundTransfer row = record { id = id.fits.0; model = model.fits; from = from.fits; to = to.fits; amount = amount.fits; due = due.fits; stamp = stamp.fits } in
      subst (λ (f : TransferRow × ℕ). IsCodedAt rec at (transfer_bytes f.0) f.1 × IsTransferFrom bound f.0) {x = made} (ok_is made found stamp.rest)
      (joined (joined (joined id.holds model.holds) (joined (joined (joined from.holds to.holds) amount.holds) due.holds)) (joined code.holds stamp.holds), (sound, id.fits.1));
  again = λ rec at row next le p fits.
      let terms : List ℕ = terms_bytes row.from row.to row.amount row.due in
      let g = apart rec at (u64_bytes row.id ++ u64_bytes row.model ++ terms) (processing_bytes row.code row.stamp) next le p in
      let h = apart rec g.mid (code_number row.code ∷ []) (moment_bytes row.stamp) next g.first.within g.second in
      let c = apart rec at (u64_bytes row.id ++ u64_bytes row.model) terms g.mid le g.first in
      let b = apart rec at (u64_bytes row.id) (u64_bytes row.model) c.mid le c.first in
      let f = apart rec c.mid (acct_bytes row.from ++ acct_bytes row.to ++ i64_bytes row.amount.0) (day_bytes row.due) g.mid c.first.within c.second in
      let e = apart rec c.mid (acct_bytes row.from ++ acct_bytes row.to) (i64_bytes row.amount.0) f.mid c.first.within f.first in
      let d = apart rec c.mid (acct_bytes row.from) (acct_bytes row.to) e.mid c.first.within e.first in
      rw (
        (rising_id_field bound first).again rec at row.id b.mid le b.first (fits.0.id, fits.1),
        id_field.again rec b.mid row.model c.mid b.first.within b.second fits.0.model,
        acct_field.again rec c.mid row.from d.mid c.first.within d.first fits.0.from,
        acct_field.again rec d.mid row.to e.mid d.first.within d.second fits.0.to,
        amount_field.again rec e.mid row.amount f.mid e.first.within e.second fits.0.amount,
        day_field.again rec f.mid row.due g.mid f.first.within f.second fits.0.due,
        code_field.again rec g.mid row.code h.mid g.first.within h.first tt,
        moment_field.again rec h.mid row.stamp next h.first.within h.second fits.0.stamp,
      ) refl;
}

-- ---- recurring transfers

abbrev IsModelFrom : ℕ → ModelRow → Type 0
IsModelFrom bound row = IsSoundModel row × (bound ≤ row.id)

model_field : (bound first : ℕ) → IsField (model_at bound first) model_bytes (IsModelFrom bound)
unfolding model_at model_bytes terms_bytes
model_field bound first = record {
  holds = λ rec at found bytes le e.
      let id = step (rising_id_field bound first) rec at _ found bytes le e in
      let recur = step recur_field rec id.next _ found bytes id.holds.within id.rest in
      let from = step acct_field rec recur.next _ found bytes recur.holds.within recur.rest in
      let to = step acct_field rec from.next _ found bytes from.holds.within from.rest in
      let amount = step amount_field rec to.next _ found bytes to.holds.within to.rest in
      let day = step day_field rec amount.next _ found bytes amount.holds.within amount.rest in
      let row : ModelRow = record { id = id.value; recur = recur.value; from = from.value; to = to.value; amount = amount.value; first = day.value } in
      let made : ModelRow × ℕ = (row, day.next) in
      let sound : IsSoundModel row = record { id = id.fits.0; recur = recur.fits; from = from.fits; to = to.fits; amount = amount.fits; first = day.fits } in
      subst (λ (f : ModelRow × ℕ). IsCodedAt rec at (model_bytes f.0) f.1 × IsModelFrom bound f.0) {x = made} (ok_is made found day.rest)
      (joined (joined id.holds recur.holds) (joined (joined (joined from.holds to.holds) amount.holds) day.holds), (sound, id.fits.1));
  again = λ rec at row next le p fits.
      let c = apart rec at (u64_bytes row.id ++ recur_bytes row.recur) (terms_bytes row.from row.to row.amount row.first) next le p in
      let b = apart rec at (u64_bytes row.id) (recur_bytes row.recur) c.mid le c.first in
      let f = apart rec c.mid (acct_bytes row.from ++ acct_bytes row.to ++ i64_bytes row.amount.0) (day_bytes row.first) next c.first.within c.second in
      let e = apart rec c.mid (acct_bytes row.from ++ acct_bytes row.to) (i64_bytes row.amount.0) f.mid c.first.within f.first in
      let d = apart rec c.mid (acct_bytes row.from) (acct_bytes row.to) e.mid c.first.within e.first in
      rw (
        (rising_id_field bound first).again rec at row.id b.mid le b.first (fits.0.id, fits.1),
        recur_field.again rec b.mid row.recur c.mid b.first.within b.second fits.0.recur,
        acct_field.again rec c.mid row.from d.mid c.first.within d.first fits.0.from,
        acct_field.again rec d.mid row.to e.mid d.first.within d.second fits.0.to,
        amount_field.again rec e.mid row.amount f.mid e.first.within e.second fits.0.amount,
        day_field.again rec f.mid row.first next f.first.within f.second fits.0.first,
      ) refl;
}

-- ---- mails

abbrev IsMaybeAccount : Option AcctName → Type 0
IsMaybeAccount about = IfSome about IsSoundAccount

about_field : IsField (optional_at acct_at) (optional_bytes acct_bytes) IsMaybeAccount
about_field = optional_field acct_field

mail_row_field : IsField mail_row_at mail_row_bytes IsSoundMailRow
unfolding mail_row_at mail_row_bytes
mail_row_field = record {
  holds = λ rec at found bytes le e.
      let about = step about_field rec at _ found bytes le e in
      let user = step text32 rec about.next _ found bytes about.holds.within about.rest in
      let mail = step mail_field rec user.next _ found bytes user.holds.within user.rest in
      let row : MailRow = record { about = about.value; user = user.value; mail = mail.value } in
      let made : MailRow × ℕ = (row, mail.next) in
      let sound : IsSoundMailRow row = record { about = about.fits; user = user.fits; mail = mail.fits } in
      subst (λ (f : MailRow × ℕ). IsCodedAt rec at (mail_row_bytes f.0) f.1 × IsSoundMailRow f.0) {x = made} (ok_is made found mail.rest)
      (joined (joined about.holds user.holds) mail.holds, sound);
  again = λ rec at row next le p fits.
      let c = apart rec at (optional_bytes acct_bytes row.about ++ text_bytes row.user) (mail_bytes row.mail) next le p in
      let b = apart rec at (optional_bytes acct_bytes row.about) (text_bytes row.user) c.mid le c.first in
      rw (
        about_field.again rec at row.about b.mid le b.first fits.about,
        text32.again rec b.mid row.user c.mid b.first.within b.second fits.user,
        mail_field.again rec c.mid row.mail next c.first.within c.second fits.mail,
      ) refl;
}

-- ---- rows of any kind

abbrev IsRowFrom : Family → ℕ → Row → Type 0
IsRowFrom family bound row = IsSoundRow row × (may_follow family bound row ≡ true)

record RowHolds (family : Family) (bound : ℕ) (rec : List ℕ) (at : ℕ) (found : Row × ℕ) : Type 0 where
  holds : IsCodedAt rec at (row_bytes found.0) found.1
  fits : IsRowFrom family bound found.0

mail_holds : (family : Family) (bound : ℕ) (rec : List ℕ) (at next : ℕ) (found : Row × ℕ) → IsBytes rec → ((row : MailRow) → may_follow family bound (mail_row row) ≡ true) → IsCodedAt rec at (3 ∷ []) next
    → (mail_row_at rec next >>= λ row. Ok (mail_row row.0, row.1)) ≡ Ok found → RowHolds family bound rec at found
unfolding row_bytes
mail_holds family bound rec at next found bytes follows lead e =
    let row = step mail_row_field rec next _ found bytes lead.within e in
    let made : Row × ℕ = (mail_row row.value, row.next) in
    subst (RowHolds family bound rec at) {x = made} (ok_is made found row.rest) (record { holds = joined lead row.holds; fits = (row.fits, follows row.value) })

row_of_holds : (family : Family) (bound : ℕ) (rec : List ℕ) (at next : ℕ) (found : Row × ℕ) → IsBytes rec → IsCodedAt rec at (row_kind family ∷ []) next → row_of family bound at rec next ≡ Ok found → RowHolds family bound rec at found
unfolding row_of row_bytes
row_of_holds families.Intra bound rec at next found bytes lead e =
    let row = step (transfer_field bound at) rec next _ found bytes lead.within e in
    let made : Row × ℕ = (transfer_row row.value, row.next) in
    let follows : leb bound row.value.id ≡ true = le-leb _ _ row.fits.1 in
    subst (RowHolds families.Intra bound rec at) {x = made} (ok_is made found row.rest) (record { holds = joined lead row.holds; fits = (row.fits.0, follows) })
row_of_holds families.RecIntra bound rec at next found bytes lead e =
    let row = step (model_field bound at) rec next _ found bytes lead.within e in
    let made : Row × ℕ = (model_row row.value, row.next) in
    let follows : leb bound row.value.id ≡ true = le-leb _ _ row.fits.1 in
    subst (RowHolds families.RecIntra bound rec at) {x = made} (ok_is made found row.rest) (record { holds = joined lead row.holds; fits = (row.fits.0, follows) })
row_of_holds families.BankMail bound rec at next found bytes lead e = mail_holds families.BankMail bound rec at next found bytes (λ row. refl) lead e
row_of_holds families.Mail bound rec at next found bytes lead e = mail_holds families.Mail bound rec at next found bytes (λ row. refl) lead e

row_again : (family : Family) (bound : ℕ) (rec : List ℕ) (at : ℕ) (row : Row) (next : ℕ) → at ≤ length rec → IsCodedAt rec at (row_bytes row) next → IsRowFrom family bound row → row_at family bound rec at ≡ Ok (row, next)
unfolding row_at row_of row_bytes
row_again families.Intra bound rec at (transfer_row row) next le p fits =
    let b = apart rec at (1 ∷ []) (transfer_bytes row) next le p in
    rw (u8_field.again rec at 1 b.mid le b.first (omega arith), (transfer_field bound at).again rec b.mid row next b.first.within b.second (fits.0, leb-true _ _ fits.1)) refl
row_again families.RecIntra bound rec at (model_row row) next le p fits =
    let b = apart rec at (2 ∷ []) (model_bytes row) next le p in
    rw (u8_field.again rec at 2 b.mid le b.first (omega arith), (model_field bound at).again rec b.mid row next b.first.within b.second (fits.0, leb-true _ _ fits.1)) refl
row_again families.BankMail bound rec at (mail_row row) next le p fits =
    let b = apart rec at (3 ∷ []) (mail_row_bytes row) next le p in
    rw (u8_field.again rec at 3 b.mid le b.first (omega arith), mail_row_field.again rec b.mid row next b.first.within b.second fits.0) refl
row_again families.Mail bound rec at (mail_row row) next le p fits =
    let b = apart rec at (3 ∷ []) (mail_row_bytes row) next le p in
    rw (u8_field.again rec at 3 b.mid le b.first (omega arith), mail_row_field.again rec b.mid row next b.first.within b.second fits.0) refl
row_again families.Intra bound rec at (model_row row) next le p fits = absurd cc
row_again families.Intra bound rec at (mail_row row) next le p fits = absurd cc
row_again families.RecIntra bound rec at (transfer_row row) next le p fits = absurd cc
row_again families.RecIntra bound rec at (mail_row row) next le p fits = absurd cc
row_again families.BankMail bound rec at (transfer_row row) next le p fits = absurd cc
row_again families.BankMail bound rec at (model_row row) next le p fits = absurd cc
row_again families.Mail bound rec at (transfer_row row) next le p fits = absurd cc
row_again families.Mail bound rec at (model_row row) next le p fits = absurd cc

row_field : (family : Family) (bound : ℕ) → IsField (row_at family bound) row_bytes (IsRowFrom family bound)
unfolding row_at
row_field family bound = record {
  holds = λ rec at found bytes le e.
      let s = step u8_field rec at _ found bytes le e in
      let g = pass_ok (nat_eq s.value (row_kind family)) at (row_of family bound at rec s.next) found s.rest in
      let lead : IsCodedAt rec at (row_kind family ∷ []) s.next = subst (λ (k : ℕ). IsCodedAt rec at (k ∷ []) s.next) (eqb-true _ _ g.0) s.holds in
      let row = row_of_holds family bound rec at s.next found bytes lead g.1 in
      (row.holds, row.fits);
  again = λ rec at row next le p fits. row_again family bound rec at row next le p fits;
}

-- ---- lists of rows

record RowsHold (n : ℕ) (family : Family) (bound : ℕ) (rec : List ℕ) (at : ℕ) (found : List Row × ℕ) : Type 0 where
  holds : IsCodedAt rec at (flat_map row_bytes found.0) found.1
  counted : length found.0 ≡ n
  sound : AllByRecursion IsSoundRow found.0
  rising : IsRising family bound found.0

rows_hold : (n : ℕ) (family : Family) (bound : ℕ) (rec : List ℕ) (at : ℕ) (found : List Row × ℕ) → IsBytes rec → at ≤ length rec → rows_from n family bound rec at ≡ Ok found → RowsHold n family bound rec at found
unfolding rows_from
rows_hold zero family bound rec at found bytes le e =
    let made : List Row × ℕ = ([], at) in
    subst (RowsHold zero family bound rec at) {x = made} (ok_is made found e) (record { holds = nothing_holds rec at le; counted = refl; sound = tt; rising = tt })
rows_hold (suc n) family bound rec at found bytes le e =
    let a = step (row_field family bound) rec at _ found bytes le e in
    let suffix : ℕ = bound_after bound (id_of a.value) in
    let b = bind_ok (rows_from n family suffix rec a.next) (λ others. Ok (a.value ∷ others.0, others.1)) found a.rest in
    let rest = rows_hold n family suffix rec a.next b.0 bytes a.holds.within b.1 in
    let made : List Row × ℕ = (a.value ∷ b.0.0, b.0.1) in
    let whole : IsCodedAt rec at (flat_map row_bytes (a.value ∷ b.0.0)) b.0.1 = subst (λ (t : List ℕ). IsCodedAt rec at t b.0.1) (sym (flat_map-cons row_bytes a.value b.0.0)) (joined a.holds rest.holds) in
    subst (RowsHold (suc n) family bound rec at) {x = made} (ok_is made found b.2) (record { holds = whole; counted = ap suc rest.counted; sound = (a.fits.0, rest.sound); rising = (a.fits.1, rest.rising) })

rows_again : (family : Family) (bound : ℕ) (rec : List ℕ) (at : ℕ) (rows : List Row) (next : ℕ) → at ≤ length rec → IsCodedAt rec at (flat_map row_bytes rows) next → AllByRecursion IsSoundRow rows → IsRising family bound rows → rows_from (length rows) family bound rec at ≡ Ok (rows, next)
unfolding rows_from
rows_again family bound rec at [] next le p sound rising = ap (λ (n : ℕ). Ok ([], n)) (sym (same_offset rec at next le p))
rows_again family bound rec at (row ∷ rows) next le p sound rising =
    let q : IsCodedAt rec at (row_bytes row ++ flat_map row_bytes rows) next = subst (λ (t : List ℕ). IsCodedAt rec at t next) (flat_map-cons row_bytes row rows) p in
    let a = apart rec at (row_bytes row) (flat_map row_bytes rows) next le q in
    rw ((row_field family bound).again rec at row a.mid le a.first (sound.0, rising.0), rows_again family (bound_after bound (id_of row)) rec a.mid rows next a.first.within a.second sound.1 rising.1) refl

pub record AreRows (family : Family) (rows : List Row) : Type 0 where
  pub few : length rows < 2 ^ 64
  pub sound : AllByRecursion IsSoundRow rows
  pub rising : IsRising family 0 rows

pub rows_field : (family : Family) → IsField (rows_at family) (counted_bytes row_bytes) (AreRows family)
unfolding rows_at
rows_field family = record {
  holds = λ rec at found bytes le e.
      let a = step u64_field rec at _ found bytes le e in
      let b = rows_hold a.value family 0 rec a.next found bytes a.holds.within a.rest in
      let head : IsCodedAt rec at (u64_bytes (length found.0)) a.next = subst (λ (n : ℕ). IsCodedAt rec at (u64_bytes n) a.next) (sym b.counted) a.holds in
      (joined head b.holds, record { few = subst (λ (n : ℕ). n < 2 ^ 64) (sym b.counted) a.fits; sound = b.sound; rising = b.rising });
  again = λ rec at rows next le p fits.
      let a = apart rec at (u64_bytes (length rows)) (flat_map row_bytes rows) next le p in
      rw (u64_field.again rec at (length rows) a.mid le a.first fits.few, rows_again family 0 rec a.mid rows next a.first.within a.second fits.sound fits.rising) refl;
}
