-- Whole records: what is read is coded so, and what is coded so is read.
use Rattle.std.proofs.Common.{◌≡◌, ℕ, ◌^◌, ◌<◌, ◌≤◌, Bool, true, false, cond, nat_eq, leb, ◌&&◌, ◌||◌, List, [], ◌∷◌, ◌++◌, length, drop, Result, Ok, Err, refl, sym, ap, subst, ◌∙◌, ◌⊎◌, inl, inr, arith}
use Rattle.std.proofs.lemmas.Bool.{eqb-true, eqb-false, eq-eqb, leb-true, le-leb, and_parts}
use Rattle.std.proofs.lemmas.List.{append-nil, drop_all}
use Rattle.ofx_types.specs.Calendar.{IsMoment}
use Rattle.ofx_types.specs.declared.number.Moment.{Moment}
use Rattle.ofx_types.specs.declared.number.UserId.{UserId}
use Rattle.ofx_types.specs.declared.request.RequestFile.{RequestFile}
use Rattle.bank_model.specs.Sound.{IsVersion, IsSound, IsId, IsTextWithin}
use Rattle.bank_model.specs.declared.event.Event.{Event}
use Rattle.bank_model.specs.declared.event.Event.TheVariants.{File, Post, Spawn, Letter}
use Rattle.record_fields.specs.declared.fault.RecordFault.{RecordFault}
use Rattle.record_fields.specs.declared.fault.RecordFault.TheVariants as faults
use Rattle.record_fields.specs.FieldCoding.{u8_bytes, u16_bytes, u32_bytes, u64_bytes, i64_bytes, text_bytes, file_uid_bytes}
use Rattle.event_codec.specs.Coding.{asks_bytes, file_bytes, kind_of_event, event_bytes, coded}
use Rattle.event_codec.specs.Records.{IsWithinBounds, IsShort, IsTyped, Codes}
use Rattle.bank_model.specs.Events.{without_signon}
use Rattle.event_codec.specs.Reading.{version_at, file_event_at, post_at, spawn_at, letter_at, event_of, kind_at, after_version, located, record_read}
use Rattle.event_codec.specs.AskList.{AreAsks}
use Rattle.record_fields.specs.Fields.{IsBytes, IsCodedAt, IsField}
use Rattle.record_fields.proofs.Steps.{bind_ok, ok_is, pass_ok, fork, joined, apart, step}
use Rattle.record_fields.proofs.NumberLaws.{u8_field}
use Rattle.record_fields.proofs.BoundedLaws.{u16_field, u32_field, id_field, moment_field}
use Rattle.record_fields.proofs.TextLaws.{file_uid_field}
use Rattle.record_fields.proofs.PartLaws.{text64, text10000}
use Rattle.event_codec.proofs.AskLaws.{asks_field}

-- ---- the version of a file

either : (a b : Bool) → (a || b) ≡ true → (a ≡ true) ⊎ (b ≡ true)
either true b h = inl refl
either false b h = inr h

abbrev is_version : ℕ → Bool
is_version n = nat_eq n 102 || nat_eq n 103 || nat_eq n 151 || nat_eq n 160

version_is : (n : ℕ) → is_version n ≡ true → IsVersion n
version_is n h =
    elim (either (nat_eq n 102 || nat_eq n 103 || nat_eq n 151) (nat_eq n 160) h) [
      | inl a ↦ elim (either (nat_eq n 102 || nat_eq n 103) (nat_eq n 151) a) [
        | inl b ↦ elim (either (nat_eq n 102) (nat_eq n 103) b) [
          | inl c ↦ inl (eqb-true _ _ c)
          | inr c ↦ inr (inl (eqb-true _ _ c))
        ]
        | inr b ↦ inr (inr (inl (eqb-true _ _ b)))
      ]
      | inr a ↦ inr (inr (inr (eqb-true _ _ a)))
    ]

is_version-true : (n : ℕ) → IsVersion n → is_version n ≡ true
is_version-true n (inl h) = ap is_version h
is_version-true n (inr (inl h)) = ap is_version h
is_version-true n (inr (inr (inl h))) = ap is_version h
is_version-true n (inr (inr (inr h))) = ap is_version h

version_small : (n : ℕ) → IsVersion n → n < 2 ^ 16
version_small n (inl h) = omega arith
version_small n (inr (inl h)) = omega arith
version_small n (inr (inr (inl h))) = omega arith
version_small n (inr (inr (inr h))) = omega arith

pub version_field : IsField version_at u16_bytes IsVersion
unfolding version_at
version_field = record {
  holds = λ rec at found bytes le e.
      let s = step u16_field rec at _ found bytes le e in
      let g = pass_ok (is_version s.value) at (Ok (s.value, s.next)) found s.rest in
      subst (λ (f : ℕ × ℕ). IsCodedAt rec at (u16_bytes f.0) f.1 × IsVersion f.0) (ok_is (s.value, s.next) found g.1) (s.holds, version_is s.value g.0);
  again = λ rec at n next le p fits. rw (u16_field.again rec at n next le p (version_small n fits), is_version-true n fits) refl;
}

-- ---- events of each kind

-- An event is within its bounds and typed.
abbrev pub IsKeepable : Event → Type 0
IsKeepable (File user file) = IsShort user.0 × IsSound file
IsKeepable (Post id) = IsId id
IsKeepable (Spawn model offset) = IsId model × IsShort offset
IsKeepable (Letter user subject body) =
    IsShort user.0 × IsTextWithin 64 subject × IsTextWithin 10000 body

pub record EventHolds (kind : ℕ) (rec : List ℕ) (at : ℕ) (found : Event × ℕ) : Type 0 where
  pub holds : IsCodedAt rec at (event_bytes found.0) found.1
  pub keepable : IsKeepable found.0
  pub nameless : found.0 ≡ without_signon found.0
  pub is_kind : kind_of_event found.0 ≡ kind

file_holds : (rec : List ℕ) (at : ℕ) (found : Event × ℕ) → IsBytes rec → at ≤ length rec → file_event_at rec at ≡ Ok found → EventHolds 1 rec at found
unfolding file_event_at event_bytes file_bytes
file_holds rec at found bytes le e =
    let user = step u32_field rec at _ found bytes le e in
    let version = step version_field rec user.next _ found bytes user.holds.within user.rest in
    let older = step file_uid_field rec version.next _ found bytes version.holds.within version.rest in
    let newer = step file_uid_field rec older.next _ found bytes older.holds.within older.rest in
    let asks = step asks_field rec newer.next _ found bytes newer.holds.within newer.rest in
    let file : RequestFile = record { version = version.value; older = older.value; newer = newer.value; user = []; pass = []; asks = asks.value } in
    let by : UserId = record { 0 = user.value } in
    let made : Event × ℕ = (File by file, asks.next) in
    let sound : IsSound file = record { version = version.fits; older = older.fits; newer = newer.fits; few = asks.fits.few; bank_first = asks.fits.bank_first; asks = asks.fits.sound } in
    let whole : EventHolds 1 rec at made = record {
      holds = joined user.holds (joined (joined (joined version.holds older.holds) newer.holds) asks.holds);
      keepable = (user.fits, sound);
      nameless = refl;
      is_kind = refl;
    } in
    subst (EventHolds 1 rec at) {x = made} (ok_is made found asks.rest) whole

post_holds : (rec : List ℕ) (at : ℕ) (found : Event × ℕ) → IsBytes rec → at ≤ length rec → post_at rec at ≡ Ok found → EventHolds 2 rec at found
unfolding post_at event_bytes
post_holds rec at found bytes le e =
    let id = step id_field rec at _ found bytes le e in
    let made : Event × ℕ = (Post id.value, id.next) in
    subst (EventHolds 2 rec at) {x = made} (ok_is made found id.rest) (record { holds = id.holds; keepable = id.fits; nameless = refl; is_kind = refl })

spawn_holds : (rec : List ℕ) (at : ℕ) (found : Event × ℕ) → IsBytes rec → at ≤ length rec → spawn_at rec at ≡ Ok found → EventHolds 3 rec at found
unfolding spawn_at event_bytes
spawn_holds rec at found bytes le e =
    let model = step id_field rec at _ found bytes le e in
    let offset = step u32_field rec model.next _ found bytes model.holds.within model.rest in
    let made : Event × ℕ = (Spawn model.value offset.value, offset.next) in
    subst (EventHolds 3 rec at) {x = made} (ok_is made found offset.rest) (record { holds = joined model.holds offset.holds; keepable = (model.fits, offset.fits); nameless = refl; is_kind = refl })

letter_holds : (rec : List ℕ) (at : ℕ) (found : Event × ℕ) → IsBytes rec → at ≤ length rec → letter_at rec at ≡ Ok found → EventHolds 4 rec at found
unfolding letter_at event_bytes
letter_holds rec at found bytes le e =
    let user = step u32_field rec at _ found bytes le e in
    let subject = step text64 rec user.next _ found bytes user.holds.within user.rest in
    let body = step text10000 rec subject.next _ found bytes subject.holds.within subject.rest in
    let by : UserId = record { 0 = user.value } in
    let made : Event × ℕ = (Letter by subject.value body.value, body.next) in
    let whole : EventHolds 4 rec at made = record {
      holds = joined (joined user.holds subject.holds) body.holds;
      keepable = (user.fits, subject.fits, body.fits);
      nameless = refl;
      is_kind = refl;
    } in
    subst (EventHolds 4 rec at) {x = made} (ok_is made found body.rest) whole

numbered : (kind k : ℕ) (rec : List ℕ) (at : ℕ) (found : Event × ℕ) → kind ≡ k → EventHolds k rec at found → EventHolds kind rec at found
numbered kind k rec at found h d = record { holds = d.holds; keepable = d.keepable; nameless = d.nameless; is_kind = d.is_kind ∙ sym h }

other : (kind k : ℕ) → nat_eq kind k ≡ false → kind ≡ k → ⊥
other kind k h same = eqb-false kind k h same

event_holds : (kind : ℕ) (rec : List ℕ) (at : ℕ) (found : Event × ℕ) → IsBytes rec → at ≤ length rec → 1 ≤ kind → kind ≤ 4 → event_of kind rec at ≡ Ok found → EventHolds kind rec at found
unfolding event_of
event_holds kind rec at found bytes le low high e =
    fork (nat_eq kind 1) e (λ h e. numbered kind 1 rec at found (eqb-true _ _ h) (file_holds rec at found bytes le e)) (λ not1 e.
    fork (nat_eq kind 2) e (λ h e. numbered kind 2 rec at found (eqb-true _ _ h) (post_holds rec at found bytes le e)) (λ not2 e.
    fork (nat_eq kind 3) e (λ h e. numbered kind 3 rec at found (eqb-true _ _ h) (spawn_holds rec at found bytes le e)) (λ not3 e.
    let is4 : kind ≡ 4 = omega (arith, other kind 1 not1, other kind 2 not2, other kind 3 not3) in
    numbered kind 4 rec at found is4 (letter_holds rec at found bytes le e))))

pub event_again : (rec : List ℕ) (at : ℕ) (event : Event) (next : ℕ) → at ≤ length rec → IsCodedAt rec at (event_bytes event) next → IsKeepable event → event_of (kind_of_event event) rec at ≡ Ok (without_signon event, next)
unfolding event_of event_bytes file_bytes file_event_at post_at spawn_at letter_at
event_again rec at (File user file) next le p fits =
    let u = apart rec at (u32_bytes user.0) (u16_bytes file.version ++ file_uid_bytes file.older ++ file_uid_bytes file.newer ++ asks_bytes file.asks) next le p in
    let a = apart rec u.mid (u16_bytes file.version ++ file_uid_bytes file.older ++ file_uid_bytes file.newer) (asks_bytes file.asks) next u.first.within u.second in
    let n = apart rec u.mid (u16_bytes file.version ++ file_uid_bytes file.older) (file_uid_bytes file.newer) a.mid u.first.within a.first in
    let o = apart rec u.mid (u16_bytes file.version) (file_uid_bytes file.older) n.mid u.first.within n.first in
    let asks : AreAsks file.asks = record { few = fits.1.few; bank_first = fits.1.bank_first; sound = fits.1.asks } in
    rw (
      u32_field.again rec at user.0 u.mid le u.first fits.0,
      version_field.again rec u.mid file.version o.mid u.first.within o.first fits.1.version,
      file_uid_field.again rec o.mid file.older n.mid o.first.within o.second fits.1.older,
      file_uid_field.again rec n.mid file.newer a.mid n.first.within n.second fits.1.newer,
      asks_field.again rec a.mid file.asks next a.first.within a.second asks,
    ) refl
event_again rec at (Post id) next le p fits = rw (id_field.again rec at id next le p fits) refl
event_again rec at (Spawn model offset) next le p fits =
    let a = apart rec at (u64_bytes model) (u32_bytes offset) next le p in
    rw (id_field.again rec at model a.mid le a.first fits.0, u32_field.again rec a.mid offset next a.first.within a.second fits.1) refl
event_again rec at (Letter user subject body) next le p fits =
    let b = apart rec at (u32_bytes user.0 ++ text_bytes subject) (text_bytes body) next le p in
    let s = apart rec at (u32_bytes user.0) (text_bytes subject) b.mid le b.first in
    rw (
      u32_field.again rec at user.0 s.mid le s.first fits.0,
      text64.again rec s.mid subject b.mid s.first.within s.second fits.1,
      text10000.again rec b.mid body next b.first.within b.second fits.2,
    ) refl

-- ---- what follows the version

kind_field : IsField kind_at u8_bytes (λ kind. (1 ≤ kind) × (kind ≤ 4))
unfolding kind_at
kind_field = record {
  holds = λ rec at found bytes le e.
      let s = step u8_field rec at _ found bytes le e in
      let g = pass_ok (leb 1 s.value && leb s.value 4) at (Ok (s.value, s.next)) found s.rest in
      let b = and_parts (leb 1 s.value) (leb s.value 4) g.0 in
      let low : 1 ≤ s.value = leb-true _ _ b.0 in
      let high : s.value ≤ 4 = leb-true _ _ b.1 in
      subst (λ (f : ℕ × ℕ). IsCodedAt rec at (u8_bytes f.0) f.1 × ((1 ≤ f.0) × (f.0 ≤ 4))) (ok_is (s.value, s.next) found g.1) (s.holds, (low, high));
  again = λ rec at n next le p fits.
      let low : leb 1 n ≡ true = le-leb _ _ fits.0 in
      let high : leb n 4 ≡ true = le-leb _ _ fits.1 in
      rw (u8_field.again rec at n next le p (omega (arith, fits.1)), low, high) refl;
}

-- what a record holds after its version
pub record Holds (rec : List ℕ) (found : Event × Moment) : Type 0 where
  pub holds : IsCodedAt rec 1 (kind_of_event found.0 ∷ i64_bytes found.1.0 ++ event_bytes found.0) (length rec)
  pub moment : IsMoment found.1.0
  pub keepable : IsKeepable found.0
  pub nameless : found.0 ≡ without_signon found.0

after_holds : (rec : List ℕ) (found : Event × Moment) → IsBytes rec → 1 ≤ length rec → after_version rec ≡ Ok found → Holds rec found
unfolding after_version
after_holds rec found bytes le e =
    let kind = step kind_field rec 1 _ found bytes le e in
    let at = step moment_field rec kind.next _ found bytes kind.holds.within kind.rest in
    let b = bind_ok (event_of kind.value rec at.next) (λ event. cond (nat_eq event.1 (length rec)) (Ok (event.0, at.value)) (Err event.1)) found at.rest in
    let event = event_holds kind.value rec at.next b.0 bytes at.holds.within kind.fits.0 kind.fits.1 b.1 in
    let g = pass_ok (nat_eq b.0.1 (length rec)) b.0.1 (Ok (b.0.0, at.value)) found b.2 in
    let at_end : b.0.1 ≡ length rec = eqb-true _ _ g.0 in
    let made : Event × Moment = (b.0.0, at.value) in
    let head : IsCodedAt rec 1 (kind_of_event b.0.0 ∷ []) kind.next = subst (λ (k : ℕ). IsCodedAt rec 1 (k ∷ []) kind.next) (sym event.is_kind) kind.holds in
    let tail : IsCodedAt rec at.next (event_bytes b.0.0) (length rec) = subst (IsCodedAt rec at.next (event_bytes b.0.0)) at_end event.holds in
    let whole : Holds rec made = record { holds = joined (joined head at.holds) tail; moment = at.fits; keepable = event.keepable; nameless = event.nameless } in
    subst (Holds rec) {x = made} (ok_is made found g.1) whole

kind_within : (event : Event) → (1 ≤ kind_of_event event) × (kind_of_event event ≤ 4)
kind_within (File user file) = (omega arith, omega arith)
kind_within (Post id) = (omega arith, omega arith)
kind_within (Spawn model offset) = (omega arith, omega arith)
kind_within (Letter user subject body) = (omega arith, omega arith)

after_again : (rec : List ℕ) (at : Moment) (event : Event) → 1 ≤ length rec → IsCodedAt rec 1 (kind_of_event event ∷ i64_bytes at.0 ++ event_bytes event) (length rec) → IsMoment at.0 → IsKeepable event → after_version rec ≡ Ok (without_signon event, at)
unfolding after_version
after_again rec at event le p moment keepable =
    let e = apart rec 1 (kind_of_event event ∷ i64_bytes at.0) (event_bytes event) (length rec) le p in
    let m = apart rec 1 (kind_of_event event ∷ []) (i64_bytes at.0) e.mid le e.first in
    let at_end : nat_eq (length rec) (length rec) ≡ true = eq-eqb _ _ refl in
    rw (
      kind_field.again rec 1 (kind_of_event event) m.mid le m.first (kind_within event),
      moment_field.again rec m.mid at e.mid m.first.within m.second moment,
      event_again rec e.mid event (length rec) e.first.within e.second keepable,
      at_end,
    ) refl

-- ---- whole records

passed : {A : Type 0} (b : Bool) (fault : RecordFault) (r : Result A RecordFault) (y : A) → cond b r (Err fault) ≡ Ok y → (b ≡ true) × (r ≡ Ok y)
passed true fault r y e = (refl, e)
passed false fault r y e = absurd cc

unplaced : {A : Type 0} (r : Result A ℕ) (y : A) → located r ≡ Ok y → r ≡ Ok y
unplaced (Ok x) y e = cc
unplaced (Err offset) y e = absurd cc

-- nothing comes after the end
end_is : (rec : List ℕ) → drop (length rec) rec ≡ []
end_is rec = drop_all (length rec) rec (omega arith)

within_of : (event : Event) → IsKeepable event → IsWithinBounds event
within_of (File user file) k = k.1
within_of (Post id) k = k
within_of (Spawn model offset) k = k.0
within_of (Letter user subject body) k = (k.1, k.2)

typed_of : (event : Event) → IsKeepable event → IsTyped event
typed_of (File user file) k = k.0
typed_of (Post id) k = tt
typed_of (Spawn model offset) k = k.1
typed_of (Letter user subject body) k = k.0

keepable_of : (event : Event) → IsWithinBounds event → IsTyped event → IsKeepable event
keepable_of (File user file) within typed = (typed, within)
keepable_of (Post id) within typed = within
keepable_of (Spawn model offset) within typed = (within, typed)
keepable_of (Letter user subject body) within typed = (typed, within.0, within.1)

pub record_codes : (rec : List ℕ) (found : Event × Moment) → IsBytes rec → record_read rec ≡ Ok found → Codes rec found.1 found.0 × (found.0 ≡ without_signon found.0)
unfolding record_read coded
record_codes [] found bytes e = absurd cc
record_codes (version ∷ rest) found bytes e =
    let g = passed (nat_eq version 1) (faults.Version version) (located (after_version (version ∷ rest))) found e in
    let one : version ≡ 1 = eqb-true _ _ g.0 in
    let h = after_holds (version ∷ rest) found bytes (omega arith) (unplaced _ found g.1) in
    let tail : rest ≡ kind_of_event found.0 ∷ i64_bytes found.1.0 ++ event_bytes found.0 = h.holds.parts ∙ ap (λ (t : List ℕ). (kind_of_event found.0 ∷ i64_bytes found.1.0 ++ event_bytes found.0) ++ t) (end_is (version ∷ rest)) ∙ append-nil _ in
    (record { moment = h.moment; within = within_of found.0 h.keepable; typed = typed_of found.0 h.keepable; spelled = ap (λ (v : ℕ). v ∷ rest) one ∙ ap (λ (t : List ℕ). 1 ∷ t) tail }, h.nameless)

pub record_again : (rec : List ℕ) (at : Moment) (event : Event) → Codes rec at event → record_read rec ≡ Ok (without_signon event, at)
unfolding record_read coded
record_again rec at event codes =
    let suffix : List ℕ = kind_of_event event ∷ i64_bytes at.0 ++ event_bytes event in
    let whole : List ℕ = 1 ∷ suffix in
    let p : IsCodedAt whole 1 suffix (length whole) = record { parts = sym (append-nil suffix) ∙ ap (λ (t : List ℕ). suffix ++ t) (sym (end_is whole)); within = omega arith } in
    let read : record_read whole ≡ Ok (without_signon event, at) = ap located (after_again whole at event (omega arith) p codes.moment (keepable_of event codes.within codes.typed)) in
    ap record_read codes.spelled ∙ read
