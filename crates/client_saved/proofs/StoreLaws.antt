-- Stores that are read are those that were written.
use Rattle.std.proofs.Common.{◌≡◌, ℕ, zero, suc, ◌<◌, ◌≤◌, ◌^◌, false, List, [], ◌∷◌, ◌++◌, length, Ok, refl, sym, ap, subst, append_assoc}
use Rattle.std.specs.List.{flat_map, AllByRecursion, IsDistinct}
use Rattle.std.proofs.lemmas.List.{append-nil}
use Rattle.std.proofs.lemmas.List.Concat.{flat_map-cons}
use Rattle.ofx_types.specs.SyncForm.{object_family}
use Rattle.ofx_types.specs.declared.sync.ObjectName.{ObjectName}
use Rattle.bank_model.specs.Sound.{IsSoundObject}
use Rattle.bank_model.specs.Stores.{Store}
use Rattle.bank_model.proofs.SetupParts.{distinct_push, distinct_prefix}
use Rattle.record_fields.specs.FieldCoding.{u64_bytes, flag_bytes}
use Rattle.record_fields.specs.Fields.{IsBytes, IsCodedAt, IsField}
use Rattle.record_fields.proofs.Steps.{bind_ok, guard_ok, ok_is, joined, apart, step}
use Rattle.record_fields.proofs.NumberLaws.{flag_field}
use Rattle.record_fields.proofs.BoundedLaws.{u64_field, id_field}
use Rattle.record_fields.proofs.TextLaws.{nothing_holds}
use Rattle.event_codec.specs.Coding.{object_bytes}
use Rattle.event_codec.proofs.SyncLaws.{plain_object_field, same_offset}
use Rattle.client_saved.specs.Bounds.{IsSoundStore, same_store, has_store, AreDistinct}
use Rattle.client_saved.specs.Coding.{row_bytes, store_bytes, counted_bytes}
use Rattle.client_saved.specs.Reading.{new_object_at, store_at, stores_from, stores_at}
use Rattle.client_saved.specs.SavedText.{IsCounted}
use Rattle.client_saved.proofs.RowLaws.{AreRows, rows_field}

-- ---- one store

abbrev IsNewObject : List Store → ObjectName → Type 0
IsNewObject before object = IsSoundObject object × (has_store object before ≡ false)

new_object_field : (before : List Store) → IsField (new_object_at before) object_bytes (IsNewObject before)
unfolding new_object_at
new_object_field before = record {
  holds = λ rec at found bytes le e.
      let s = step plain_object_field rec at _ found bytes le e in
      let g = guard_ok (has_store s.value before) at (Ok (s.value, s.next)) found s.rest in
      subst (λ (f : ObjectName × ℕ). IsCodedAt rec at (object_bytes f.0) f.1 × IsNewObject before f.0) (ok_is (s.value, s.next) found g.1) (s.holds, (s.fits, g.0));
  again = λ rec at object next le p fits. rw (plain_object_field.again rec at object next le p fits.0, fits.1) refl;
}

record IsNewStore (before : List Store) (store : Store) : Type 0 where
  sound : IsSoundStore store
  few : length store.rows < 2 ^ 64
  is_new : has_store store.name before ≡ false

store_field : (before : List Store) → IsField (store_at before) store_bytes (IsNewStore before)
unfolding store_at store_bytes
store_field before = record {
  holds = λ rec at found bytes le e.
      let object = step (new_object_field before) rec at _ found bytes le e in
      let token = step id_field rec object.next _ found bytes object.holds.within object.rest in
      let lost = step flag_field rec token.next _ found bytes token.holds.within token.rest in
      let rows = step (rows_field (object_family object.value)) rec lost.next _ found bytes lost.holds.within lost.rest in
      let store : Store = record { name = object.value; token = token.value; is_lost = lost.value; rows = rows.value } in
      let made : Store × ℕ = (store, rows.next) in
      let sound : IsSoundStore store = record { object = object.fits.0; token = token.fits; rows = rows.fits.sound; in_order = rows.fits.rising } in
      let fits : IsNewStore before store = record { sound = sound; few = rows.fits.few; is_new = object.fits.1 } in
      subst (λ (f : Store × ℕ). IsCodedAt rec at (store_bytes f.0) f.1 × IsNewStore before f.0) {x = made} (ok_is made found rows.rest)
      (joined (joined (joined object.holds token.holds) lost.holds) rows.holds, fits);
  again = λ rec at store next le p fits.
      let d = apart rec at (object_bytes store.name ++ u64_bytes store.token ++ flag_bytes store.is_lost) (counted_bytes row_bytes store.rows) next le p in
      let c = apart rec at (object_bytes store.name ++ u64_bytes store.token) (flag_bytes store.is_lost) d.mid le d.first in
      let b = apart rec at (object_bytes store.name) (u64_bytes store.token) c.mid le c.first in
      let rows : AreRows (object_family store.name) store.rows = record { few = fits.few; sound = fits.sound.rows; rising = fits.sound.in_order } in
      rw (
        (new_object_field before).again rec at store.name b.mid le b.first (fits.sound.object, fits.is_new),
        id_field.again rec b.mid store.token c.mid b.first.within b.second fits.sound.token,
        flag_field.again rec c.mid store.is_lost d.mid c.first.within c.second tt,
        (rows_field (object_family store.name)).again rec d.mid store.rows next d.first.within d.second rows,
      ) refl;
}

-- ---- lists of stores

abbrev IsFew : Store → Type 0
IsFew store = length store.rows < 2 ^ 64

record StoresHold (n : ℕ) (before : List Store) (rec : List ℕ) (at : ℕ) (found : List Store × ℕ) : Type 0 where
  holds : IsCodedAt rec at (flat_map store_bytes found.0) found.1
  counted : length found.0 ≡ n
  sound : AllByRecursion IsSoundStore found.0
  few : AllByRecursion IsFew found.0
  distinct : AreDistinct (before ++ found.0)

stores_hold : (n : ℕ) (before : List Store) (rec : List ℕ) (at : ℕ) (found : List Store × ℕ) → IsBytes rec → at ≤ length rec → AreDistinct before → stores_from n before rec at ≡ Ok found → StoresHold n before rec at found
unfolding stores_from
stores_hold zero before rec at found bytes le distinct e =
    let made : List Store × ℕ = ([], at) in
    subst (StoresHold zero before rec at) {x = made} (ok_is made found e)
    (record { holds = nothing_holds rec at le; counted = refl; sound = tt; few = tt; distinct = subst AreDistinct (sym (append-nil before)) distinct })
stores_hold (suc n) before rec at found bytes le distinct e =
    let a = step (store_field before) rec at _ found bytes le e in
    let b = bind_ok (stores_from n (before ++ a.value ∷ []) rec a.next) (λ others. Ok (a.value ∷ others.0, others.1)) found a.rest in
    let rest = stores_hold n (before ++ a.value ∷ []) rec a.next b.0 bytes a.holds.within (distinct_push same_store before a.value distinct a.fits.is_new) b.1 in
    let made : List Store × ℕ = (a.value ∷ b.0.0, b.0.1) in
    let whole : IsCodedAt rec at (flat_map store_bytes (a.value ∷ b.0.0)) b.0.1 = subst (λ (t : List ℕ). IsCodedAt rec at t b.0.1) (sym (flat_map-cons store_bytes a.value b.0.0)) (joined a.holds rest.holds) in
    subst (StoresHold (suc n) before rec at) {x = made} (ok_is made found b.2) (record {
      holds = whole;
      counted = ap suc rest.counted;
      sound = (a.fits.sound, rest.sound);
      few = (a.fits.few, rest.few);
      distinct = subst AreDistinct (append_assoc before (a.value ∷ []) b.0.0) rest.distinct;
    })

stores_again : (before : List Store) (rec : List ℕ) (at : ℕ) (stores : List Store) (next : ℕ) → at ≤ length rec → IsCodedAt rec at (flat_map store_bytes stores) next
    → AllByRecursion IsSoundStore stores → AllByRecursion IsFew stores → AreDistinct (before ++ stores) → stores_from (length stores) before rec at ≡ Ok (stores, next)
unfolding stores_from
stores_again before rec at [] next le p sound few distinct = ap (λ (n : ℕ). Ok ([], n)) (sym (same_offset rec at next le p))
stores_again before rec at (store ∷ stores) next le p sound few distinct =
    let q : IsCodedAt rec at (store_bytes store ++ flat_map store_bytes stores) next = subst (λ (t : List ℕ). IsCodedAt rec at t next) (flat_map-cons store_bytes store stores) p in
    let a = apart rec at (store_bytes store) (flat_map store_bytes stores) next le q in
    let fits : IsNewStore before store = record { sound = sound.0; few = few.0; is_new = distinct_prefix same_store before store stores distinct } in
    let others : AreDistinct ((before ++ store ∷ []) ++ stores) = subst AreDistinct (sym (append_assoc before (store ∷ []) stores)) distinct in
    rw ((store_field before).again rec at store a.mid le a.first fits, stores_again (before ++ store ∷ []) rec a.mid stores next a.first.within a.second sound.1 few.1 others) refl

none_distinct : AreDistinct []
unfolding IsDistinct
none_distinct = tt

pub record AreStores (stores : List Store) : Type 0 where
  pub counted : IsCounted stores
  pub sound : AllByRecursion IsSoundStore stores
  pub distinct : AreDistinct stores

pub stores_field : IsField stores_at (counted_bytes store_bytes) AreStores
unfolding stores_at
stores_field = record {
  holds = λ rec at found bytes le e.
      let a = step u64_field rec at _ found bytes le e in
      let b = stores_hold a.value [] rec a.next found bytes a.holds.within none_distinct a.rest in
      let head : IsCodedAt rec at (u64_bytes (length found.0)) a.next = subst (λ (n : ℕ). IsCodedAt rec at (u64_bytes n) a.next) (sym b.counted) a.holds in
      let counted : IsCounted found.0 = record { stores = subst (λ (n : ℕ). n < 2 ^ 64) (sym b.counted) a.fits; rows = b.few } in
      (joined head b.holds, record { counted = counted; sound = b.sound; distinct = b.distinct });
  again = λ rec at stores next le p fits.
      let a = apart rec at (u64_bytes (length stores)) (flat_map store_bytes stores) next le p in
      rw (u64_field.again rec at (length stores) a.mid le a.first fits.counted.stores, stores_again [] rec a.mid stores next a.first.within a.second fits.sound fits.counted.rows fits.distinct) refl;
}
