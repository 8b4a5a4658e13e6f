-- Stores stay within their bounds and apart, whichever are made and whatever replies they take.
use Rattle.std.proofs.Common.{◌≡◌, ℕ, ◌^◌, ◌<◌, Bool, true, false, cond, List, [], ◌∷◌, ◌++◌, map, Option, None, Some, unwrap_or, refl, ap, ◌∙◌, arith}
use Rattle.std.specs.List.{AllByRecursion, find}
use Rattle.std.specs.Str.Parse.{digits_value}
use Rattle.ofx_types.specs.NumberReading.{number_at, is_number_within}
use Rattle.ofx_types.specs.SyncForm.{object_family}
use Rattle.ofx_types.specs.declared.sync.ObjectName.{ObjectName}
use Rattle.ofx_types.specs.declared.sync.SyncKind.{SyncKind}
use Rattle.ofx_types.specs.declared.sync.SyncKind.TheVariants.{After, TokenOnly, Refresh}
use Rattle.ofx_types.specs.declared.sync.SyncAsk.{SyncAsk}
use Rattle.ofx_types.specs.declared.sync.SyncReply.{SyncReply}
use Rattle.ofx_types.specs.declared.request.Ask.{Ask}
use Rattle.ofx_types.specs.declared.request.Ask.TheVariants as asks
use Rattle.ofx_types.specs.declared.reply.AskReply.{AskReply}
use Rattle.ofx_types.specs.declared.reply.AskReply.TheVariants as replies
use Rattle.ofx_types.proofs.Numbers.{digits_within}
use Rattle.bank_model.specs.Sound.{IsId, IsSoundObject, IsSoundAsk}
use Rattle.bank_model.specs.Sync.{token_of}
use Rattle.bank_model.specs.Stores.{Row, Store, taken, applied, with_rows, marked_lost, empty_store}
use Rattle.bank_model.proofs.SetupParts.{distinct_push}
use Rattle.client_saved.specs.Bounds.{IsSoundStore, AreDistinct, same_object, same_store, has_store}
use Rattle.client_core.specs.Objects.{is_of_object, store_under, with_store, with_stores}
use Rattle.client_core.specs.Accepting.{taken_by, stores_with, stores_after}
use Rattle.client_core.specs.ReportLines.{IsSoundDeedReply, IsSoundReply}
use Rattle.client_core.proofs.Lists.{all_find, distinct_map}
use Rattle.client_core.proofs.Rows.{AreRows, applied_rows}
use Rattle.bank_model.proofs.Lists.{all_append, all_map}
use Rattle.bank_model.proofs.TakenStores.{name_taken}

-- ---- the token of a reply

token_few : (text : List ℕ) → IsId (unwrap_or (token_of text) 0)
unfolding number_at
token_few text = by_test (is_number_within 10 text) (digits_within 10 text)
  where
    by_test : (b : Bool) → (b ≡ true → digits_value 10 text < 10 ^ 10) → IsId (unwrap_or (cond b (Some (digits_value 10 text)) None) 0)
    by_test true small = let least : digits_value 10 text < 10 ^ 10 = small refl in omega arith
    by_test false small = omega arith

-- ---- one store

rows_of : (store : Store) → IsSoundStore store → AreRows (object_family store.name) store.rows
rows_of store is = record { order = is.in_order; sound = is.rows }

no_rows : (object : ObjectName) → AreRows (object_family object) []
no_rows object = record { order = tt; sound = tt }

with_sound : (store : Store) (reply : SyncReply) (rows : List Row) → IsSoundStore store → AreRows (object_family store.name) rows
    → AllByRecursion IsSoundDeedReply reply.replies
    → IsSoundStore (with_rows store (unwrap_or (token_of reply.token) 0) (applied (object_family store.name) rows reply.replies))
with_sound store reply rows is are all =
    let new = applied_rows (object_family store.name) rows reply.replies all are in
    record { object = is.object; token = token_few reply.token; rows = new.sound; in_order = new.order }

lost_sound : (store : Store) → IsSoundStore store → IsSoundStore (marked_lost store)
lost_sound store is = record { object = is.object; token = is.token; rows = is.rows; in_order = is.in_order }

taken_sound : (store : Store) (kind : SyncKind) (reply : SyncReply) → IsSoundStore store → AllByRecursion IsSoundDeedReply reply.replies
    → IsSoundStore (taken store kind reply)
unfolding taken
taken_sound store TokenOnly reply is all = is
taken_sound store (After text) reply is all =
    elim reply.lost as (λ b. IsSoundStore (cond b (marked_lost store) (with_rows store (unwrap_or (token_of reply.token) 0) (applied (object_family store.name) store.rows reply.replies)))) [
      | true ↦ lost_sound store is
      | false ↦ with_sound store reply store.rows is (rows_of store is) all
    ]
taken_sound store Refresh reply is all =
    elim reply.lost as (λ b. IsSoundStore (cond b (marked_lost store) (with_rows store (unwrap_or (token_of reply.token) 0) (applied (object_family store.name) [] reply.replies)))) [
      | true ↦ lost_sound store is
      | false ↦ with_sound store reply [] is (no_rows store.name) all
    ]

-- ---- stores of which one takes a reply

pub record AreStores (stores : List Store) : Type 0 where
  pub sound : AllByRecursion IsSoundStore stores
  pub apart : AreDistinct stores

by_sound : (ask : SyncAsk) (reply : SyncReply) → AllByRecursion IsSoundDeedReply reply.replies → (store : Store) → IsSoundStore store
    → IsSoundStore (taken_by ask reply store)
by_sound ask reply all store is =
    elim (same_object store.name ask.object) as (λ b. IsSoundStore (cond b (taken store ask.kind reply) store)) [
      | true ↦ taken_sound store ask.kind reply is all
      | false ↦ is
    ]

by_name : (ask : SyncAsk) (reply : SyncReply) (store : Store) → (taken_by ask reply store).name ≡ store.name
by_name ask reply store =
    elim (same_object store.name ask.object) as (λ b. (cond b (taken store ask.kind reply) store).name ≡ store.name) [
      | true ↦ name_taken store ask.kind reply
      | false ↦ refl
    ]

by_same : (ask : SyncAsk) (reply : SyncReply) (a b : Store) → same_store (taken_by ask reply a) (taken_by ask reply b) ≡ same_store a b
by_same ask reply a b =
    ap (λ (name : ObjectName). same_object name (taken_by ask reply b).name) (by_name ask reply a)
    ∙ ap (same_object a.name) (by_name ask reply b)

each_sound : (ask : SyncAsk) (reply : SyncReply) (stores : List Store) → AllByRecursion IsSoundDeedReply reply.replies → AreStores stores
    → AreStores (map (taken_by ask reply) stores)
each_sound ask reply stores all are = record {
  sound = all_map IsSoundStore IsSoundStore (taken_by ask reply) stores (by_sound ask reply all) are.sound;
  apart = distinct_map same_store (taken_by ask reply) (by_same ask reply) stores are.apart;
}

-- ---- a store that isn't there is made

empty_sound : (object : ObjectName) → IsSoundObject object → IsSoundStore (empty_store object)
empty_sound object is = record { object = is; token = omega arith; rows = tt; in_order = tt }

pub store_more : (object : ObjectName) (stores : List Store) → IsSoundObject object → AreStores stores → AreStores (with_store object stores)
unfolding with_store
store_more object stores is are =
    (elim (has_store object stores) as (λ b. has_store object stores ≡ b → AreStores (cond b stores (stores ++ empty_store object ∷ []))) [
      | true ↦ (λ there. are)
      | false ↦ (λ new. record {
        sound = all_append IsSoundStore stores (empty_store object ∷ []) are.sound (empty_sound object is, tt);
        apart = distinct_push same_store stores (empty_store object) are.apart new;
      })
    ]) refl

pub stores_more : (objects : List ObjectName) (stores : List Store) → AllByRecursion IsSoundObject objects → AreStores stores → AreStores (with_stores objects stores)
stores_more [] stores all are = are
stores_more (object ∷ more) stores all are = stores_more more (with_store object stores) all.1 (store_more object stores all.0 are)

pub under_sound : (object : ObjectName) (stores : List Store) → IsSoundObject object → AllByRecursion IsSoundStore stores → IsSoundStore (store_under object stores)
under_sound object stores is all = by_found (find (is_of_object object) stores) refl
  where
    by_found : (found : Option Store) → find (is_of_object object) stores ≡ found → IsSoundStore (unwrap_or found (empty_store object))
    by_found None there = empty_sound object is
    by_found (Some store) there = all_find IsSoundStore (is_of_object object) stores store all there

-- ---- a whole reply

one_more : (ask : Ask) (reply : AskReply) (stores : List Store) → IsSoundAsk ask → IsSoundReply reply → AreStores stores → AreStores (stores_with ask reply stores)
one_more (asks.Sync ask) (replies.Sync reply) stores asked reported are =
    each_sound ask reply (with_store ask.object stores) reported (store_more ask.object stores asked.object are)
one_more (asks.Sync ask) (replies.Statement uid code body) stores asked reported are = are
one_more (asks.Sync ask) (replies.One reply) stores asked reported are = are
one_more (asks.Statement trnuid account period) reply stores asked reported are = are
one_more (asks.One trnuid deed) reply stores asked reported are = are

pub all_more : (asked : List Ask) (reported : List AskReply) (stores : List Store) → AllByRecursion IsSoundAsk asked → AllByRecursion IsSoundReply reported
    → AreStores stores → AreStores (stores_after asked reported stores)
all_more [] reported stores asks_sound replies_sound are = are
all_more (ask ∷ more) [] stores asks_sound replies_sound are = are
all_more (ask ∷ more) (reply ∷ others) stores asks_sound replies_sound are =
    all_more more others (stores_with ask reply stores) asks_sound.1 replies_sound.1 (one_more ask reply stores asks_sound.0 replies_sound.0 are)
