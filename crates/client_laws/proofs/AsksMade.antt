-- The file that a client makes asks about each object by what is known of it.
use Rattle.std.proofs.Common.{◌≡◌, ℕ, Bool, true, false, cond, ◌||◌, List, [], ◌∷◌, ◌++◌, map, unwrap_or, Option, None, Some, refl, sym, ap, ◌∙◌}
use Rattle.std.specs.List.{AllByRecursion, IsDistinct, find}
use Rattle.std.specs.Option.{option_or}
use Rattle.std.proofs.lemmas.Bool.{true≢false}
use Rattle.std.proofs.lemmas.List.Folds.{find-append}
use Rattle.ofx_types.specs.declared.sync.ObjectName.{ObjectName}
use Rattle.ofx_types.specs.declared.transfer.Deed.{Deed}
use Rattle.sync_laws.specs.Histories.{IsInOrder}
use Rattle.sync_laws.proofs.Named.{empty_is_right}
use Rattle.bank_model.specs.Stores.{Store, IsRight, empty_store}
use Rattle.bank_model.specs.declared.event.State.{State}
use Rattle.bank_model.specs.declared.setup.Setup.{Setup}
use Rattle.ofx_types.specs.declared.number.UserId.{UserId}
use Rattle.bank_model.proofs.Lists.{all_append, all_map, all_step, all_both}
use Rattle.client_core.specs.Making.{deed_name, kind_asked, sync_of, looked_at, objects_of, asks_of}
use Rattle.client_core.specs.Objects.{is_of_object, store_under, with_store, with_stores}
use Rattle.client_core.specs.declared.content.Content.{Content}
use Rattle.client_core.specs.declared.content.Content.TheVariants.{Look, Do}
use Rattle.client_saved.specs.Bounds.{same_object, same_store, has_store, AreDistinct}
use Rattle.client_saved.specs.declared.state.ClientState.{ClientState}
use Rattle.client_laws.specs.ClientStores.{AreApart, AsksAsKnown}
use Rattle.client_laws.proofs.Objects.{object_is, object_itself}

-- ---- the one store of an object

under_first : (object : ObjectName) (store : Store) (more : List Store) → same_object store.name object ≡ true → store_under object (store ∷ more) ≡ store
under_first object store more is = rw is refl

under_rest : (object : ObjectName) (store : Store) (more : List Store) → same_object store.name object ≡ false → store_under object (store ∷ more) ≡ store_under object more
under_rest object store more other = rw other refl

-- what isn't the first's object
not_first : (object : ObjectName) (first store : Store) → same_store first store ≡ false → same_object store.name object ≡ true → same_object first.name object ≡ false
not_first object first store apart is = by_test (same_object first.name object) refl
  where
    by_test : (b : Bool) → same_object first.name object ≡ b → b ≡ false
    by_test false other = refl
    by_test true here = absurd (true≢false (
        sym (ap (same_object first.name) (object_is store.name object is) ∙ here) ∙ apart))

-- Among stores of distinct objects the one that is found under an object is the only one.
only_store : (object : ObjectName) (stores : List Store) → AreDistinct stores
    → AllByRecursion (λ (store : Store). same_object store.name object ≡ true → store_under object stores ≡ store) stores
unfolding IsDistinct
only_store object [] apart = tt
only_store object (first ∷ more) apart = (
  under_first object first more,
  all_both (λ (store : Store). same_store first store ≡ false) (λ (store : Store). same_object store.name object ≡ true → store_under object more ≡ store)
      (λ (store : Store). same_object store.name object ≡ true → store_under object (first ∷ more) ≡ store) more
      (λ store other found is. under_rest object first more (not_first object first store other is) ∙ found is)
      apart.0 (only_store object more apart.1),
)

-- ---- stores that are made

found_or : (object other : ObjectName) (found : Option Store) → unwrap_or (option_or found (cond (same_object other object) (Some (empty_store other)) None)) (empty_store object) ≡ unwrap_or found (empty_store object)
found_or object other (Some store) = refl
found_or object other None =
    (elim (same_object other object) as (λ b. same_object other object ≡ b → unwrap_or (cond b (Some (empty_store other)) None) (empty_store object) ≡ empty_store object) [
      | true ↦ (λ is. ap empty_store (object_is other object is))
      | false ↦ (λ is. refl)
    ]) refl

-- A store that is made knows nothing yet, as one that isn't there.
under_made : (object other : ObjectName) (stores : List Store) → store_under object (with_store other stores) ≡ store_under object stores
unfolding with_store
under_made object other stores =
    elim (has_store other stores) as (λ b. store_under object (cond b stores (stores ++ empty_store other ∷ [])) ≡ store_under object stores) [
      | true ↦ refl
      | false ↦ ap (λ (found : Option Store). unwrap_or found (empty_store object)) (find-append (is_of_object object) stores (empty_store other ∷ []))
          ∙ found_or object other (find (is_of_object object) stores)
    ]

under_all : (object : ObjectName) (objects : List ObjectName) (stores : List Store) → store_under object (with_stores objects stores) ≡ store_under object stores
under_all object [] stores = refl
under_all object (other ∷ more) stores = under_all object more (with_store other stores) ∙ under_made object other stores

has_last : (object : ObjectName) (stores : List Store) → has_store object (stores ++ empty_store object ∷ []) ≡ true
has_last object [] = rw (object_itself object) refl
has_last object (store ∷ more) = ap (λ (b : Bool). same_object store.name object || b) (has_last object more) ∙ or_true (same_object store.name object)
  where
    or_true : (b : Bool) → (b || true) ≡ true
    or_true true = refl
    or_true false = refl

has_prefix : (object : ObjectName) (stores more : List Store) → has_store object stores ≡ true → has_store object (stores ++ more) ≡ true
has_prefix object [] more has = cc
has_prefix object (store ∷ stores) more has =
    (elim (same_object store.name object) as (λ b. (b || has_store object stores) ≡ true → (b || has_store object (stores ++ more)) ≡ true) [
      | true ↦ (λ is. refl)
      | false ↦ (λ is. has_prefix object stores more is)
    ]) has

has_here : (object : ObjectName) (stores : List Store) → has_store object (with_store object stores) ≡ true
unfolding with_store
has_here object stores =
    (elim (has_store object stores) as (λ b. has_store object stores ≡ b → has_store object (cond b stores (stores ++ empty_store object ∷ [])) ≡ true) [
      | true ↦ (λ is. is)
      | false ↦ (λ is. has_last object stores)
    ]) refl

has_more : (object other : ObjectName) (stores : List Store) → has_store object stores ≡ true → has_store object (with_store other stores) ≡ true
unfolding with_store
has_more object other stores has =
    elim (has_store other stores) as (λ b. has_store object (cond b stores (stores ++ empty_store other ∷ [])) ≡ true) [
      | true ↦ has
      | false ↦ has_prefix object stores (empty_store other ∷ []) has
    ]

has_all : (object : ObjectName) (objects : List ObjectName) (stores : List Store) → has_store object stores ≡ true → has_store object (with_stores objects stores) ≡ true
has_all object [] stores has = has
has_all object (other ∷ more) stores has = has_all object more (with_store other stores) (has_more object other stores has)

each_has : (objects : List ObjectName) (stores : List Store) → AllByRecursion (λ (object : ObjectName). has_store object (with_stores objects stores) ≡ true) objects
each_has [] stores = tt
each_has (object ∷ more) stores = (has_all object more (with_store object stores) (has_here object stores), each_has more (with_store object stores))

-- ---- the asks

module _ (client : ClientState) (objects : List ObjectName) (apart : AreDistinct (with_stores objects client.stores)) where
  sync_known : (deeds : List (List ℕ × Deed)) (object : ObjectName) → has_store object (with_stores objects client.stores) ≡ true
      → AsksAsKnown (with_stores objects client.stores) (sync_of client object deeds)
  sync_known deeds object has = (
    has,
    all_step (λ (store : Store). same_object store.name object ≡ true → store_under object (with_stores objects client.stores) ≡ store)
        (λ (store : Store). same_object store.name object ≡ true → kind_asked (store_under object client.stores) ≡ kind_asked store)
        (with_stores objects client.stores)
        (λ store found is. ap kind_asked (sym (under_all object objects client.stores) ∙ found is))
        (only_store object (with_stores objects client.stores) apart),
  )

  syncs_known : (names : List ObjectName) → AllByRecursion (λ (object : ObjectName). has_store object (with_stores objects client.stores) ≡ true) names
      → AllByRecursion (AsksAsKnown (with_stores objects client.stores)) (map (λ (object : ObjectName). sync_of client object []) names)
  syncs_known names has = all_map (λ (object : ObjectName). has_store object (with_stores objects client.stores) ≡ true)
      (AsksAsKnown (with_stores objects client.stores)) (λ (object : ObjectName). sync_of client object []) names (sync_known []) has

pub asks_known : (client : ClientState) (content : Content) → AreDistinct (with_stores (objects_of content) client.stores)
    → AllByRecursion (AsksAsKnown (with_stores (objects_of content) client.stores)) (asks_of client content)
asks_known client (Look account) apart =
    (tt, syncs_known client (looked_at account) apart (looked_at account) (each_has (looked_at account) client.stores))
asks_known client (Do object deed) apart =
    (sync_known client (object ∷ []) apart ((deed_name client.name client.next 1, deed) ∷ []) object (each_has (object ∷ []) client.stores).0, tt)

pub asks_apart : (client : ClientState) (content : Content) → AreApart (asks_of client content)
asks_apart client (Look account) = ((refl, (refl, (refl, tt))), ((refl, (refl, tt)), ((refl, tt), (tt, tt))))
asks_apart client (Do object deed) = (tt, tt)

-- ---- stores that are made are right

module _ (setup : Setup) (S : State) (user : UserId) (order : IsInOrder setup S) where
  right_made : (object : ObjectName) (stores : List Store) → AllByRecursion (λ (store : Store). IsRight setup user store S.entries) stores
      → AllByRecursion (λ (store : Store). IsRight setup user store S.entries) (with_store object stores)
  unfolding with_store
  right_made object stores right =
      elim (has_store object stores) as (λ b. AllByRecursion (λ (store : Store). IsRight setup user store S.entries) (cond b stores (stores ++ empty_store object ∷ []))) [
        | true ↦ right
        | false ↦ all_append (λ (store : Store). IsRight setup user store S.entries) stores (empty_store object ∷ []) right (empty_is_right setup S user object order, tt)
      ]

  pub right_with : (objects : List ObjectName) (stores : List Store) → AllByRecursion (λ (store : Store). IsRight setup user store S.entries) stores
      → AllByRecursion (λ (store : Store). IsRight setup user store S.entries) (with_stores objects stores)
  right_with [] stores right = right
  right_with (object ∷ more) stores right = right_with more (with_store object stores) (right_made object stores right)
