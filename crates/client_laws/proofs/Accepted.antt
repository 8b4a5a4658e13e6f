-- The stores of a client that takes the bank's reply to its outstanding file.
use Rattle.std.proofs.Common.{◌≡◌, inl, Bool, true, false, cond, ◌||◌, List, [], ◌∷◌, map, Option, None, Some, refl, sym, ap, subst, ◌∙◌}
use Rattle.std.specs.Fmt.{decimal}
use Rattle.std.specs.List.{All, AllByRecursion}
use Rattle.std.proofs.lemmas.Bool.{true≢false}
use Rattle.std.proofs.lemmas.List.Elements.{All-from_recursion, recursion_from_All}
use Rattle.ofx_types.specs.Wire.{wire_sync, wire_answer}
use Rattle.ofx_types.specs.declared.number.Moment.{Moment}
use Rattle.ofx_types.specs.declared.number.ObjectId.{ObjectId}
use Rattle.ofx_types.specs.declared.number.UserId.{UserId}
use Rattle.ofx_types.specs.declared.request.Ask.{Ask}
use Rattle.ofx_types.specs.declared.request.Ask.TheVariants as asks
use Rattle.ofx_types.specs.declared.request.RequestFile.{RequestFile}
use Rattle.ofx_types.specs.declared.sync.ObjectName.{ObjectName}
use Rattle.ofx_types.specs.declared.sync.SyncAsk.{SyncAsk}
use Rattle.ofx_types.specs.declared.sync.SyncKind.TheVariants.{After, Refresh}
use Rattle.ofx_types.specs.declared.sync.SyncReply.{SyncReply}
use Rattle.sync_laws.specs.Histories.{IsInOrder, IsLater}
use Rattle.sync_laws.specs.SyncRound.{store_after, bank_after}
use Rattle.sync_laws.proofs.Events.{grows_raised, grows_sync, grows_asks}
use Rattle.sync_laws.proofs.Named.{right_later, taken_by_token, taken_by_refresh, text_of_right}
use Rattle.sync_laws.proofs.Strangers.{stranger_after, stranger_refresh}
use Rattle.bank_model.specs.Objects.{object_named}
use Rattle.bank_model.specs.Rules.{raised, ask_answer, ask_answers, reply_file}
use Rattle.bank_model.specs.SetupForm.{IsWithinLimits}
use Rattle.bank_model.specs.Sound.{IsSoundAsk, IsSoundSync}
use Rattle.bank_model.specs.Stores.{Store, IsRight, marked_lost, taken}
use Rattle.bank_model.specs.Sync.{sync_answer}
use Rattle.bank_model.specs.declared.event.State.{State}
use Rattle.bank_model.specs.declared.setup.Setup.{Setup}
use Rattle.bank_model.proofs.Lists.{all_map}
use Rattle.bank_model.proofs.TakenStores.{name_taken}
use Rattle.client_core.specs.Accepting.{taken_by, stores_after}
use Rattle.client_core.specs.Making.{kind_asked}
use Rattle.client_core.specs.Objects.{with_store}
use Rattle.client_laws.specs.Answers.{bank_reply}
use Rattle.client_laws.specs.ClientStores.{is_about, AreApart, AsksAsKnown}
use Rattle.client_laws.proofs.Objects.{object_is}
use Rattle.client_saved.specs.Bounds.{same_object, has_store}

-- ---- one store

module _ (setup : Setup) (user : UserId) (at : Moment) (within : IsWithinLimits setup) where
  -- the state after the answer to a synchronisation
  order_after : (T : State) (ask : SyncAsk) → IsInOrder setup T → IsInOrder setup (bank_after setup T user at ask)
  order_after T ask order = (grows_sync setup T user at ask).order order

  later_after : (T : State) (ask : SyncAsk) → IsLater T (bank_after setup T user at ask)
  later_after T ask = (grows_sync setup T user at ask).later

  lost_is_right : (T : State) (ask : SyncAsk) (store : Store) → store_after setup T user at ask store ≡ marked_lost store
      → IsRight setup user (store_after setup T user at ask store) (bank_after setup T user at ask).entries
  lost_is_right T ask store is =
      subst (λ (s : Store). IsRight setup user s (bank_after setup T user at ask).entries) (sym is) (inl refl)

  -- The store of the object that is asked about takes the reply.
  taken_right : (T : State) (ask : SyncAsk) (store : Store) → IsInOrder setup T → IsSoundSync ask → store.name ≡ ask.object
      → ask.kind ≡ kind_asked store → IsRight setup user store T.entries
      → IsRight setup user (store_after setup T user at ask store) (bank_after setup T user at ask).entries
  taken_right T ask store order sound same kind right = by_mark store.is_lost refl (object_named setup user ask.object) refl
    where
      by_mark : (lost : Bool) → store.is_lost ≡ lost → (found : Option ObjectId) → object_named setup user ask.object ≡ found
          → IsRight setup user (store_after setup T user at ask store) (bank_after setup T user at ask).entries
      by_mark true is (Some object) known =
          let all : kind_asked store ≡ Refresh = rw is refl in
          taken_by_refresh setup T user at ask object store within order (order_after T ask order) sound known same (kind ∙ all)
      by_mark true is None unknown =
          let all : kind_asked store ≡ Refresh = rw is refl in
          lost_is_right T ask store (stranger_refresh setup T user at ask store unknown (kind ∙ all))
      by_mark false is (Some object) known =
          let from : kind_asked store ≡ After (decimal store.token) = rw is refl in
          taken_by_token setup T user at ask object store (decimal store.token) within order (order_after T ask order) sound known same (kind ∙ from)
          (text_of_right setup T user store within order is right) is right
      by_mark false is None unknown =
          let from : kind_asked store ≡ After (decimal store.token) = rw is refl in
          lost_is_right T ask store (stranger_after setup T user at ask store (decimal store.token) unknown (kind ∙ from))

  -- ---- all stores, of which one takes the reply to an ask

  each_right : (T : State) (ask : SyncAsk) (stores : List Store) → IsInOrder setup T → IsSoundSync ask
      → AllByRecursion (λ (store : Store). same_object store.name ask.object ≡ true → ask.kind ≡ kind_asked store) stores
      → AllByRecursion (λ (store : Store). IsRight setup user store T.entries) stores
      → AllByRecursion (λ (store : Store). IsRight setup user store (bank_after setup T user at ask).entries)
      (map (taken_by ask (wire_sync (sync_answer setup T user at ask).reply)) stores)
  each_right T ask [] order sound known right = tt
  each_right T ask (store ∷ more) order sound known right = (
    (elim (same_object store.name ask.object) as (λ b. same_object store.name ask.object ≡ b
        → IsRight setup user (cond b (taken store ask.kind (wire_sync (sync_answer setup T user at ask).reply)) store) (bank_after setup T user at ask).entries) [
          | true ↦ (λ is. taken_right T ask store order sound (object_is store.name ask.object is) (known.0 is) right.0)
          | false ↦ (λ is. right_later setup T (bank_after setup T user at ask) user store order (order_after T ask order) (later_after T ask) right.0)
        ]) refl,
    each_right T ask more order sound known.1 right.1,
  )

-- ---- what is known of the objects that are still to come

by_name : (ask : SyncAsk) (reply : SyncReply) (store : Store) → (taken_by ask reply store).name ≡ store.name
by_name ask reply store =
    elim (same_object store.name ask.object) as (λ b. (cond b (taken store ask.kind reply) store).name ≡ store.name) [
      | true ↦ name_taken store ask.kind reply
      | false ↦ refl
    ]

has_still : (ask : SyncAsk) (reply : SyncReply) (object : ObjectName) (stores : List Store)
    → has_store object (map (taken_by ask reply) stores) ≡ has_store object stores
has_still ask reply object [] = refl
has_still ask reply object (store ∷ more) =
    ap (λ (name : ObjectName). same_object name object || has_store object (map (taken_by ask reply) more)) (by_name ask reply store)
    ∙ ap (λ (b : Bool). same_object store.name object || b) (has_still ask reply object more)

-- a store of another object stays
other_stays : (ask : SyncAsk) (reply : SyncReply) (store : Store) → same_object store.name ask.object ≡ false → taken_by ask reply store ≡ store
other_stays ask reply store other = rw other refl

not_both : (ask : SyncAsk) (object : ObjectName) (store : Store) → same_object ask.object object ≡ false → same_object store.name object ≡ true
    → same_object store.name ask.object ≡ false
not_both ask object store apart is = by_test (same_object store.name ask.object) refl
  where
    by_test : (b : Bool) → same_object store.name ask.object ≡ b → b ≡ false
    by_test false here = refl
    by_test true here =
        absurd (true≢false (sym is ∙ ap (λ (name : ObjectName). same_object name object) (object_is store.name ask.object here) ∙ apart))

known_on : (ask : SyncAsk) (reply : SyncReply) (stores : List Store) (later : Ask) → is_about ask.object later ≡ false
    → AsksAsKnown stores later → AsksAsKnown (map (taken_by ask reply) stores) later
known_on ask reply stores (asks.Statement trnuid account period) apart known = tt
known_on ask reply stores (asks.One trnuid deed) apart known = known
known_on ask reply stores (asks.Sync later) apart known = (
  has_still ask reply later.object stores ∙ known.0,
  all_map (λ (store : Store). same_object store.name later.object ≡ true → later.kind ≡ kind_asked store)
      (λ (store : Store). same_object store.name later.object ≡ true → later.kind ≡ kind_asked store) (taken_by ask reply) stores
      (λ store kind is.
      let here : same_object store.name later.object ≡ true = sym (ap (λ (name : ObjectName). same_object name later.object) (by_name ask reply store)) ∙ is in
      kind here ∙ ap kind_asked (sym (other_stays ask reply store (not_both ask later.object store apart here)))) known.1,
)

known_all : (ask : SyncAsk) (reply : SyncReply) (stores : List Store) (more : List Ask)
    → AllByRecursion (λ (later : Ask). is_about ask.object later ≡ false) more → AllByRecursion (AsksAsKnown stores) more
    → AllByRecursion (AsksAsKnown (map (taken_by ask reply) stores)) more
known_all ask reply stores [] apart known = tt
known_all ask reply stores (later ∷ more) apart known =
    (known_on ask reply stores later apart.0 known.0, known_all ask reply stores more apart.1 known.1)

with_there : (object : ObjectName) (stores : List Store) → has_store object stores ≡ true → with_store object stores ≡ stores
unfolding with_store
with_there object stores there = rw there refl

-- ---- the replies to all asks

module _ (setup : Setup) (user : UserId) (at : Moment) (within : IsWithinLimits setup) where
  asks_right : (asks : List Ask) (T : State) (stores : List Store) → IsInOrder setup T → AllByRecursion IsSoundAsk asks
      → AllByRecursion (AsksAsKnown stores) asks → AreApart asks
      → AllByRecursion (λ (store : Store). IsRight setup user store T.entries) stores
      → AllByRecursion (λ (store : Store). IsRight setup user store (ask_answers setup T user at asks).after.entries)
      (stores_after asks (map wire_answer (ask_answers setup T user at asks).replies) stores)
  unfolding ask_answers ask_answer
  asks_right [] T stores order sound known apart right = right
  asks_right (asks.Statement trnuid account period ∷ more) T stores order sound known apart right =
      asks_right more T stores order sound.1 known.1 apart right
  asks_right (asks.One trnuid deed ∷ more) T stores order sound known apart right = absurd known.0
  asks_right (asks.Sync ask ∷ more) T stores order sound known apart right =
      let reply : SyncReply = wire_sync (sync_answer setup T user at ask).reply in
      let next : State = (sync_answer setup T user at ask).after in
      subst (λ (l : List Store). AllByRecursion (λ (store : Store). IsRight setup user store (ask_answers setup next user at more).after.entries)
      (stores_after more (map wire_answer (ask_answers setup next user at more).replies) (map (taken_by ask reply) l)))
      (sym (with_there ask.object stores known.0.0))
      (asks_right more next (map (taken_by ask reply) stores) (order_after setup user at within T ask order) sound.1
      (known_all ask reply stores more apart.0 known.1) apart.1
      (each_right setup user at within T ask stores order sound.0 known.0.1 right))

  -- A client's stores that were right when the bank answered its file are right after the reply, whatever has come since.
  pub replies_right : (before now : State) (file : RequestFile) (stores : List Store) → IsInOrder setup before → IsInOrder setup now
      → IsLater (ask_answers setup (raised before at) user at file.asks).after now → AllByRecursion IsSoundAsk file.asks
      → AllByRecursion (AsksAsKnown stores) file.asks → AreApart file.asks
      → All (λ (store : Store). IsRight setup user store before.entries) stores
      → All (λ (store : Store). IsRight setup user store now.entries)
      (stores_after file.asks (bank_reply setup before user at file).replies stores)
  unfolding reply_file
  replies_right before now file stores order order_now later sound known apart right =
      let day : IsInOrder setup (raised before at) = (grows_raised setup before at).order order in
      let rest : State = (ask_answers setup (raised before at) user at file.asks).after in
      let there = asks_right file.asks (raised before at) stores day sound known apart (recursion_from_All (λ (store : Store). IsRight setup user store before.entries) stores right) in
      let all = All-from_recursion (λ (store : Store). IsRight setup user store rest.entries) _ there in
      λ k d below. right_later setup rest now user _ ((grows_asks setup (raised before at) user at file.asks).order day) order_now later (all k d below)
