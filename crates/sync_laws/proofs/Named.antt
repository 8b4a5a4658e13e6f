-- A user's store is right just where it holds the rows that its client's own rule makes, and where its name has no object it is
-- empty.
use Rattle.std.proofs.Common.{◌≡◌, ℕ, ◌≤◌, nat_lt, inl, inr, false, List, Option, None, Some, refl, sym, ap, ◌∙◌, subst, arith}
use Rattle.std.specs.Fmt.{decimal}
use Rattle.std.proofs.lemmas.Bool.{true≢false}
use Rattle.ofx_types.specs.Wire.{wire_sync}
use Rattle.ofx_types.specs.SyncForm.{object_family}
use Rattle.ofx_types.specs.declared.number.ObjectId.{ObjectId}
use Rattle.ofx_types.specs.declared.number.UserId.{UserId}
use Rattle.ofx_types.specs.declared.number.Moment.{Moment}
use Rattle.ofx_types.specs.declared.sync.ObjectName.{ObjectName}
use Rattle.ofx_types.specs.declared.sync.SyncAsk.{SyncAsk}
use Rattle.ofx_types.specs.declared.sync.SyncKind.TheVariants.{After, Refresh}
use Rattle.bank_model.specs.declared.entry.Entry.{Entry}
use Rattle.bank_model.specs.declared.setup.Setup.{Setup}
use Rattle.bank_model.specs.declared.event.State.{State}
use Rattle.bank_model.specs.SetupForm.{IsWithinLimits}
use Rattle.bank_model.specs.Objects.{object_named, newest, floor}
use Rattle.bank_model.specs.Sound.{IsSoundSync}
use Rattle.bank_model.specs.Stores.{Store, IsRight, newest_under, rows_under, empty_store}
use Rattle.bank_model.specs.Sync.{token_of, sync_answer}
use Rattle.sync_laws.specs.Folding.{IsFolded}
use Rattle.sync_laws.specs.Histories.{IsInOrder, IsLater}
use Rattle.sync_laws.specs.SyncRound.{store_after, bank_after}
use Rattle.sync_laws.proofs.EnteredRows.{rows_said_of}
use Rattle.sync_laws.proofs.Events.{Grows}
use Rattle.sync_laws.proofs.Lost.{lost_below_floor}
use Rattle.sync_laws.proofs.Staying.{empty_right, stays_later}
use Rattle.sync_laws.proofs.Taking.{right_by_token, right_by_refresh, text_of_token}
use Rattle.sync_laws.proofs.Tokens.{token_read}
use Rattle.bank_model.proofs.TakenStores.{name_taken}

pub folded_from : (setup : Setup) (S : State) (user : UserId) (store : Store) (object : ObjectId) → IsInOrder setup S → object_named setup user store.name ≡ Some object → IsRight setup user store S.entries → IsFolded store object S.entries
folded_from setup S user store object sound named (inl lost) = inl lost
folded_from setup S user store object sound named (inr right) = inr (
  subst (λ (o : Option ObjectId). store.token ≤ newest_under o S.entries) named right.0,
  right.1 ∙ ap (λ (o : Option ObjectId). rows_under o store.token S.entries) named ∙ sym (rows_said_of setup S user store.name object store.token sound named),
)

pub right_from : (setup : Setup) (S : State) (user : UserId) (store : Store) (object : ObjectId) → IsInOrder setup S → object_named setup user store.name ≡ Some object → IsFolded store object S.entries → IsRight setup user store S.entries
right_from setup S user store object sound named (inl lost) = inl lost
right_from setup S user store object sound named (inr right) = inr (
  subst (λ (o : Option ObjectId). store.token ≤ newest_under o S.entries) (sym named) right.0,
  right.1 ∙ rows_said_of setup S user store.name object store.token sound named ∙ ap (λ (o : Option ObjectId). rows_under o store.token S.entries) (sym named),
)

-- where there is no object, entries make no difference
right_without : (setup : Setup) (user : UserId) (store : Store) (xs ys : List Entry) → object_named setup user store.name ≡ None → IsRight setup user store xs → IsRight setup user store ys
right_without setup user store xs ys none (inl lost) = inl lost
right_without setup user store xs ys none (inr right) =
    let few : newest_under (object_named setup user store.name) xs ≡ newest_under (object_named setup user store.name) ys =
    ap (λ (o : Option ObjectId). newest_under o xs) none ∙ sym (ap (λ (o : Option ObjectId). newest_under o ys) none) in
    let same : rows_under (object_named setup user store.name) store.token xs ≡ rows_under (object_named setup user store.name) store.token ys =
    ap (λ (o : Option ObjectId). rows_under o store.token xs) none ∙ sym (ap (λ (o : Option ObjectId). rows_under o store.token ys) none) in
    inr (subst (λ (n : ℕ). store.token ≤ n) few right.0, right.1 ∙ same)

-- ---- a store of which nothing is known yet

pub empty_is_right : (setup : Setup) (S : State) (user : UserId) (name : ObjectName) → IsInOrder setup S → IsRight setup user (empty_store name) S.entries
empty_is_right setup S user name sound = go (object_named setup user name) refl
  where
    go : (found : Option ObjectId) → object_named setup user name ≡ found → IsRight setup user (empty_store name) S.entries
    go None none = inr (omega arith, sym (ap (λ (o : Option ObjectId). rows_under o 0 S.entries) none))
    go (Some object) named = right_from setup S user (empty_store name) object sound named (empty_right setup S name object sound)

-- ---- what others do

pub right_later : (setup : Setup) (S T : State) (user : UserId) (store : Store) → IsInOrder setup S → IsInOrder setup T → IsLater S T → IsRight setup user store S.entries → IsRight setup user store T.entries
right_later setup S T user store sound next later right = go (object_named setup user store.name) refl
  where
    go : (found : Option ObjectId) → object_named setup user store.name ≡ found → IsRight setup user store T.entries
    go None none = right_without setup user store S.entries T.entries none right
    go (Some object) named =
        right_from setup T user store object next named (stays_later setup S T store object sound next later (folded_from setup S user store object sound named right))

pub right_grown : (setup : Setup) (S T : State) (user : UserId) (store : Store) → Grows setup S T → IsInOrder setup S → IsRight setup user store S.entries → IsRight setup user store T.entries
right_grown setup S T user store grows sound right = right_later setup S T user store sound (grows.order sound) grows.later right

-- ---- what its client takes

-- the digits of a store's token stand for it
pub text_of_right : (setup : Setup) (S : State) (user : UserId) (store : Store) → IsWithinLimits setup → IsInOrder setup S → store.is_lost ≡ false → IsRight setup user store S.entries → token_of (decimal store.token) ≡ Some store.token
text_of_right setup S user store within sound kept right = go (object_named setup user store.name) refl right
  where
    go : (found : Option ObjectId) → object_named setup user store.name ≡ found → IsRight setup user store S.entries → token_of (decimal store.token) ≡ Some store.token
    go None none (inl lost) = absurd (true≢false (sym lost ∙ kept))
    go None none (inr holds) =
        let low : store.token ≤ 0 = subst (λ (o : Option ObjectId). store.token ≤ newest_under o S.entries) none holds.0 in
        token_read store.token (omega (arith, low))
    go (Some object) named holds = text_of_token setup S object store within sound kept (folded_from setup S user store object sound named holds)

name_after : (setup : Setup) (S : State) (user : UserId) (at : Moment) (ask : SyncAsk) (store : Store) → (store_after setup S user at ask store).name ≡ store.name
name_after setup S user at ask store = name_taken store ask.kind (wire_sync (sync_answer setup S user at ask).reply)

-- the object of the ask is that of the store
named_store : (setup : Setup) (user : UserId) (ask : SyncAsk) (object : ObjectId) (store : Store) → object_named setup user ask.object ≡ Some object → store.name ≡ ask.object → object_named setup user store.name ≡ Some object
named_store setup user ask object store named same = ap (object_named setup user) same ∙ named

named_after : (setup : Setup) (S : State) (user : UserId) (at : Moment) (ask : SyncAsk) (object : ObjectId) (store : Store) → object_named setup user ask.object ≡ Some object → store.name ≡ ask.object → object_named setup user (store_after setup S user at ask store).name ≡ Some object
named_after setup S user at ask object store named same =
    ap (object_named setup user) (name_after setup S user at ask store) ∙ named_store setup user ask object store named same

pub taken_by_token : (setup : Setup) (S : State) (user : UserId) (at : Moment) (ask : SyncAsk) (object : ObjectId) (store : Store) (text : List ℕ) → IsWithinLimits setup → IsInOrder setup S → IsInOrder setup (bank_after setup S user at ask) → IsSoundSync ask → object_named setup user ask.object ≡ Some object → store.name ≡ ask.object → ask.kind ≡ After text → token_of text ≡ Some store.token → store.is_lost ≡ false → IsRight setup user store S.entries → IsRight setup user (store_after setup S user at ask store) (bank_after setup S user at ask).entries
taken_by_token setup S user at ask object store text within sound next known named same kind read kept right =
    right_from setup (bank_after setup S user at ask) user (store_after setup S user at ask store) object next (named_after setup S user at ask object store named same)
    (right_by_token setup S user at ask object store text within sound known named (ap object_family same) kind read kept
    (folded_from setup S user store object sound (named_store setup user ask object store named same) right))

pub taken_by_refresh : (setup : Setup) (S : State) (user : UserId) (at : Moment) (ask : SyncAsk) (object : ObjectId) (store : Store) → IsWithinLimits setup → IsInOrder setup S → IsInOrder setup (bank_after setup S user at ask) → IsSoundSync ask → object_named setup user ask.object ≡ Some object → store.name ≡ ask.object → ask.kind ≡ Refresh → IsRight setup user (store_after setup S user at ask store) (bank_after setup S user at ask).entries
taken_by_refresh setup S user at ask object store within sound next known named same kind =
    right_from setup (bank_after setup S user at ask) user (store_after setup S user at ask store) object next (named_after setup S user at ask object store named same)
    (right_by_refresh setup S user at ask object store within sound known named (ap object_family same) kind)

pub lost_below : (setup : Setup) (S : State) (user : UserId) (at : Moment) (ask : SyncAsk) (object : ObjectId) (store : Store) (text : List ℕ) → object_named setup user ask.object ≡ Some object → store.name ≡ ask.object → ask.kind ≡ After text → token_of text ≡ Some store.token → store.is_lost ≡ false → IsRight setup user store S.entries → (store_after setup S user at ask store).is_lost ≡ nat_lt store.token (floor setup.window object S.entries)
lost_below setup S user at ask object store text named same kind read kept right =
    lost_below_floor setup S user at ask object store text named kind read (low right)
  where
    low : IsRight setup user store S.entries → store.token ≤ newest object S.entries
    low (inl lost) = absurd (true≢false (sym lost ∙ kept))
    low (inr holds) = subst (λ (o : Option ObjectId). store.token ≤ newest_under o S.entries) (named_store setup user ask object store named same) holds.0
