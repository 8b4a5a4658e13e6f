-- A store that is right stays right while the history grows.
use Rattle.std.proofs.Common.{inl, inr, List, [], ◌++◌, sym, ◌∙◌, subst, arith}
use Rattle.ofx_types.specs.SyncForm.{object_family}
use Rattle.ofx_types.specs.declared.number.ObjectId.{ObjectId}
use Rattle.ofx_types.specs.declared.sync.ObjectName.{ObjectName}
use Rattle.bank_model.specs.declared.entry.Entry.{Entry}
use Rattle.bank_model.specs.declared.setup.Setup.{Setup}
use Rattle.bank_model.specs.declared.event.State.{State}
use Rattle.bank_model.specs.Stores.{Store, empty_store}
use Rattle.sync_laws.specs.Folding.{IsFolded}
use Rattle.sync_laws.specs.Histories.{AllFollow, IsInOrder, IsLater}
use Rattle.sync_laws.proofs.Numbers.{newest_few, newest_grows, rows_at_first, rows_stay}

pub empty_right : (setup : Setup) (S : State) (name : ObjectName) (object : ObjectId) → IsInOrder setup S → IsFolded (empty_store name) object S.entries
empty_right setup S name object sound = inr (omega arith, sym (rows_at_first setup (object_family name) object S.entries sound.follow))

right_longer : (setup : Setup) (store : Store) (object : ObjectId) (xs ys : List Entry) → AllFollow setup [] xs → AllFollow setup [] (xs ++ ys) → IsFolded store object xs → IsFolded store object (xs ++ ys)
right_longer setup store object xs ys all longer (inl lost) = inl lost
right_longer setup store object xs ys all longer (inr right) =
    let few = newest_few setup object xs all in
    let grows = newest_grows setup object xs ys longer few in
    let most = right.0 in
    inr (omega arith, right.1 ∙ rows_stay setup (object_family store.name) object store.token xs ys longer (omega arith))

pub stays_later : (setup : Setup) (S T : State) (store : Store) (object : ObjectId) → IsInOrder setup S → IsInOrder setup T → IsLater S T → IsFolded store object S.entries → IsFolded store object T.entries
stays_later setup S T store object sound next later right =
    subst (IsFolded store object) (sym later.1)
    (right_longer setup store object S.entries later.0 sound.follow (subst (AllFollow setup []) later.1 next.follow) right)
