-- The file that is made for a wish is sound.
use Rattle.std.proofs.Common.{◌≡◌, ℕ, ◌+◌, ◌<◌, ◌≤◌, Bool, true, false, cond, not, List, [], ◌∷◌, ◌++◌, length, filter, codes, Option, None, Some, Result, Ok, Err, refl, sym, ap, ◌∙◌, subst, arith, inl, inr}
use Rattle.std.specs.Option.{IfSome, option_or}
use Rattle.std.specs.List.{AllByRecursion, find}
use Rattle.std.specs.Fmt.{decimal}
use Rattle.ofx_types.specs.Calendar.{IsMoment}
use Rattle.ofx_types.specs.DeedForm.{family_of}
use Rattle.ofx_types.specs.SyncForm.{object_family}
use Rattle.ofx_types.specs.PrintedFile.{is_mail_ask}
use Rattle.ofx_types.specs.TextRules.{IsText, IsFileUid}
use Rattle.ofx_types.specs.declared.account.AcctName.{AcctName}
use Rattle.ofx_types.specs.declared.number.Moment.{Moment}
use Rattle.ofx_types.specs.declared.number.Cents.{Cents}
use Rattle.ofx_types.specs.declared.number.Day.{Day}
use Rattle.ofx_types.specs.declared.transfer.TransferRow.{TransferRow}
use Rattle.ofx_types.specs.declared.recurring.ModelRow.{ModelRow}
use Rattle.ofx_types.specs.declared.transfer.Deed.{Deed}
use Rattle.ofx_types.specs.declared.sync.ObjectName.{ObjectName}
use Rattle.ofx_types.specs.declared.sync.ObjectName.TheVariants as objects
use Rattle.ofx_types.specs.declared.sync.SyncKind.TheVariants.{After, TokenOnly, Refresh}
use Rattle.ofx_types.specs.declared.request.Ask.{Ask}
use Rattle.ofx_types.specs.declared.request.Ask.TheVariants as asks
use Rattle.bank_model.specs.Sound.{IsTextWithin, IsSoundAccount, IsSoundObject, IsSoundKind, IsSoundSync, IsSoundAsk, IsSoundDeed, IsSoundPair, IsSound, IsId}
use Rattle.bank_model.specs.Stores.{Row, transfer_row, model_row, mail_row, has_id, Store}
use Rattle.client_saved.specs.declared.state.ClientState.{ClientState}
use Rattle.client_saved.specs.Bounds.{IsSoundState, IsSoundStore, IsSoundRow, IsSoundTransfer, IsSoundModel}
use Rattle.client_core.specs.declared.content.Content.{Content}
use Rattle.client_core.specs.declared.content.Content.TheVariants.{Look, Do}
use Rattle.client_core.specs.declared.fault.ClientFault.{ClientFault}
use Rattle.client_core.specs.declared.wish.Wish.{Wish}
use Rattle.client_core.specs.declared.wish.Wish.TheVariants as wishes
use Rattle.client_core.specs.Objects.{store_under}
use Rattle.client_core.specs.Wishes.{IsSoundWish, as_transfer, as_model, transfer_if, model_if, transfer_kept, model_kept, modifying, cancelling, stopping, content_of}
use Rattle.client_core.specs.Making.{kind_asked, sync_of, deed_name, looked_at, objects_of, asks_of, file_of}
use Rattle.client_core.proofs.Lists.{all_find}
use Rattle.client_core.proofs.Names.{token_within, file_is_uid, deed_is_uid}
use Rattle.client_core.proofs.SoundStores.{under_sound}

-- ---- what is asked

-- An errand is sound where what it names is, and its deed is of its object's family.
abbrev pub IsSoundContent : Content → Type 0
IsSoundContent (Look account) = IsSoundAccount account
IsSoundContent (Do object deed) = IsSoundObject object × (IsSoundDeed deed × (family_of deed ≡ object_family object))

abbrev pub IfSound : Result Content ClientFault → Type 0
IfSound (Ok content) = IsSoundContent content
IfSound (Err fault) = Unit {0}

as_transfer_sound : (row : Row) → IsSoundRow row → IfSome (as_transfer row) IsSoundTransfer
as_transfer_sound (transfer_row row) is = is
as_transfer_sound (model_row row) is = tt
as_transfer_sound (mail_row row) is = tt

as_model_sound : (row : Row) → IsSoundRow row → IfSome (as_model row) IsSoundModel
as_model_sound (transfer_row row) is = tt
as_model_sound (model_row row) is = is
as_model_sound (mail_row row) is = tt

transfer_if_sound : (id : ℕ) (store : Store) → IsSoundStore store → IfSome (transfer_if (find (has_id id) store.rows)) IsSoundTransfer
transfer_if_sound id store is = by_found (find (has_id id) store.rows) refl
  where
    by_found : (found : Option Row) → find (has_id id) store.rows ≡ found → IfSome (transfer_if found) IsSoundTransfer
    by_found None there = tt
    by_found (Some row) there = as_transfer_sound row (all_find IsSoundRow (has_id id) store.rows row is.rows there)

model_if_sound : (id : ℕ) (store : Store) → IsSoundStore store → IfSome (model_if (find (has_id id) store.rows)) IsSoundModel
model_if_sound id store is = by_found (find (has_id id) store.rows) refl
  where
    by_found : (found : Option Row) → find (has_id id) store.rows ≡ found → IfSome (model_if found) IsSoundModel
    by_found None there = tt
    by_found (Some row) there = as_model_sound row (all_find IsSoundRow (has_id id) store.rows row is.rows there)

either : {X : Type 0} (P : X → Type 0) (a b : Option X) → IfSome a P → IfSome b P → IfSome (option_or a b) P
either P None b first second = second
either P (Some x) b first second = first

transfer_sound : (id : ℕ) (stores : List Store) → AllByRecursion IsSoundStore stores → IfSome (transfer_kept id stores) IsSoundTransfer
transfer_sound id [] all = tt
transfer_sound id (store ∷ more) all =
    either IsSoundTransfer (transfer_if (find (has_id id) store.rows)) (transfer_kept id more) (transfer_if_sound id store all.0) (transfer_sound id more all.1)

model_sound : (id : ℕ) (stores : List Store) → AllByRecursion IsSoundStore stores → IfSome (model_kept id stores) IsSoundModel
model_sound id [] all = tt
model_sound id (store ∷ more) all =
    either IsSoundModel (model_if (find (has_id id) store.rows)) (model_kept id more) (model_if_sound id store all.0) (model_sound id more all.1)

modifying_sound : (id : ℕ) (to : AcctName) (amount : Cents) (due : Day) (row : Option TransferRow) → IsSoundWish (wishes.Modify id to amount due)
    → IfSome row IsSoundTransfer → IfSound (modifying id to amount due row)
modifying_sound id to amount due None wish is = tt
modifying_sound id to amount due (Some row) wish is =
    (is.from, ((wish.0, record { from = is.from; to = wish.1.0; amount = wish.1.1.0; due = wish.1.1.1 }), refl))

cancelling_sound : (id : ℕ) (row : Option TransferRow) → IsId id → IfSome row IsSoundTransfer → IfSound (cancelling id row)
cancelling_sound id None few is = tt
cancelling_sound id (Some row) few is = (is.from, (few, refl))

stopping_sound : (id : ℕ) (row : Option ModelRow) → IsId id → IfSome row IsSoundModel → IfSound (stopping id row)
stopping_sound id None few is = tt
stopping_sound id (Some row) few is = (is.from, (few, refl))

bank_within : IsTextWithin 32 (codes "BANK")
bank_within = record {
  is_text = record { is_trimmed = refl; is_clean = refl; is_short = omega arith };
  is_there = omega arith;
  is_within = omega arith;
}

pub content_sound : (client : ClientState) (wish : Wish) (at : Moment) → IsSoundState client → IsSoundWish wish → IsMoment at.0
    → IfSound (content_of client wish at)
unfolding content_of
content_sound client (wishes.Sync account) at is wish moment = wish
content_sound client (wishes.Transfer info) at is wish moment = (wish.from, (wish, refl))
content_sound client (wishes.Modify id to amount due) at is wish moment =
    modifying_sound id to amount due (transfer_kept id client.stores) wish (transfer_sound id client.stores is.stores)
content_sound client (wishes.Cancel id) at is wish moment =
    cancelling_sound id (transfer_kept id client.stores) wish (transfer_sound id client.stores is.stores)
content_sound client (wishes.Repeat recur info) at is wish moment = (wish.1.from, (wish, refl))
content_sound client (wishes.Stop id) at is wish moment =
    stopping_sound id (model_kept id client.stores) wish (model_sound id client.stores is.stores)
content_sound client (wishes.Mail subject body) at is wish moment = (
  tt,
  (
    record {
      created = moment;
      sender = is.user;
      target = bank_within;
      subject = wish.0;
      body = wish.1;
    },
    refl,
  ),
)
content_sound client (wishes.Check account) at is wish moment = absurd wish
content_sound client wishes.Show at is wish moment = absurd wish

-- ---- the file

kind_sound : (store : Store) → IsSoundStore store → IsSoundKind (kind_asked store)
kind_sound store is = elim store.is_lost as (λ b. IsSoundKind (cond b Refresh (After (decimal store.token)))) [
  | true ↦ tt
  | false ↦ token_within store.token is.token
]

sync_sound : (client : ClientState) (object : ObjectName) (deeds : List (List ℕ × Deed)) → IsSoundState client → IsSoundObject object
    → length deeds ≤ 65535 → AllByRecursion (IsSoundPair (object_family object)) deeds → IsSoundAsk (sync_of client object deeds)
sync_sound client object deeds is named few all = record {
  object = named;
  kind = kind_sound (store_under object client.stores) (under_sound object client.stores named is.stores);
  few = few;
  deeds = all;
}

-- what a file asks: few asks, each sound, and mail after all else
pub record AreAsks (asked : List Ask) : Type 0 where
  pub few : length asked ≤ 65535
  pub bank_first : asked ≡ filter (λ (ask : Ask). not (is_mail_ask ask)) asked ++ filter is_mail_ask asked
  pub sound : AllByRecursion IsSoundAsk asked

asks_sound : (client : ClientState) (content : Content) → IsSoundState client → IsSoundContent content → AreAsks (asks_of client content)
asks_sound client (Look account) is content = record {
  few = omega arith;
  bank_first = refl;
  sound = (
    (deed_is_uid client.name client.next 0 is.name is.next (omega arith), content, (tt, tt)),
    (
      sync_sound client (objects.Intra account) [] is content (omega arith) tt,
      (
        sync_sound client (objects.RecIntra account) [] is content (omega arith) tt,
        (
          sync_sound client (objects.BankMail account) [] is content (omega arith) tt,
          (sync_sound client objects.Mail [] is tt (omega arith) tt, tt),
        ),
      ),
    ),
  );
}
asks_sound client (Do object deed) is content = record {
  few = omega arith;
  bank_first = first object;
  sound = (
    sync_sound client object ((deed_name client.name client.next 1, deed) ∷ []) is content.0 (omega arith)
        ((deed_is_uid client.name client.next 1 is.name is.next (omega arith), content.1.0, content.1.1), tt),
    tt,
  );
}
  where
    first : (object : ObjectName) → asks_of client (Do object deed) ≡ filter (λ (ask : Ask). not (is_mail_ask ask)) (asks_of client (Do object deed)) ++ filter is_mail_ask (asks_of client (Do object deed))
    first (objects.Intra account) = refl
    first (objects.RecIntra account) = refl
    first (objects.BankMail account) = refl
    first objects.Mail = refl

pub file_sound : (client : ClientState) (content : Content) → IsSoundState client → IsSoundContent content → IsSound (file_of client content)
file_sound client content is named =
    let are = asks_sound client content is named in
    record {
      version = inr (inr (inr refl));
      older = is.done;
      newer = file_is_uid client.name client.next is.name is.next;
      few = are.few;
      bank_first = are.bank_first;
      asks = are.sound;
    }
