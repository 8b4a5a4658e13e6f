-- The rows of an object are those that its entries say.
use Rattle.std.proofs.Common.{◌≡◌, ℕ, ◌+◌, ◌<◌, ◌⊎◌, inl, inr, Bool, true, false, cond, nat_le, eqb, List, [], ◌∷◌, ◌++◌, length, length-append, filter, fold, Option, None, Some, refl, sym, ap, ◌∙◌, subst, arith}
use Rattle.std.specs.Prelude.{is_some}
use Rattle.std.specs.List.{AllByRecursion}
use Rattle.std.proofs.lemmas.Bool.{leb-false}
use Rattle.std.proofs.lemmas.List.Sums.{fold-append}
use Rattle.ofx_types.specs.SyncForm.{object_family}
use Rattle.ofx_types.specs.declared.account.AcctName.{AcctName}
use Rattle.ofx_types.specs.declared.number.ObjectId.{ObjectId}
use Rattle.ofx_types.specs.declared.number.UserId.{UserId}
use Rattle.ofx_types.specs.declared.transfer.Change.{Change}
use Rattle.ofx_types.specs.declared.transfer.Change.TheVariants.{NewTransfer, SetTransfer, DropTransfer, NewModel, SetModel, DropModel, NewMail}
use Rattle.ofx_types.specs.declared.transfer.Family.{Family}
use Rattle.ofx_types.specs.declared.transfer.Family.TheVariants as families
use Rattle.ofx_types.specs.declared.sync.ObjectName.{ObjectName}
use Rattle.bank_model.specs.declared.entry.Entry.{Entry}
use Rattle.bank_model.specs.declared.setup.Setup.{Setup}
use Rattle.bank_model.specs.declared.event.State.{State}
use Rattle.bank_model.specs.Objects.{belongs_to, object_named, history_of}
use Rattle.bank_model.specs.Stores.{Row, mail_row, changed, is_up_to, entered, rows_entered}
use Rattle.sync_laws.specs.Folding.{rows_up_to}
use Rattle.sync_laws.specs.ObjectFamilies.{IsObjectOf, mail_family}
use Rattle.sync_laws.specs.Histories.{Follows, AllFollow, IsInOrder}
use Rattle.sync_laws.proofs.Acts.{acted, ids_made, history_push}
use Rattle.sync_laws.proofs.Changes.{fold_entries}
use Rattle.sync_laws.proofs.Numbers.{follow_both, by_entries, none_up_to, rising_follow}
use Rattle.sync_laws.proofs.Rows.{looked}
use Rattle.sync_laws.proofs.Positions.{named_index}
use Rattle.sync_laws.proofs.Located.{family_in, follows_placed, all_placed, family_here, history_family}
use Rattle.sync_laws.proofs.TransferRows.{act_transfer, transfer_found, AreKnown, rows_push, known_none, known_more}

abbrev fold_entered : List Row → List Entry → List Row
fold_entered rows entries = fold (λ (held : List Row) (entry : Entry). entered held entry.change) rows entries

-- a mail is no transfer and no recurring transfer
abbrev IsMoney : Family → Type 0
IsMoney family = (family ≡ families.Intra) ⊎ (family ≡ families.RecIntra)

no_money : (about : Option AcctName) → IsMoney (mail_family about) → ⊥
no_money None (inl is) = cc
no_money None (inr is) = cc
no_money (Some about) (inl is) = cc
no_money (Some about) (inr is) = cc

-- ---- recurring transfers and mails

model_same : (rows : List Row) (change : Change) → family_in change ≡ families.RecIntra → changed families.RecIntra rows change ≡ entered rows change
unfolding changed entered
model_same rows (NewTransfer row) is = cc
model_same rows (SetTransfer row) is = cc
model_same rows (DropTransfer id) is = cc
model_same rows (NewModel row) is = refl
model_same rows (SetModel row also) is = refl
model_same rows (DropModel id also) is = refl
model_same rows (NewMail mail) is = absurd (no_money mail.about (inr is))

-- a mail about an account is told as such, any other as other mail
is_letter : (about : Option AcctName) → mail_family about ≡ families.BankMail → is_some about ≡ true
is_letter None is = cc
is_letter (Some about) is = refl

is_other : (about : Option AcctName) → mail_family about ≡ families.Mail → is_some about ≡ false
is_other None is = refl
is_other (Some about) is = cc

letter_same : (rows : List Row) (change : Change) → family_in change ≡ families.BankMail → changed families.BankMail rows change ≡ entered rows change
unfolding changed entered
letter_same rows (NewTransfer row) is = cc
letter_same rows (SetTransfer row) is = cc
letter_same rows (DropTransfer id) is = cc
letter_same rows (NewModel row) is = cc
letter_same rows (SetModel row also) is = cc
letter_same rows (DropModel id also) is = cc
letter_same rows (NewMail mail) is = ap (λ (b : Bool). cond b (rows ++ mail_row mail ∷ []) rows) (is_letter mail.about is)

mail_same : (rows : List Row) (change : Change) → family_in change ≡ families.Mail → changed families.Mail rows change ≡ entered rows change
unfolding changed entered
mail_same rows (NewTransfer row) is = cc
mail_same rows (SetTransfer row) is = cc
mail_same rows (DropTransfer id) is = cc
mail_same rows (NewModel row) is = cc
mail_same rows (SetModel row also) is = cc
mail_same rows (DropModel id also) is = cc
mail_same rows (NewMail mail) is = ap (λ (b : Bool). cond b rows (rows ++ mail_row mail ∷ [])) (is_other mail.about is)

abbrev AreOf : Family → List Entry → Type 0
AreOf family entries = AllByRecursion (λ (entry : Entry). family_in entry.change ≡ family) entries

fold_same : (family : Family) (rows : List Row) (entries : List Entry) → ((held : List Row) (change : Change) → family_in change ≡ family → changed family held change ≡ entered held change) → AreOf family entries → fold_entries family rows entries ≡ fold_entered rows entries
fold_same family rows [] same are = refl
fold_same family rows (entry ∷ entries) same are =
    fold_same family (changed family rows entry.change) entries same are.1
    ∙ ap (λ (held : List Row). fold_entered held entries) (same rows entry.change are.0)

-- ---- transfers

entered_acts : (rows : List Row) (change : Change) → family_in change ≡ families.Intra → entered rows change ≡ acted (act_transfer change) rows
unfolding entered
entered_acts rows (NewTransfer row) is = refl
entered_acts rows (SetTransfer row) is = refl
entered_acts rows (DropTransfer id) is = refl
entered_acts rows (NewModel row) is = cc
entered_acts rows (SetModel row also) is = cc
entered_acts rows (DropModel id also) is = cc
entered_acts rows (NewMail mail) is = absurd (no_money mail.about (inl is))

entered_more : (setup : Setup) (entries : List Entry) (entry : Entry) (object : ObjectId) → IsObjectOf setup families.Intra object.0 → AreKnown setup entries → AllFollow setup [] entries → Follows setup entries entry → fold_entered [] (history_of object entries) ≡ fold_entries families.Intra [] (history_of object entries) → fold_entered [] (history_of object (entries ++ entry ∷ [])) ≡ fold_entries families.Intra [] (history_of object (entries ++ entry ∷ []))
entered_more setup entries entry object index known all follows same =
    ap (fold_entered []) (history_push object entries entry)
    ∙ fold-append (λ (rows : List Row) (one : Entry). entered rows one.change) [] (history_of object entries) (cond (eqb entry.object.0 object.0) (entry ∷ []) [])
    ∙ ap (λ (rows : List Row). fold_entered rows (cond (eqb entry.object.0 object.0) (entry ∷ []) [])) (same ∙ known.rows object)
    ∙ by_object (eqb entry.object.0 object.0) refl
    ∙ sym (rows_push setup entries entry object known follows)
  where
    held : List Row
    held = looked (transfer_found entries) (ids_made act_transfer (history_of object entries))

    by_object : (own : Bool) → eqb entry.object.0 object.0 ≡ own → fold_entered held (cond own (entry ∷ []) []) ≡ cond own (acted (act_transfer entry.change) held) held
    by_object true is =
        entered_acts held entry.change (family_here setup families.Intra object entry index (follows_placed setup entries entry all follows) is)
    by_object false is = refl

-- what holds of the transfers of a history that is in order, and that its entries say the rows of each object of transfers
record AreEntered (setup : Setup) (entries : List Entry) : Type 0 where
  follow : AllFollow setup [] entries
  known : AreKnown setup entries
  said : (object : ObjectId) → IsObjectOf setup families.Intra object.0 → fold_entered [] (history_of object entries) ≡ fold_entries families.Intra [] (history_of object entries)

none_entered : (setup : Setup) → AreEntered setup []
unfolding history_of
none_entered setup = record { follow = tt; known = known_none setup; said = λ object index. refl }

all_entered : (setup : Setup) (entries : List Entry) → AllFollow setup [] entries → AreEntered setup entries
all_entered setup entries all =
    by_entries setup (AreEntered setup) (none_entered setup)
    (λ before entry holds follows. record {
      follow = follow_both setup [] before (entry ∷ []) holds.follow (follows, tt);
      known = known_more setup before entry holds.known follows;
      said = λ object index. entered_more setup before entry object index holds.known holds.follow follows (holds.said object index);
    }) entries all

-- ---- the entries up to a token

filter_swap : {X : Type 0} (p q : X → Bool) (xs : List X) → filter p (filter q xs) ≡ filter q (filter p xs)
filter_swap p q [] = refl
filter_swap {X} p q (x ∷ xs) = by_both (filter_swap p q xs) (p x) (q x) refl refl
  where
    by_both : filter p (filter q xs) ≡ filter q (filter p xs) → (a b : Bool) → p x ≡ a → q x ≡ b → filter p (cond b (x ∷ filter q xs) (filter q xs)) ≡ filter q (cond a (x ∷ filter p xs) (filter p xs))
    by_both rest true true e f =
        ap (λ c. cond c (x ∷ filter p (filter q xs)) (filter p (filter q xs))) e
        ∙ ap (λ l. x ∷ l) rest
        ∙ sym (ap (λ c. cond c (x ∷ filter q (filter p xs)) (filter q (filter p xs))) f)
    by_both rest true false e f = rest ∙ sym (ap (λ c. cond c (x ∷ filter q (filter p xs)) (filter q (filter p xs))) f)
    by_both rest false true e f = ap (λ c. cond c (x ∷ filter p (filter q xs)) (filter p (filter q xs))) e ∙ rest
    by_both rest false false e f = rest

history_up_to : (object : ObjectId) (token : ℕ) (entries : List Entry) → filter (is_up_to token) (history_of object entries) ≡ history_of object (filter (is_up_to token) entries)
unfolding history_of
history_up_to object token entries = filter_swap (is_up_to token) (belongs_to object) entries

-- they are a prefix of the history
follow_up_to : (setup : Setup) (token : ℕ) (before entries : List Entry) → AllFollow setup before entries → AllFollow setup before (filter (is_up_to token) entries)
follow_up_to setup token before [] all = tt
follow_up_to setup token before (entry ∷ more) all = by_number (follow_up_to setup token (before ++ entry ∷ []) more all.1) (nat_le entry.number token) refl
  where
    by_number : AllFollow setup (before ++ entry ∷ []) (filter (is_up_to token) more) → (b : Bool) → nat_le entry.number token ≡ b → AllFollow setup before (cond b (entry ∷ filter (is_up_to token) more) (filter (is_up_to token) more))
    by_number rest true e = (all.0, rest)
    by_number rest false e =
        let high : token < entry.number = leb-false entry.number token e in
        let number = all.0.number in
        let size : length (before ++ entry ∷ []) ≡ length before + 1 = length-append before (entry ∷ []) in
        subst (AllFollow setup before) (sym (none_up_to token (length (before ++ entry ∷ [])) more (rising_follow setup (before ++ entry ∷ []) more all.1) (omega arith))) tt

-- ---- any family

-- the entries of an object up to a token are of its family
up_to_family : (setup : Setup) (entries : List Entry) (family : Family) (object : ObjectId) (token : ℕ) → AllFollow setup [] entries → IsObjectOf setup family object.0 → AreOf family (filter (is_up_to token) (history_of object entries))
up_to_family setup entries family object token all index =
    let prefix : List Entry = filter (is_up_to token) entries in
    subst (AreOf family) (sym (history_up_to object token entries))
    (history_family setup family object index prefix (all_placed setup [] prefix tt (follow_up_to setup token [] entries all)))

pub rows_said : (setup : Setup) (S : State) (family : Family) (object : ObjectId) (token : ℕ) → IsInOrder setup S → IsObjectOf setup family object.0 → rows_up_to family object token S.entries ≡ rows_entered object token S.entries
unfolding rows_up_to rows_entered
rows_said setup S families.Intra object token sound index =
    let prefix : List Entry = filter (is_up_to token) S.entries in
    ap (fold_entries families.Intra []) (history_up_to object token S.entries)
    ∙ sym ((all_entered setup prefix (follow_up_to setup token [] S.entries sound.follow)).said object index)
    ∙ ap (fold_entered []) (sym (history_up_to object token S.entries))
rows_said setup S families.RecIntra object token sound index =
    fold_same families.RecIntra [] (filter (is_up_to token) (history_of object S.entries)) model_same (up_to_family setup S.entries families.RecIntra object token sound.follow index)
rows_said setup S families.BankMail object token sound index =
    fold_same families.BankMail [] (filter (is_up_to token) (history_of object S.entries)) letter_same (up_to_family setup S.entries families.BankMail object token sound.follow index)
rows_said setup S families.Mail object token sound index =
    fold_same families.Mail [] (filter (is_up_to token) (history_of object S.entries)) mail_same (up_to_family setup S.entries families.Mail object token sound.follow index)

pub rows_said_of : (setup : Setup) (S : State) (user : UserId) (name : ObjectName) (object : ObjectId) (token : ℕ) → IsInOrder setup S → object_named setup user name ≡ Some object → rows_up_to (object_family name) object token S.entries ≡ rows_entered object token S.entries
rows_said_of setup S user name object token sound is =
    rows_said setup S (object_family name) object token sound (named_index setup user name object is)
