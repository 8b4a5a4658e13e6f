-- What entries made, one part after another, and how it is put together from origins and mails.
use Rattle.std.proofs.Common.{◌≡◌, List, [], ◌∷◌, ◌++◌, refl, ap, ◌∙◌}
use Rattle.std.proofs.lemmas.Grind.{flat_map-append}
use Rattle.std.specs.List.{flat_map}
use Rattle.ofx_types.specs.declared.number.ObjectId.{ObjectId}
use Rattle.ofx_types.specs.declared.transfer.Change.{Change}
use Rattle.ofx_types.specs.declared.transfer.Change.TheVariants.{NewTransfer, SetTransfer, DropTransfer, NewModel, SetModel, DropModel, NewMail}
use Rattle.bank_model.specs.declared.entry.Entry.{Entry}
use Rattle.bank_model.specs.Objects.{history_of}
use Rattle.bank_model.proofs.Histories.{history_of-append, history_of-none}
use Rattle.bank_mail.specs.MailsView.{mail_in, mails_of}
use Rattle.bank_history.specs.declared.made.Made.{Made}
use Rattle.bank_history.specs.declared.made.Made.TheVariants.{Transfer, Model, Mail}
use Rattle.bank_history.specs.Made.{made_in, made_of, origin_in, made_from}

pub made_of-append : (object : ObjectId) (xs ys : List Entry) → made_of object (xs ++ ys) ≡ made_of object xs ++ made_of object ys
made_of-append object xs ys =
    ap (flat_map (λ (entry : Entry). made_in entry.change)) (history_of-append object xs ys)
    ∙ flat_map-append (λ (entry : Entry). made_in entry.change) (history_of object xs) (history_of object ys)

pub made_of-none : (object : ObjectId) → made_of object [] ≡ []
made_of-none object = ap (flat_map (λ (entry : Entry). made_in entry.change)) (history_of-none object)

-- ---- from origins and mails

joined : (history : List Entry) → made_from (flat_map (λ (entry : Entry). origin_in entry.change) history) (flat_map (λ (entry : Entry). mail_in entry.change) history) ≡ flat_map (λ (entry : Entry). made_in entry.change) history
joined [] = refl
joined (entry ∷ history) = one entry.change (joined history)
  where
    one : (change : Change) → made_from (flat_map (λ (entry : Entry). origin_in entry.change) history) (flat_map (λ (entry : Entry). mail_in entry.change) history) ≡ flat_map (λ (entry : Entry). made_in entry.change) history
        → made_from (origin_in change ++ flat_map (λ (entry : Entry). origin_in entry.change) history) (mail_in change ++ flat_map (λ (entry : Entry). mail_in entry.change) history) ≡ made_in change ++ flat_map (λ (entry : Entry). made_in entry.change) history
    one (NewTransfer row) rest = ap (λ (made : List Made). Transfer row.id ∷ made) rest
    one (SetTransfer row) rest = rest
    one (DropTransfer id) rest = rest
    one (NewModel row) rest = ap (λ (made : List Made). Model row.id ∷ made) rest
    one (SetModel row pending) rest = rest
    one (DropModel id pending) rest = rest
    one (NewMail row) rest = ap (λ (made : List Made). Mail row ∷ made) rest

pub made_joined : (object : ObjectId) (entries : List Entry) → made_from (flat_map (λ (entry : Entry). origin_in entry.change) (history_of object entries)) (mails_of object entries) ≡ made_of object entries
unfolding mails_of
made_joined object entries = joined (history_of object entries)
