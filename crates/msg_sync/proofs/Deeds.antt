-- The deeds and the answers inside a synchronisation are forms one after the other.
use Rattle.std.proofs.Common.{◌≡◌, ℕ, List, [], ◌∷◌, refl, sym, ◌∙◌}
use Rattle.ofx_types.specs.Nodes.{Item}
use Rattle.ofx_types.specs.SyncReading.{transaction_of, transaction_reply_of, deeds_of, replies_of}
use Rattle.msg_sync.specs.Listing.{forms_of}
use Rattle.msg_sync.specs.SyncSteps.{is_name_of, deeds_after, replies_after}
use Rattle.msg_sync.proofs.After.{forms_after-nil}

pub deeds_are : (name : List ℕ) (items : List Item) → deeds_of name items ≡ forms_of transaction_of (is_name_of name) items
unfolding deeds_of forms_of
deeds_are name [] = refl
deeds_are name (child ∷ more) = rw (deeds_are name more) refl

pub replies_are : (name : List ℕ) (items : List Item) → replies_of name items ≡ forms_of transaction_reply_of (is_name_of name) items
unfolding replies_of forms_of
replies_are name [] = refl
replies_are name (child ∷ more) = rw (replies_are name more) refl

-- with none yet, all are still to come
pub all_deeds : (name : List ℕ) (items : List Item) → deeds_after name [] items ≡ deeds_of name items
all_deeds name items = forms_after-nil transaction_of (is_name_of name) items ∙ sym (deeds_are name items)

pub all_replies : (name : List ℕ) (items : List Item) → replies_after name [] items ≡ replies_of name items
all_replies name items = forms_after-nil transaction_reply_of (is_name_of name) items ∙ sym (replies_are name items)
