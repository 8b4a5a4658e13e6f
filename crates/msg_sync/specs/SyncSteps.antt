-- The steps in which synchronisations are read, each a part of its form.
use Rattle.std.specs.Prelude.{ℕ, Bool, List, Option, Result}
use Rattle.std.specs.Str.{bytes_eq}
use Rattle.ofx_types.specs.Nodes.{Item}
use Rattle.ofx_types.specs.SyncReading.{transaction_of, transaction_reply_of}
use Rattle.ofx_types.specs.declared.fault.TreeFault.{TreeFault}
use Rattle.ofx_types.specs.declared.transfer.Deed.{Deed}
use Rattle.ofx_types.specs.declared.transfer.DeedReply.{DeedReply}
use Rattle.msg_sync.specs.Listing.{form_at, forms_after}

-- it is this name
abbrev pub is_name_of : List ℕ → List ℕ → Bool
is_name_of wanted name = bytes_eq name wanted

-- the deed that a child is, if it has this name
abbrev pub deed_at : List ℕ → Item → Result (Option (List ℕ × Deed)) TreeFault
deed_at name child = form_at transaction_of (is_name_of name) child

-- the deeds that are read already, and those of this name still to come
abbrev pub deeds_after : List ℕ → List (List ℕ × Deed) → List Item → Result (List (List ℕ × Deed)) TreeFault
deeds_after name prefix items = forms_after transaction_of (is_name_of name) prefix items

-- the same of answers
abbrev pub reply_at : List ℕ → Item → Result (Option DeedReply) TreeFault
reply_at name child = form_at transaction_reply_of (is_name_of name) child

abbrev pub replies_after : List ℕ → List DeedReply → List Item → Result (List DeedReply) TreeFault
replies_after name prefix items = forms_after transaction_reply_of (is_name_of name) prefix items
