-- The messages of a set are forms one after the other.
use Rattle.std.proofs.Common.{◌≡◌, ℕ, List, [], ◌∷◌, Option, None, Some, Result, Ok, inl, inr, refl, sym, ap, ◌∙◌}
use Rattle.std.specs.Option.{IfSome}
use Rattle.ofx_types.specs.TagNames.{is_one_of}
use Rattle.ofx_types.specs.Nodes.{Item, children}
use Rattle.ofx_types.specs.FormWords.{maybe}
use Rattle.ofx_types.specs.MessageForm.{AreMaybeMessages}
use Rattle.ofx_types.specs.MessageReading.{messages_of, messages_in, ask_of, ask_reply_of}
use Rattle.ofx_types.specs.declared.fault.TreeFault.{TreeFault}
use Rattle.ofx_tree.specs.Located.{Holds, Any, IsWithin}
use Rattle.ofx_tree.proofs.FormLaws.{one_value, maybe_none, maybe_some, none_again, some_again}
use Rattle.ofx_tree.proofs.FormOffsets.{children_within}
use Rattle.msg_sync.specs.Listing.{forms_of}
use Rattle.msg_sync.proofs.After.{forms_after-nil}
use Rattle.msg_sync.proofs.Forms.{AreRead, forms_found, forms_again, forms_within}
use Rattle.ofx_file.specs.declared.messages.MessageSet.{MessageSet}
use Rattle.ofx_file.specs.MessageSets.{request_names, asks_after, reply_names, answers_after}

pub messages_are : {M : Type 0} (message_of : Item → Result M TreeFault) (names : List (List ℕ)) (items : List Item) →
    messages_of message_of names items ≡ forms_of message_of (is_one_of names) items
unfolding messages_of forms_of
messages_are message_of names [] = refl
messages_are message_of names (child ∷ more) = rw (messages_are message_of names more) refl

-- with none yet, all are still to come
pub all_asks : (set : MessageSet) (items : List Item) → asks_after set [] items ≡ messages_of ask_of (request_names set) items
all_asks set items = forms_after-nil ask_of (is_one_of (request_names set)) items ∙ sym (messages_are ask_of (request_names set) items)

pub all_answers : (set : MessageSet) (items : List Item) → answers_after set [] items ≡ messages_of ask_reply_of (reply_names set) items
all_answers set items = forms_after-nil ask_reply_of (is_one_of (reply_names set)) items ∙ sym (messages_are ask_reply_of (reply_names set) items)

-- ---- they stand exactly where they are read

pub set_found : {M : Type 0} (IsMessage : Item → M → Type 0) (message_of : Item → Result M TreeFault) (name : List ℕ) (names : List (List ℕ)) →
    AreRead IsMessage message_of (is_one_of names) → (ofx : Item) (found : Option Item) (messages : List M) →
    maybe name ofx ≡ Ok found → messages_in message_of names found ≡ Ok messages → AreMaybeMessages IsMessage name names ofx messages
set_found IsMessage message_of name names each ofx None messages h i = inl (maybe_none name ofx h, one_value _ messages [] i refl)
set_found IsMessage message_of name names each ofx (Some set) messages h i =
    inr (set, maybe_some name ofx set h, forms_found IsMessage message_of (is_one_of names) each (children set) messages (sym (messages_are message_of names (children set)) ∙ i))

pub set_again : {M : Type 0} (IsMessage : Item → M → Type 0) (message_of : Item → Result M TreeFault) (name : List ℕ) (names : List (List ℕ)) →
    AreRead IsMessage message_of (is_one_of names) → (ofx : Item) (messages : List M) → AreMaybeMessages IsMessage name names ofx messages →
    (found : Option Item) × (maybe name ofx ≡ Ok found) × (messages_in message_of names found ≡ Ok messages)
set_again IsMessage message_of name names each ofx messages (inl (none, empty)) = (None, none_again name ofx none, ap Ok (sym empty))
set_again IsMessage message_of name names each ofx messages (inr (set, is, are)) = (
  Some set,
  some_again name ofx set is,
  messages_are message_of names (children set) ∙ forms_again IsMessage message_of (is_one_of names) each (children set) messages are,
)

-- ---- their faults have offsets

pub messages_within : {M : Type 0} (most : ℕ) (message_of : Item → Result M TreeFault) (names : List (List ℕ)) →
    ((item : Item) → IsWithin most item → Holds most Any (message_of item)) →
    (found : Option Item) → IfSome found (IsWithin most) → Holds most Any (messages_in message_of names found)
messages_within most message_of names each None h = tt
messages_within most message_of names each (Some set) h =
    rw (messages_are message_of names (children set))
    (forms_within most message_of (is_one_of names) each (children set) (children_within most set h))
