-- The history of an object, one entry more and one part after another.
use Rattle.std.proofs.Common.{◌≡◌, ℕ, ◌+◌, ◌-◌, ◌<◌, ◌≤◌, ◌||◌, Bool, true, false, ltb, Option, None, Some, List, [], ◌∷◌, ◌++◌, length, map, filter, take, refl, sym, ap, ◌∙◌}
use Rattle.std.proofs.lemmas.List.Elements.{filter-append}
use Rattle.std.proofs.lemmas.List.{map-append}
use Rattle.std.specs.List.{flat_map}
use Rattle.ofx_types.specs.declared.number.ObjectId.{ObjectId}
use Rattle.ofx_types.specs.declared.transfer.DeedReply.{DeedReply}
use Rattle.ofx_types.specs.declared.transfer.Family.{Family}
use Rattle.bank_model.specs.declared.entry.Entry.{Entry}
use Rattle.bank_model.specs.Objects.{history_of, newest, floor, last_number, last_number_from}
use Rattle.std.proofs.lemmas.Bool.{ltb-false}
use Rattle.std.specs.Option.{IfSome}
use Rattle.ofx_types.specs.declared.transfer.Change.{Change}
use Rattle.ofx_types.specs.declared.transfer.Change.TheVariants.{NewTransfer, SetTransfer, DropTransfer, NewModel, SetModel, DropModel, NewMail}
use Rattle.ofx_types.specs.declared.sync.SyncKind.TheVariants.{After}
use Rattle.bank_model.specs.Sync.{reply_of_entry, is_above, is_lost, is_lost_at, token_of, current_in}
use Rattle.bank_history.specs.Made.{made_in, made_of, current_of}
use Rattle.bank_model.proofs.Histories.{history_of-append, history_of-none}
use Rattle.bank_history.proofs.AmongLemmas.{last_over, before_prefix, before_back}
pub use Rattle.bank_history.proofs.AmongLemmas.{part_begun, part_more, part_ended, lent}

-- ---- the entries that a bank had, and those of a draft after them

pub newest-after : (object : ObjectId) (before entries : List Entry) (number : ℕ) → number ≡ newest object before → last_number_from number (history_of object entries) ≡ newest object (before ++ entries)
unfolding newest
newest-after object before entries number is =
    ap (λ (n : ℕ). last_number_from n (history_of object entries)) is
    ∙ sym (ap (last_number_from 0) (history_of-append object before entries) ∙ last_over 0 (history_of object before) (history_of object entries))

-- Where a draft has no more entries of the object than are told, the floor is among those that the bank had.
pub floor-before : (window : ℕ) (object : ObjectId) (before entries : List Entry) (later : ℕ) → later ≡ length (history_of object entries) → later ≤ window → last_number (take (length (history_of object before) - (window - later)) (history_of object before)) ≡ floor window object (before ++ entries)
unfolding floor
floor-before window object before entries later is few = before_prefix window object before entries later is few

-- Where it has more, the floor is one of them.
pub floor-after : (window : ℕ) (object : ObjectId) (before entries : List Entry) (later number : ℕ) → later ≡ length (history_of object entries) → window < later → number ≡ newest object before → last_number_from number (take (later - window) (history_of object entries)) ≡ floor window object (before ++ entries)
unfolding floor
floor-after window object before entries later number is_later many is = before_back window object before entries later number is_later many is

-- ---- what is reported of them

abbrev pub reported_above : Family → ℕ → ObjectId → List Entry → List DeedReply
reported_above family token object entries = map (reply_of_entry family) (filter (is_above token) (history_of object entries))

pub reported_above-append : (family : Family) (token : ℕ) (object : ObjectId) (xs ys : List Entry) → reported_above family token object (xs ++ ys) ≡ reported_above family token object xs ++ reported_above family token object ys
reported_above-append family token object xs ys =
    ap (λ l. map (reply_of_entry family) (filter (is_above token) l)) (history_of-append object xs ys)
    ∙ ap (map (reply_of_entry family)) (filter-append (is_above token) (history_of object xs) (history_of object ys))
    ∙ map-append (reply_of_entry family) _ _

pub reported_above-none : (family : Family) (token : ℕ) (object : ObjectId) → reported_above family token object [] ≡ []
reported_above-none family token object = ap (λ l. map (reply_of_entry family) (filter (is_above token) l)) (history_of-none object)

-- What is left of what a history made is what is left of its entries.
made_holds_in : (all history : List Entry) → flat_map (current_of all) (flat_map (λ (entry : Entry). made_in entry.change) history) ≡ flat_map (λ (entry : Entry). current_in all entry.change) history
made_holds_in all [] = refl
made_holds_in all (entry ∷ history) = one entry.change (made_holds_in all history)
  where
    one : (change : Change) → flat_map (current_of all) (flat_map (λ (entry : Entry). made_in entry.change) history) ≡ flat_map (λ (entry : Entry). current_in all entry.change) history
        → flat_map (current_of all) (made_in change ++ flat_map (λ (entry : Entry). made_in entry.change) history) ≡ current_in all change ++ flat_map (λ (entry : Entry). current_in all entry.change) history
    one (NewTransfer row) rest = ap (λ l. current_in all (NewTransfer row) ++ l) rest
    one (SetTransfer row) rest = rest
    one (DropTransfer id) rest = rest
    one (NewModel row) rest = ap (λ l. current_in all (NewModel row) ++ l) rest
    one (SetModel row pending) rest = rest
    one (DropModel id pending) rest = rest
    one (NewMail row) rest = ap (λ l. current_in all (NewMail row) ++ l) rest

pub made_holds : (all : List Entry) (object : ObjectId) (entries : List Entry) → flat_map (current_of all) (made_of object entries) ≡ flat_map (λ (entry : Entry). current_in all entry.change) (history_of object entries)
made_holds all object entries = made_holds_in all (history_of object entries)

-- ---- a client that hasn't lost its place

pub not_lost : (window : ℕ) (object : ObjectId) (entries : List Entry) (text : List ℕ) → is_lost window object entries (After text) ≡ false → IfSome (token_of text) (λ (token : ℕ). floor window object entries ≤ token)
unfolding is_lost
not_lost window object entries text not = by (token_of text) not
  where
    right : (a b : Bool) → (a || b) ≡ false → b ≡ false
    right true b is = cc
    right false b is = is

    by : (token : Option ℕ) → is_lost_at window object entries token ≡ false → IfSome token (λ (token : ℕ). floor window object entries ≤ token)
    by None is = tt
    by (Some token) is = ltb-false token (floor window object entries) (right (ltb (newest object entries) token) (ltb token (floor window object entries)) is)

-- both parts one after the other
pub both_parts : {X : Type 0} (part : List Entry → List X) (before entries : List Entry) (start first last : List X) → ((xs ys : List Entry) → part (xs ++ ys) ≡ part xs ++ part ys) → start ≡ [] → first ≡ start ++ part before → last ≡ first ++ part entries → last ≡ part (before ++ entries)
both_parts part before entries start first last grows none is_first is_last =
    is_last
    ∙ ap (λ l. l ++ part entries) (is_first ∙ ap (λ l. l ++ part before) none)
    ∙ sym (grows before entries)
