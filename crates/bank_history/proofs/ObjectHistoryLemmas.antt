-- What is held of objects, of which one has something else now, and the entries that it stands for.
use Rattle.std.proofs.Common.{◌≡◌, ℕ, ◌≤◌, Bool, true, false, cond, eqb, List, [], ◌∷◌, ◌++◌, Option, None, Some, refl, sym, ap, ◌∙◌, subst, arith}
use Rattle.std.proofs.lemmas.Bool.{eqb-true}
use Rattle.std.proofs.lemmas.List.{append-nil}
use Rattle.std.proofs.lemmas.List.Elements.{filter-append}
use Rattle.std.specs.Map.{lookup}
use Rattle.std.specs.Option.{option_to_list, IfSome}
use Rattle.std.specs.Prelude.{OnOk}
use Rattle.std.specs.declared.result.Result.{Result}
use Rattle.std.specs.declared.result.Result.TheVariants.{Ok, Err}
use Rattle.ofx_types.specs.declared.number.ObjectId.{ObjectId}
use Rattle.ofx_types.specs.declared.mail.MailRow.{MailRow}
use Rattle.ofx_types.specs.declared.transfer.Change.{Change}
use Rattle.ofx_types.specs.declared.transfer.Change.TheVariants.{NewTransfer, SetTransfer, DropTransfer, NewModel, SetModel, DropModel, NewMail}
use Rattle.bank_model.specs.declared.entry.Entry.{Entry}
use Rattle.bank_model.specs.Objects.{belongs_to, history_of, newest, last_number}
use Rattle.bank_mail.specs.MailsView.{mail_in}
use Rattle.bank_history.specs.ObjectHistory.{ObjectHistoryView, HoldsHistory, HoldsHistoryOr, held_at}

object_is : (a b : ObjectId) → a.0 ≡ b.0 → a ≡ b
object_is a b same = ap (λ (n : ℕ). let o : ObjectId = record { 0 = n } in o) same

-- The table has something else at one object, and what it had at all others.
abbrev pub IsSetAt : ℕ → Option ObjectHistoryView → List (ℕ × ObjectHistoryView) → List (ℕ × ObjectHistoryView) → Type 0
IsSetAt object kept old new = (q : ℕ) → lookup (λ k. eqb q k) new ≡ cond (eqb object q) kept (lookup (λ k. eqb q k) old)

pub found_kept : (history : List Entry) (width : ℕ) (found : Option ObjectHistoryView) (kept : ObjectHistoryView) → found ≡ Some kept → HoldsHistoryOr history width found → HoldsHistory history width kept
found_kept history width found kept is all = subst (HoldsHistoryOr history width) is all

pub found_none : (history : List Entry) (width : ℕ) (found : Option ObjectHistoryView) → found ≡ None → HoldsHistoryOr history width found → history ≡ []
found_none history width found is all = subst (HoldsHistoryOr history width) is all

at_same : (table : List (ℕ × ObjectHistoryView)) (object other : ObjectId) (found : Option ObjectHistoryView) → eqb object.0 other.0 ≡ true → held_at object table ≡ found → held_at other table ≡ found
at_same table object other found same is = subst (λ (o : ObjectId). held_at o table ≡ found) (object_is object other (eqb-true object.0 other.0 same)) is

-- What is for the same history as before is held at one object.
pub stays_kept : (width : ℕ) (before after : List (ℕ × ObjectHistoryView)) (object : ObjectId) (old new : ObjectHistoryView) (entries : List Entry) → held_at object before ≡ Some old → IsSetAt object.0 (Some new) before after → ((history : List Entry) → HoldsHistory history width old → HoldsHistory history width new)
    → ((o : ObjectId) → HoldsHistoryOr (history_of o entries) width (held_at o before)) → (other : ObjectId) → HoldsHistoryOr (history_of other entries) width (held_at other after)
stays_kept width before after object old new entries found set stays all other = subst (HoldsHistoryOr (history_of other entries) width) (sym (set other.0)) (by (eqb object.0 other.0) refl)
  where
    by : (b : Bool) → eqb object.0 other.0 ≡ b → HoldsHistoryOr (history_of other entries) width (cond b (Some new) (held_at other before))
    by true same = stays (history_of other entries) (found_kept (history_of other entries) width (held_at other before) old (at_same before object other (Some old) same found) (all other))
    by false apart = all other

-- Something without entries is held of an object of which nothing was.
pub begins_kept : (width : ℕ) (before after : List (ℕ × ObjectHistoryView)) (object : ObjectId) (new : ObjectHistoryView) (entries : List Entry) → held_at object before ≡ None → IsSetAt object.0 (Some new) before after → HoldsHistory [] width new
    → ((o : ObjectId) → HoldsHistoryOr (history_of o entries) width (held_at o before)) → (other : ObjectId) → HoldsHistoryOr (history_of other entries) width (held_at other after)
begins_kept width before after object new entries absent set is all other = subst (HoldsHistoryOr (history_of other entries) width) (sym (set other.0)) (by (eqb object.0 other.0) refl)
  where
    by : (b : Bool) → eqb object.0 other.0 ≡ b → HoldsHistoryOr (history_of other entries) width (cond b (Some new) (held_at other before))
    by true same =
        let none = found_none (history_of other entries) width (held_at other before) (at_same before object other None same absent) (all other) in
        subst (λ (history : List Entry). HoldsHistory history width new) (sym none) is
    by false apart = all other

-- An object's history is one entry longer, and what is held of it stands for that.
pub adds_kept : (width : ℕ) (before after : List (ℕ × ObjectHistoryView)) (entry : Entry) (old new : ObjectHistoryView) (entries : List Entry) → held_at entry.object before ≡ Some old → IsSetAt entry.object.0 (Some new) before after → ((history : List Entry) → HoldsHistory history width old → HoldsHistory (history ++ entry ∷ []) width new)
    → ((o : ObjectId) → HoldsHistoryOr (history_of o entries) width (held_at o before)) → (other : ObjectId) → HoldsHistoryOr (history_of other (entries ++ entry ∷ [])) width (held_at other after)
unfolding history_of
adds_kept width before after entry old new entries found set adds all other = subst (HoldsHistoryOr (history_of other (entries ++ entry ∷ [])) width) (sym (set other.0)) (by (eqb entry.object.0 other.0) refl)
  where
    longer : history_of other (entries ++ entry ∷ []) ≡ history_of other entries ++ cond (eqb entry.object.0 other.0) (entry ∷ []) []
    longer = filter-append (belongs_to other) entries (entry ∷ [])

    by : (b : Bool) → eqb entry.object.0 other.0 ≡ b → HoldsHistoryOr (history_of other (entries ++ entry ∷ [])) width (cond b (Some new) (held_at other before))
    by true same =
        let more : history_of other (entries ++ entry ∷ []) ≡ history_of other entries ++ entry ∷ [] = longer ∙ ap (λ (b : Bool). history_of other entries ++ cond b (entry ∷ []) []) same in
        subst (λ (history : List Entry). HoldsHistory history width new) (sym more)
        (adds (history_of other entries) (found_kept (history_of other entries) width (held_at other before) old (at_same before entry.object other (Some old) same found) (all other)))
    by false apart =
        let none : history_of other (entries ++ entry ∷ []) ≡ history_of other entries = longer ∙ ap (λ (b : Bool). history_of other entries ++ cond b (entry ∷ []) []) apart ∙ append-nil (history_of other entries) in
        subst (λ (history : List Entry). HoldsHistoryOr history width (held_at other before)) (sym none) (all other)

-- ---- an object without entries

pub newest_of_none : (object : ObjectId) (entries : List Entry) → history_of object entries ≡ [] → newest object entries ≡ 0
unfolding newest
newest_of_none object entries none = ap last_number none

-- ---- mails

-- A change that brings a mail is that of the mail.
pub is_mail : (change : Change) (row : MailRow) → option_to_list (Some row) ≡ mail_in change → change ≡ NewMail row
is_mail (NewTransfer other) row is = cc
is_mail (SetTransfer other) row is = cc
is_mail (DropTransfer id) row is = cc
is_mail (NewModel other) row is = cc
is_mail (SetModel other pending) row is = cc
is_mail (DropModel id pending) row is = cc
is_mail (NewMail other) row is = cc

-- ---- what follows where memory isn't refused

pub when_done : {A E : Type 0} (result : Result A E) (P Q : Type 0) → (P → Q) → OnOk result P → OnOk result Q
when_done (Ok done) P Q follows holds = follows holds
when_done (Err refused) P Q follows holds = tt

pub narrow_held : (history : List Entry) (width last : ℕ) (found : Option ObjectHistoryView) → HoldsHistoryOr history width found → last ≤ width → IfSome found (λ (kept : ObjectHistoryView). last ≤ kept.window.width)
narrow_held history width last None is narrow = tt
narrow_held history width last (Some kept) is narrow = omega (arith, is.window.as_wide, narrow)
