-- The states that drafts make, one step after another.
use Rattle.std.proofs.Common.{◌≡◌, ℕ, List, [], ◌∷◌, ◌++◌, map, refl, sym, ap, ◌∙◌, subst, append_assoc}
use Rattle.std.proofs.lemmas.List.{append-nil}
use Rattle.ofx_types.specs.declared.number.UserId.{UserId}
use Rattle.bank_model.specs.declared.entry.Entry.{Entry}
use Rattle.bank_model.specs.declared.once.UsedPair.{UsedPair}
use Rattle.bank_model.specs.declared.event.State.{State}
use Rattle.bank_model.specs.Rules.{with_entries}
use Rattle.bank_ledger.specs.DraftView.{DraftView, pair_of, drafted, IsSameFile, HasAdded, with_uid}
use Rattle.bank_ledger.proofs.StateParts.{state_of, same_state, uids_more}

pub IsSameFile-self : (draft : DraftView) → IsSameFile draft draft
IsSameFile-self draft = record { setup = refl; before = refl; held = refl; user = refl; at = refl; day = refl }

pub IsSameFile-trans : (a b c : DraftView) → IsSameFile a b → IsSameFile b c → IsSameFile a c
IsSameFile-trans a b c first second = record {
  setup = second.setup ∙ first.setup;
  before = second.before ∙ first.before;
  held = second.held ∙ first.held;
  user = second.user ∙ first.user;
  at = second.at ∙ first.at;
  day = second.day ∙ first.day;
}

-- A draft with more entries makes the state with these.
pub drafted-added : (old new : DraftView) (more : List Entry) → HasAdded old new more → drafted new ≡ with_entries (drafted old) more
drafted-added old new more has =
    same_state _ _ _ _ _ _ _ _
    (ap (λ (S : State). S.entries ++ new.entries) has.same.before ∙ ap (λ (l : List Entry). old.before.entries ++ l) has.entries ∙ sym (append_assoc old.before.entries old.entries more))
    (ap (λ (S : State). S.used ++ map (pair_of new.user) new.uids) has.same.before ∙ ap (λ (u : UserId). old.before.used ++ map (pair_of u) new.uids) has.same.user ∙ ap (λ (l : List (List ℕ)). old.before.used ++ map (pair_of old.user) l) has.uids)
    (ap (λ (S : State). S.kept) has.same.before)
    has.same.day

-- A draft with one uid more makes the state in which it is used up.
pub drafted-uid : (draft : DraftView) (uid : List ℕ) → drafted (with_uid draft uid) ≡ state_of (drafted draft).entries ((drafted draft).used ++ pair_of draft.user uid ∷ []) draft.before.kept draft.day
drafted-uid draft uid = ap (λ (used : List UsedPair). state_of (drafted draft).entries used draft.before.kept draft.day) (uids_more draft.before.used draft.user draft.uids uid)

pub added_as : (old new : DraftView) (entries others : List Entry) → entries ≡ others → HasAdded old new entries → HasAdded old new others
added_as old new entries others same has = subst (HasAdded old new) same has

pub added_none : (draft : DraftView) → HasAdded draft draft []
added_none draft = record { same = IsSameFile-self draft; entries = sym (append-nil draft.entries); uids = refl }

pub added_trans : (a b c : DraftView) (first second : List Entry) → HasAdded a b first → HasAdded b c second → HasAdded a c (first ++ second)
added_trans a b c first second one two = record {
  same = IsSameFile-trans a b c one.same two.same;
  entries = two.entries ∙ ap (λ (l : List Entry). l ++ second) one.entries ∙ append_assoc a.entries first second;
  uids = two.uids ∙ one.uids;
}
