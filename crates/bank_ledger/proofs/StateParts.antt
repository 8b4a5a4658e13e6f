-- States by their parts.
use Rattle.std.proofs.Common.{◌≡◌, ℕ, List, [], ◌∷◌, ◌++◌, map, ap, sym, ◌∙◌, append_assoc}
use Rattle.std.proofs.lemmas.List.{map-append}
use Rattle.ofx_types.specs.declared.number.Day.{Day}
use Rattle.ofx_types.specs.declared.number.UserId.{UserId}
use Rattle.bank_model.specs.declared.entry.Entry.{Entry}
use Rattle.bank_model.specs.declared.once.UsedPair.{UsedPair}
use Rattle.bank_model.specs.declared.once.KeptReply.{KeptReply}
use Rattle.bank_model.specs.declared.event.State.{State}
use Rattle.bank_ledger.specs.DraftView.{pair_of}

abbrev pub state_of : List Entry → List UsedPair → List KeptReply → Day → State
state_of entries used kept day = record { entries = entries; used = used; kept = kept; day = day }

pub same_state : (e f : List Entry) (u v : List UsedPair) (kept other : List KeptReply) (c d : Day) → e ≡ f → u ≡ v → kept ≡ other → c ≡ d → state_of e u kept c ≡ state_of f v other d
same_state e f u v kept other c d entries used replies day =
    ap (λ (x : List Entry). state_of x u kept c) entries ∙ ap (λ (x : List UsedPair). state_of f x kept c) used ∙ ap (λ (x : List KeptReply). state_of f v x c) replies ∙ ap (state_of f v other) day

-- one uid more
pub uids_more : (used : List UsedPair) (user : UserId) (uids : List (List ℕ)) (uid : List ℕ) → used ++ map (pair_of user) (uids ++ uid ∷ []) ≡ (used ++ map (pair_of user) uids) ++ pair_of user uid ∷ []
uids_more used user uids uid =
    ap (λ (l : List UsedPair). used ++ l) (map-append (pair_of user) uids (uid ∷ []))
    ∙ sym (append_assoc used (map (pair_of user) uids) (pair_of user uid ∷ []))
