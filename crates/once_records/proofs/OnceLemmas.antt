-- What is once still does with one more that isn't there, and without those that are let go.
use Rattle.std.proofs.Common.{◌≡◌, ℕ, Bool, true, false, not, ◌||◌, cond, List, [], ◌∷◌, ◌++◌, None, Some, filter, refl}
use Rattle.std.proofs.lemmas.Map.Keys.{IsDistinct-head, IsDistinct-tail, IsDistinct-cons}
use Rattle.std.specs.List.{AllByRecursion, IsDistinct, find, list_any}
use Rattle.std.specs.Option.{option_map}
use Rattle.ofx_types.specs.declared.number.UserId.{UserId}
use Rattle.bank_model.specs.declared.once.UsedPair.{UsedPair}
use Rattle.bank_model.specs.declared.once.KeptReply.{KeptReply}
use Rattle.bank_model.specs.Once.{is_pair, is_used, is_named, reply_kept, released}
use Rattle.bank_model.proofs.SetupParts.{distinct_push}
use Rattle.once_records.specs.RecordsView.{UsedOnce, KeptOnce}

all_filtered : {A : Type 0} (P : A → Type 0) (p : A → Bool) (xs : List A) → AllByRecursion P xs → AllByRecursion P (filter p xs)
all_filtered P p [] all = tt
all_filtered {A} P p (x ∷ xs) all =
    elim (p x) as (λ b. AllByRecursion P (cond b (x ∷ filter p xs) (filter p xs))) [
      | true ↦ (all.0, all_filtered P p xs all.1)
      | false ↦ all_filtered P p xs all.1
    ]

distinct_filtered : {K : Type 0} (e : K → K → Bool) (p : K → Bool) (xs : List K) → IsDistinct e xs → IsDistinct e (filter p xs)
distinct_filtered e p [] distinct = distinct
distinct_filtered {K} e p (x ∷ xs) distinct =
    let rest = distinct_filtered e p xs (IsDistinct-tail e x xs distinct) in
    elim (p x) as (λ b. IsDistinct e (cond b (x ∷ filter p xs) (filter p xs))) [
      | true ↦ IsDistinct-cons e x (filter p xs) (all_filtered (λ y. e x y ≡ false) p xs (IsDistinct-head e x xs distinct)) rest
      | false ↦ rest
    ]

-- where nothing is found, nothing passes
none_passes : {A B : Type 0} (f : A → B) (p : A → Bool) (xs : List A) → option_map f (find p xs) ≡ None → list_any p xs ≡ false
none_passes f p [] none = refl
none_passes {A} f p (x ∷ xs) none =
    (elim (p x) as (λ b. option_map f (cond b (Some x) (find p xs)) ≡ None → (b || list_any p xs) ≡ false) [
      | true ↦ (λ found. cc)
      | false ↦ (λ rest. none_passes f p xs rest)
    ]) none

pub UsedOnce-push : (used : List UsedPair) (pair : UsedPair) → UsedOnce used → is_used pair.user pair.trnuid used ≡ false → UsedOnce (used ++ pair ∷ [])
UsedOnce-push used pair once unused = distinct_push (λ (earlier later : UsedPair). is_pair later.user later.trnuid earlier) used pair once unused

pub KeptOnce-push : (kept : List KeptReply) (reply : KeptReply) → KeptOnce kept → reply_kept reply.user reply.file kept ≡ None → KeptOnce (kept ++ reply ∷ [])
KeptOnce-push kept reply once absent =
    distinct_push (λ (earlier later : KeptReply). is_named later.user later.file earlier) kept reply once (none_passes (λ (r : KeptReply). r.reply) (is_named reply.user reply.file) kept absent)

pub KeptOnce-released : (user : UserId) (file : List ℕ) (kept : List KeptReply) → KeptOnce kept → KeptOnce (released user file kept)
KeptOnce-released user file kept once =
    distinct_filtered (λ (earlier later : KeptReply). is_named later.user later.file earlier) (λ (reply : KeptReply). not (is_named user file reply)) kept once
