-- Stores that are made stand after those that were there.
use Rattle.std.proofs.Common.{◌≡◌, ℕ, suc, Bool, true, false, cond, List, [], ◌∷◌, ◌++◌, length, take, refl, sym, ap, ◌∙◌}
use Rattle.ofx_types.specs.declared.sync.ObjectName.{ObjectName}
use Rattle.bank_model.specs.Stores.{Store, empty_store}
use Rattle.client_saved.specs.Bounds.{has_store}
use Rattle.client_core.specs.Objects.{with_store}

kept_append : (old stores more : List Store) → take (length old) stores ≡ old → take (length old) (stores ++ more) ≡ old
kept_append [] stores more kept = refl
kept_append (first ∷ old) [] more kept = absurd cc
kept_append (first ∷ old) (store ∷ stores) more kept =
    let same : store ≡ first = cc in
    let rest : take (length old) stores ≡ old = cc in
    ap (λ (l : List Store). store ∷ l) (kept_append old stores more rest) ∙ ap (λ (s : Store). s ∷ old) same

kept_store : (old stores : List Store) (object : ObjectName) → take (length old) stores ≡ old → take (length old) (with_store object stores) ≡ old
unfolding with_store
kept_store old stores object kept =
    elim (has_store object stores) as (λ b. take (length old) (cond b stores (stores ++ empty_store object ∷ [])) ≡ old) [
      | true ↦ kept
      | false ↦ kept_append old stores (empty_store object ∷ []) kept
    ]

pub kept_with : (old stores new : List Store) (object : ObjectName) → take (length old) stores ≡ old → new ≡ with_store object stores
    → take (length old) new ≡ old
kept_with old stores new object kept is = ap (take (length old)) is ∙ kept_store old stores object kept
