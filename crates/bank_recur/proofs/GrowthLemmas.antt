-- One entry more: the row of a recurring transfer, whether it is dropped, and the occurrence of its next transfer.
use Rattle.std.proofs.Common.{◌≡◌, ℕ, ◌+◌, add-one, Bool, true, false, not, ◌||◌, cond, List, [], ◌∷◌, ◌++◌, filter, length, reverse, None, refl, sym, ap, ◌∙◌}
use Rattle.std.proofs.Math.Bool.{or-false}
use Rattle.std.proofs.lemmas.Grind.{flat_map-append}
use Rattle.std.proofs.lemmas.List.{append-nil, reverse-append}
use Rattle.std.proofs.lemmas.List.Folds.{list_any-append}
use Rattle.std.proofs.lemmas.List.Sums.{fold-append, take_while-cons}
use Rattle.std.specs.List.{list_any, take_while}
use Rattle.bank_model.specs.declared.entry.Entry.{Entry}
use Rattle.bank_model.specs.Models.{model_in, if_model_named, or_model_before, model_of, drops_model, is_model_dropped, begins_anew, is_made_by, since_anew, next_occurrence}
use Rattle.bank_recur.specs.Growth.{occurrence_after}
use Rattle.bank_recur.specs.ModelsView.{id_made, ids_made}

pub model_of-push : (id : ℕ) (entries : List Entry) (entry : Entry) → model_of id (entries ++ entry ∷ []) ≡ or_model_before (model_of id entries) (if_model_named id (model_in entry.change))
unfolding model_of
model_of-push id entries entry = fold-append _ None entries (entry ∷ [])

pub is_model_dropped-push : (id : ℕ) (entries : List Entry) (entry : Entry) → is_model_dropped id (entries ++ entry ∷ []) ≡ (is_model_dropped id entries || drops_model id entry.change)
unfolding is_model_dropped
is_model_dropped-push id entries entry =
    list_any-append (λ (e : Entry). drops_model id e.change) entries (entry ∷ [])
    ∙ ap (λ b. list_any (λ (e : Entry). drops_model id e.change) entries || b) (or-false (drops_model id entry.change))

pub ids_made-push : (entries : List Entry) (entry : Entry) → ids_made (entries ++ entry ∷ []) ≡ ids_made entries ++ id_made entry.change
ids_made-push entries entry =
    flat_map-append (λ (e : Entry). id_made e.change) entries (entry ∷ [])
    ∙ ap (λ ids. ids_made entries ++ ids) (append-nil (id_made entry.change))

-- how many transfers it made, the latest entry first
made_more : (id : ℕ) (entry : Entry) (since : List Entry) → length (filter (λ (e : Entry). is_made_by id e.change) (cond (not (begins_anew id entry.change)) (entry ∷ since) [])) ≡ occurrence_after id (length (filter (λ (e : Entry). is_made_by id e.change) since)) entry.change
made_more id entry since =
    elim (begins_anew id entry.change) as (λ anew. length (filter (λ (e : Entry). is_made_by id e.change) (cond (not anew) (entry ∷ since) [])) ≡ cond anew 0 (cond (is_made_by id entry.change) (length (filter (λ (e : Entry). is_made_by id e.change) since) + 1) (length (filter (λ (e : Entry). is_made_by id e.change) since)))) [
      | true ↦ refl
      | false ↦ counted (is_made_by id entry.change) (filter (λ (e : Entry). is_made_by id e.change) since)
    ]
  where
    counted : (made : Bool) (more : List Entry) → length (cond made (entry ∷ more) more) ≡ cond made (length more + 1) (length more)
    counted true more = sym (add-one (length more))
    counted false more = refl

pub next_occurrence-push : (id : ℕ) (entries : List Entry) (entry : Entry) → next_occurrence id (entries ++ entry ∷ []) ≡ occurrence_after id (next_occurrence id entries) entry.change
unfolding next_occurrence
next_occurrence-push id entries entry =
    ap (λ es. length (filter (λ (e : Entry). is_made_by id e.change) (take_while (λ (e : Entry). not (begins_anew id e.change)) es))) (reverse-append entries (entry ∷ []))
    ∙ ap (λ es. length (filter (λ (e : Entry). is_made_by id e.change) es)) (take_while-cons (λ (e : Entry). not (begins_anew id e.change)) entry (reverse entries))
    ∙ made_more id entry (since_anew id entries)
