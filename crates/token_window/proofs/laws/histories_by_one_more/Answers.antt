use Rattle.std.proofs.Common.{List, [], ◌∷◌, ◌++◌, filter, eqb, refl, ap, ◌∙◌}
use Rattle.std.proofs.lemmas.Bool.{eq-eqb, ne_eqb, cond-true, cond-false}
use Rattle.std.proofs.lemmas.List.{append-nil}
use Rattle.std.proofs.lemmas.List.Elements.{filter-append}
use Rattle.bank_model.specs.declared.entry.Entry.{Entry}
use Rattle.bank_model.specs.Objects.{belongs_to, history_of}
use Rattle.token_window.proofs.laws.histories_by_one_more.Goals as goal

pub returns-clause-own : goal.returns-clause-own
unfolding history_of
returns-clause-own c entries entry =
    let own = belongs_to entry.object in
    filter-append own entries (entry ∷ [])
    ∙ ap (λ (rest : List Entry). filter own entries ++ rest) (cond-true (eqb entry.object.0 entry.object.0) (entry ∷ []) [] (eq-eqb entry.object.0 entry.object.0 refl))

pub returns-clause-others : goal.returns-clause-others
unfolding history_of
returns-clause-others c object entries entry other =
    let own = belongs_to object in
    filter-append own entries (entry ∷ [])
    ∙ ap (λ (rest : List Entry). filter own entries ++ rest) (cond-false (eqb entry.object.0 object.0) (entry ∷ []) [] (ne_eqb entry.object.0 object.0 other))
    ∙ append-nil (filter own entries)
