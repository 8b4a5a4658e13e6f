-- A log that grows: its entries, and the endings among them.
use Rattle.std.proofs.Common.{◌≡◌, List, [], ◌∷◌, ◌++◌, map, refl, sym, ap, ◌∙◌, append_assoc}
use Rattle.std.specs.List.{flat_map}
use Rattle.std.proofs.lemmas.Grind.{flat_map-append}
use Rattle.bank_model.specs.declared.entry.Entry.{Entry}
use Rattle.bank_model.specs.declared.event.State.{State}
use Rattle.bank_model.specs.declared.log.LogItem.{LogItem}
use Rattle.bank_model.specs.declared.log.LogItem.TheVariants.{Effect}
use Rattle.bank_model.specs.Log.{endings, entry_of, entries_in}

pub entries-grown : (S : State) (log more : List LogItem) → entries_in S (log ++ more) ≡ entries_in S log ++ flat_map entry_of more
entries-grown S log more =
    ap (λ (l : List Entry). S.entries ++ l) (flat_map-append entry_of log more)
    ∙ sym (append_assoc S.entries (flat_map entry_of log) (flat_map entry_of more))

-- effects end nothing
pub endings_of_effects : (entries : List Entry) → endings (map Effect entries) ≡ []
endings_of_effects [] = refl
endings_of_effects (entry ∷ more) = endings_of_effects more
