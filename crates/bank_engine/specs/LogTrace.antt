-- The items that came to a bank's log.
use Rattle.std.specs.Prelude.{List, [], ◌∷◌, ◌++◌, None, Some}
use Rattle.bank_model.specs.declared.log.LogItem.{LogItem}
use Rattle.bank_model.specs.declared.log.LogItem.TheVariants.{Effect, Answer, Adopted, Fault}
use Rattle.bank_engine.specs.declared.log_trace.LogTrace.{LogTrace, Start, Effect', Answer', Adopted', Failed', Unsettled'}

-- the items in order, the first one first
abbrev pub items_of : LogTrace → List LogItem
items_of Start = []
items_of (Effect' shape before entry) = items_of before ++ Effect entry.value ∷ []
items_of (Answer' shape before event at reply) = items_of before ++ Answer event.value at.value reply.value.items ∷ []
items_of (Adopted' shape before fault event at) = items_of before ++ Adopted fault.value event.value at.value ∷ []
items_of (Failed' shape before count event at) = items_of before ++ Fault count.value (Some (event.value, at.value)) ∷ []
items_of (Unsettled' shape before count) = items_of before ++ Fault count.value None ∷ []
