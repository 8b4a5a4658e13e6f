-- What is found in the text that is kept, and what a save leaves.
use Rattle.std.proofs.Common.{◌≡◌, ◌∙◌, ℕ, ◌<◌, List, [], Result, Ok, Err, inl, inr, refl, sym, ap, subst, arith}
use Rattle.std.specs.Prelude.{IfOk, IfErr, IsErrOf}
use Rattle.ofx_ports.specs.Faults.{CountsFaults}
use Rattle.ofx_ports.specs.Saved.{Saved}
use Rattle.ofx_ports.specs.declared.fault.PutFault.{PutFault}
use Rattle.ofx_ports.specs.declared.fault.PutFault.TheVariants as puts
use Rattle.client_saved.specs.SavedText.{IsSavedText}
use Rattle.client_saved.specs.declared.state.ClientState.{ClientState}
use Rattle.client_core.specs.ClientForm.{new_client}
use Rattle.client_arguments.specs.declared.order.Order.{Order}
use Rattle.client_run.specs.Views.{StoreView}
use Rattle.client_run.specs.Saves.{IsOurs, IsText, FindsIn, Finds, Saves}
use Rattle.client_run.specs.declared.stop.StoreOpenFault.{StoreOpenFault}
use Rattle.client_run.specs.declared.stop.StoreOpenFault.TheVariants as opens

-- What is found in the text that was loaded is what a run finds.
pub found_in : (order : Order) (before after : StoreView) (text : List ℕ) (found : Result ClientState StoreOpenFault) → IsText before text → FindsIn order text found → Finds order before after found
found_in order before after text (Ok client) is finds = (text, is, finds.0, finds.1)
found_in order before after text (Err opens.NotOurs) is (client, is_in, other) = (text, client, is, is_in, other)
found_in order before after text (Err (opens.Bad at)) is finds = (text, is, finds.0, finds.1)
found_in order before after text (Err opens.Failed) is finds = absurd finds
found_in order before after text (Err opens.OutOfMemory) is finds = tt

new_ours : (order : Order) → IsOurs order (new_client order.name order.user)
new_ours order = record { name_is = refl; user_is = refl; has_number = omega arith }

-- In an empty text a new client is found.
pub new_found : (order : Order) (found : Result ClientState StoreOpenFault) → IfOk found (λ client. client ≡ new_client order.name order.user) → IfErr found (λ fault. fault ≡ opens.OutOfMemory) → FindsIn order [] found
new_found order (Ok client) is refused = (inl (refl, is), subst (IsOurs order) (sym is) (new_ours order))
new_found order (Err fault) is refused = subst (λ (f : StoreOpenFault). FindsIn order [] (Err f)) (sym refused) tt

-- What the store does with a saved text is what a save does.
pub saved_so : (client : ClientState) (before after : StoreView) (text : List ℕ) (kept : Result (Unit {0}) PutFault) → IsSavedText text client → Saved before.text after.text text kept → CountsFaults before.faults after.faults (IsErrOf kept puts.Failed) → Saves client before after kept
saved_so client before after text (Ok done) saved does counts = (text, saved, does, counts.later)
saved_so client before after text (Err puts.Failed) saved does counts = (counts.cause refl, (text, saved, does))
saved_so client before after text (Err puts.OutOfMemory) saved does counts = does
