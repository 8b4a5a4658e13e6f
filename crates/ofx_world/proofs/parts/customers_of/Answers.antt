use Rattle.std.proofs.Common.{◌≡◌, List, [], ◌∷◌, ◌++◌, sym, ap, ◌∙◌}
use Rattle.std.proofs.lemmas.List.{append_assoc}
use Rattle.client_saved.specs.declared.state.ClientState.{ClientState}
use Rattle.ofx_world.proofs.Turns.{have_saved_then}
use Rattle.ofx_world.proofs.parts.customers_of.Goals as goal

pub loop-client-preserved : goal.loop-client-preserved
loop-client-preserved c = record {
  items = append_assoc c.loop-client.yielded (c.in-Some.client ∷ []) _ ∙ ap (λ (l : List ClientState). c.loop-client.yielded ++ l) (sym c.in-Some.ensures.steps.0) ∙ c.loop-client.invariant.items;
  saved = rw c.in_ok-push.ensures.items (have_saved_then c.loop-client.yielded c.loop-client.customers.items c.in-Some.client c.in_ok-new.field-0 c.loop-client.invariant.saved c.in_ok-new.ensures);
}
