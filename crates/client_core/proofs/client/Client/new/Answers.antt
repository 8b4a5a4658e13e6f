use Rattle.std.proofs.Common.{List, None, sym, subst}
use Rattle.bank_model.specs.Stores.{Store}
use Rattle.client_saved.specs.Bounds.{IsSoundState}
use Rattle.client_core.proofs.Keeping.{new_sound}
use Rattle.client_core.proofs.client.Client.new.Goals as goal

pub invariant_of-result : goal.invariant_of-result
invariant_of-result c =
    subst (λ (stores : List Store). IsSoundState (record { name = c.args.name; user = c.args.user; next = 1; done = None; outstanding = None; stores = stores }))
    (sym c.new.ensures) (new_sound c.args.name c.args.user c.if-not-is_name.ensures c.requires)
