-- A client that gives its outstanding file up leaves a world sound.
use Rattle.std.proofs.Common.{◌≡◌, ℕ, ◌≤◌, slice_get, Option, None, Some, refl, sym, ap, subst, arith}
use Rattle.client_core.specs.ClientForm.{discarded}
use Rattle.client_saved.specs.declared.state.ClientState.{ClientState}
use Rattle.ofx_world.specs.Customer.{CustomerView, IsSavedAs}
use Rattle.ofx_world.specs.Sound.{IsSoundCustomer, IsSoundWorld}
use Rattle.ofx_world.specs.Truths.{HasRightStores}
use Rattle.ofx_world.specs.World.{WorldView, with_customer}
use Rattle.ofx_world.proofs.Changed.{seen, Becomes, changed_keeps}
use Rattle.ofx_world.proofs.Lists.{none_some, at_all}

module _ (world : WorldView) (sound : IsSoundWorld world) (index : ℕ) (old new : CustomerView) (was : slice_get world.customers index ≡ Some old) (saves : IsSavedAs (discarded old.client) new) where
  customer : IsSoundCustomer world.server.setup old
  customer = at_all (IsSoundCustomer world.server.setup) world.customers index old sound.customers was

  -- The stores are those that it had, and no file is outstanding.
  discarded_becomes : Becomes world old (seen (discarded old.client) new.saved)
  discarded_becomes = record {
    name = refl;
    user = refl;
    next = omega arith;
    is_sound = record { saved = saves.1; user = customer.user; done = customer.done; outstanding = tt };
    files = λ file is. record {
      number = is.number;
      name = is.name;
      newer = is.newer;
      numbered = is.numbered;
      older = is.older;
      user = is.user;
      same = λ other none named. absurd (none_some other none);
    };
    kept = λ other name owner none. absurd (none_some other none);
    answered = λ other name owner none. absurd (none_some other none);
    stores = at_all (HasRightStores world.server.setup world.server.state.entries) world.customers index old sound.stores was;
  }

  pub discarded_keeps : IsSoundWorld (with_customer world index new)
  discarded_keeps =
      subst (λ (c : CustomerView). IsSoundWorld (with_customer world index c)) (ap (λ (c : ClientState). seen c new.saved) (sym saves.0))
      (changed_keeps world index old (seen (discarded old.client) new.saved) was discarded_becomes sound)
