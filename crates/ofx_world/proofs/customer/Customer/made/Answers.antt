use Rattle.std.proofs.Common.{rules, ◌≡◌, ℕ, Option, Vec, Global, sym, subst}
use Rattle.std.specs.Option.{option_map}
use Rattle.client_saved.specs.declared.state.ClientState.{ClientState}
use Rattle.ofx_world.specs.Customer.{MayMake, sent}
use Rattle.ofx_world.specs.Kept.{IsUser}
use Rattle.ofx_world.proofs.Filed.{makes_it, never_unsent, same_user}
use Rattle.ofx_world.proofs.customer.Customer.made.Goals as goal

pub sent-requires-clause-user : goal.sent-requires-clause-user
sent-requires-clause-user c =
    same_user c.args.setup.now c.in_ok-client.client c.args.wish.now c.args.at c.make_file.new.self c.in-Ok.ensures.made c.in_ok-customer-in-Ok.customer
    c.in_ok-customer-in-Ok.ensures (subst (λ (client : ClientState). IsUser c.args.setup.now client.user) (sym c.in_ok-client.ensures) c.requires.user)

pub returns-in-Some : goal.returns-in-Some
returns-in-Some c =
    let may : MayMake c.args.self.now.client c.args.wish.now = search rules in
    makes_it c.args.setup.now c.in_ok-client.client c.args.wish.now c.args.at c.make_file.new.self c.in-Ok.ensures.made c.in_ok-customer-in-Ok.customer
    c.in_ok-customer-in-Ok.ensures c.args.self.now c.in-Some.file.items c.in_ok-client.ensures may
    (subst (λ (file : Option (Vec ℕ Global)). option_map (λ (bytes : Vec ℕ Global). bytes.items) file
    ≡ option_map (sent c.args.setup.now) c.in_ok-customer-in-Ok.customer.client.outstanding) c.in-Some.is c.in_ok-file-in-Ok.ensures)

pub unreachable-requires : goal.unreachable-requires
unreachable-requires c =
    never_unsent c.args.setup.now c.in_ok-client.client c.args.wish.now c.args.at c.make_file.new.self c.in-Ok.ensures.made c.in_ok-customer-in-Ok.customer
    c.in_ok-customer-in-Ok.ensures
    (subst (λ (file : Option (Vec ℕ Global)). option_map (λ (bytes : Vec ℕ Global). bytes.items) file
    ≡ option_map (sent c.args.setup.now) c.in_ok-customer-in-Ok.customer.client.outstanding) c.in-None.is c.in_ok-file-in-Ok.ensures)
