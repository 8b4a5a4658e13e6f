use Rattle.std.proofs.Common.{rules, ◌≡◌, [], ◌∷◌, ◌++◌, ◌<◌, length, slice_get, List, Some, refl, subst}
use Rattle.std.proofs.lemmas.Option.{slice_get_read}
use Rattle.ofx_world.specs.Customer.{CustomerView, MakesFile, MakesNone}
use Rattle.ofx_world.proofs.PartCalls.{file_is_made, no_file_is_made}
use Rattle.ofx_world.proofs.parts.Parts.make.Goals as goal

pub returns-in-Some-2-clause-step : goal.returns-in-Some-2-clause-step
returns-in-Some-2-clause-step c =
    let below : c.args.number < length c.deref.result.now = search rules in
    let there : slice_get c.self.inside.customers.items c.args.number ≡ Some c.in-Some.customer.now =
    subst (λ (customers : List CustomerView). slice_get customers c.args.number ≡ Some c.in-Some.customer.now) c.deref.ensures.value
    (slice_get_read c.deref.result.now _ c.args.number c.in-Some.customer.now refl below c.in-Some.ensures.lookup.1) in
    let are : c.put.new.self.files ≡ c.self.inside.requests.files ++ c.in-Some-2.file.items ∷ [] = search rules in
    let makes : MakesFile c.self.inside.server.setup c.in-Some.customer.now c.args.wish.now c.self.inside.clock c.in-Some-2.customer c.in-Some-2.file.items = search rules in
    file_is_made _ c.args.self.now c.self.view_is c.args.number c.in-Some.customer.now there c.args.wish.now c.in-Some-2.customer c.in-Some-2.file.items
    c.put.new.self.files are makes

pub returns-in-None-clause-step : goal.returns-in-None-clause-step
returns-in-None-clause-step c =
    let below : c.args.number < length c.deref.result.now = search rules in
    let there : slice_get c.self.inside.customers.items c.args.number ≡ Some c.in-Some.customer.now =
    subst (λ (customers : List CustomerView). slice_get customers c.args.number ≡ Some c.in-Some.customer.now) c.deref.ensures.value
    (slice_get_read c.deref.result.now _ c.args.number c.in-Some.customer.now refl below c.in-Some.ensures.lookup.1) in
    let none : MakesNone c.in-Some.customer.now c.args.wish.now c.self.inside.clock = search rules in
    no_file_is_made _ c.args.self.now c.self.view_is c.args.number c.in-Some.customer.now there c.args.wish.now c.reserve.new.self.files c.in_ok-reserve.ensures.files none
