use Rattle.std.proofs.Common.{rules, ◌≡◌, ◌<◌, length, slice_get, List, Some, refl, subst}
use Rattle.std.proofs.lemmas.Option.{slice_get_read}
use Rattle.ofx_world.specs.Customer.{CustomerView, TakesIn}
use Rattle.ofx_world.proofs.PartCalls.{reply_is, reply_is_refused, reply_is_taken}
use Rattle.ofx_world.proofs.parts.Parts.deliver_reply.Goals as goal

pub accepted-requires : goal.accepted-requires
accepted-requires c =
    let here : slice_get c.self.inside.replies.files c.args.reply ≡ Some c.in-Some-file.file.now = search rules in
    reply_is _ c.args.self.now c.self.view_is c.requires c.args.reply c.in-Some-file.file.now here

pub returns-in-Some-2-clause-step : goal.returns-in-Some-2-clause-step
returns-in-Some-2-clause-step c =
    let below : c.args.number < length c.deref.result.now = search rules in
    let there : slice_get c.self.inside.customers.items c.args.number ≡ Some c.in-Some.customer.now =
    subst (λ (customers : List CustomerView). slice_get customers c.args.number ≡ Some c.in-Some.customer.now) c.deref.ensures.value
    (slice_get_read c.deref.result.now _ c.args.number c.in-Some.customer.now refl below c.in-Some.ensures.lookup.1) in
    let here : slice_get c.self.inside.replies.files c.args.reply ≡ Some c.in-Some-file.file.now = search rules in
    let takes : TakesIn c.in-Some.customer.now c.in-Some-file.file.now c.in-Some-2.customer = search rules in
    reply_is_taken _ c.args.self.now c.self.view_is c.args.number c.in-Some.customer.now there c.args.reply c.in-Some-file.file.now here c.in-Some-2.customer takes

pub returns-in-None-clause-step : goal.returns-in-None-clause-step
returns-in-None-clause-step c =
    let below : c.args.number < length c.deref.result.now = search rules in
    let there : slice_get c.self.inside.customers.items c.args.number ≡ Some c.in-Some.customer.now =
    subst (λ (customers : List CustomerView). slice_get customers c.args.number ≡ Some c.in-Some.customer.now) c.deref.ensures.value
    (slice_get_read c.deref.result.now _ c.args.number c.in-Some.customer.now refl below c.in-Some.ensures.lookup.1) in
    let here : slice_get c.self.inside.replies.files c.args.reply ≡ Some c.in-Some-file.file.now = search rules in
    let takes : TakesIn c.in-Some.customer.now c.in-Some-file.file.now c.in-Some.customer.now = rw c.in-None.is at c.in_ok-customer.ensures in
    reply_is_refused _ c.args.self.now c.self.view_is c.args.number c.in-Some.customer.now there c.args.reply c.in-Some-file.file.now here takes
