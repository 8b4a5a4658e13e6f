use Rattle.std.proofs.Common.{rules, ◌≡◌, slice_get, Some}
use Rattle.ofx_world.proofs.PartCalls.{request_is}
use Rattle.ofx_world.proofs.parts.Parts.deliver.Goals as goal

pub deliver-requires-clause-request : goal.deliver-requires-clause-request
deliver-requires-clause-request c =
    let there : slice_get c.self.inside.requests.files c.args.number ≡ Some c.in-Some.file.now = search rules in
    request_is _ c.args.self.now c.self.view_is c.requires c.args.number c.in-Some.file.now there
