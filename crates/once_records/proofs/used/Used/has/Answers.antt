use Rattle.std.proofs.Common.{◌≡◌, is_some, ap, ◌∙◌}
use Rattle.std.specs.Map.{lookup}
use Rattle.bank_model.specs.Once.{is_used}
use Rattle.once_records.specs.declared.name.Name.{Name}
use Rattle.once_records.specs.Names.{UsedView, name_of, same_name}
use Rattle.once_records.proofs.UsedLemmas.{used_under}
use Rattle.once_records.proofs.used.Used.has.Goals as goal

pub returns : goal.returns
returns c =
    let held = c.self.inside.held.entries in
    let named : c.new-name.result ≡ name_of c.args.user c.args.trnuid.now = c.new-name.ensures ∙ ap (name_of c.args.user) c.as_bytes.ensures.bytes in
    c.contains_key.ensures
    ∙ ap (λ (name : Name). is_some (lookup (same_name name) held)) named
    ∙ used_under c.args.user c.args.trnuid.now held
    ∙ ap (λ (v : UsedView). is_used c.args.user c.args.trnuid.now v.used) c.self.view_is
