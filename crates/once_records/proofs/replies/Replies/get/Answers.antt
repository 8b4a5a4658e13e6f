use Rattle.std.proofs.Common.{◌≡◌, Some, sym, ap, ◌∙◌}
use Rattle.std.specs.Map.{lookup}
use Rattle.std.specs.Option.{option_map}
use Rattle.bank_model.specs.Once.{reply_kept}
use Rattle.once_records.specs.declared.name.Name.{Name}
use Rattle.once_records.specs.declared.replies.Numbered.{Numbered}
use Rattle.once_records.specs.Names.{RepliesView, name_of, same_name}
use Rattle.once_records.proofs.NameLemmas.{kept_under}
use Rattle.once_records.proofs.replies.Replies.get.Goals as goal

pub returns-in-Some : goal.returns-in-Some
returns-in-Some c =
    let held = c.self.inside.held.entries in
    let named : c.new-name.result ≡ name_of c.args.user c.args.file.now = c.new-name.ensures ∙ ap (name_of c.args.user) c.as_bytes.ensures.bytes in
    ap Some c.items.ensures
    ∙ ap (option_map (λ (one : Numbered). one.reply)) (c.in-Some.ensures.value ∙ ap (λ (name : Name). lookup (same_name name) held) named)
    ∙ sym (kept_under c.args.user c.args.file.now c.self.inside.next held c.self.invariant)
    ∙ ap (λ (v : RepliesView). reply_kept c.args.user c.args.file.now v.kept) c.self.view_is

pub returns-in-None : goal.returns-in-None
returns-in-None c =
    let held = c.self.inside.held.entries in
    let named : c.new-name.result ≡ name_of c.args.user c.args.file.now = c.new-name.ensures ∙ ap (name_of c.args.user) c.as_bytes.ensures.bytes in
    ap (option_map (λ (one : Numbered). one.reply)) (c.in-None.ensures.value ∙ ap (λ (name : Name). lookup (same_name name) held) named)
    ∙ sym (kept_under c.args.user c.args.file.now c.self.inside.next held c.self.invariant)
    ∙ ap (λ (v : RepliesView). reply_kept c.args.user c.args.file.now v.kept) c.self.view_is
