use Rattle.std.proofs.Common.{◌≡◌, is_some, ap, subst, ◌∙◌}
use Rattle.std.specs.List.Sorted.{IsPermutation}
use Rattle.std.specs.Map.{lookup, remove_entry}
use Rattle.bank_model.specs.Once.{reply_kept, released}
use Rattle.once_records.specs.declared.name.Name.{Name}
use Rattle.once_records.specs.Names.{RepliesView, name_of, same_name}
use Rattle.once_records.proofs.NameLemmas.{numbered_less, kept_less, there_under}
use Rattle.once_records.proofs.replies.Replies.release.Goals as goal

pub invariant_of-self : goal.invariant_of-self
invariant_of-self c =
    let held = c.self.inside.held.entries in
    let named : c.new-name.result ≡ name_of c.args.user c.args.file.now = c.new-name.ensures ∙ ap (name_of c.args.user) c.as_bytes.ensures.bytes in
    numbered_less c.args.user c.args.file.now c.self.inside.next held c.self.invariant c.remove.new.self.entries
    (subst (λ (name : Name). IsPermutation (remove_entry (same_name name) held) c.remove.new.self.entries) named c.remove.ensures.entries)

pub returns-clause-kept : goal.returns-clause-kept
returns-clause-kept c =
    let held = c.self.inside.held.entries in
    let named : c.new-name.result ≡ name_of c.args.user c.args.file.now = c.new-name.ensures ∙ ap (name_of c.args.user) c.as_bytes.ensures.bytes in
    kept_less c.args.user c.args.file.now c.self.inside.next held c.self.invariant c.remove.new.self.entries
    (subst (λ (name : Name). IsPermutation (remove_entry (same_name name) held) c.remove.new.self.entries) named c.remove.ensures.entries)
    ∙ ap (λ (v : RepliesView). released c.args.user c.args.file.now v.kept) c.self.view_is

pub returns-clause-there : goal.returns-clause-there
returns-clause-there c =
    let held = c.self.inside.held.entries in
    let named : c.new-name.result ≡ name_of c.args.user c.args.file.now = c.new-name.ensures ∙ ap (name_of c.args.user) c.as_bytes.ensures.bytes in
    c.is_some.ensures
    ∙ ap is_some (c.remove.ensures.value ∙ ap (λ (name : Name). lookup (same_name name) held) named)
    ∙ there_under c.args.user c.args.file.now c.self.inside.next held c.self.invariant
    ∙ ap (λ (v : RepliesView). is_some (reply_kept c.args.user c.args.file.now v.kept)) c.self.view_is
