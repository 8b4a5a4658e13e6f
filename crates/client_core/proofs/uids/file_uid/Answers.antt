use Rattle.std.proofs.Common.{◌≡◌, None, Some, sym, ap, ◌∙◌}
use Rattle.ofx_types.specs.TextRules.{trimmed}
use Rattle.ofx_types.specs.TextOutcome.{file_uid_fault}
use Rattle.client_core.specs.Making.{file_name}
use Rattle.client_core.proofs.Names.{file_is_uid, no_file_fault}
use Rattle.client_core.proofs.uids.file_uid.Goals as goal

pub returns : goal.returns
returns c =
    let is = file_is_uid c.args.name.now c.args.number c.requires.name c.requires.number in
    c.in-Ok.ensures.1 ∙ ap trimmed (c.deref.ensures.value ∙ c.in_ok-bytes.ensures) ∙ is.is_trimmed

pub unreachable-requires : goal.unreachable-requires
unreachable-requires c =
    let is = file_is_uid c.args.name.now c.args.number c.requires.name c.requires.number in
    let bytes = c.deref.ensures.value ∙ c.in_ok-bytes.ensures in
    let none = sym (no_file_fault (file_name c.args.name.now c.args.number) is) ∙ ap file_uid_fault (sym (ap trimmed bytes ∙ is.is_trimmed)) ∙ c.in-Err.ensures in
    absurd cc
