use Rattle.std.proofs.Common.{◌≡◌, None, Some, sym, ap, ◌∙◌}
use Rattle.ofx_types.specs.TextRules.{trimmed}
use Rattle.ofx_types.specs.TextOutcome.{trnuid_fault}
use Rattle.client_core.specs.Making.{deed_name}
use Rattle.client_core.proofs.Names.{deed_is_uid, no_trnuid_fault}
use Rattle.client_core.proofs.uids.deed_uid.Goals as goal

pub returns : goal.returns
returns c =
    let is = deed_is_uid c.args.name.now c.args.number c.args.index c.requires.name c.requires.number c.requires.index in
    c.in-Ok.ensures.1 ∙ ap trimmed (c.deref.ensures.value ∙ c.in_ok-bytes.ensures) ∙ is.1.is_text.is_trimmed

pub unreachable-requires : goal.unreachable-requires
unreachable-requires c =
    let is = deed_is_uid c.args.name.now c.args.number c.args.index c.requires.name c.requires.number c.requires.index in
    let bytes = c.deref.ensures.value ∙ c.in_ok-bytes.ensures in
    let none = sym (no_trnuid_fault (deed_name c.args.name.now c.args.number c.args.index) is.1) ∙ ap trnuid_fault (sym (ap trimmed bytes ∙ is.1.is_text.is_trimmed)) ∙ c.in-Err.ensures in
    absurd cc
