use Rattle.std.proofs.Common.{sym, ap, ◌∙◌}
use Rattle.msg_parts.proofs.Uids.{gives_same, value_of-plain}
use Rattle.msg_parts.specs.PartSteps as steps
use Rattle.msg_parts.proofs.trnuid.trnuid_at.Goals as goal

pub returns-then-not-contains : goal.returns-then-not-contains
returns-then-not-contains c =
    let plain = value_of-plain c.args.value.now (sym c.contains.ensures.value ∙ c.if-not-contains.true) in
    gives_same c.plain_trnuid.result _ (c.plain_trnuid.ensures ∙ ap (steps.trnuid_at c.args.offset) (sym plain))
