use Rattle.std.proofs.Common.{sym, ◌∙◌}
use Rattle.ofx_types.specs.TagNames.{is_name_byte}
use Rattle.ofx_tape.proofs.Splitting.{prefix_passes, no_name_other, no_name_short, name_at_is, first_is}
use Rattle.ofx_tape.proofs.scan.name_at.Goals as goal

pub unended-requires : goal.unended-requires
unended-requires c = prefix_passes is_name_byte c.args.bytes.now c.split_name.result.0.now c.split_name.ensures.name

pub returns-then-first-ne62 : goal.returns-then-first-ne62
returns-then-first-ne62 c =
    no_name_other c.args.bytes.now c.split_name.result.0.now c.split_name.result.1.now c.split_name.ensures.name c.split_name.ensures.rest
    c.in-len1-up.len_at_least c.if-first-ne62.true

pub returns-then-not-is_of_name_length : goal.returns-then-not-is_of_name_length
returns-then-not-is_of_name_length c =
    no_name_short c.args.bytes.now c.split_name.result.0.now c.split_name.result.1.now c.split_name.ensures.name c.split_name.ensures.rest
    c.in-len1-up.len_at_least c.if-first-ne62.false (sym c.is_of_name_length.ensures ∙ c.if-not-is_of_name_length.true)

pub returns : goal.returns
returns c =
    name_at_is c.args.bytes.now c.split_name.result.0.now c.split_name.result.1.now _ c.split_name.ensures.name c.split_name.ensures.rest
    (first_is c.split_name.result.1.now 62 c.in-len1-up.len_at_least c.if-first-ne62.false)
    (sym c.is_of_name_length.ensures ∙ c.if-not-is_of_name_length.false)
