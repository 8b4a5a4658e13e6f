use Rattle.std.proofs.Common.{length, sym, ap, ◌∙◌, arith}
use Rattle.ofx_tape.proofs.Trimming.{value_of-plain}
use Rattle.ofx_tape.proofs.value.short_value.Goals as goal

pub returns-then-trimmed-gt-SHORT_VALUE-clause-long : goal.returns-then-trimmed-gt-SHORT_VALUE-clause-long
returns-then-trimmed-gt-SHORT_VALUE-clause-long c =
    let plain = value_of-plain c.args.raw.now c.trim-trimmed.result.now c.trim-trimmed.ensures (sym c.has_ampersand.ensures ∙ c.if-has_ampersand.false) in
    omega (arith, ap length plain)

pub returns-clause-value : goal.returns-clause-value
returns-clause-value c =
    sym (value_of-plain c.args.raw.now c.trim-trimmed.result.now c.trim-trimmed.ensures (sym c.has_ampersand.ensures ∙ c.if-has_ampersand.false))
