use Rattle.std.proofs.Common.{sym, subst, ◌++◌}
use Rattle.sha2.specs.Hashers.{Holds256}
use Rattle.scram_sha256.specs.Hmac.{inner_block, outer_block, hmac}
use Rattle.scram_sha256.proofs.hmac.Keyed.of.Goals as goal

pub returns : goal.returns
unfolding hmac
returns c = λ key keyed. c.ended.ensures (outer_block key) (inner_block key ++ c.args.text.now)
    (subst (λ h. Holds256 h (outer_block key)) (sym c.copy.ensures) keyed.outer)
    (c.update.ensures (inner_block key) (subst (λ h. Holds256 h (inner_block key)) (sym c.copy-inner.ensures) keyed.inner))
