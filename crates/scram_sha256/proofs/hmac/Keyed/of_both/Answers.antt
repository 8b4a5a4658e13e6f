use Rattle.std.proofs.Common.{sym, ap, subst, ◌∙◌, ◌++◌, append_assoc}
use Rattle.sha2.specs.Hashers.{Holds256}
use Rattle.sha2.specs.Sha256.{sha256}
use Rattle.scram_sha256.specs.Hmac.{inner_block, outer_block, hmac}
use Rattle.scram_sha256.proofs.hmac.Keyed.of_both.Goals as goal

pub returns : goal.returns
unfolding hmac
returns c = λ key keyed. c.ended.ensures (outer_block key) ((inner_block key ++ c.args.text.now) ++ c.args.more.now)
    (subst (λ h. Holds256 h (outer_block key)) (sym c.copy.ensures) keyed.outer)
    (c.update-2.ensures (inner_block key ++ c.args.text.now) (c.update.ensures (inner_block key) (subst (λ h. Holds256 h (inner_block key)) (sym c.copy-inner.ensures) keyed.inner)))
    ∙ ap (λ text. sha256 (outer_block key ++ sha256 text)) (append_assoc (inner_block key) c.args.text.now c.args.more.now)
