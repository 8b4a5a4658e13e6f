-- Each of the three writes comes after the gate, and together they lay the body.
use Rattle.std.proofs.Common.{◌+◌, [], ◌∷◌, length, ◌∙◌, arith}
use Rattle.disk_keeper.proofs.Bodies.{after_write, after_on, body_written}
use Rattle.disk_keeper.proofs.FileLemmas.{size_bytes_are}
use Rattle.disk_keeper.proofs.appending.write_body.Goals as goal

pub returns-in_err-write_some-2-clause-suffix : goal.returns-in_err-write_some-2-clause-suffix
returns-in_err-write_some-2-clause-suffix g c h is =
    after_on (c.args.gate + 1) (c.args.gate + 9) h _ _ (omega arith) (c.write_some.ensures.suffix h is) c.write_some-2.ensures.suffix

pub returns-in_err-write_at-clause-suffix : goal.returns-in_err-write_at-clause-suffix
returns-in_err-write_at-clause-suffix g c h is =
    let two = after_on (c.args.gate + 1) (c.args.gate + 9) h _ _ (omega arith) (c.write_some.ensures.suffix h is) c.write_some-2.ensures.suffix in
    after_on (c.args.gate + 1) (c.args.gate + 9 + length c.args.bytes.now) h _ _ (omega arith) two (λ f known. after_write c.write_at.result _ _ f _ (0 ∷ []) c.write_at.ensures.written c.write_at.ensures.broken known)

pub returns-clause-suffix : goal.returns-clause-suffix
returns-clause-suffix g c h is =
    let two = after_on (c.args.gate + 1) (c.args.gate + 9) h _ _ (omega arith) (c.write_some.ensures.suffix h is) c.write_some-2.ensures.suffix in
    after_on (c.args.gate + 1) (c.args.gate + 9 + length c.args.bytes.now) h _ _ (omega arith) two (λ f known. after_write c.write_at.result _ _ f _ (0 ∷ []) c.write_at.ensures.written c.write_at.ensures.broken known)

pub returns-clause-written : goal.returns-clause-written
returns-clause-written g c h is within =
    body_written h c.args.gate c.args.bytes.now c.to_be_bytes-size.result _ _ _ within (c.to_be_bytes-size.ensures ∙ size_bytes_are (length c.args.bytes.now))
    (c.in_ok-write_some.ensures.written h is (omega (arith, within))) (λ f known long. c.in_ok-write_some-2.ensures.written f known long) c.in_ok-write_at.ensures.written
