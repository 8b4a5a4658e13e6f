use Rattle.std.proofs.Common.{sym, ◌∙◌, arith}
use Rattle.ofx_tape.proofs.ReaderLaws.{start_after_ofx, start_first}
use Rattle.ofx_tape.proofs.reader.Reader.start.Goals as goal

pub returns-then-self : goal.returns-then-self
returns-then-self c =
    start_after_ofx c.args.self.now c.args.rest.now c.args.name.now c.args.suffix.now c.offset.result c.requires c.if-self.true c.offset.ensures

pub returns-then-is_wrong_first : goal.returns-then-is_wrong_first
returns-then-is_wrong_first c =
    start_first c.args.self.now c.args.rest.now c.args.name.now c.args.suffix.now c.offset-then-is_wrong_first.result c.requires (omega arith) c.if-self.false
    (sym c.is_wrong_first.ensures ∙ c.if-is_wrong_first.true) c.offset-then-is_wrong_first.ensures
