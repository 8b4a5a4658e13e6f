use Rattle.std.proofs.Common.{◌≤◌, ◌-◌, arith, length, drop, ap, ◌∙◌}
use Rattle.std.proofs.lemmas.List.{length-take}
use Rattle.bank_frames.proofs.Windows.{used_up}
use Rattle.bank_frames.proofs.ahead.Ahead.consume.Goals as goal

pub returns : goal.returns
returns c =
    let w = c.self.inside.window in
    let within : c.args.count ≤ w.end - w.start = omega (arith, c.requires, ap length c.self.view_is, length-take (w.end - w.start) (drop w.start c.self.inside.buffer.items)) in
    used_up w.start w.end c.args.count c.self.inside.buffer.items within ∙ ap (drop c.args.count) c.self.view_is
