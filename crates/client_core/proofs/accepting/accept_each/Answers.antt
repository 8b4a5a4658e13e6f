use Rattle.std.proofs.Common.{◌<◌, length, sym, ap, ◌∙◌, arith}
use Rattle.std.proofs.Math.ListN.{set}
use Rattle.std.proofs.lemmas.List.Edits.{map_over_more}
use Rattle.client_core.specs.Accepting.{taken_by}
use Rattle.client_core.proofs.accepting.accept_each.Goals as goal

pub loop-store-preserved : goal.loop-store-preserved
loop-store-preserved c =
    let below : c.loop-store.store-index < length c.args.stores.now = omega arith in
    ap (set c.loop-store.stores c.loop-store.store-index)
    (c.in_ok-accept_if_asked.ensures ∙ ap (taken_by c.args.ask.now c.args.reply.now) (sym c.store-item.is))
    ∙ map_over_more (taken_by c.args.ask.now c.args.reply.now) c.args.stores.now c.loop-store.stores c.loop-store.store-index c.store-item.result below
    c.loop-store.invariant c.store-item.is
