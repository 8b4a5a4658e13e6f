use Rattle.std.proofs.Common.{◌≡◌, ℕ, ◌<◌, ◌≤◌, ◌∷◌, ◌++◌, [], List, length, get_or, map, None, refl, ap, ◌∙◌, subst}
use Rattle.std.proofs.lemmas.List.{map-append}
use Rattle.ofx_types.specs.SyncForm.{object_family}
use Rattle.ofx_types.specs.declared.transfer.Deed.{Deed}
use Rattle.ofx_types.specs.declared.transfer.DeedReply.{DeedReply}
use Rattle.ofx_types.specs.declared.transfer.Family.{Family}
use Rattle.bank_model.specs.Sync.{refused_with}
use Rattle.bank_queries.proofs.HistoryLemmas.{part_begun, part_more, part_ended}
use Rattle.bank_core.proofs.sync.refused_after.Goals as goal

abbrev refused_as : Family → ℕ → List ℕ → DeedReply
refused_as family code trnuid = record { trnuid = trnuid; family = family; code = code; change = None }

refused_more : (reported : List DeedReply) (deed : List ℕ × Deed) (trnuid : List ℕ) (family wanted : Family) (code : ℕ) (next : List DeedReply) → trnuid ≡ deed.0 → family ≡ wanted → next ≡ reported ++ refused_as family code trnuid ∷ [] → next ≡ reported ++ map (refused_with wanted code) (deed ∷ [])
refused_more reported deed trnuid family wanted code next is_uid is_family is =
    is
    ∙ ap (λ (f : Family). reported ++ refused_as f code trnuid ∷ []) is_family
    ∙ ap (λ (u : List ℕ). reported ++ refused_as wanted code u ∷ []) is_uid

pub loop-deed-init : goal.loop-deed-init
loop-deed-init c = part_begun (map (refused_with (object_family c.args.ask.now.object) c.args.code)) c.args.ask.now.deeds c.args.reported.items refl

pub loop-deed-preserved : goal.loop-deed-preserved
loop-deed-preserved c =
    part_more (map (refused_with (object_family c.args.ask.now.object) c.args.code)) c.args.ask.now.deeds c.loop-deed.deed-index c.deed-item.result c.args.reported.items c.loop-deed.replies.items c.push.new.self.items (map-append (refused_with (object_family c.args.ask.now.object) c.args.code))
    (subst (λ (l : List (List ℕ × Deed)). c.loop-deed.deed-index < length l) c.items-deed-items.ensures c.loop-deed-test.true)
    (subst (λ (l : List (List ℕ × Deed)). c.deed-item.result ≡ get_or l c.loop-deed.deed-index c.deed-item.result) c.items-deed-items.ensures c.deed-item.is)
    c.loop-deed.invariant
    (refused_more c.loop-deed.replies.items c.deed-item.result c.in_ok-trnuid.trnuid c.family-family.result (object_family c.args.ask.now.object) c.args.code c.push.new.self.items c.in_ok-trnuid.ensures c.family-family.ensures c.in_ok-push.ensures.items)

pub returns : goal.returns
returns c =
    part_ended (map (refused_with (object_family c.args.ask.now.object) c.args.code)) c.args.ask.now.deeds c.loop-deed.deed-index c.args.reported.items c.loop-deed.replies.items
    (subst (λ (l : List (List ℕ × Deed)). length l ≤ c.loop-deed.deed-index) c.items-deed-items.ensures c.loop-deed-test.false)
    c.loop-deed.invariant
