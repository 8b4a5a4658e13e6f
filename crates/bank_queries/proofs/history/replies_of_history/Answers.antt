use Rattle.std.proofs.Common.{ℕ, ◌≤◌, ◌≡◌, false, Option, sym, ap, ◌∙◌, subst}
use Rattle.std.specs.Option.{IfSome}
use Rattle.ofx_types.specs.declared.sync.SyncKind.{SyncKind}
use Rattle.bank_model.specs.Objects.{floor}
use Rattle.bank_model.specs.Sync.{is_lost}
use Rattle.bank_ledger.specs.DraftView.{drafted}
use Rattle.bank_queries.proofs.HistoryLemmas.{not_lost}
use Rattle.bank_queries.proofs.history.replies_of_history.Goals as goal

pub above-requires : goal.above-requires
above-requires c =
    let entries = (drafted c.args.draft.now).entries in
    let window = c.args.draft.now.setup.window in
    let stays = ap (is_lost window c.args.object entries) (sym c.in-After.is) ∙ sym c.is_lost.ensures ∙ c.if-is_lost.false in
    record { floor = subst (λ (t : Option ℕ). IfSome t (λ (token : ℕ). floor window c.args.object entries ≤ token)) (sym c.token_of.ensures) (not_lost window c.args.object entries c.in-After.text stays) }
