use Rattle.std.proofs.Common.{List, ℕ, Err, sym, ap, subst, ◌∙◌}
use Rattle.client_saved.specs.SavedText.{IsSavedText}
use Rattle.ofx_world.proofs.SavedTexts.{never_bad}
use Rattle.ofx_world.proofs.customer.Customer.loaded.Goals as goal

pub unreachable-requires : goal.unreachable-requires
unreachable-requires c =
    never_bad c.self.inside.client c.load_text.result c.in-Err-Bad.field-0-0
    (c.load_text.ensures.only c.self.inside.client (subst (λ (text : List ℕ). IsSavedText text c.self.inside.client) (sym c.items.ensures) c.self.invariant))
    (c.in-Err-Bad.is ∙ ap Err c.in-Err-Bad.field-0-is)
