use Rattle.std.proofs.Common.{◌∙◌, sym, refl}
use Rattle.bank_model.proofs.SetupSignon.{nobody_signs, one_signs, none_signs}
use Rattle.bank_model.proofs.setup.Setup.signon.Goals as goal

pub returns-in_err-index : goal.returns-in_err-index
returns-in_err-index c =
    rw (c.from_residual.ensures, nobody_signs c.args.name.now c.args.pass.now c.args.self.now.users (sym c.find.ensures ∙ c.in_err-index.was)) refl

pub returns-then-eq : goal.returns-then-eq
returns-then-eq c =
    rw (one_signs c.args.name.now c.args.pass.now c.args.self.now.users c.requires.within.lines.names c.in_ok-index.index (sym c.find.ensures ∙ c.in_ok-index.was)
    c.index-items-index.result (rw (← c.items.ensures) (sym c.if-eq.ensures))) refl

pub returns-else-eq : goal.returns-else-eq
returns-else-eq c =
    rw (none_signs c.args.name.now c.args.pass.now c.args.self.now.users c.requires.within.lines.names c.in_ok-index.index (sym c.find.ensures ∙ c.in_ok-index.was)
    c.index-items-index.result (rw (← c.items.ensures) (sym c.if-eq.ensures))) refl
